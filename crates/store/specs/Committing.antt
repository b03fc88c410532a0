-- What writing a commit does to a store.
use Rattle.std.specs.Prelude.{◌≡◌, ℕ, List, map}
use Rattle.std.specs.List.{concat}
use Rattle.engine_spec.specs.declared.commits.Commit.{Commit}
use Rattle.engine_spec.specs.declared.commits.PageImage.{PageImage}
use Rattle.engine_spec.specs.TwoLogs.{TwoLogs}
use Rattle.wal_index.specs.Index.{Indexed}
use Rattle.wal_rules.specs.Indexing.{IsIndexOf}
use Rattle.store_spec.specs.Store.{KeptStop}

-- the bytes of some images, one behind the other
abbrev pub bytes_of : List PageImage → List ℕ
bytes_of images = concat (map (λ image. image.bytes) images)

-- the place that is kept of a commit of these pages
abbrev pub kept_stop : (log at size : ℕ) → List PageImage → KeptStop
kept_stop log at size images = record { log = log; at = at; images = images; size = size }

-- the index holds the commits of two logs of which this is the current one
pub record IsIndexed (index : Indexed) (current : ℕ) (history : List Commit) : Type 0 where
  pub logs : TwoLogs
  pub is : IsIndexOf index logs history
  pub same : logs.current ≡ current
