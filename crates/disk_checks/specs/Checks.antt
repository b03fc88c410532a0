-- What a check of the files of a path comes to.
use Rattle.std.specs.Prelude.{◌≡◌, ◌⊎◌, ℕ, Bool, List, [], ◌∷◌, ◌++◌, Option, Some, IfSome, codes, decimal}
use Rattle.disk_face.specs.Stays.{OnlyNames}
use Rattle.disk_face.specs.Steps.{History, reads}
use Rattle.disk_face.specs.Told.{IsNamed}
use Rattle.disk_face.specs.declared.tells.DiskTells as disks
use Rattle.disk_face.specs.declared.sink.Sink as sinks
use Rattle.crash_spec.specs.Opening.{opening_at}
use Rattle.opening_spec.specs.Begins.{MayOpen}
use Rattle.engine_spec.specs.Leaves.{RecoversNow}
use Rattle.page_lines.specs.Logged.{DiskPast}
use Rattle.check_spec.specs.declared.fault.Count.{Count}
use Rattle.tree_check.specs.Checking.{IsCounted}
use Rattle.recover.specs.declared.setup.StoreKind.TheVariants.{Tables}
use Rattle.sound_begins.specs.Begun.{database_begun}
use Rattle.store.specs.Opening.{AreTables, IsCountOf, MaySettle, map_begun, size_opened}
use Rattle.page_runs.specs.declared.status.Status.{Status}
use Rattle.page_runs.specs.declared.status.Status.TheVariants as status
use Rattle.page_runs.specs.Outcome.{SaysLast}
use Rattle.disk_runs.specs.OnDisk.{Settles, Unnamed, Unopened}

-- the page size that a new database gets
abbrev pub page_size_checked : ℕ
page_size_checked = 4096

-- the line that tells what was counted
abbrev pub count_line : Count → List ℕ
count_line count = codes "pages " ++ decimal count.pages ++ (codes " trees " ++ decimal count.trees) ++ (codes " free " ++ decimal count.free) ++ 10 ∷ []

-- this line was written, or the sink failed at it, or there was no memory for it
abbrev pub SaysCount : {K : Type 0} → sinks.Ghosts K → Count → Status → K → K → Type 0
SaysCount sink count ended out out' = SaysLast sink (count_line count) status.Done ended out out' ⊎ ((ended ≡ status.NoMemory) × (out' ≡ out))

-- After it was opened, a crash leaves the map with which the store begins.
abbrev pub LeavesBegun : (new_size : ℕ) → Option History → Option History → Type 0
LeavesBegun new_size old new = (told : History) → old ≡ Some told → MayOpen (size_opened new_size (reads told)) told → MaySettle (reads told)
    → RecoversNow (opening_at told) (map_begun Tables new_size (reads told) ∷ []) new

-- what a disk has counted and tells
abbrev pub past_of : {D : Type 0} → disks.Ghosts D → D → DiskPast
past_of disk d = record { faults = disk.faults d; past = disk.told d }

-- The files were opened, since nothing bars them, beside a journal that answers so. What was told is what was counted in them, and what the database
-- with which the store begins has: its pages, trees and free pages.
pub record TellsCount {K : Type 0} (sink : sinks.Ghosts K) (new_size : ℕ) (hot : Option Bool) (before after : DiskPast) (ended : Status) (out out' : K) : Type 0 where
  pub count : Count
  pub opened : IfSome before.past (λ told. AreTables hot (reads told))
  pub counted : IfSome before.past (λ told. IsCountOf (reads told) count)
  pub has : IfSome before.past (λ told. IsCounted (database_begun new_size (reads told)) count)
  pub faults : after.faults ≡ before.faults
  pub moments : Settles Tables new_size before.past after.past
  pub begun : LeavesBegun new_size before.past after.past
  pub says : SaysCount sink count ended out out'

-- A check of files that are named: they weren't opened, or they were.
abbrev pub ChecksOpened : {D K : Type 0} → disks.Ghosts D → sinks.Ghosts K → (new_size : ℕ) → Status → D → K → D → K → Type 0
ChecksOpened disk sink new_size ended d out d' out' = Unopened disk sink Tables new_size ended d out d' out'
    ⊎ TellsCount sink new_size (disk.journal_answer d) (past_of disk d) (past_of disk d') ended out out'

-- The files of this path were named, and then they were checked.
pub record ChecksNamed {D K : Type 0} (disk : disks.Ghosts D) (sink : sinks.Ghosts K) (path : List ℕ) (ended : Status) (d : D) (out : K) (d' : D) (out' : K) : Type 0 where
  pub attached : D
  pub named : IsNamed (disk.named attached) path
  pub stays : OnlyNames disk d attached
  pub faults : disk.faults attached ≡ disk.faults d
  pub checks : ChecksOpened disk sink page_size_checked ended attached out d' out'

-- A check of the files of a path: they couldn't be named, or they were.
abbrev pub ChecksOnDisk : {D K : Type 0} → disks.Ghosts D → sinks.Ghosts K → (path : List ℕ) → Status → D → K → D → K → Type 0
ChecksOnDisk disk sink path ended d out d' out' = Unnamed disk sink ended d out d' out' ⊎ ChecksNamed disk sink path ended d out d' out'
