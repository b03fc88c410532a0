-- That an index holds the commits of two logs.
use Rattle.std.specs.Prelude.{◌≡◌, ℕ, ◌+◌, List, [], ◌∷◌, if◌then◌else◌, length, take, drop, All, Contains}
use Rattle.engine_spec.specs.declared.commits.Commit.{Commit}
use Rattle.engine_spec.specs.TwoLogs.{TwoLogs, AreLogs, frames_of, other_log}
use Rattle.engine_spec.specs.Written.{numbers_from}
use Rattle.wal_index.specs.Index.{Indexed, IndexedLog, log_in}

-- how many frames there are up to the last one of each commit, where so many come before
abbrev pub ends_of : ℕ → List Commit → List ℕ
ends_of before [] = []
ends_of before (commit ∷ commits) = (before + length commit.wrote) ∷ ends_of (before + length commit.wrote) commits

-- the numbers of the commits that changed page 1 from byte 100 on, where so many come before
abbrev pub tails_of : ℕ → List Commit → List ℕ
tails_of before [] = []
tails_of before (commit ∷ commits) = if commit.tail then (before + 1) ∷ tails_of (before + 1) commits else tails_of (before + 1) commits

-- The index of a log holds these commits, before the first of which there are so many. Each wrote page 1, as every commit does.
pub record HoldsCommits (log : IndexedLog) (before : ℕ) (commits : List Commit) : Type 0 where
  pub pages : log.pages ≡ frames_of commits
  pub numbers : log.numbers ≡ numbers_from (before + 1) (length commits)
  pub ends : log.ends ≡ ends_of 0 commits
  pub tails : log.tails ≡ tails_of before commits
  pub first_pages : All (λ commit. Contains commit.wrote 1) commits

-- The index holds the commits that the two logs hold, which stand for the history.
pub record IsIndexOf (index : Indexed) (logs : TwoLogs) (history : List Commit) : Type 0 where
  pub are : AreLogs logs history
  pub current : HoldsCommits (log_in index logs.current) logs.since (drop logs.since history)
  pub other : HoldsCommits (log_in index (other_log logs)) logs.other_since (drop logs.other_since (take logs.since history))
