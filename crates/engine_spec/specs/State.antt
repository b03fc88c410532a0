-- What an engine tells of itself, and how others may have changed that meanwhile.
use Rattle.std.specs.Prelude.{◌≡◌, ℕ, ◌≤◌, Bool, true, List, ◌++◌, Option, Some, None, is_some}
use Rattle.disk_face.specs.declared.step.Step.{Step}
use Rattle.disk_face.specs.Steps.{History}
use Rattle.crash_spec.specs.Opening.{grown}
use Rattle.page_spec.specs.PageMap.{PageMap}
use Rattle.engine_spec.specs.declared.pins.Readers.{Readers}
use Rattle.engine_spec.specs.declared.commits.Commit.{Commit}
use Rattle.engine_spec.specs.TwoLogs.{TwoLogs}

-- Where a write or sync of a log failed: the log, the offset in it in bytes, and the map that the commit would have made, where the
-- engine tells its maps.
pub record Stop : Type 0 where
  pub log : ℕ
  pub at : ℕ
  pub map : Option PageMap

-- What an engine tells: its history, the numbers in it of its own commits, the newest map (where it tells its bytes) and that
-- map's count of pages, the place of a failed log write, the count of faults, the page size and how much of a page is usable in
-- bytes, whether a transaction may always begin, whether nobody else commits to the store, its logs (none for an engine that keeps
-- no logs), the readers of these, and the past of its disk (where it has one that tells its bytes).
pub record EngineState : Type 0 where
  pub history : List Commit
  pub own : List ℕ
  pub newest : Option PageMap
  pub size : ℕ
  pub stopped : Option Stop
  pub faults : ℕ
  pub page_size : ℕ
  pub usable : ℕ
  pub always_begins : Bool
  pub alone : Bool
  pub logs : Option TwoLogs
  pub readers : Readers
  pub disk : Option History

-- a place that is there stays
abbrev pub KeepsStop : Option Stop → Option Stop → Type 0
KeepsStop None new = Unit {0}
KeepsStop (Some stop) new = new ≡ Some stop

-- a disk has made some steps more
abbrev pub GoesOn : Option History → Option History → Type 0
GoesOn None new = new ≡ None
GoesOn (Some old) new = (more : List Step) × (new ≡ Some (grown more old))

-- Others may have committed and checkpointed meanwhile: the history grew at its end alone. Where the engine is alone, nothing
-- changed; where a transaction may always begin on it, its own calls alone change its logs and their readers.
pub record Later (old new : EngineState) : Type 0 where
  pub more : List Commit
  pub grown : new.history ≡ old.history ++ more
  pub own : new.own ≡ old.own
  pub told : is_some new.newest ≡ is_some old.newest
  pub size : old.size ≤ new.size
  pub stopped : KeepsStop old.stopped new.stopped
  pub faults : old.faults ≤ new.faults
  pub page_size : new.page_size ≡ old.page_size
  pub usable : new.usable ≡ old.usable
  pub always_begins : new.always_begins ≡ old.always_begins
  pub alone : new.alone ≡ old.alone
  pub keeps_logs : is_some new.logs ≡ is_some old.logs
  pub logs : old.always_begins ≡ true → new.logs ≡ old.logs
  pub readers : old.always_begins ≡ true → new.readers ≡ old.readers
  pub disk : GoesOn old.disk new.disk
  pub nobody : old.alone ≡ true → new ≡ old

-- at some moment of the call the event came
abbrev pub During : EngineState → (EngineState → Type 0) → Type 0
During old event = (mid : EngineState) × Later old mid × event mid
