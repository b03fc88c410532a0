-- What the calls of an engine do to what it tells, and the exact cause of each answer.
use Rattle.std.specs.Prelude.{◌≡◌, ◌≢◌, ℕ, ◌+◌, ◌*◌, ◌<◌, ◌≤◌, ◌⊎◌, true, false, ◌&&◌, if◌then◌else◌, List, [], ◌∷◌, ◌++◌, length, Option, Some, None, is_some, Result, Ok, Err}
use Rattle.std.specs.Option.{option_map}
use Rattle.disk_face.specs.Faults.{Rose, one_more}
use Rattle.disk_face.specs.declared.Failed.{Failed}
use Rattle.page_spec.specs.Header.{database_limit}
use Rattle.page_spec.specs.PageMap.{PageMap}
use Rattle.crash_spec.specs.Opening.{Opening}
use Rattle.engine_spec.specs.declared.pins.Pin.{Pin}
use Rattle.engine_spec.specs.declared.pins.Readers.{Readers}
use Rattle.engine_spec.specs.declared.pins.Lock.{Lock}
use Rattle.engine_spec.specs.declared.pins.Lock.TheVariants.{Part1}
use Rattle.engine_spec.specs.declared.pins.Ckpt.{Ckpt}
use Rattle.engine_spec.specs.declared.pins.Ckpt.TheVariants.{Idle}
use Rattle.engine_spec.specs.declared.commits.Commit.{Commit}
use Rattle.engine_spec.specs.declared.commits.Receipt.{Receipt}
use Rattle.engine_spec.specs.declared.commits.Receipt.TheVariants.{At, ReadOnly}
use Rattle.engine_spec.specs.declared.commits.CommitFault.{CommitFault}
use Rattle.engine_spec.specs.declared.commits.CommitFault.TheVariants as fault
use Rattle.engine_spec.specs.declared.commits.FetchFault.{FetchFault}
use Rattle.engine_spec.specs.declared.commits.FetchFault.TheVariants as fetch_fault
use Rattle.engine_spec.specs.Change.{Change, new_pages, laid}
use Rattle.engine_spec.specs.History.{IsConflict, NoConflict}
use Rattle.engine_spec.specs.TwoLogs.{TwoLogs, frame_limit, lock_of, one_fewer, change_readers, current_frames, to_write, IsStopPlace, Steps}
use Rattle.engine_spec.specs.State.{Stop, EngineState}
use Rattle.engine_spec.specs.Leaves.{may_recover, if_told, AtEach}
use Rattle.engine_spec.specs.Written.{Submitted, commit_of, Writes}

-- the lock of a reader that comes now; an engine that keeps no logs lends the first
abbrev pub lock_now : Option TwoLogs → Lock
lock_now None = Part1
lock_now (Some logs) = lock_of logs

-- the current log's generation, none where there is no log
abbrev pub generation_now : Option TwoLogs → ℕ
generation_now None = 0
generation_now (Some logs) = logs.generation

-- how many frames the current log has
abbrev pub frames_now : Option TwoLogs → List Commit → ℕ
frames_now None history = 0
frames_now (Some logs) history = length (current_frames logs history)

-- An engine that keeps logs, and on which a transaction may always begin, counts its readers itself: the count of one lock
-- changes. Of another one they stay.
abbrev pub with_readers : (ℕ → ℕ) → Lock → EngineState → EngineState
with_readers change lock state =
    if state.always_begins && is_some state.logs then record state { readers = change_readers change state.readers lock } else state

-- BEGIN: the pin is of the newest map, under the lock that the logs name.
pub record Begins (before : EngineState) (pin : Pin) (after : EngineState) : Type 0 where
  pub n : pin.n ≡ length before.history
  pub size : pin.size ≡ before.size
  pub lock : pin.lock ≡ lock_now before.logs
  pub generation : pin.generation ≡ generation_now before.logs
  pub mark : pin.mark ≡ frames_now before.logs before.history
  pub after_is : after ≡ with_readers one_more pin.lock before

-- the end of a transaction: the pin's reader goes
abbrev pub Ends : EngineState → Pin → EngineState → Type 0
Ends before pin after = after ≡ with_readers one_fewer pin.lock before

-- the disk failed, and nothing but the count of faults changed
abbrev pub FailsAlone : EngineState → EngineState → Type 0
FailsAlone before after = Rose before.faults after.faults × (after ≡ record before { faults = after.faults })

-- A fetch changes nothing. It fails only where the disk did.
abbrev pub Fetches : EngineState → Result Unit FetchFault → EngineState → Type 0
Fetches before (Ok done) after = after ≡ before
Fetches before (Err why) after = (why ≡ fetch_fault.Disk) × FailsAlone before after

-- how many pages the map of the commit has
abbrev pub pages_after : EngineState → Change → ℕ
pages_after before change = before.size + length (new_pages change)

-- the logs to which a commit's frames go
abbrev pub logs_to_write : EngineState → Option TwoLogs
logs_to_write before = option_map (λ logs. to_write logs before.readers before.history) before.logs

-- how many frames the log of the commit could come to have
abbrev pub frames_after : EngineState → Change → ℕ
frames_after before change = frames_now (logs_to_write before) before.history + length change.changed + length change.fresh
    + length change.freed + 2

-- the database and the log stay within their limits
pub record Fits (before : EngineState) (change : Change) : Type 0 where
  pub pages : pages_after before change * before.page_size ≤ database_limit
  pub frames : frames_after before change ≤ frame_limit

-- one of the two limits is passed
abbrev pub IsOver : EngineState → Change → Type 0
IsOver before change = (database_limit < pages_after before change * before.page_size) ⊎ (frame_limit < frames_after before change)

-- nothing bars the commit: the transaction wrote, no log write failed before, no page that it read was written since, and it fits
pub record IsClear (before : EngineState) (asked : Submitted) : Type 0 where
  pub wrote : asked.wrote ≡ true
  pub running : before.stopped ≡ None
  pub free : NoConflict asked.change.mode asked.reads asked.snap before.history
  pub fits : Fits before asked.change

-- the map that the commit makes, where maps are told
abbrev pub map_after : EngineState → Change → Option PageMap
map_after before change = option_map (λ pages. laid pages change) before.newest

-- while a commit is under way, a crash leaves the map before it or the one after
abbrev pub EitherMap : (Opening → Type 0) → EngineState → Change → EngineState → Type 0
EitherMap opened before change after = AtEach opened (may_recover before ++ if_told (map_after before change)) before.disk after.disk

-- COMMIT went well: the next number, one more commit, and the map that laying the change on the newest one gives.
pub record IsCommitted (opened : Opening → Type 0) (before : EngineState) (asked : Submitted) (number : ℕ) (after : EngineState) : Type 0 where
  pub clear : IsClear before asked
  pub number_is : number ≡ length before.history + 1
  pub pages : List ℕ
  pub wrote : Writes before.newest before.size asked.change pages
  pub moments : EitherMap opened before asked.change after
  pub after_is : after ≡ record before {
    history = before.history ++ commit_of asked pages ∷ [];
    own = before.own ++ number ∷ [];
    newest = map_after before asked.change;
    size = pages_after before asked.change;
    logs = logs_to_write before;
    disk = after.disk;
  }

-- COMMIT is answered well: a transaction that wrote nothing touches nothing.
abbrev pub AcceptsCommit : (Opening → Type 0) → EngineState → Submitted → Receipt → EngineState → Type 0
AcceptsCommit opened before asked (ReadOnly n) after = (asked.wrote ≡ false) × (n ≡ asked.snap) × (after ≡ before)
AcceptsCommit opened before asked (At number) after = IsCommitted opened before asked number after

-- the place of the first write that failed, and the logs after it; an engine that keeps no logs writes none
abbrev pub StopsAt : EngineState → Stop → Option TwoLogs → Type 0
StopsAt before stop after = of_logs before.logs after
  where
    of_logs : Option TwoLogs → Option TwoLogs → Type 0
    of_logs (Some old) (Some new) = IsStopPlace before.page_size old before.readers before.history stop.log stop.at new
    of_logs (Some old) None = ⊥
    of_logs None new = ⊥

-- A write or sync of a log failed in a commit: its place is kept, with the map that the commit would have made, and at each moment a
-- crash leaves that map or the newest.
pub record IsStopped (opened : Opening → Type 0) (before : EngineState) (asked : Submitted) (after : EngineState) : Type 0 where
  pub stop : Stop
  pub map : stop.map ≡ map_after before asked.change
  pub place : StopsAt before stop after.logs
  pub moments : EitherMap opened before asked.change after
  pub after_is : after ≡ record before { stopped = Some stop; faults = after.faults; logs = after.logs; disk = after.disk }

-- A page of the freelist that was read breaks its form: a page of the map, read since the change frees a page or makes one. It never
-- comes where the engine tells its maps and stands for a run.
pub record IsCorrupt (stands : Type 0) (before : EngineState) (change : Change) (page : ℕ) : Type 0 where
  pub page_is : (1 ≤ page) × (page ≤ before.size)
  pub needed : (change.freed ≢ []) ⊎ (change.fresh ≢ [])
  pub untold : (before.newest ≡ None) ⊎ (stands → ⊥)

-- COMMIT is refused, each cause exactly where it stands, in the order of the causes; `stands` says that the engine stands for a run.
-- But for a failed disk nothing is changed; a disk that failed in reading leaves all as it was.
abbrev pub RefusesCommit : (Opening → Type 0) → (stands : Type 0) → EngineState → Submitted → CommitFault → EngineState → Type 0
RefusesCommit opened stands before asked (fault.Stopped log at) after =
    (asked.wrote ≡ true) × ((stop : Stop) × (before.stopped ≡ Some stop) × (stop.log ≡ log) × (stop.at ≡ at)) × (after ≡ before)
RefusesCommit opened stands before asked (fault.BusySnapshot page number) after =
    (asked.wrote ≡ true) × (before.stopped ≡ None)
    × IsConflict asked.change.mode asked.reads asked.snap before.history page number × (after ≡ before)
RefusesCommit opened stands before asked (fault.SizeLimit pages frames) after =
    (asked.wrote ≡ true) × (before.stopped ≡ None) × NoConflict asked.change.mode asked.reads asked.snap before.history
    × IsOver before asked.change × (pages ≡ pages_after before asked.change) × (frames ≡ frames_after before asked.change)
    × (after ≡ before)
RefusesCommit opened stands before asked fault.Memory after = IsClear before asked × (after ≡ before)
RefusesCommit opened stands before asked fault.Disk after =
    IsClear before asked × Rose before.faults after.faults
    × ((after ≡ record before { faults = after.faults }) ⊎ IsStopped opened before asked after)
RefusesCommit opened stands before asked (fault.Corrupt page) after =
    IsClear before asked × IsCorrupt stands before asked.change page × (after ≡ before)

-- what a step of a checkpoint does to the logs; an engine that keeps none is idle
abbrev pub ChecksLogs : Readers → List Commit → Option TwoLogs → Ckpt → Option TwoLogs → Type 0
ChecksLogs readers history None answer new = (answer ≡ Idle) × (new ≡ None)
ChecksLogs readers history (Some old) answer (Some new) = Steps old readers history answer new
ChecksLogs readers history (Some old) answer None = ⊥

-- A step of a checkpoint: the logs go on, and what a crash leaves stays.
pub record Checkpoints (opened : Opening → Type 0) (before : EngineState) (answer : Ckpt) (after : EngineState) : Type 0 where
  pub steps : ChecksLogs before.readers before.history before.logs answer after.logs
  pub moments : AtEach opened (may_recover before) before.disk after.disk
  pub after_is : after ≡ record before { logs = after.logs; disk = after.disk }

-- A step of a checkpoint failed, as the disk did: the logs are as before, and what a crash leaves stays.
pub record FailsInStep (opened : Opening → Type 0) (before after : EngineState) : Type 0 where
  pub rose : Rose before.faults after.faults
  pub moments : AtEach opened (may_recover before) before.disk after.disk
  pub after_is : after ≡ record before { faults = after.faults; disk = after.disk }

-- what a step of a checkpoint is answered
abbrev pub TakesStep : (Opening → Type 0) → EngineState → Result Ckpt Failed → EngineState → Type 0
TakesStep opened before (Ok answer) after = Checkpoints opened before answer after
TakesStep opened before (Err why) after = FailsInStep opened before after
