-- The run of page lines over a store that keeps two logs on a disk: beside the world of whole page maps stand the logs, their readers, and
-- the place where a write of a log failed. One line does to them what its step says, or the disk failed in it.
use Rattle.std.specs.Prelude.{◌≡◌, ◌⊎◌, ℕ, ◌+◌, ◌<◌, max, true, false, ◌==◌, if◌then◌else◌, nat_lt, List, [], ◌∷◌, ◌++◌, length, drop, Contains, Option, Some, None}
use Rattle.disk_face.specs.Faults.{Rose, one_more}
use Rattle.disk_face.specs.Steps.{History}
use Rattle.page_spec.specs.PageMap.{PageMap, page_size_of}
use Rattle.crash_spec.specs.Opening.{Opening}
use Rattle.engine_spec.specs.declared.commits.Commit.{Commit}
use Rattle.engine_spec.specs.declared.commits.Mode.TheVariants.{Concurrent}
use Rattle.engine_spec.specs.declared.commits.Receipt.TheVariants.{ReadOnly}
use Rattle.engine_spec.specs.declared.pins.Ckpt.{Ckpt}
use Rattle.engine_spec.specs.declared.pins.Ckpt.TheVariants as checkpoint
use Rattle.engine_spec.specs.declared.pins.Lock.{Lock}
use Rattle.engine_spec.specs.declared.pins.Readers.{Readers}
use Rattle.engine_spec.specs.Change.{image_of, laid}
use Rattle.engine_spec.specs.History.{conflict}
use Rattle.engine_spec.specs.Leaves.{AtEach, RecoversNow, kept_map}
use Rattle.engine_spec.specs.State.{Stop}
use Rattle.engine_spec.specs.TwoLogs.{TwoLogs, frame_limit, lock_of, change_readers, one_fewer, current_frames, other_frames, holders, to_write, told_logs, IsStopPlace}
use Rattle.page_lines.specs.declared.lines.Act.{Act}
use Rattle.page_lines.specs.declared.lines.Act.TheVariants as act
use Rattle.page_lines.specs.declared.lines.Told.{Told}
use Rattle.page_lines.specs.declared.lines.Told.TheVariants as told
use Rattle.page_lines.specs.World.{World, Outcome, SessionState, PageTransaction, Out, Open, Refused, changed_at, newest_map, change_of, moved, begin, committed, read_step, write_step}

-- The world, its two logs, how many readers hold each lock, which lock the transaction of a session holds (where it is in one), and where
-- a write or sync of a log failed, with the map that the commit would have made.
pub record LoggedWorld : Type 0 where
  pub world : World
  pub logs : TwoLogs
  pub readers : Readers
  pub locks : ℕ → Lock
  pub stopped : Option Stop

-- what a line is answered, and how all stands after it
pub record LoggedOutcome : Type 0 where
  pub told : Told
  pub after : LoggedWorld

-- what a step of the world is answered, and the world after it; the logs and their readers stay
abbrev pub in_world : LoggedWorld → Outcome → LoggedOutcome
in_world before outcome = record { told = outcome.told; after = record before { world = outcome.world } }

-- an answer that changes nothing
abbrev pub unchanged : LoggedWorld → Told → LoggedOutcome
unchanged before answer = record { told = answer; after = before }

-- a session's transaction takes the lock that the logs lend now
abbrev pub with_reader : LoggedWorld → ℕ → LoggedWorld
with_reader before session = record before {
  readers = change_readers one_more before.readers (lock_of before.logs);
  locks = changed_at before.locks session (lock_of before.logs);
}

-- a session's transaction gives its lock back
abbrev pub without_reader : LoggedWorld → ℕ → LoggedWorld
without_reader before session = record before { readers = change_readers one_fewer before.readers (before.locks session) }

-- BEGIN
abbrev pub logged_begin : LoggedWorld → ℕ → SessionState → LoggedOutcome
logged_begin before session Out = in_world (with_reader before session) (begin before.world session)
logged_begin before session (Open transaction) = unchanged before told.InTransaction
logged_begin before session (Refused transaction) = unchanged before told.MustRollBack

-- ROLLBACK
abbrev pub logged_rollback : LoggedWorld → ℕ → SessionState → LoggedOutcome
logged_rollback before session Out = unchanged before told.NoTransaction
logged_rollback before session (Open transaction) = in_world (without_reader before session) (moved before.world session Out told.Ok)
logged_rollback before session (Refused transaction) = in_world (without_reader before session) (moved before.world session Out told.Ok)

-- the logs that a commit's frames go to
abbrev pub logs_written : LoggedWorld → TwoLogs
logs_written before = to_write before.logs before.readers before.world.history

-- how many frames the log of a commit could come to have
abbrev pub frames_with : LoggedWorld → PageTransaction → ℕ
frames_with before transaction = length (current_frames (logs_written before) before.world.history) + length transaction.changed + 2

-- COMMIT that nothing bars: its frames are in the log that they go to, and its lock is given back
abbrev pub logged_committed : LoggedWorld → ℕ → PageTransaction → LoggedOutcome
logged_committed before session transaction =
    in_world (without_reader (record before { logs = logs_written before }) session) (committed before.world session transaction)

-- COMMIT that no later commit bars: it is refused where the log could come to have too many frames
abbrev pub logged_clear : LoggedWorld → ℕ → PageTransaction → LoggedOutcome
logged_clear before session transaction =
    if nat_lt frame_limit (frames_with before transaction)
    then unchanged before (told.Size (length (newest_map before.world)))
    else logged_committed before session transaction

-- COMMIT of a transaction that wrote, by the conflict that there is
abbrev pub logged_decided : LoggedWorld → ℕ → PageTransaction → Option (ℕ × ℕ) → LoggedOutcome
logged_decided before session transaction None = logged_clear before session transaction
logged_decided before session transaction (Some found) =
    in_world before (moved before.world session (Refused transaction) (told.Busy found.0 found.1))

-- COMMIT of a transaction that wrote: where a write of a log failed before, it is refused with that place
abbrev pub logged_written : LoggedWorld → ℕ → PageTransaction → Option Stop → LoggedOutcome
logged_written before session transaction None =
    logged_decided before session transaction (conflict Concurrent transaction.reads transaction.snap before.world.history)
logged_written before session transaction (Some stop) = unchanged before (told.Stopped stop.log stop.at)

-- COMMIT
abbrev pub logged_commit : LoggedWorld → ℕ → SessionState → LoggedOutcome
logged_commit before session Out = unchanged before told.NoTransaction
logged_commit before session (Open transaction) =
    if transaction.wrote
    then logged_written before session transaction before.stopped
    else in_world (without_reader before session) (moved before.world session Out (told.Done (ReadOnly transaction.snap)))
logged_commit before session (Refused transaction) = unchanged before told.MustRollBack

-- one of these pages or a lesser one that another gives
abbrev pub or_lesser : ℕ → Option ℕ → ℕ
or_lesser page None = page
or_lesser page (Some other) = if nat_lt other page then other else page

-- the least of these pages above this one
abbrev pub least_above : ℕ → List ℕ → Option ℕ
least_above low [] = None
least_above low (page ∷ pages) = if nat_lt low page then Some (or_lesser page (least_above low pages)) else least_above low pages

-- the greatest of these pages and this one
abbrev pub greatest : ℕ → List ℕ → ℕ
greatest page [] = page
greatest page (other ∷ pages) = greatest (max page other) pages

-- what a step of a checkpoint answers, and the logs after it
pub record LogsOutcome : Type 0 where
  pub answer : Ckpt
  pub logs : TwoLogs

-- a step that may copy: the next page is copied, or there is none and the other log is done
abbrev pub copies : TwoLogs → Option ℕ → LogsOutcome
copies logs None = record { answer = checkpoint.Finished; logs = record logs { done = true } }
copies logs (Some page) = record { answer = checkpoint.Copied page; logs = record logs { copied = page } }

-- all steps until one copies no page, where they may copy
abbrev pub copies_all : TwoLogs → List Commit → LogsOutcome
copies_all logs history = record {
  answer = checkpoint.Finished;
  logs = record logs { copied = greatest logs.copied (other_frames logs history); done = true };
}

-- a checkpoint is idle where the other log is done, and held where readers hold what it would overwrite
abbrev pub unless_held : TwoLogs → Readers → LogsOutcome → LogsOutcome
unless_held logs readers outcome =
    if logs.done then record { answer = checkpoint.Idle; logs = logs }
    else (if holders logs readers == 0 then outcome else record { answer = checkpoint.Held (holders logs readers); logs = logs })

-- what a checkpoint of the logs is answered
abbrev pub checked : LoggedWorld → LogsOutcome → LoggedOutcome
checked before outcome = record { told = told.Ckpt outcome.answer; after = record before { logs = outcome.logs } }

-- One line, where the disk doesn't fail.
abbrev pub logged_step : LoggedWorld → Act → LoggedOutcome
logged_step before (act.Begin session) = logged_begin before session (before.world.sessions session)
logged_step before (act.Read session page) = in_world before (read_step before.world session page (before.world.sessions session))
logged_step before (act.Write session page byte) = in_world before (write_step before.world session page byte (before.world.sessions session))
logged_step before (act.Commit session) = logged_commit before session (before.world.sessions session)
logged_step before (act.Rollback session) = logged_rollback before session (before.world.sessions session)
logged_step before act.Copy = checked before (unless_held before.logs before.readers (copies_all before.logs before.world.history))
logged_step before act.Step = checked before
    (unless_held before.logs before.readers (copies before.logs (least_above before.logs.copied (other_frames before.logs before.world.history))))
logged_step before act.Logs = unchanged before (told.Logs (told_logs (Some before.logs) before.world.history))

-- READ fails only of a page that the transaction hasn't written itself, which is read from the disk, and it changes nothing
abbrev pub FailsToRead : LoggedWorld → ℕ → SessionState → LoggedWorld → Type 0
FailsToRead before page Out after = ⊥
FailsToRead before page (Open transaction) after = (image_of transaction.changed page ≡ None) × (after ≡ before)
FailsToRead before page (Refused transaction) after = ⊥

-- The write or sync of a log failed in a COMMIT: its place is kept, with the map that the commit would have made.
pub record StopsCommit (before : LoggedWorld) (transaction : PageTransaction) (after : LoggedWorld) : Type 0 where
  pub log : ℕ
  pub at : ℕ
  pub logs : TwoLogs
  pub place : IsStopPlace (page_size_of (newest_map before.world)) before.logs before.readers before.world.history log at logs
  pub after_is : after ≡ record before {
    logs = logs;
    stopped = Some (record { log = log; at = at; map = Some (laid (newest_map before.world) (change_of before.world transaction)) });
  }

-- COMMIT fails only where nothing bars it. It leaves the session in its transaction, and changes nothing or keeps the place of the write that failed.
pub record FailsClear (before : LoggedWorld) (transaction : PageTransaction) (after : LoggedWorld) : Type 0 where
  pub wrote : transaction.wrote ≡ true
  pub running : before.stopped ≡ None
  pub free : conflict Concurrent transaction.reads transaction.snap before.world.history ≡ None
  pub fits : nat_lt frame_limit (frames_with before transaction) ≡ false
  pub left : (after ≡ before) ⊎ StopsCommit before transaction after

abbrev pub FailsToCommit : LoggedWorld → SessionState → LoggedWorld → Type 0
FailsToCommit before Out after = ⊥
FailsToCommit before (Open transaction) after = FailsClear before transaction after
FailsToCommit before (Refused transaction) after = ⊥

-- some pages of the other log were copied before a step failed
pub record HasCopied (before : LoggedWorld) (page : ℕ) : Type 0 where
  pub pending : before.logs.done ≡ false
  pub free : holders before.logs before.readers ≡ 0
  pub there : Contains (other_frames before.logs before.world.history) page
  pub above : before.logs.copied < page

-- CHECKPOINT fails at one of its steps
abbrev pub FailsToCopy : LoggedWorld → LoggedWorld → Type 0
FailsToCopy before after =
    (after ≡ before) ⊎ ((page : ℕ) × HasCopied before page × (after ≡ record before { logs = record before.logs { copied = page } }))

-- How all stands after a line in which the disk failed, which is answered so.
abbrev pub FailsIn : LoggedWorld → Act → LoggedWorld → Type 0
FailsIn before (act.Begin session) after = ⊥
FailsIn before (act.Read session page) after = FailsToRead before page (before.world.sessions session) after
FailsIn before (act.Write session page byte) after = ⊥
FailsIn before (act.Commit session) after = FailsToCommit before (before.world.sessions session) after
FailsIn before (act.Rollback session) after = ⊥
FailsIn before act.Copy after = FailsToCopy before after
FailsIn before act.Step after = after ≡ before
FailsIn before act.Logs after = ⊥

-- What a crash may leave: the newest map, and the one that a commit would have made whose log write failed.
abbrev pub may_leave : LoggedWorld → List PageMap
may_leave logged = newest_map logged.world ∷ kept_map logged.stopped

-- What a crash may leave at some moment of a run that began when there were so many commits: the map from after these, one from after a
-- later commit, and the one that a commit would have made whose log write failed.
abbrev pub may_leave_since : ℕ → LoggedWorld → List PageMap
may_leave_since commits logged = drop commits logged.world.maps ++ kept_map logged.stopped

-- the disk beside a run: its count of faults, and its past, where it tells that
pub record DiskPast : Type 0 where
  pub faults : ℕ
  pub past : Option History

-- What a line is answered: what its step says, and no fault is counted; or that the disk failed, and its count rose.
abbrev pub LineAnswers : LoggedWorld → ℕ → Act → Told → LoggedWorld → ℕ → Type 0
LineAnswers before faults act answer after faults_then =
    ((record { told = answer; after = after } ≡ logged_step before act) × (faults_then ≡ faults))
    ⊎ ((answer ≡ told.Disk) × FailsIn before act after × Rose faults faults_then)

-- One line of a run: how it is answered; that at each moment of it a crash leaves one of the maps that it might have left before the line
-- or after it; and that once it is answered a crash leaves one of those after it.
pub record Line (opened : Opening → Type 0) (before : LoggedWorld) (disk : DiskPast) (act : Act) (answer : Told) (after : LoggedWorld)
    (disk_then : DiskPast) : Type 0 where
  pub answers : LineAnswers before disk.faults act answer after disk_then.faults
  pub moments : AtEach opened (may_leave before ++ may_leave after) disk.past disk_then.past
  pub leaves : (opening : Opening) → opened opening → RecoversNow opening (may_leave after) disk_then.past

-- The lines of a run, one after another.
abbrev pub Lines : (Opening → Type 0) → LoggedWorld → DiskPast → List Act → List Told → LoggedWorld → DiskPast → Type 0
Lines opened before disk [] [] after disk_then = (after ≡ before) × (disk_then ≡ disk)
Lines opened before disk (act ∷ acts) (answer ∷ answers) after disk_then = (mid : LoggedWorld) × (disk_mid : DiskPast)
    × Line opened before disk act answer mid disk_mid × Lines opened mid disk_mid acts answers after disk_then
Lines opened before disk [] (answer ∷ answers) after disk_then = ⊥
Lines opened before disk (act ∷ acts) [] after disk_then = ⊥

-- what the lines of a run are answered where the disk doesn't fail
abbrev pub logged_answers : LoggedWorld → List Act → List Told
logged_answers before [] = []
logged_answers before (act ∷ acts) = (logged_step before act).told ∷ logged_answers (logged_step before act).after acts
