-- The two logs as a state: which commits each holds, which is current, whether the other is in the database.
use Rattle.std.specs.Prelude.{◌≡◌, ◌⊎◌, ◌↔◌, ℕ, ◌+◌, ◌-◌, ◌*◌, ◌%◌, ◌<◌, ◌≤◌, Bool, true, false, ◌==◌, ◌&&◌, not, if◌then◌else◌, nat_lt, List, length, take, drop, Contains, Option, Some, None}
use Rattle.std.specs.List.{flat_map}
use Rattle.disk_face.specs.Faults.{last_count}
use Rattle.log_spec.specs.LogHeader.{last_generation}
use Rattle.log_spec.specs.Frames.{place_behind}
use Rattle.engine_spec.specs.declared.pins.Lock.{Lock}
use Rattle.engine_spec.specs.declared.pins.Lock.TheVariants.{Part1, Part1Full2, Part2, Part2Full1}
use Rattle.engine_spec.specs.declared.pins.Readers.{Readers}
use Rattle.engine_spec.specs.declared.pins.Logs.{Logs}
use Rattle.engine_spec.specs.declared.pins.Ckpt.{Ckpt}
use Rattle.engine_spec.specs.declared.pins.Ckpt.TheVariants.{Copied, Finished, Idle, Held}
use Rattle.engine_spec.specs.declared.commits.Commit.{Commit}

-- the most frames that a log has
abbrev pub frame_limit : ℕ
frame_limit = 4_294_967_295

-- The number of the current log, its generation, how many commits stand before the first that it holds, how many stand before the
-- first that the other log holds, whether the other is done, the last page that was copied from it, and how many frames a log takes
-- before the next commit may switch. The current log holds the newest commits, the other those just before them; a log holds a
-- frame of each page that its commits wrote, in their order.
pub record TwoLogs : Type 0 where
  pub current : ℕ
  pub generation : ℕ
  pub since : ℕ
  pub other_since : ℕ
  pub done : Bool
  pub copied : ℕ
  pub limit : ℕ

-- Logs that stand for commits: log 1 or 2 is current, its generation is odd exactly where it is log 1, and they hold the last
-- commits, some of the newest in the current log and some of those before in the other.
pub record AreLogs (logs : TwoLogs) (history : List Commit) : Type 0 where
  pub current : (logs.current ≡ 1) ⊎ (logs.current ≡ 2)
  pub least : 1 ≤ logs.generation
  pub most : logs.generation ≤ last_generation
  pub odd : logs.generation % 2 ≡ 1 ↔ logs.current ≡ 1
  pub since : logs.since ≤ length history
  pub other_since : logs.other_since ≤ logs.since

-- how many readers hold a lock
abbrev pub readers_of : Readers → Lock → ℕ
readers_of readers Part1 = readers.part1
readers_of readers Part1Full2 = readers.part1_full2
readers_of readers Part2 = readers.part2
readers_of readers Part2Full1 = readers.part2_full1

-- one fewer, but a count at its last value stays there
abbrev pub one_fewer : ℕ → ℕ
one_fewer count = if count == last_count then count else count - 1

-- the readers with the count of one lock changed
abbrev pub change_readers : (ℕ → ℕ) → Readers → Lock → Readers
change_readers change readers Part1 = record readers { part1 = change readers.part1 }
change_readers change readers Part1Full2 = record readers { part1_full2 = change readers.part1_full2 }
change_readers change readers Part2 = record readers { part2 = change readers.part2 }
change_readers change readers Part2Full1 = record readers { part2_full1 = change readers.part2_full1 }

-- the pages of the frames that some commits wrote
abbrev pub frames_of : List Commit → List ℕ
frames_of commits = flat_map (λ commit. commit.wrote) commits

-- the pages of the frames of the current log, and of the other
abbrev pub current_frames : TwoLogs → List Commit → List ℕ
current_frames logs history = frames_of (drop logs.since history)

abbrev pub other_frames : TwoLogs → List Commit → List ℕ
other_frames logs history = frames_of (drop logs.other_since (take logs.since history))

-- the number of the other log
abbrev pub other_log : TwoLogs → ℕ
other_log logs = 3 - logs.current

-- the lock that a reader takes
abbrev pub lock_of : TwoLogs → Lock
lock_of logs = if logs.current == 1 then (if logs.done then Part1 else Part1Full2) else (if logs.done then Part2 else Part2Full1)

-- how many readers hold what a copy from the other log would overwrite: a front of that log over the database
abbrev pub holders : TwoLogs → Readers → ℕ
holders logs readers = if logs.current == 1 then readers.part2 else readers.part1

-- how many readers read all of the other log below a front of the current one
abbrev pub full_holders : TwoLogs → Readers → ℕ
full_holders logs readers = if logs.current == 1 then readers.part1_full2 else readers.part2_full1

-- whether the next commit goes to the other log, which it begins anew
abbrev pub may_switch : TwoLogs → Readers → List Commit → Bool
may_switch logs readers history = logs.done && (full_holders logs readers == 0) && (holders logs readers == 0)
    && not (nat_lt (length (current_frames logs history)) logs.limit) && nat_lt logs.generation last_generation

-- the other log is current from now on, with no frames, and the one that was current waits to be copied
abbrev pub switched : TwoLogs → List Commit → TwoLogs
switched logs history = record logs {
  current = other_log logs;
  generation = logs.generation + 1;
  since = length history;
  other_since = logs.since;
  done = false;
  copied = 0;
}

-- the logs that a commit's frames go to
abbrev pub to_write : TwoLogs → Readers → List Commit → TwoLogs
to_write logs readers history = if may_switch logs readers history then switched logs history else logs

-- Where a write or sync of a log failed in a commit, and the logs after it.
-- AtHeader: the header with which the commit would begin the other log anew, at that log's front; the logs stay.
-- AtFrame: the place of the commit's first frame, in the log that was begun anew where the switch rule held, else in the current one.
pub data IsStopPlace (page_size : ℕ) (logs : TwoLogs) (readers : Readers) (history : List Commit) (log at : ℕ) (after : TwoLogs) : Type 0 where
  AtHeader : may_switch logs readers history ≡ true → log ≡ other_log logs → at ≡ 0 → after ≡ logs
      → IsStopPlace page_size logs readers history log at after
  AtFrame : after ≡ to_write logs readers history → log ≡ after.current
      → at ≡ place_behind page_size (length (current_frames after history)) → IsStopPlace page_size logs readers history log at after

-- the least page of the other log above the last one copied
pub record IsNext (logs : TwoLogs) (history : List Commit) (page : ℕ) : Type 0 where
  pub there : Contains (other_frames logs history) page
  pub above : logs.copied < page
  pub least : (q : ℕ) → Contains (other_frames logs history) q → logs.copied < q → page ≤ q

-- One step of a checkpoint: what it answers, and the logs after it. Idle and Held change nothing.
abbrev pub Steps : TwoLogs → Readers → List Commit → Ckpt → TwoLogs → Type 0
Steps before readers history Idle after = (before.done ≡ true) × (after ≡ before)
Steps before readers history (Held count) after = (before.done ≡ false) × (count ≡ holders before readers) × (0 < count) × (after ≡ before)
Steps before readers history (Copied page) after =
    (before.done ≡ false) × (holders before readers ≡ 0) × IsNext before history page × (after ≡ record before { copied = page })
Steps before readers history Finished after =
    (before.done ≡ false) × (holders before readers ≡ 0) × ((q : ℕ) → Contains (other_frames before history) q → q ≤ before.copied)
    × (after ≡ record before { done = true })

-- how the logs stand, as it is told; an engine that keeps no logs tells of log 1 with no frames, the other done
abbrev pub told_logs : Option TwoLogs → List Commit → Logs
told_logs None history = record { current = 1; frames = 0; done = true }
told_logs (Some logs) history = record { current = logs.current; frames = length (current_frames logs history); done = logs.done }
