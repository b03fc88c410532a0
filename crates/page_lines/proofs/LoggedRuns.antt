-- A run over a store that keeps two logs is a run by which its world goes on, so it is serial, and the history that it leaves is legal.
use Rattle.std.proofs.Common.{◌≡◌, ℕ, Bool, true, false, cond, List, [], ◌∷◌, Option, Some, None, refl, sym, subst, ap, inl, inr}
use Rattle.std.specs.Prelude.{nat_lt, length}
use Rattle.page_spec.specs.PageMap.{PageMap}
use Rattle.crash_spec.specs.Opening.{Opening}
use Rattle.engine_spec.specs.declared.commits.Mode.TheVariants.{Concurrent}
use Rattle.engine_spec.specs.declared.commits.Receipt.TheVariants.{ReadOnly}
use Rattle.engine_spec.specs.History.{conflict}
use Rattle.engine_spec.specs.State.{Stop}
use Rattle.engine_spec.specs.TwoLogs.{frame_limit}
use Rattle.page_lines.specs.declared.lines.Act.{Act}
use Rattle.page_lines.specs.declared.lines.Act.TheVariants as act
use Rattle.page_lines.specs.declared.lines.Told.{Told}
use Rattle.page_lines.specs.declared.lines.Told.TheVariants as told
use Rattle.page_lines.specs.World.{World, Outcome, SessionState, Out, Open, Refused, PageTransaction, newest_map, moved, decided, committed, begin_step, commit_step, rollback_step, world_over}
use Rattle.page_lines.specs.Range.{AreInRange}
use Rattle.page_lines.specs.Exchanges.{exchanged}
use Rattle.page_lines.specs.Serial.{IsSerial}
use Rattle.page_lines.specs.Legal.{IsLegalFrom}
use Rattle.page_lines.specs.Logged.{LoggedWorld, LoggedOutcome, in_world, unchanged, without_reader, frames_with, logged_begin, logged_rollback, logged_committed, logged_decided, logged_written, logged_commit, logged_step, FailsToRead, FailsToCommit, FailsToCopy, FailsIn, DiskPast, LineAnswers, Lines}
use Rattle.page_lines.proofs.Alone.{IsStore}
use Rattle.page_lines.proofs.WorldRuns.{IsAside, GoesBy, Goes, WorldRuns}
use Rattle.page_lines.proofs.SerialRuns.{run_is_serial, run_is_legal}

-- the world of an outcome goes on as this outcome of the world itself says, or stays
abbrev Follows : World → Outcome → LoggedOutcome → Type 0
Follows world outcome logged = GoesBy world outcome logged.told logged.after.world

-- BEGIN
begin_follows : (before : LoggedWorld) (session : ℕ) (state : SessionState)
    → Follows before.world (begin_step before.world session state) (logged_begin before session state)
begin_follows before session Out = inl refl
begin_follows before session (Open transaction) = inl refl
begin_follows before session (Refused transaction) = inl refl

-- ROLLBACK
rollback_follows : (before : LoggedWorld) (session : ℕ) (state : SessionState)
    → Follows before.world (rollback_step before.world session state) (logged_rollback before session state)
rollback_follows before session Out = inl refl
rollback_follows before session (Open transaction) = inl refl
rollback_follows before session (Refused transaction) = inl refl

-- COMMIT that no later commit bars, by whether the log could come to have too many frames
clear_follows : (before : LoggedWorld) (session : ℕ) (transaction : PageTransaction) (full : Bool)
    → Follows before.world (committed before.world session transaction)
    (cond full (unchanged before (told.Size (length (newest_map before.world)))) (logged_committed before session transaction))
clear_follows before session transaction true = inr (tt, refl)
clear_follows before session transaction false = inl refl

-- COMMIT of a transaction that wrote
decided_follows : (before : LoggedWorld) (session : ℕ) (transaction : PageTransaction) (found : Option (ℕ × ℕ))
    → Follows before.world (decided before.world session transaction found) (logged_decided before session transaction found)
decided_follows before session transaction None =
    clear_follows before session transaction (nat_lt frame_limit (frames_with before transaction))
decided_follows before session transaction (Some found) = inl refl

written_follows : (before : LoggedWorld) (session : ℕ) (transaction : PageTransaction) (stopped : Option Stop)
    → Follows before.world (decided before.world session transaction
    (conflict Concurrent transaction.reads transaction.snap before.world.history)) (logged_written before session transaction stopped)
written_follows before session transaction None =
    decided_follows before session transaction (conflict Concurrent transaction.reads transaction.snap before.world.history)
written_follows before session transaction (Some stop) = inr (tt, refl)

-- COMMIT
commit_follows : (before : LoggedWorld) (session : ℕ) (state : SessionState)
    → Follows before.world (commit_step before.world session state) (logged_commit before session state)
commit_follows before session Out = inl refl
commit_follows before session (Open transaction) = by_wrote transaction.wrote
  where
    by_wrote : (wrote : Bool) → Follows before.world
        (cond wrote (decided before.world session transaction (conflict Concurrent transaction.reads transaction.snap before.world.history))
        (moved before.world session Out (told.Done (ReadOnly transaction.snap))))
        (cond wrote (logged_written before session transaction before.stopped)
        (in_world (without_reader before session) (moved before.world session Out (told.Done (ReadOnly transaction.snap)))))
    by_wrote true = written_follows before session transaction before.stopped
    by_wrote false = inl refl
commit_follows before session (Refused transaction) = inl refl

-- the world goes on in each line in which the disk doesn't fail
step_goes : (before : LoggedWorld) (asked : Act)
    → Goes before.world asked (logged_step before asked).told (logged_step before asked).after.world
step_goes before (act.Begin session) = begin_follows before session (before.world.sessions session)
step_goes before (act.Read session page) = inl refl
step_goes before (act.Write session page byte) = inl refl
step_goes before (act.Commit session) = commit_follows before session (before.world.sessions session)
step_goes before (act.Rollback session) = rollback_follows before session (before.world.sessions session)
step_goes before act.Copy = inr (tt, refl)
step_goes before act.Step = inr (tt, refl)
step_goes before act.Logs = inr (tt, refl)

-- and stays in one in which it fails
read_stays : (before : LoggedWorld) (page : ℕ) (state : SessionState) (after : LoggedWorld) → FailsToRead before page state after
    → after.world ≡ before.world
read_stays before page Out after never = absurd never
read_stays before page (Open transaction) after fails = ap (λ (logged : LoggedWorld). logged.world) fails.1
read_stays before page (Refused transaction) after never = absurd never

commit_stays : (before : LoggedWorld) (state : SessionState) (after : LoggedWorld) → FailsToCommit before state after
    → after.world ≡ before.world
commit_stays before Out after never = absurd never
commit_stays before (Open transaction) after fails = elim (fails.left) [
  | inl same ↦ ap (λ (logged : LoggedWorld). logged.world) same
  | inr stops ↦ ap (λ (logged : LoggedWorld). logged.world) stops.after_is
]
commit_stays before (Refused transaction) after never = absurd never

copy_stays : (before after : LoggedWorld) → FailsToCopy before after → after.world ≡ before.world
copy_stays before after (inl same) = ap (λ (logged : LoggedWorld). logged.world) same
copy_stays before after (inr (page, copied, is)) = ap (λ (logged : LoggedWorld). logged.world) is

fails_stays : (before : LoggedWorld) (asked : Act) (after : LoggedWorld) → FailsIn before asked after → after.world ≡ before.world
fails_stays before (act.Begin session) after never = absurd never
fails_stays before (act.Read session page) after fails = read_stays before page (before.world.sessions session) after fails
fails_stays before (act.Write session page byte) after never = absurd never
fails_stays before (act.Commit session) after fails = commit_stays before (before.world.sessions session) after fails
fails_stays before (act.Rollback session) after never = absurd never
fails_stays before act.Copy after fails = copy_stays before after fails
fails_stays before act.Step after same = ap (λ (logged : LoggedWorld). logged.world) same
fails_stays before act.Logs after never = absurd never

-- so the world goes on in each line
pub answers_go : (before : LoggedWorld) (faults : ℕ) (asked : Act) (answer : Told) (after : LoggedWorld) (faults_then : ℕ)
    → LineAnswers before faults asked answer after faults_then → Goes before.world asked answer after.world
answers_go before faults asked answer after faults_then (inl (is, same)) =
    subst (λ (outcome : LoggedOutcome). Goes before.world asked outcome.told outcome.after.world) (sym is) (step_goes before asked)
answers_go before faults asked answer after faults_then (inr (is, fails, rose)) =
    inr (subst IsAside (sym is) tt, fails_stays before asked after fails)

-- and in the lines of a run
pub lines_go : (opened : Opening → Type 0) (before : LoggedWorld) (disk disk_then : DiskPast) (acts : List Act) (answers : List Told)
    (after : LoggedWorld) → Lines opened before disk acts answers after disk_then → WorldRuns before.world acts answers after.world
lines_go opened before disk disk_then [] [] after lines = ap (λ (logged : LoggedWorld). logged.world) lines.0
lines_go opened before disk disk_then (asked ∷ acts) (answer ∷ answers) after (mid, disk_mid, line, rest) = (
  mid.world,
  answers_go before disk.faults asked answer mid disk_mid.faults line.answers,
  lines_go opened mid disk_mid disk_then acts answers after rest,
)
lines_go opened before disk disk_then [] (answer ∷ answers) after never = absurd never
lines_go opened before disk disk_then (asked ∷ acts) [] after never = absurd never

-- so from a world over a first map on
lines_go_over : (first : PageMap) (opened : Opening → Type 0) (before : LoggedWorld) → before.world ≡ world_over first
    → (disk disk_then : DiskPast) (acts : List Act) (answers : List Told) (after : LoggedWorld)
    → Lines opened before disk acts answers after disk_then → WorldRuns (world_over first) acts answers after.world
lines_go_over first opened before over disk disk_then acts answers after lines =
    subst (λ (world : World). WorldRuns world acts answers after.world) over (lines_go opened before disk disk_then acts answers after lines)

-- whatever lines are run from a page store on, their run is serial
pub logged_serial : (s : ℕ) (first : PageMap) → IsStore s first → (opened : Opening → Type 0) (before : LoggedWorld)
    → before.world ≡ world_over first → (disk disk_then : DiskPast) (acts : List Act) (answers : List Told) (after : LoggedWorld)
    → AreInRange acts → Lines opened before disk acts answers after disk_then → IsSerial first (exchanged acts answers)
logged_serial s first sound opened before over disk disk_then acts answers after range lines =
    run_is_serial s first sound after.world acts answers range
    (lines_go_over first opened before over disk disk_then acts answers after lines)

-- and the history that they leave is legal
pub logged_legal : (s : ℕ) (first : PageMap) → IsStore s first → (opened : Opening → Type 0) (before : LoggedWorld)
    → before.world ≡ world_over first → (disk disk_then : DiskPast) (acts : List Act) (answers : List Told) (after : LoggedWorld)
    → AreInRange acts → Lines opened before disk acts answers after disk_then → IsLegalFrom first after.world
logged_legal s first sound opened before over disk disk_then acts answers after range lines =
    run_is_legal s first sound after.world acts answers range
    (lines_go_over first opened before over disk disk_then acts answers after lines)
