-- What a crash leaves during and after the lines of a run over a store that keeps two logs: a map that some front of the commits gives,
-- or the one that a commit would have made whose log write failed.
use Rattle.std.proofs.Common.{◌≡◌, ◌∙◌, ℕ, ◌+◌, ◌-◌, ◌<◌, ◌≤◌, Bool, true, false, cond, List, [], ◌∷◌, ◌++◌, length, drop, get_or, Option, Some, None, refl, sym, subst, ap, inl, inr, arith, length-append, append_assoc}
use Rattle.std.specs.Prelude.{Contains, nat_lt}
use Rattle.std.proofs.lemmas.List.{append-nil, drop-append-le, get_or-drop, get_or_default, length-drop}
use Rattle.std.proofs.lemmas.List.Elements.{Contains-append_cases, Contains-append_left, Contains-append_right}
use Rattle.page_spec.specs.PageMap.{PageMap}
use Rattle.crash_spec.specs.Opening.{Opening}
use Rattle.crash_spec.proofs.Pieces.{contains_none}
use Rattle.engine_spec.specs.declared.commits.Commit.{Commit}
use Rattle.engine_spec.specs.declared.commits.Mode.TheVariants.{Concurrent}
use Rattle.engine_spec.specs.declared.commits.Receipt.TheVariants.{ReadOnly}
use Rattle.engine_spec.specs.Change.{laid}
use Rattle.engine_spec.specs.History.{conflict}
use Rattle.engine_spec.specs.Leaves.{AtEach, RecoversNow, kept_map}
use Rattle.engine_spec.specs.State.{Stop, KeepsStop}
use Rattle.engine_spec.specs.TwoLogs.{frame_limit}
use Rattle.engine_spec.proofs.Conflicts.{contains_cases}
use Rattle.page_lines.specs.declared.lines.Act.{Act}
use Rattle.page_lines.specs.declared.lines.Act.TheVariants as act
use Rattle.page_lines.specs.declared.lines.Told.{Told}
use Rattle.page_lines.specs.declared.lines.Told.TheVariants as told
use Rattle.page_lines.specs.World.{World, Outcome, SessionState, Out, Open, Refused, PageTransaction, newest_map, change_of, commit_in, moved, decided, begin_step, read_step, write_step, commit_step, rollback_step, step}
use Rattle.page_lines.specs.Logged.{LoggedWorld, LoggedOutcome, in_world, unchanged, without_reader, frames_with, logged_begin, logged_rollback, logged_committed, logged_decided, logged_written, logged_commit, logged_step, FailsToRead, FailsToCommit, FailsToCopy, FailsIn, DiskPast, LineAnswers, Lines, may_leave, may_leave_since}
use Rattle.page_lines.proofs.WorldRuns.{Goes, WorldRuns}
use Rattle.page_lines.proofs.LoggedRuns.{answers_go, lines_go}
use Rattle.page_lines.proofs.LoggedMoments.{AreAmong, at_joined, at_rest, at_wider}

-- From one world to another as many maps were added at the end as commits.
pub record AddsCommits (world after : World) : Type 0 where
  pub maps : List PageMap
  pub commits : List Commit
  pub maps_are : after.maps ≡ world.maps ++ maps
  pub history_is : after.history ≡ world.history ++ commits
  pub count : length maps ≡ length commits

-- a world with the same maps and commits
commits_none : (world after : World) → after.maps ≡ world.maps → after.history ≡ world.history → AddsCommits world after
commits_none world after maps history = record {
  maps = [];
  commits = [];
  maps_are = maps ∙ sym (append-nil world.maps);
  history_is = history ∙ sym (append-nil world.history);
  count = refl;
}

-- two after one another
commits_twice : (world mid after : World) → AddsCommits world mid → AddsCommits mid after → AddsCommits world after
commits_twice world mid after one two = record {
  maps = one.maps ++ two.maps;
  commits = one.commits ++ two.commits;
  maps_are = two.maps_are ∙ (ap (λ (maps : List PageMap). maps ++ two.maps) one.maps_are ∙ append_assoc world.maps one.maps two.maps);
  history_is = two.history_is
      ∙ (ap (λ (history : List Commit). history ++ two.commits) one.history_is ∙ append_assoc world.history one.commits two.commits);
  count = omega (arith, length-append one.maps two.maps, length-append one.commits two.commits, one.count, two.count);
}

-- there is one map more than commits, and stays so
pub commits_count : (world after : World) → length world.maps ≡ length world.history + 1 → AddsCommits world after
    → length after.maps ≡ length after.history + 1
commits_count world after count more =
    omega (
      arith,
      count,
      more.count,
      ap length more.maps_are,
      ap length more.history_is,
      length-append world.maps more.maps,
      length-append world.history more.commits,
    )

-- COMMIT of a transaction that wrote
decided_commits : (world : World) (session : ℕ) (transaction : PageTransaction) (found : Option (ℕ × ℕ))
    → AddsCommits world (decided world session transaction found).world
decided_commits world session transaction None = record {
  maps = laid (newest_map world) (change_of world transaction) ∷ [];
  commits = commit_in world session transaction ∷ [];
  maps_are = refl;
  history_is = refl;
  count = refl;
}
decided_commits world session transaction (Some found) = commits_none world _ refl refl

-- COMMIT
commit_commits : (world : World) (session : ℕ) (state : SessionState) → AddsCommits world (commit_step world session state).world
commit_commits world session Out = commits_none world _ refl refl
commit_commits world session (Open transaction) = by_wrote transaction.wrote
  where
    by_wrote : (wrote : Bool) → AddsCommits world
        (cond wrote (decided world session transaction (conflict Concurrent transaction.reads transaction.snap world.history))
        (moved world session Out (told.Done (ReadOnly transaction.snap)))).world
    by_wrote true = decided_commits world session transaction (conflict Concurrent transaction.reads transaction.snap world.history)
    by_wrote false = commits_none world _ refl refl
commit_commits world session (Refused transaction) = commits_none world _ refl refl

-- the other acts of sessions
begin_commits : (world : World) (session : ℕ) (state : SessionState) → AddsCommits world (begin_step world session state).world
begin_commits world session Out = commits_none world _ refl refl
begin_commits world session (Open transaction) = commits_none world _ refl refl
begin_commits world session (Refused transaction) = commits_none world _ refl refl

read_commits : (world : World) (session page : ℕ) (state : SessionState) → AddsCommits world (read_step world session page state).world
read_commits world session page Out = commits_none world _ refl refl
read_commits world session page (Open transaction) = commits_none world _ refl refl
read_commits world session page (Refused transaction) = commits_none world _ refl refl

write_commits : (world : World) (session page byte : ℕ) (state : SessionState)
    → AddsCommits world (write_step world session page byte state).world
write_commits world session page byte Out = commits_none world _ refl refl
write_commits world session page byte (Open transaction) = commits_none world _ refl refl
write_commits world session page byte (Refused transaction) = commits_none world _ refl refl

rollback_commits : (world : World) (session : ℕ) (state : SessionState) → AddsCommits world (rollback_step world session state).world
rollback_commits world session Out = commits_none world _ refl refl
rollback_commits world session (Open transaction) = commits_none world _ refl refl
rollback_commits world session (Refused transaction) = commits_none world _ refl refl

step_commits : (world : World) (asked : Act) → AddsCommits world (step world asked).world
step_commits world (act.Begin session) = begin_commits world session (world.sessions session)
step_commits world (act.Read session page) = read_commits world session page (world.sessions session)
step_commits world (act.Write session page byte) = write_commits world session page byte (world.sessions session)
step_commits world (act.Commit session) = commit_commits world session (world.sessions session)
step_commits world (act.Rollback session) = rollback_commits world session (world.sessions session)
step_commits world act.Copy = commits_none world _ refl refl
step_commits world act.Step = commits_none world _ refl refl
step_commits world act.Logs = commits_none world _ refl refl

-- where a world goes on in one line
pub goes_commits : (world after : World) (asked : Act) (answer : Told) → Goes world asked answer after → AddsCommits world after
goes_commits world after asked answer (inl is) =
    subst (λ (outcome : Outcome). AddsCommits world outcome.world) (sym is) (step_commits world asked)
goes_commits world after asked answer (inr aside) =
    commits_none world after (ap (λ (now : World). now.maps) aside.1) (ap (λ (now : World). now.history) aside.1)

-- and in a run
pub run_commits : (world after : World) (acts : List Act) (answers : List Told) → WorldRuns world acts answers after → AddsCommits world after
run_commits world after [] [] same = commits_none world after (ap (λ (now : World). now.maps) same) (ap (λ (now : World). now.history) same)
run_commits world after (asked ∷ acts) (answer ∷ answers) (mid, goes, rest) =
    commits_twice world mid after (goes_commits world mid asked answer goes) (run_commits mid after acts answers rest)
run_commits world after [] (answer ∷ answers) never = absurd never
run_commits world after (asked ∷ acts) [] never = absurd never

-- the place of a failed log write stays where it is as before
stop_same : (old new : Option Stop) → new ≡ old → KeepsStop old new
stop_same None new same = tt
stop_same (Some stop) new same = same

stop_twice : (old mid new : Option Stop) → KeepsStop old mid → KeepsStop mid new → KeepsStop old new
stop_twice None mid new one two = tt
stop_twice (Some stop) mid new one two = subst (λ (now : Option Stop). KeepsStop now new) one two

-- what a line does to the place of a failed log write, where the disk doesn't fail
begin_stop : (before : LoggedWorld) (session : ℕ) (state : SessionState)
    → (logged_begin before session state).after.stopped ≡ before.stopped
begin_stop before session Out = refl
begin_stop before session (Open transaction) = refl
begin_stop before session (Refused transaction) = refl

rollback_stop : (before : LoggedWorld) (session : ℕ) (state : SessionState)
    → (logged_rollback before session state).after.stopped ≡ before.stopped
rollback_stop before session Out = refl
rollback_stop before session (Open transaction) = refl
rollback_stop before session (Refused transaction) = refl

decided_stop : (before : LoggedWorld) (session : ℕ) (transaction : PageTransaction) (found : Option (ℕ × ℕ))
    → (logged_decided before session transaction found).after.stopped ≡ before.stopped
decided_stop before session transaction None = by_full (nat_lt frame_limit (frames_with before transaction))
  where
    by_full : (full : Bool)
        → (cond full (unchanged before (told.Size (length (newest_map before.world)))) (logged_committed before session transaction)).after.stopped
        ≡ before.stopped
    by_full true = refl
    by_full false = refl
decided_stop before session transaction (Some found) = refl

written_stop : (before : LoggedWorld) (session : ℕ) (transaction : PageTransaction) (stopped : Option Stop)
    → (logged_written before session transaction stopped).after.stopped ≡ before.stopped
written_stop before session transaction None =
    decided_stop before session transaction (conflict Concurrent transaction.reads transaction.snap before.world.history)
written_stop before session transaction (Some stop) = refl

commit_stop : (before : LoggedWorld) (session : ℕ) (state : SessionState)
    → (logged_commit before session state).after.stopped ≡ before.stopped
commit_stop before session Out = refl
commit_stop before session (Open transaction) = by_wrote transaction.wrote
  where
    by_wrote : (wrote : Bool)
        → (cond wrote (logged_written before session transaction before.stopped)
        (in_world (without_reader before session) (moved before.world session Out (told.Done (ReadOnly transaction.snap))))).after.stopped
        ≡ before.stopped
    by_wrote true = written_stop before session transaction before.stopped
    by_wrote false = refl
commit_stop before session (Refused transaction) = refl

pub step_stop : (before : LoggedWorld) (asked : Act) → (logged_step before asked).after.stopped ≡ before.stopped
step_stop before (act.Begin session) = begin_stop before session (before.world.sessions session)
step_stop before (act.Read session page) = refl
step_stop before (act.Write session page byte) = refl
step_stop before (act.Commit session) = commit_stop before session (before.world.sessions session)
step_stop before (act.Rollback session) = rollback_stop before session (before.world.sessions session)
step_stop before act.Copy = refl
step_stop before act.Step = refl
step_stop before act.Logs = refl

-- and where it fails: a COMMIT keeps a place only where there was none
same_stop : (before after : LoggedWorld) → after ≡ before → KeepsStop before.stopped after.stopped
same_stop before after same = stop_same before.stopped after.stopped (ap (λ (logged : LoggedWorld). logged.stopped) same)

read_fails_stop : (before : LoggedWorld) (page : ℕ) (state : SessionState) (after : LoggedWorld) → FailsToRead before page state after
    → KeepsStop before.stopped after.stopped
read_fails_stop before page Out after never = absurd never
read_fails_stop before page (Open transaction) after fails = same_stop before after fails.1
read_fails_stop before page (Refused transaction) after never = absurd never

commit_fails_stop : (before : LoggedWorld) (state : SessionState) (after : LoggedWorld) → FailsToCommit before state after
    → KeepsStop before.stopped after.stopped
commit_fails_stop before Out after never = absurd never
commit_fails_stop before (Open transaction) after fails =
    subst (λ (old : Option Stop). KeepsStop old after.stopped) (sym fails.running) tt
commit_fails_stop before (Refused transaction) after never = absurd never

copy_fails_stop : (before after : LoggedWorld) → FailsToCopy before after → KeepsStop before.stopped after.stopped
copy_fails_stop before after (inl same) = same_stop before after same
copy_fails_stop before after (inr (page, copied, is)) =
    stop_same before.stopped after.stopped (ap (λ (logged : LoggedWorld). logged.stopped) is)

fails_stop : (before : LoggedWorld) (asked : Act) (after : LoggedWorld) → FailsIn before asked after
    → KeepsStop before.stopped after.stopped
fails_stop before (act.Begin session) after never = absurd never
fails_stop before (act.Read session page) after fails = read_fails_stop before page (before.world.sessions session) after fails
fails_stop before (act.Write session page byte) after never = absurd never
fails_stop before (act.Commit session) after fails = commit_fails_stop before (before.world.sessions session) after fails
fails_stop before (act.Rollback session) after never = absurd never
fails_stop before act.Copy after fails = copy_fails_stop before after fails
fails_stop before act.Step after same = same_stop before after same
fails_stop before act.Logs after never = absurd never

-- the place of a failed log write stays once it is there: in a line
answers_stop : (before : LoggedWorld) (faults : ℕ) (asked : Act) (answer : Told) (after : LoggedWorld) (faults_then : ℕ)
    → LineAnswers before faults asked answer after faults_then → KeepsStop before.stopped after.stopped
answers_stop before faults asked answer after faults_then (inl (is, same)) =
    stop_same before.stopped after.stopped (ap (λ (outcome : LoggedOutcome). outcome.after.stopped) is ∙ step_stop before asked)
answers_stop before faults asked answer after faults_then (inr (is, fails, rose)) = fails_stop before asked after fails

-- and in a run
pub lines_stop : (opened : Opening → Type 0) (before : LoggedWorld) (disk disk_then : DiskPast) (acts : List Act) (answers : List Told)
    (after : LoggedWorld) → Lines opened before disk acts answers after disk_then → KeepsStop before.stopped after.stopped
lines_stop opened before disk disk_then [] [] after lines = same_stop before after lines.0
lines_stop opened before disk disk_then (asked ∷ acts) (answer ∷ answers) after (mid, disk_mid, line, rest) =
    stop_twice before.stopped mid.stopped after.stopped
    (answers_stop before disk.faults asked answer mid disk_mid.faults line.answers)
    (lines_stop opened mid disk_mid disk_then acts answers after rest)
lines_stop opened before disk disk_then [] (answer ∷ answers) after never = absurd never
lines_stop opened before disk disk_then (asked ∷ acts) [] after never = absurd never

-- so is its map
kept_among : (old new : Option Stop) → KeepsStop old new → AreAmong (kept_map old) (kept_map new)
kept_among None new keeps pages there = absurd (contains_none pages there)
kept_among (Some stop) new keeps pages there = subst (λ (now : Option Stop). Contains (kept_map now) pages) (sym keeps) there

-- the rest of a list is among an earlier rest of it
later_among : {A : Type 0} (xs : List A) (n m : ℕ) (x : A) → n ≤ m → Contains (drop m xs) x → Contains (drop n xs) x
later_among xs n m x past (k, within, is) = (
  m - n + k,
  omega (arith, past, within, length-drop m xs, length-drop n xs),
  get_or-drop n xs (m - n + k) x ∙ (ap (λ (i : ℕ). get_or xs i x) (omega (arith, past)) ∙ (sym (get_or-drop m xs k x) ∙ is)),
)

-- and what stands there or later
there_among : {A : Type 0} (xs : List A) (n m : ℕ) (d : A) → n ≤ m → m < length xs → Contains (drop n xs) (get_or xs m d)
there_among xs n m d past within = (
  m - n,
  omega (arith, past, within, length-drop n xs),
  get_or-drop n xs (m - n) (get_or xs m d)
      ∙ (ap (λ (i : ℕ). get_or xs i (get_or xs m d)) (omega (arith, past)) ∙ get_or_default xs m (get_or xs m d) d within),
)

-- and stays so where the list goes on
more_among : {A : Type 0} (xs ys : List A) (n : ℕ) (x : A) → Contains (drop n xs) x → Contains (drop n (xs ++ ys)) x
more_among xs ys n x there =
    let short : n ≤ length xs = let bound = there.1 in omega (arith, bound, length-drop n xs) in
    subst (λ (list : List _). Contains list x) (sym (drop-append-le n xs ys short)) (Contains-append_left (drop n xs) ys x there)

-- what may be left now is among what may be left since fewer commits
now_among : (logged : LoggedWorld) (commits : ℕ) → length logged.world.maps ≡ length logged.world.history + 1
    → commits ≤ length logged.world.history → AreAmong (may_leave logged) (may_leave_since commits logged)
now_among logged commits count since pages there =
    elim (contains_cases (newest_map logged.world) pages (kept_map logged.stopped) there) [
      | inl is ↦
          Contains-append_left (drop commits logged.world.maps) (kept_map logged.stopped) pages
          (subst (Contains (drop commits logged.world.maps)) is
          (there_among logged.world.maps commits (length logged.world.history) [] since (omega (arith, count))))
      | inr kept ↦ Contains-append_right (drop commits logged.world.maps) (kept_map logged.stopped) pages kept
    ]

-- what may be left since more commits is among what may be left since fewer
since_among : (logged : LoggedWorld) (fewer more : ℕ) → fewer ≤ more → AreAmong (may_leave_since more logged) (may_leave_since fewer logged)
since_among logged fewer more past pages there =
    elim (Contains-append_cases (drop more logged.world.maps) (kept_map logged.stopped) pages there) [
      | inl left ↦
          Contains-append_left (drop fewer logged.world.maps) (kept_map logged.stopped) pages
          (later_among logged.world.maps fewer more pages past left)
      | inr kept ↦ Contains-append_right (drop fewer logged.world.maps) (kept_map logged.stopped) pages kept
    ]

-- and stays so as the world goes on
onward_among : (before after : LoggedWorld) (commits : ℕ) → AddsCommits before.world after.world → KeepsStop before.stopped after.stopped
    → AreAmong (may_leave_since commits before) (may_leave_since commits after)
onward_among before after commits more keeps pages there =
    elim (Contains-append_cases (drop commits before.world.maps) (kept_map before.stopped) pages there) [
      | inl left ↦
          Contains-append_left (drop commits after.world.maps) (kept_map after.stopped) pages
          (subst (λ (maps : List PageMap). Contains (drop commits maps) pages) (sym more.maps_are)
          (more_among before.world.maps more.maps commits pages left))
      | inr kept ↦
          Contains-append_right (drop commits after.world.maps) (kept_map after.stopped) pages
          (kept_among before.stopped after.stopped keeps pages kept)
    ]

-- at the moments of one line, as far as a run goes that it is a part of
line_among : (before mid after : LoggedWorld) → length before.world.maps ≡ length before.world.history + 1
    → AddsCommits before.world mid.world → AddsCommits mid.world after.world → KeepsStop before.stopped mid.stopped
    → KeepsStop mid.stopped after.stopped
    → AreAmong (may_leave before ++ may_leave mid) (may_leave_since (length before.world.history) after)
line_among before mid after count one others keeps keeps_then pages there =
    let commits = length before.world.history in
    let longer : length mid.world.history ≡ commits + length one.commits =
    ap length one.history_is ∙ length-append before.world.history one.commits in
    let since : AreAmong (may_leave mid) (may_leave_since commits mid) =
    now_among mid commits (commits_count before.world mid.world count one) (omega (arith, longer)) in
    onward_among mid after commits others keeps_then pages (elim (Contains-append_cases (may_leave before) (may_leave mid) pages there) [
      | inl old ↦ onward_among before mid commits one keeps pages (now_among before commits count (omega arith) pages old)
      | inr new ↦ since pages new
    ])

-- At each moment of a run a crash leaves a map that some front of its commits gives, with at least those that there were before it, or the
-- one that a commit would have made whose log write failed.
pub lines_leave : (opened : Opening → Type 0) (before : LoggedWorld) (disk disk_then : DiskPast) (acts : List Act) (answers : List Told)
    (after : LoggedWorld) → length before.world.maps ≡ length before.world.history + 1
    → ((opening : Opening) → opened opening → RecoversNow opening (may_leave before) disk.past)
    → Lines opened before disk acts answers after disk_then
    → AtEach opened (may_leave_since (length before.world.history) after) disk.past disk_then.past
lines_leave opened before disk disk_then [] [] after count now lines =
    let commits = length before.world.history in
    at_wider opened (may_leave before) (may_leave_since commits after)
    (λ pages there.
    onward_among before after commits
    (commits_none before.world after.world (ap (λ (it : LoggedWorld). it.world.maps) lines.0) (ap (λ (it : LoggedWorld). it.world.history) lines.0))
    (same_stop before after lines.0) pages (now_among before commits count (omega arith) pages there)) disk.past disk_then.past
    (at_rest opened (may_leave before) disk.past disk_then.past (ap (λ (it : DiskPast). it.past) lines.1) now)
lines_leave opened before disk disk_then (asked ∷ acts) (answer ∷ answers) after count now (mid, disk_mid, line, rest) =
    let commits = length before.world.history in
    let one : AddsCommits before.world mid.world = goes_commits before.world mid.world asked answer
    (answers_go before disk.faults asked answer mid disk_mid.faults line.answers) in
    let others : AddsCommits mid.world after.world =
    run_commits mid.world after.world acts answers (lines_go opened mid disk_mid disk_then acts answers after rest) in
    let longer : length mid.world.history ≡ commits + length one.commits =
    ap length one.history_is ∙ length-append before.world.history one.commits in
    let later : AtEach opened (may_leave_since (length mid.world.history) after) disk_mid.past disk_then.past =
    lines_leave opened mid disk_mid disk_then acts answers after (commits_count before.world mid.world count one) line.leaves rest in
    at_joined opened (may_leave_since commits after) disk.past disk_mid.past disk_then.past
    (at_wider opened (may_leave before ++ may_leave mid) (may_leave_since commits after)
    (line_among before mid after count one others (answers_stop before disk.faults asked answer mid disk_mid.faults line.answers)
    (lines_stop opened mid disk_mid disk_then acts answers after rest)) disk.past disk_mid.past line.moments)
    (at_wider opened (may_leave_since (length mid.world.history) after) (may_leave_since commits after)
    (since_among after commits (length mid.world.history) (omega (arith, longer))) disk_mid.past disk_then.past later)
lines_leave opened before disk disk_then [] (answer ∷ answers) after count now never = absurd never
lines_leave opened before disk disk_then (asked ∷ acts) [] after count now never = absurd never

-- After a run a crash leaves the newest map, or that one.
pub lines_leave_now : (opened : Opening → Type 0) (before : LoggedWorld) (disk disk_then : DiskPast) (acts : List Act) (answers : List Told)
    (after : LoggedWorld) → Lines opened before disk acts answers after disk_then
    → ((opening : Opening) → opened opening → RecoversNow opening (may_leave before) disk.past)
    → (opening : Opening) → opened opening → RecoversNow opening (may_leave after) disk_then.past
lines_leave_now opened before disk disk_then [] [] after lines now = λ opening is.
    subst (λ (past : DiskPast). RecoversNow opening (may_leave after) past.past) (sym lines.1)
    (subst (λ (logged : LoggedWorld). RecoversNow opening (may_leave logged) disk.past) (sym lines.0) (now opening is))
lines_leave_now opened before disk disk_then (asked ∷ acts) (answer ∷ answers) after (mid, disk_mid, line, rest) now =
    lines_leave_now opened mid disk_mid disk_then acts answers after rest line.leaves
lines_leave_now opened before disk disk_then [] (answer ∷ answers) after never now = absurd never
lines_leave_now opened before disk disk_then (asked ∷ acts) [] after never now = absurd never
