-- How a world goes on in one line, and in the lines of a run: by its step, or not at all where the answer says nothing of a transaction's
-- pages. What each world of page lines keeps stays so, and its maps grow at their end.
use Rattle.std.proofs.Common.{◌≡◌, ℕ, ◌+◌, Bool, true, false, cond, List, [], ◌∷◌, ◌++◌, length, Option, Some, None, refl, sym, subst, ap, ◌∙◌, inl, inr, arith, length-append, append_assoc}
use Rattle.std.specs.Prelude.{◌⊎◌}
use Rattle.std.proofs.lemmas.List.{append-nil}
use Rattle.std.proofs.lemmas.List.Elements.{All-head, All-tail}
use Rattle.page_spec.specs.PageMap.{PageMap}
use Rattle.engine_spec.specs.declared.commits.Mode.TheVariants.{Concurrent}
use Rattle.engine_spec.specs.declared.commits.Receipt.TheVariants.{ReadOnly}
use Rattle.engine_spec.specs.declared.pins.Ckpt.{Ckpt}
use Rattle.engine_spec.specs.declared.pins.Logs.{Logs}
use Rattle.engine_spec.specs.Change.{laid}
use Rattle.engine_spec.specs.History.{conflict}
use Rattle.page_lines.specs.declared.lines.Act.{Act}
use Rattle.page_lines.specs.declared.lines.Act.TheVariants as act
use Rattle.page_lines.specs.declared.lines.Told.{Told}
use Rattle.page_lines.specs.declared.lines.Told.TheVariants as told
use Rattle.page_lines.specs.World.{World, Outcome, SessionState, Out, Open, Refused, PageTransaction, newest_map, change_of, moved, decided, begin_step, read_step, write_step, commit_step, rollback_step, step, answers_to, world_after}
use Rattle.page_lines.specs.Range.{IsInRange, AreInRange}
use Rattle.page_lines.specs.Exchanges.{Exchange, exchanges, exchanged, is_begin, is_commit, commits_in, accepted}
use Rattle.page_lines.proofs.SerialLaw.{IsWorld, stays, step_keeps}

-- an answer that says nothing of a transaction's pages: the disk failed or had failed, the log is full, or it is about the logs
abbrev pub IsAside : Told → Type 0
IsAside told.Disk = Unit {0}
IsAside (told.Stopped log at) = Unit {0}
IsAside (told.Size pages) = Unit {0}
IsAside (told.Ckpt answer) = Unit {0}
IsAside (told.Logs logs) = Unit {0}
IsAside answer = ⊥

-- a world goes on by this outcome, or stays where the answer is aside
abbrev pub GoesBy : World → Outcome → Told → World → Type 0
GoesBy world outcome answer after = (record { told = answer; world = after } ≡ outcome) ⊎ (IsAside answer × (after ≡ world))

-- how a world goes on in one line
abbrev pub Goes : World → Act → Told → World → Type 0
Goes world asked answer after = GoesBy world (step world asked) answer after

-- and in the lines of a run, one after another
abbrev pub WorldRuns : World → List Act → List Told → World → Type 0
WorldRuns world [] [] after = after ≡ world
WorldRuns world (asked ∷ acts) (answer ∷ answers) after =
    (mid : World) × Goes world asked answer mid × WorldRuns mid acts answers after
WorldRuns world [] (answer ∷ answers) after = ⊥
WorldRuns world (asked ∷ acts) [] after = ⊥

-- the run over whole maps is such a run
pub steps_run : (world : World) (acts : List Act) → WorldRuns world acts (answers_to world acts) (world_after world acts)
steps_run world [] = refl
steps_run world (asked ∷ acts) = ((step world asked).world, inl refl, steps_run (step world asked).world acts)

-- and its exchanges are its acts with their answers
pub exchanged_are : (world : World) (acts : List Act) → exchanged acts (answers_to world acts) ≡ exchanges world acts
exchanged_are world [] = refl
exchanged_are world (asked ∷ acts) =
    ap (λ (others : List Exchange). record { act = asked; told = (step world asked).told } ∷ others)
    (exchanged_are (step world asked).world acts)

-- what holds of each answer that is aside
by_aside : (P : Told → Type 0) → P told.Disk → ((log at : ℕ) → P (told.Stopped log at)) → ((pages : ℕ) → P (told.Size pages))
    → ((answer : Ckpt) → P (told.Ckpt answer)) → ((logs : Logs) → P (told.Logs logs)) → (answer : Told) → IsAside answer → P answer
by_aside P disk stopped size checkpoint logs told.Ok never = absurd never
by_aside P disk stopped size checkpoint logs (told.Byte byte) never = absurd never
by_aside P disk stopped size checkpoint logs (told.Done receipt) never = absurd never
by_aside P disk stopped size checkpoint logs (told.Busy page number) never = absurd never
by_aside P disk stopped size checkpoint logs told.InTransaction never = absurd never
by_aside P disk stopped size checkpoint logs told.NoTransaction never = absurd never
by_aside P disk stopped size checkpoint logs told.MustRollBack never = absurd never
by_aside P disk stopped size checkpoint logs told.Disk aside = disk
by_aside P disk stopped size checkpoint logs (told.Stopped log at) aside = stopped log at
by_aside P disk stopped size checkpoint logs (told.Size pages) aside = size pages
by_aside P disk stopped size checkpoint logs (told.Ckpt answer) aside = checkpoint answer
by_aside P disk stopped size checkpoint logs (told.Logs told_logs) aside = logs told_logs

-- it is no commit, no BEGIN and no statement
aside_no_commit : (answer : Told) → IsAside answer → is_commit answer ≡ false
aside_no_commit answer aside =
    by_aside (λ it. is_commit it ≡ false) refl (λ log at. refl) (λ pages. refl) (λ it. refl) (λ logs. refl) answer aside

aside_no_begin : (session : ℕ) (asked : Act) (answer : Told) → IsAside answer → is_begin session asked answer ≡ false
aside_no_begin session (act.Begin other) answer aside = by_aside (λ it. is_begin session (act.Begin other) it ≡ false)
    refl (λ log at. refl) (λ pages. refl) (λ it. refl) (λ logs. refl) answer aside
aside_no_begin session (act.Read other page) answer aside = refl
aside_no_begin session (act.Write other page byte) answer aside = refl
aside_no_begin session (act.Commit other) answer aside = refl
aside_no_begin session (act.Rollback other) answer aside = refl
aside_no_begin session act.Copy answer aside = refl
aside_no_begin session act.Step answer aside = refl
aside_no_begin session act.Logs answer aside = refl

aside_no_statement : (session : ℕ) (asked : Act) (answer : Told) → IsAside answer → accepted session asked answer ≡ None
aside_no_statement session (act.Begin other) answer aside = refl
aside_no_statement session (act.Read other page) answer aside = by_aside (λ it. accepted session (act.Read other page) it ≡ None)
    refl (λ log at. refl) (λ pages. refl) (λ it. refl) (λ logs. refl) answer aside
aside_no_statement session (act.Write other page byte) answer aside = by_aside (λ it. accepted session (act.Write other page byte) it ≡ None)
    refl (λ log at. refl) (λ pages. refl) (λ it. refl) (λ logs. refl) answer aside
aside_no_statement session (act.Commit other) answer aside = refl
aside_no_statement session (act.Rollback other) answer aside = refl
aside_no_statement session act.Copy answer aside = refl
aside_no_statement session act.Step answer aside = refl
aside_no_statement session act.Logs answer aside = refl

-- a world that goes on in one line keeps what it has to
pub goes_keeps : (s : ℕ) (first : PageMap) (world after : World) (past : List Exchange) (asked : Act) (answer : Told) → IsInRange asked
    → IsWorld s first world past → Goes world asked answer after → IsWorld s first after (record { act = asked; told = answer } ∷ past)
goes_keeps s first world after past asked answer range whole (inl is) =
    subst (λ (outcome : Outcome). IsWorld s first outcome.world (record { act = asked; told = outcome.told } ∷ past)) (sym is)
    (step_keeps s first world past asked range whole)
goes_keeps s first world after past asked answer range whole (inr aside) =
    subst (λ (now : World). IsWorld s first now (record { act = asked; told = answer } ∷ past)) (sym aside.1)
    (stays s first world past (record { act = asked; told = answer }) (aside_no_commit answer aside.0)
    (λ session. aside_no_begin session asked answer aside.0) (λ session. aside_no_statement session asked answer aside.0) whole)

-- so does one after a run
pub run_keeps : (s : ℕ) (first : PageMap) (world after : World) (past : List Exchange) (acts : List Act) (answers : List Told)
    → AreInRange acts → IsWorld s first world past → WorldRuns world acts answers after
    → (later : List Exchange) × IsWorld s first after later
run_keeps s first world after past [] [] range whole same =
    (past, subst (λ (now : World). IsWorld s first now past) (sym same) whole)
run_keeps s first world after past (asked ∷ acts) (answer ∷ answers) range whole (mid, goes, rest) =
    run_keeps s first mid after (record { act = asked; told = answer } ∷ past) acts answers (All-tail IsInRange asked acts range)
    (goes_keeps s first world mid past asked answer (All-head IsInRange asked acts range) whole goes) rest
run_keeps s first world after past [] (answer ∷ answers) range whole never = absurd never
run_keeps s first world after past (asked ∷ acts) [] range whole never = absurd never

-- Maps are added at the end, one for each commit.
pub record Grows (old : List PageMap) (answer : Told) (new : List PageMap) : Type 0 where
  pub more : List PageMap
  pub grown : new ≡ old ++ more
  pub count : length more ≡ cond (is_commit answer) 1 0

rests : (maps : List PageMap) (answer : Told) → is_commit answer ≡ false → Grows maps answer maps
rests maps answer none = record { more = []; grown = sym (append-nil maps); count = sym (ap (λ (test : Bool). cond test 1 0) none) }

decided_grows : (world : World) (session : ℕ) (transaction : PageTransaction) (found : Option (ℕ × ℕ))
    → Grows world.maps (decided world session transaction found).told (decided world session transaction found).world.maps
decided_grows world session transaction None =
    record { more = laid (newest_map world) (change_of world transaction) ∷ []; grown = refl; count = refl }
decided_grows world session transaction (Some found) = rests world.maps _ refl

commit_grows : (world : World) (session : ℕ) (state : SessionState)
    → Grows world.maps (commit_step world session state).told (commit_step world session state).world.maps
commit_grows world session Out = rests world.maps _ refl
commit_grows world session (Open transaction) = by_wrote transaction.wrote
  where
    by_wrote : (wrote : Bool)
        → Grows world.maps
        (cond wrote (decided world session transaction (conflict Concurrent transaction.reads transaction.snap world.history))
        (moved world session Out (told.Done (ReadOnly transaction.snap)))).told
        (cond wrote (decided world session transaction (conflict Concurrent transaction.reads transaction.snap world.history))
        (moved world session Out (told.Done (ReadOnly transaction.snap)))).world.maps
    by_wrote true = decided_grows world session transaction (conflict Concurrent transaction.reads transaction.snap world.history)
    by_wrote false = rests world.maps _ refl
commit_grows world session (Refused transaction) = rests world.maps _ refl

begin_grows : (world : World) (session : ℕ) (state : SessionState)
    → Grows world.maps (begin_step world session state).told (begin_step world session state).world.maps
begin_grows world session Out = rests world.maps _ refl
begin_grows world session (Open transaction) = rests world.maps _ refl
begin_grows world session (Refused transaction) = rests world.maps _ refl

read_grows : (world : World) (session page : ℕ) (state : SessionState)
    → Grows world.maps (read_step world session page state).told (read_step world session page state).world.maps
read_grows world session page Out = rests world.maps _ refl
read_grows world session page (Open transaction) = rests world.maps _ refl
read_grows world session page (Refused transaction) = rests world.maps _ refl

write_grows : (world : World) (session page byte : ℕ) (state : SessionState)
    → Grows world.maps (write_step world session page byte state).told (write_step world session page byte state).world.maps
write_grows world session page byte Out = rests world.maps _ refl
write_grows world session page byte (Open transaction) = rests world.maps _ refl
write_grows world session page byte (Refused transaction) = rests world.maps _ refl

rollback_grows : (world : World) (session : ℕ) (state : SessionState)
    → Grows world.maps (rollback_step world session state).told (rollback_step world session state).world.maps
rollback_grows world session Out = rests world.maps _ refl
rollback_grows world session (Open transaction) = rests world.maps _ refl
rollback_grows world session (Refused transaction) = rests world.maps _ refl

step_grows : (world : World) (asked : Act) → Grows world.maps (step world asked).told (step world asked).world.maps
step_grows world (act.Begin session) = begin_grows world session (world.sessions session)
step_grows world (act.Read session page) = read_grows world session page (world.sessions session)
step_grows world (act.Write session page byte) = write_grows world session page byte (world.sessions session)
step_grows world (act.Commit session) = commit_grows world session (world.sessions session)
step_grows world (act.Rollback session) = rollback_grows world session (world.sessions session)
step_grows world act.Copy = rests world.maps _ refl
step_grows world act.Step = rests world.maps _ refl
step_grows world act.Logs = rests world.maps _ refl

-- and where a world goes on in one line
pub goes_grows : (world after : World) (asked : Act) (answer : Told) → Goes world asked answer after → Grows world.maps answer after.maps
goes_grows world after asked answer (inl is) =
    subst (λ (outcome : Outcome). Grows world.maps outcome.told outcome.world.maps) (sym is) (step_grows world asked)
goes_grows world after asked answer (inr aside) =
    subst (λ (now : World). Grows world.maps answer now.maps) (sym aside.1) (rests world.maps answer (aside_no_commit answer aside.0))

-- the maps of a run, from a world on
pub run_grows : (world after : World) (acts : List Act) (answers : List Told) → WorldRuns world acts answers after
    → (more : List PageMap) × (after.maps ≡ world.maps ++ more) × (length more ≡ commits_in (exchanged acts answers))
run_grows world after [] [] same = ([], ap (λ (now : World). now.maps) same ∙ sym (append-nil world.maps), refl)
run_grows world after (asked ∷ acts) (answer ∷ answers) (mid, goes, rest) =
    let one = goes_grows world mid asked answer goes in
    let others = run_grows mid after acts answers rest in (
      one.more ++ others.0,
      others.1 ∙ (ap (λ (maps : List PageMap). maps ++ others.0) one.grown ∙ append_assoc world.maps one.more others.0),
      length-append one.more others.0 ∙ count (is_commit answer) (length one.more) (length others.0)
          (commits_in (exchanged acts answers)) one.count others.2,
    )
  where
    count : (test : Bool) (some rest commits : ℕ) → some ≡ cond test 1 0 → rest ≡ commits → some + rest ≡ cond test (commits + 1) commits
    count true some rest commits is same = omega (arith, is, same)
    count false some rest commits is same = omega (arith, is, same)
run_grows world after [] (answer ∷ answers) never = absurd never
run_grows world after (asked ∷ acts) [] never = absurd never
