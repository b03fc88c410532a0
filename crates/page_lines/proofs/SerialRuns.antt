-- Each run of page lines over a page store is serial, and the history that it leaves is legal: of each run by which a world goes on, and
-- so of the one over whole maps.
use Rattle.std.proofs.Common.{◌≡◌, ℕ, ◌+◌, ◌-◌, ◌<◌, ◌≤◌, Bool, true, false, cond, List, [], ◌∷◌, ◌++◌, length, Option, Some, None, zero, suc, refl, sym, subst, ap, ◌∙◌, inl, inr, arith, length-append, append_assoc}
use Rattle.std.specs.Prelude.{slice_get, reverse, take}
use Rattle.std.specs.List.{slice_index_or}
use Rattle.std.proofs.lemmas.List.{get_or_append_left, get_or_push, append-nil, reverse-append}
use Rattle.std.proofs.lemmas.List.Elements.{All-head, All-tail}
use Rattle.std.proofs.lemmas.Bool.{false≢true}
use Rattle.std.proofs.lemmas.Option.{none-some, same_Some}
use Rattle.page_spec.specs.PageMap.{PageMap, page_at}
use Rattle.engine_spec.specs.declared.commits.Mode.TheVariants.{Concurrent}
use Rattle.engine_spec.specs.declared.commits.Receipt.TheVariants.{At, ReadOnly}
use Rattle.engine_spec.specs.Change.{laid}
use Rattle.engine_spec.specs.History.{conflict}
use Rattle.engine_spec.proofs.Conflicts.{no_conflict}
use Rattle.page_lines.specs.declared.lines.Act.{Act}
use Rattle.page_lines.specs.declared.lines.Act.TheVariants as act
use Rattle.page_lines.specs.declared.lines.Told.{Told}
use Rattle.page_lines.specs.declared.lines.Told.TheVariants as told
use Rattle.page_lines.specs.PageLines.{page_after}
use Rattle.page_lines.specs.World.{World, Outcome, SessionState, Out, Open, Refused, PageTransaction, newest_map, map_number, change_of, moved, decided, commit_step, step, answers_to, world_after, world_over, zeros, start}
use Rattle.page_lines.specs.Range.{IsInRange, AreInRange}
use Rattle.page_lines.specs.Exchanges.{Exchange, AcceptedStatement, exchanges, exchanged, past_of, is_commit, commits_in, snapshot_of, transaction_of}
use Rattle.page_lines.specs.Serial.{IsToldAlone, IsSerialCommit, IsSerial, statements_in}
use Rattle.page_lines.specs.Legal.{IsLegalFrom}
use Rattle.page_lines.proofs.Alone.{IsStore}
use Rattle.page_lines.proofs.SerialLaw.{IsHeld, IsWorld, agree_since, leaves_laid, newest_store, world_over-is, world_is_legal, zeros_are_store}
use Rattle.page_lines.proofs.WorldRuns.{IsAside, Goes, WorldRuns, steps_run, exchanged_are, goes_keeps, run_keeps, goes_grows, run_grows}

-- an answer that is no commit isn't that of one
no_commit : (answer : Told) (number : ℕ) → is_commit answer ≡ false → answer ≡ told.Done (At number) → ⊥
no_commit answer number none e = false≢true (sym none ∙ ap is_commit e)

-- the number that a COMMIT was told, in each of its two ways
abbrev commit_number : Told → ℕ
commit_number (told.Done (At number)) = number
commit_number answer = 0

abbrev read_number : Told → Option ℕ
read_number (told.Done (ReadOnly number)) = Some number
read_number answer = None

same_commit : (a b : ℕ) → told.Done (At a) ≡ told.Done (At b) → a ≡ b
same_commit a b e = ap commit_number e

no_read : (answer : Told) (number : ℕ) → read_number answer ≡ None → answer ≡ told.Done (ReadOnly number) → ⊥
no_read answer number none e = none-some number (sym none ∙ ap read_number e)

-- COMMIT that nothing bars has the next number, and its transaction is serial as that commit
decided_serial : (s : ℕ) (first : PageMap) (world : World) (past : List Exchange) (session number : ℕ) (transaction : PageTransaction)
    (found : Option (ℕ × ℕ)) → conflict Concurrent transaction.reads transaction.snap world.history ≡ found
    → IsHeld s world.maps (snapshot_of session past) (transaction_of session past) (Open transaction) → IsWorld s first world past
    → (decided world session transaction found).told ≡ told.Done (At number)
    → (number ≡ commits_in past + 1) × IsSerialCommit (decided world session transaction found).world.maps number (transaction_of session past)
decided_serial s first world past session number transaction (Some found) is held whole told = absurd (no_commit _ number refl told)
decided_serial s first world past session number transaction None is held whole told =
    let next = laid (newest_map world) (change_of world transaction) in
    let done = transaction_of session past in
    let number_is : number ≡ length world.history + 1 = sym (same_commit (length world.history + 1) number told) in
    let within : transaction.snap ≤ length world.history = omega (arith, held.1, whole.maps_count) in
    let sound = newest_store s first world past whole in
    let agree = agree_since s first world past whole transaction.snap within transaction.reads
    (no_conflict Concurrent transaction.reads transaction.snap world.history is) in
    let before : number - 1 ≡ length world.history = omega (arith, number_is) in
    let old : slice_index_or (world.maps ++ next ∷ []) (number - 1) [] ≡ newest_map world =
    ap (λ (k : ℕ). slice_index_or (world.maps ++ next ∷ []) k []) before
    ∙ get_or_append_left world.maps (next ∷ []) [] (length world.history) (omega (arith, whole.maps_count)) in
    let new : slice_index_or (world.maps ++ next ∷ []) number [] ≡ next =
    get_or_push world.maps next [] number (omega (arith, number_is, whole.maps_count)) in (
      omega (arith, number_is, whole.commits_count),
      record {
        alone = subst (λ (pages : PageMap). IsToldAlone pages done) (sym old) (held.2.alone (newest_map world) sound agree);
        leaves = λ page low high.
            ap (λ (pages : PageMap). page_at pages page) new
            ∙ (leaves_laid s world transaction done (map_number world transaction.snap) (newest_map world) sound held.2 page low high
            ∙ ap (λ (pages : PageMap). page_after page (statements_in done) (page_at pages page)) (sym old));
      },
    )

commit_serial : (s : ℕ) (first : PageMap) (world : World) (past : List Exchange) (session number : ℕ) (state : SessionState)
    → IsHeld s world.maps (snapshot_of session past) (transaction_of session past) state → IsWorld s first world past
    → (commit_step world session state).told ≡ told.Done (At number)
    → (number ≡ commits_in past + 1) × IsSerialCommit (commit_step world session state).world.maps number (transaction_of session past)
commit_serial s first world past session number Out held whole = λ is_told. absurd (no_commit _ number refl is_told)
commit_serial s first world past session number (Open transaction) held whole = by_wrote transaction.wrote
  where
    by_wrote : (wrote : Bool)
        → (cond wrote (decided world session transaction (conflict Concurrent transaction.reads transaction.snap world.history))
        (moved world session Out (told.Done (ReadOnly transaction.snap)))).told ≡ told.Done (At number)
        → (number ≡ commits_in past + 1) × IsSerialCommit
        (cond wrote (decided world session transaction (conflict Concurrent transaction.reads transaction.snap world.history))
        (moved world session Out (told.Done (ReadOnly transaction.snap)))).world.maps number (transaction_of session past)
    by_wrote true = decided_serial s first world past session number transaction
        (conflict Concurrent transaction.reads transaction.snap world.history) refl held whole
    by_wrote false = λ told. absurd (no_commit _ number refl told)
commit_serial s first world past session number (Refused transaction) held whole = λ is_told. absurd (no_commit _ number refl is_told)

-- COMMIT of a transaction that wrote nothing names its snapshot
decided_reads : (world : World) (session number : ℕ) (transaction : PageTransaction) (found : Option (ℕ × ℕ))
    → (decided world session transaction found).told ≡ told.Done (ReadOnly number) → ⊥
decided_reads world session number transaction None told = no_read _ number refl told
decided_reads world session number transaction (Some found) told = no_read _ number refl told

commit_reads : (s : ℕ) (world : World) (snap : ℕ) (done : List AcceptedStatement) (session number : ℕ) (state : SessionState)
    → IsHeld s world.maps snap done state → (commit_step world session state).told ≡ told.Done (ReadOnly number) → number ≡ snap
commit_reads s world snap done session number Out held = λ is_told. absurd (no_read _ number refl is_told)
commit_reads s world snap done session number (Open transaction) held = by_wrote transaction.wrote
  where
    by_wrote : (wrote : Bool)
        → (cond wrote (decided world session transaction (conflict Concurrent transaction.reads transaction.snap world.history))
        (moved world session Out (told.Done (ReadOnly transaction.snap)))).told ≡ told.Done (ReadOnly number) → number ≡ snap
    by_wrote true = λ told. absurd (decided_reads world session number transaction
        (conflict Concurrent transaction.reads transaction.snap world.history) told)
    by_wrote false = λ told. sym (same_Some transaction.snap number (ap read_number told)) ∙ sym held.0
commit_reads s world snap done session number (Refused transaction) held = λ is_told. absurd (no_read _ number refl is_told)

-- a commit stays serial among more maps
serial_more : (maps more all : List PageMap) (number : ℕ) (done : List AcceptedStatement) → all ≡ maps ++ more → number < length maps
    → IsSerialCommit maps number done → IsSerialCommit all number done
serial_more maps more all number done grown within serial =
    let same : (k : ℕ) → k ≤ number → slice_index_or all k [] ≡ slice_index_or maps k [] =
    λ k low. ap (λ (these : List PageMap). slice_index_or these k []) grown
    ∙ get_or_append_left maps more [] k (omega arith) in
    record {
      alone = subst (λ (pages : PageMap). IsToldAlone pages done) (sym (same (number - 1) (omega arith))) serial.alone;
      leaves = λ page low high.
          ap (λ (pages : PageMap). page_at pages page) (same number (omega arith))
          ∙ (serial.leaves page low high
          ∙ ap (λ (pages : PageMap). page_after page (statements_in done) (page_at pages page)) (sym (same (number - 1) (omega arith))));
    }

-- The same as `IsSerial` says at each moment, of a run from some moment on, with the past before it.
pub record IsSerialOn (maps : List PageMap) (past run : List Exchange) : Type 0 where
  pub commits : (moment session number : ℕ) → slice_get run moment ≡ Some (record { act = act.Commit session; told = told.Done (At number) })
      → (number ≡ commits_in (reverse (take moment run) ++ past) + 1)
      × IsSerialCommit maps number (transaction_of session (reverse (take moment run) ++ past))
  pub snapshots : (moment session : ℕ)
      → IsToldAlone (slice_index_or maps (snapshot_of session (reverse (take moment run) ++ past)) [])
      (transaction_of session (reverse (take moment run) ++ past))
  pub read_only : (moment session number : ℕ)
      → slice_get run moment ≡ Some (record { act = act.Commit session; told = told.Done (ReadOnly number) })
      → number ≡ snapshot_of session (reverse (take moment run) ++ past)

-- the past with one exchange more
past_more : (one : Exchange) (run past : List Exchange) (moment : ℕ)
    → reverse (take (suc moment) (one ∷ run)) ++ past ≡ reverse (take moment run) ++ (one ∷ past)
past_more one run past moment =
    ap (λ (all : List Exchange). all ++ past) (reverse-append (one ∷ []) (take moment run))
    ∙ append_assoc (reverse (take moment run)) (one ∷ []) past

-- what was told alone among some maps was so among more
snapshot_stays : (s : ℕ) (first : PageMap) (world : World) (past : List Exchange) (more all : List PageMap) (session : ℕ)
    → IsWorld s first world past → all ≡ world.maps ++ more
    → IsToldAlone (slice_index_or all (snapshot_of session past) []) (transaction_of session past)
snapshot_stays s first world past more all session whole grown =
    subst (λ (pages : PageMap). IsToldAlone pages (transaction_of session past))
    (sym (ap (λ (these : List PageMap). slice_index_or these (snapshot_of session past) []) grown
    ∙ get_or_append_left world.maps more [] (snapshot_of session past) (whole.alone session).0))
    (whole.alone session).1

-- a COMMIT here, among the maps to come
commit_here : (s : ℕ) (first : PageMap) (world mid : World) (past : List Exchange) (asked : Act) (answer : Told) (more all : List PageMap)
    (session number : ℕ) → IsWorld s first world past → Goes world asked answer mid → all ≡ mid.maps ++ more → asked ≡ act.Commit session
    → answer ≡ told.Done (At number) → (number ≡ commits_in past + 1) × IsSerialCommit all number (transaction_of session past)
commit_here s first world mid past asked answer more all session number whole (inr aside) grown is is_told =
    absurd (subst IsAside is_told aside.0)
commit_here s first world mid past asked answer more all session number whole (inl goes) grown is is_told =
    let same : record { told = answer; world = mid } ≡ step world (act.Commit session) = subst (λ (it : Act).
    record { told = answer; world = mid } ≡ step world it) is goes in
    let here : (number ≡ commits_in past + 1) × IsSerialCommit mid.maps number (transaction_of session past) =
    subst (λ (outcome : Outcome). outcome.told ≡ told.Done (At number)
    → (number ≡ commits_in past + 1) × IsSerialCommit outcome.world.maps number (transaction_of session past)) (sym same)
    (commit_serial s first world past session number (world.sessions session) (whole.held session) whole) is_told in
    let one = goes_grows world mid asked answer (inl goes) in
    let added : length one.more ≡ 1 = one.count ∙ ap (λ (it : Told). cond (is_commit it) 1 0) is_told in
    let within : number < length mid.maps =
    omega (arith, here.0, whole.commits_count, whole.maps_count, ap length one.grown, length-append world.maps one.more, added) in
    (here.0, serial_more mid.maps more all number (transaction_of session past) grown within here.1)

read_here : (s : ℕ) (first : PageMap) (world mid : World) (past : List Exchange) (asked : Act) (answer : Told) (session number : ℕ)
    → IsWorld s first world past → Goes world asked answer mid → asked ≡ act.Commit session → answer ≡ told.Done (ReadOnly number)
    → number ≡ snapshot_of session past
read_here s first world mid past asked answer session number whole (inr aside) is is_told = absurd (subst IsAside is_told aside.0)
read_here s first world mid past asked answer session number whole (inl goes) is is_told =
    let same : record { told = answer; world = mid } ≡ step world (act.Commit session) = subst (λ (it : Act).
    record { told = answer; world = mid } ≡ step world it) is goes in
    commit_reads s world (snapshot_of session past) (transaction_of session past) session number (world.sessions session)
    (whole.held session) (sym (ap (λ (outcome : Outcome). outcome.told) same) ∙ is_told)

-- a run with one line more at its front
serial_first : (s : ℕ) (first : PageMap) (world mid after : World) (past : List Exchange) (asked : Act) (answer : Told) (acts : List Act)
    (answers : List Told) → IsWorld s first world past → Goes world asked answer mid → WorldRuns mid acts answers after
    → IsSerialOn after.maps (record { act = asked; told = answer } ∷ past) (exchanged acts answers)
    → IsSerialOn after.maps past (exchanged (asked ∷ acts) (answer ∷ answers))
serial_first s first world mid after past asked answer acts answers whole goes runs onward =
    record { commits = commits; snapshots = snapshots; read_only = read_only }
  where
    one : Exchange
    one = record { act = asked; told = answer }

    rest : List Exchange
    rest = exchanged acts answers

    maps : List PageMap
    maps = after.maps

    commits : (moment session number : ℕ)
        → slice_get (one ∷ rest) moment ≡ Some (record { act = act.Commit session; told = told.Done (At number) })
        → (number ≡ commits_in (reverse (take moment (one ∷ rest)) ++ past) + 1)
        × IsSerialCommit maps number (transaction_of session (reverse (take moment (one ∷ rest)) ++ past))
    commits zero session number is =
        let same = same_Some one (record { act = act.Commit session; told = told.Done (At number) }) is in
        let grown = run_grows mid after acts answers runs in
        commit_here s first world mid past asked answer grown.0 maps session number whole goes grown.1 (ap (λ (it : Exchange). it.act) same)
        (ap (λ (it : Exchange). it.told) same)
    commits (suc moment) session number is =
        subst (λ (all : List Exchange). (number ≡ commits_in all + 1) × IsSerialCommit maps number (transaction_of session all))
        (sym (past_more one rest past moment)) (onward.commits moment session number is)

    snapshots : (moment session : ℕ)
        → IsToldAlone (slice_index_or maps (snapshot_of session (reverse (take moment (one ∷ rest)) ++ past)) [])
        (transaction_of session (reverse (take moment (one ∷ rest)) ++ past))
    snapshots zero session =
        let grown = run_grows world after (asked ∷ acts) (answer ∷ answers) (mid, goes, runs) in
        snapshot_stays s first world past grown.0 maps session whole grown.1
    snapshots (suc moment) session =
        subst (λ (all : List Exchange). IsToldAlone (slice_index_or maps (snapshot_of session all) []) (transaction_of session all))
        (sym (past_more one rest past moment)) (onward.snapshots moment session)

    read_only : (moment session number : ℕ)
        → slice_get (one ∷ rest) moment ≡ Some (record { act = act.Commit session; told = told.Done (ReadOnly number) })
        → number ≡ snapshot_of session (reverse (take moment (one ∷ rest)) ++ past)
    read_only zero session number is =
        let same = same_Some one (record { act = act.Commit session; told = told.Done (ReadOnly number) }) is in
        read_here s first world mid past asked answer session number whole goes (ap (λ (it : Exchange). it.act) same)
        (ap (λ (it : Exchange). it.told) same)
    read_only (suc moment) session number is =
        subst (λ (all : List Exchange). number ≡ snapshot_of session all) (sym (past_more one rest past moment))
        (onward.read_only moment session number is)

-- no lines from a world on
serial_none : (s : ℕ) (first : PageMap) (world : World) (past : List Exchange) → IsWorld s first world past → IsSerialOn world.maps past []
serial_none s first world past whole = record {
  commits = λ moment session number is. absurd (none-some _ is);
  snapshots = by_moment;
  read_only = λ moment session number is. absurd (none-some _ is);
}
  where
    by_moment : (moment session : ℕ)
        → IsToldAlone (slice_index_or world.maps (snapshot_of session (reverse (take {A = Exchange} moment []) ++ past)) [])
        (transaction_of session (reverse (take moment []) ++ past))
    by_moment zero session = (whole.alone session).1
    by_moment (suc moment) session = (whole.alone session).1

-- whatever lines are run on from a world
serial_on : (s : ℕ) (first : PageMap) (world after : World) (past : List Exchange) (acts : List Act) (answers : List Told) → AreInRange acts
    → IsWorld s first world past → WorldRuns world acts answers after → IsSerialOn after.maps past (exchanged acts answers)
serial_on s first world after past [] [] range whole same =
    subst (λ (now : World). IsSerialOn now.maps past []) (sym same) (serial_none s first world past whole)
serial_on s first world after past (asked ∷ acts) (answer ∷ answers) range whole (mid, goes, rest) =
    serial_first s first world mid after past asked answer acts answers whole goes rest
    (serial_on s first mid after (record { act = asked; told = answer } ∷ past) acts answers (All-tail IsInRange asked acts range)
    (goes_keeps s first world mid past asked answer (All-head IsInRange asked acts range) whole goes) rest)
serial_on s first world after past [] (answer ∷ answers) range whole never = absurd never
serial_on s first world after past (asked ∷ acts) [] range whole never = absurd never

-- whatever lines are run over a page store, their run is serial from there
pub run_is_serial : (s : ℕ) (first : PageMap) → IsStore s first → (after : World) (acts : List Act) (answers : List Told) → AreInRange acts
    → WorldRuns (world_over first) acts answers after → IsSerial first (exchanged acts answers)
run_is_serial s first sound after acts answers range runs =
    let run = exchanged acts answers in
    let on = serial_on s first (world_over first) after [] acts answers range (world_over-is s first sound) runs in
    let grown = run_grows (world_over first) after acts answers runs in
    let bare : (moment : ℕ) → reverse (take moment run) ++ [] ≡ past_of run moment = λ moment. append-nil (past_of run moment) in
    record {
      maps = after.maps;
      begins = ap (λ (maps : List PageMap). slice_get maps 0) grown.1;
      count = ap length grown.1 ∙ omega (arith, grown.2, length-append (first ∷ []) grown.0);
      commits = λ moment session number is.
          subst (λ (past : List Exchange). (number ≡ commits_in past + 1)
          × IsSerialCommit after.maps number (transaction_of session past)) (bare moment)
          (on.commits moment session number is);
      snapshots = λ moment session.
          subst (λ (past : List Exchange). IsToldAlone (slice_index_or after.maps (snapshot_of session past) [])
          (transaction_of session past)) (bare moment) (on.snapshots moment session);
      read_only = λ moment session number is.
          subst (λ (past : List Exchange). number ≡ snapshot_of session past) (bare moment) (on.read_only moment session number is);
    }

-- and the history that they leave is legal
pub run_is_legal : (s : ℕ) (first : PageMap) → IsStore s first → (after : World) (acts : List Act) (answers : List Told) → AreInRange acts
    → WorldRuns (world_over first) acts answers after → IsLegalFrom first after
run_is_legal s first sound after acts answers range runs =
    let later = run_keeps s first (world_over first) after [] acts answers range (world_over-is s first sound) runs in
    world_is_legal s first after later.0 later.1

-- whatever acts are run over whole maps, the world after them keeps what it has to
pub after_keeps : (s : ℕ) (first : PageMap) (world : World) (past : List Exchange) (acts : List Act) → AreInRange acts
    → IsWorld s first world past → (later : List Exchange) × IsWorld s first (world_after world acts) later
after_keeps s first world past acts range whole =
    run_keeps s first world (world_after world acts) past acts (answers_to world acts) range whole (steps_run world acts)

-- their run over a page store is serial from there
pub serial_over : (s : ℕ) (first : PageMap) → IsStore s first → (acts : List Act) → AreInRange acts
    → IsSerial first (exchanges (world_over first) acts)
serial_over s first sound acts range =
    let world = world_over first in
    subst (IsSerial first) (exchanged_are world acts)
    (run_is_serial s first sound (world_after world acts) acts (answers_to world acts) range (steps_run world acts))

-- and over the map of a page store in memory
pub serial_from_start : (acts : List Act) → AreInRange acts → IsSerial zeros (exchanges start acts)
serial_from_start acts range = serial_over 4096 zeros zeros_are_store acts range

-- the history that it leaves is legal
pub legal_from_start : (acts : List Act) → AreInRange acts → IsLegalFrom zeros (world_after start acts)
legal_from_start acts range =
    run_is_legal 4096 zeros zeros_are_store (world_after start acts) acts (answers_to start acts) range (steps_run start acts)
