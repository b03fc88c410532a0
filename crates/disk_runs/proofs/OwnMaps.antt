-- Each map of a run has a page 1 with the header of this program's stores.
use Rattle.std.proofs.Common.{◌≡◌, ◌∙◌, inl, inr, ℕ, ◌*◌, ◌≤◌, max, Bool, true, false, cond, List, [], ◌∷◌, ◌++◌, length, Option, Some, None, refl, sym, subst, ap, arith}
use Rattle.std.specs.Prelude.{All}
use Rattle.std.proofs.lemmas.List.Elements.{All-nil, All-cons, All-append, All-head, All-tail, All-contains}
use Rattle.page_spec.specs.Header.{pages_in}
use Rattle.page_spec.specs.PageMap.{PageMap, page_at}
use Rattle.disk_face.specs.Files.{Files}
use Rattle.disk_face.specs.Steps.{History}
use Rattle.crash_spec.specs.Moments.{AtEachMoment}
use Rattle.crash_spec.specs.Opening.{Opening, rebased}
use Rattle.crash_spec.specs.Recovered.{recovered, size_of_first}
use Rattle.crash_spec.proofs.Moments.{each_weaker}
use Rattle.engine_spec.specs.declared.commits.Mode.TheVariants.{Concurrent}
use Rattle.engine_spec.specs.declared.commits.Receipt.TheVariants.{ReadOnly}
use Rattle.engine_spec.specs.Change.{laid, put_pages, with_header, stamped}
use Rattle.engine_spec.specs.History.{conflict}
use Rattle.engine_spec.specs.Leaves.{RecoversOneOf, kept_map}
use Rattle.engine_spec.specs.State.{Stop}
use Rattle.engine_spec.proofs.Laying.{laid-put, put_pages-length, put_pages-other}
use Rattle.page_lines.specs.declared.lines.Act.{Act}
use Rattle.page_lines.specs.declared.lines.Act.TheVariants as act
use Rattle.page_lines.specs.declared.lines.Told.{Told}
use Rattle.page_lines.specs.declared.lines.Told.TheVariants as told
use Rattle.page_lines.specs.Exchanges.{Exchange, snapshot_of, transaction_of}
use Rattle.page_lines.specs.PageLines.{AreImages}
use Rattle.page_lines.specs.Range.{IsInRange, AreInRange}
use Rattle.page_lines.specs.World.{World, Outcome, SessionState, Out, Open, Refused, PageTransaction, newest_map, change_of, moved, decided, begin_step, read_step, write_step, commit_step, rollback_step, step, world_over}
use Rattle.page_lines.specs.Logged.{LoggedWorld, LoggedOutcome, FailsToRead, FailsToCommit, FailsToCopy, FailsIn, DiskPast, LineAnswers, Lines, may_leave_since}
use Rattle.page_lines.proofs.Alone.{IsStore}
use Rattle.page_lines.proofs.GoodLines.{first_absent}
use Rattle.page_lines.proofs.SerialLaw.{IsWorld, IsHeld, laid_is_store, world_over-is}
use Rattle.page_lines.proofs.WorldRuns.{Goes, goes_keeps}
use Rattle.page_lines.proofs.LoggedRuns.{answers_go}
use Rattle.page_lines.proofs.LoggedLeaves.{step_stop}
use Rattle.reopening.proofs.Reopened.{reopened}
use Rattle.reopening.proofs.Stamps.{IsOwnFirst, stamped_own}
use Rattle.disk_runs.specs.OnDisk.{OpensAgain}

-- a map of a run over pages of this size
pub record IsOwnMap (s : ℕ) (pages : PageMap) : Type 0 where
  pub store : IsStore s pages
  pub own : IsOwnFirst s (page_at pages 1)

header_first : (pages : PageMap) → 1 ≤ length pages → page_at (with_header pages) 1 ≡ stamped (length pages) (page_at pages 1)
header_first [] some = absurd (omega arith)
header_first (page ∷ pages) some = refl

-- a commit of page lines stamps page 1 and leaves all else of it
laid_page_1 : (s : ℕ) (world : World) (transaction : PageTransaction) (pages : PageMap) → AreImages s transaction.changed → length pages ≡ 16
    → page_at (laid pages (change_of world transaction)) 1 ≡ stamped 16 (page_at pages 1)
laid_page_1 s world transaction pages images count =
    let put : PageMap = put_pages Concurrent false pages transaction.changed in
    let long : length put ≡ 16 = put_pages-length Concurrent false pages transaction.changed ∙ count in
    ap (λ (map : PageMap). page_at map 1) (laid-put pages (change_of world transaction) refl)
    ∙ header_first put (omega (arith, long))
    ∙ ap (λ (n : ℕ). stamped n (page_at put 1)) long
    ∙ ap (stamped 16)
    (put_pages-other Concurrent false pages transaction.changed 1 (λ k d within. (let low = (images.in_range k d within).0 in omega arith)) (first_absent transaction.changed s images))

laid_own : (s : ℕ) (world : World) (transaction : PageTransaction) (pages : PageMap) → AreImages s transaction.changed → IsOwnMap s pages
    → IsOwnMap s (laid pages (change_of world transaction))
laid_own s world transaction pages images is =
    let same = laid_page_1 s world transaction pages images is.store.store.count in
    record {
      store = laid_is_store s world transaction pages images is.store;
      own = subst (λ (page : List ℕ). IsOwnFirst s page) (sym same) (stamped_own s 16 (page_at pages 1) is.own);
    }

-- what a COMMIT lays over the newest map, in a world of such maps
newest_own : (s : ℕ) (first : PageMap) (world : World) (past : List Exchange) → IsWorld s first world past → All (IsOwnMap s) world.maps → IsOwnMap s (newest_map world)
newest_own s first world past whole all =
    let count = whole.maps_count in all (length world.history) [] (omega (arith, count))

commit_own : (s : ℕ) (first : PageMap) (world : World) (past : List Exchange) (session : ℕ) (transaction : PageTransaction) → IsWorld s first world past → All (IsOwnMap s) world.maps
    → world.sessions session ≡ Open transaction → IsOwnMap s (laid (newest_map world) (change_of world transaction))
commit_own s first world past session transaction whole all is =
    let held = subst (λ (state : SessionState). IsHeld s world.maps (snapshot_of session past) (transaction_of session past) state) is (whole.held session) in
    laid_own s world transaction (newest_map world) held.2.images (newest_own s first world past whole all)

-- what holds of each map of a world, and of what a COMMIT lays, holds of each map after a line
module _ (P : PageMap → Type 0) where
  begin_maps : (world : World) (session : ℕ) (state : SessionState) → All P world.maps → All P (begin_step world session state).world.maps
  begin_maps world session Out all = all
  begin_maps world session (Open transaction) all = all
  begin_maps world session (Refused transaction) all = all

  read_maps : (world : World) (session page : ℕ) (state : SessionState) → All P world.maps → All P (read_step world session page state).world.maps
  read_maps world session page Out all = all
  read_maps world session page (Open transaction) all = all
  read_maps world session page (Refused transaction) all = all

  write_maps : (world : World) (session page byte : ℕ) (state : SessionState) → All P world.maps → All P (write_step world session page byte state).world.maps
  write_maps world session page byte Out all = all
  write_maps world session page byte (Open transaction) all = all
  write_maps world session page byte (Refused transaction) all = all

  rollback_maps : (world : World) (session : ℕ) (state : SessionState) → All P world.maps → All P (rollback_step world session state).world.maps
  rollback_maps world session Out all = all
  rollback_maps world session (Open transaction) all = all
  rollback_maps world session (Refused transaction) all = all

  decided_maps : (world : World) (session : ℕ) (transaction : PageTransaction) (found : Option (ℕ × ℕ)) → P (laid (newest_map world) (change_of world transaction)) → All P world.maps
      → All P (decided world session transaction found).world.maps
  decided_maps world session transaction None next all =
      All-append P world.maps (laid (newest_map world) (change_of world transaction) ∷ []) all (All-cons P (laid (newest_map world) (change_of world transaction)) [] next (All-nil P))
  decided_maps world session transaction (Some found) next all = all

  commit_maps : (world : World) (session : ℕ) (state : SessionState)
      → ((transaction : PageTransaction) → state ≡ Open transaction → P (laid (newest_map world) (change_of world transaction))) → All P world.maps
      → All P (commit_step world session state).world.maps
  commit_maps world session Out next all = all
  commit_maps world session (Open transaction) next all = by_wrote transaction.wrote
    where
      by_wrote : (wrote : Bool) → All P
          (cond wrote (decided world session transaction (conflict Concurrent transaction.reads transaction.snap world.history))
          (moved world session Out (told.Done (ReadOnly transaction.snap)))).world.maps
      by_wrote true = decided_maps world session transaction (conflict Concurrent transaction.reads transaction.snap world.history) (next transaction refl) all
      by_wrote false = all
  commit_maps world session (Refused transaction) next all = all

  step_maps : (world : World) → ((session : ℕ) (transaction : PageTransaction) → world.sessions session ≡ Open transaction → P (laid (newest_map world) (change_of world transaction)))
      → All P world.maps → (asked : Act) → All P (step world asked).world.maps
  step_maps world next all (act.Begin session) = begin_maps world session (world.sessions session) all
  step_maps world next all (act.Read session page) = read_maps world session page (world.sessions session) all
  step_maps world next all (act.Write session page byte) = write_maps world session page byte (world.sessions session) all
  step_maps world next all (act.Commit session) = commit_maps world session (world.sessions session) (next session) all
  step_maps world next all (act.Rollback session) = rollback_maps world session (world.sessions session) all
  step_maps world next all act.Copy = all
  step_maps world next all act.Step = all
  step_maps world next all act.Logs = all

  goes_maps : (world after : World) (asked : Act) (answer : Told)
      → ((session : ℕ) (transaction : PageTransaction) → world.sessions session ≡ Open transaction → P (laid (newest_map world) (change_of world transaction)))
      → All P world.maps → Goes world asked answer after → All P after.maps
  goes_maps world after asked answer next all (inl is) = subst (λ (outcome : Outcome). All P outcome.world.maps) (sym is) (step_maps world next all asked)
  goes_maps world after asked answer next all (inr aside) = subst (λ (now : World). All P now.maps) (sym aside.1) all

  -- and so does the one of a COMMIT whose log write failed
  same_kept : (before after : LoggedWorld) → after.stopped ≡ before.stopped → All P (kept_map before.stopped) → All P (kept_map after.stopped)
  same_kept before after same all = subst (λ (stop : Option Stop). All P (kept_map stop)) (sym same) all

  read_kept : (before : LoggedWorld) (page : ℕ) (state : SessionState) (after : LoggedWorld) → FailsToRead before page state after → All P (kept_map before.stopped)
      → All P (kept_map after.stopped)
  read_kept before page Out after never all = absurd never
  read_kept before page (Open transaction) after fails all = same_kept before after (ap (λ (logged : LoggedWorld). logged.stopped) fails.1) all
  read_kept before page (Refused transaction) after never all = absurd never

  commit_kept : (before : LoggedWorld) (state : SessionState)
      → ((transaction : PageTransaction) → state ≡ Open transaction → P (laid (newest_map before.world) (change_of before.world transaction)))
      → (after : LoggedWorld) → FailsToCommit before state after → All P (kept_map before.stopped) → All P (kept_map after.stopped)
  commit_kept before Out next after never all = absurd never
  commit_kept before (Open transaction) next after fails all = elim (fails.left) [
    | inl same ↦ same_kept before after (ap (λ (logged : LoggedWorld). logged.stopped) same) all
    | inr stops ↦
        subst (λ (logged : LoggedWorld). All P (kept_map logged.stopped)) (sym stops.after_is)
        (All-cons P (laid (newest_map before.world) (change_of before.world transaction)) [] (next transaction refl) (All-nil P))
  ]
  commit_kept before (Refused transaction) next after never all = absurd never

  copy_kept : (before after : LoggedWorld) → FailsToCopy before after → All P (kept_map before.stopped) → All P (kept_map after.stopped)
  copy_kept before after (inl same) all = same_kept before after (ap (λ (logged : LoggedWorld). logged.stopped) same) all
  copy_kept before after (inr (page, copied, is)) all = same_kept before after (ap (λ (logged : LoggedWorld). logged.stopped) is) all

  fails_kept : (before : LoggedWorld)
      → ((session : ℕ) (transaction : PageTransaction) → before.world.sessions session ≡ Open transaction → P (laid (newest_map before.world) (change_of before.world transaction)))
      → (asked : Act) (after : LoggedWorld) → FailsIn before asked after → All P (kept_map before.stopped) → All P (kept_map after.stopped)
  fails_kept before next (act.Begin session) after never all = absurd never
  fails_kept before next (act.Read session page) after fails all = read_kept before page (before.world.sessions session) after fails all
  fails_kept before next (act.Write session page byte) after never all = absurd never
  fails_kept before next (act.Commit session) after fails all = commit_kept before (before.world.sessions session) (next session) after fails all
  fails_kept before next (act.Rollback session) after never all = absurd never
  fails_kept before next act.Copy after fails all = copy_kept before after fails all
  fails_kept before next act.Step after same all = same_kept before after (ap (λ (logged : LoggedWorld). logged.stopped) same) all
  fails_kept before next act.Logs after never all = absurd never

  answers_kept : (before : LoggedWorld)
      → ((session : ℕ) (transaction : PageTransaction) → before.world.sessions session ≡ Open transaction → P (laid (newest_map before.world) (change_of before.world transaction)))
      → (faults : ℕ) (asked : Act) (answer : Told) (after : LoggedWorld) (faults_then : ℕ) → LineAnswers before faults asked answer after faults_then
      → All P (kept_map before.stopped) → All P (kept_map after.stopped)
  answers_kept before next faults asked answer after faults_then (inl (is, same)) all =
      same_kept before after (ap (λ (outcome : LoggedOutcome). outcome.after.stopped) is ∙ step_stop before asked) all
  answers_kept before next faults asked answer after faults_then (inr (is, fails, rose)) all = fails_kept before next asked after fails all

-- in the lines of a run
lines_own : (s : ℕ) (first : PageMap) (opened : Opening → Type 0) (before : LoggedWorld) (past : List Exchange) (disk disk_then : DiskPast) (acts : List Act) (answers : List Told)
    (after : LoggedWorld) → AreInRange acts → IsWorld s first before.world past → All (IsOwnMap s) before.world.maps → All (IsOwnMap s) (kept_map before.stopped)
    → Lines opened before disk acts answers after disk_then → All (IsOwnMap s) after.world.maps × All (IsOwnMap s) (kept_map after.stopped)
lines_own s first opened before past disk disk_then [] [] after range whole all kept lines =
    subst (λ (logged : LoggedWorld). All (IsOwnMap s) logged.world.maps × All (IsOwnMap s) (kept_map logged.stopped)) (sym lines.0) (all, kept)
lines_own s first opened before past disk disk_then (asked ∷ acts) (answer ∷ answers) after range whole all kept (mid, disk_mid, line, rest) =
    let next : (session : ℕ) (transaction : PageTransaction) → before.world.sessions session ≡ Open transaction
    → IsOwnMap s (laid (newest_map before.world) (change_of before.world transaction)) =
    λ session transaction is. commit_own s first before.world past session transaction whole all is in
    let goes : Goes before.world asked answer mid.world = answers_go before disk.faults asked answer mid disk_mid.faults line.answers in
    lines_own s first opened mid (record { act = asked; told = answer } ∷ past) disk_mid disk_then acts answers after (All-tail IsInRange asked acts range)
    (goes_keeps s first before.world mid.world past asked answer (All-head IsInRange asked acts range) whole goes)
    (goes_maps (IsOwnMap s) before.world mid.world asked answer next all goes)
    (answers_kept (IsOwnMap s) before next disk.faults asked answer mid disk_mid.faults line.answers kept) rest
lines_own s first opened before past disk disk_then [] (answer ∷ answers) after range whole all kept never = absurd never
lines_own s first opened before past disk disk_then (asked ∷ acts) [] after range whole all kept never = absurd never

-- so each map that a crash may leave of a run is such a map
pub run_own : (s : ℕ) (first : PageMap) → IsStore s first → IsOwnFirst s (page_at first 1) → (opened : Opening → Type 0) (before : LoggedWorld) → before.world ≡ world_over first
    → before.stopped ≡ None → (disk disk_then : DiskPast) (acts : List Act) (answers : List Told) (after : LoggedWorld) → AreInRange acts → Lines opened before disk acts answers after disk_then
    → All (IsOwnMap s) (may_leave_since 0 after)
run_own s first sound own opened before over none disk disk_then acts answers after range lines =
    let own_first : IsOwnMap s first = record { store = sound; own = own } in
    let both = lines_own s first opened before [] disk disk_then acts answers after range
    (subst (λ (world : World). IsWorld s first world []) (sym over) (world_over-is s first sound))
    (subst (λ (world : World). All (IsOwnMap s) world.maps) (sym over) (All-cons (IsOwnMap s) first [] own_first (All-nil (IsOwnMap s))))
    (subst (λ (stop : Option Stop). All (IsOwnMap s) (kept_map stop)) (sym none) (All-nil (IsOwnMap s))) lines in
    All-append (IsOwnMap s) after.world.maps (kept_map after.stopped) both.0 both.1

-- and an image that recovers to it is opened again
own_opens : (s : ℕ) (opening : Opening) (told : History) (maps : List PageMap) → All (IsOwnMap s) maps → (image : Files) → RecoversOneOf opening maps told image
    → OpensAgain opening told image
own_opens s opening told maps all image leaves chance room hot cold =
    let (there, logs, names) = leaves chance in
    let is = All-contains (IsOwnMap s) maps (recovered image) all there in
    let count = is.store.store.count in
    reopened image (recovered image) hot cold (record {
      is = refl;
      store = record {
        count = is.store.store.count;
        each = subst (λ (n : ℕ). All (λ (page : List ℕ). length page ≡ n) (recovered image)) (is.store.size ∙ sym is.own.sized) is.store.store.each;
        header = is.own.header;
        no_tree = is.store.store.no_tree;
      };
      named = (λ i. pages_in (page_at (recovered image) 1) (max (length image.main) (sym count i * size_of_first (recovered image)))) ∙ names (omega (arith, count)) ∙ count;
      fronts = logs.0;
      sizes = logs.1 (omega (arith, count));
      versions = inl (is.own.write_version, is.own.read_version);
      room = room;
    })

-- at each moment of a run
pub moments_open : (s : ℕ) (opening : Opening) (maps : List PageMap) (old new : Option History) → All (IsOwnMap s) maps
    → AtEachMoment opening (RecoversOneOf opening maps) old new → AtEachMoment opening (OpensAgain opening) old new
moments_open s opening maps None None all each = tt
moments_open s opening maps None (Some new) all each = absurd each
moments_open s opening maps (Some old) None all each = absurd each
moments_open s opening maps (Some old) (Some new) all (since, more, is, reached, each) = (
  since,
  more,
  is,
  reached,
  each_weaker opening.before (RecoversOneOf opening maps) (OpensAgain opening) (λ told image leaves. own_opens s opening told maps all image leaves)
      (rebased opening.start (more ++ since)) (length since) each,
)
