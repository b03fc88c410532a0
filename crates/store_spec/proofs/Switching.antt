-- A store may go over to its other log, and what a crash leaves meanwhile.
use Rattle.std.proofs.Common.{◌≡◌, ◌∙◌, ℕ, ◌<◌, ◌≤◌, ◌==◌, Bool, true, false, if◌then◌else◌, List, [], ◌∷◌, ◌++◌, length, drop, refl, sym, ap, subst, inl, inr, arith, Contains, Option, Some, None, IsSome, All}
use Rattle.std.specs.Prelude.{MatchOption, ◌&&◌, not, nat_lt}
use Rattle.std.proofs.lemmas.Bool.{eqb-true}
use Rattle.std.proofs.lemmas.Bool.Decides.{nat_tests}
use Rattle.std.proofs.lemmas.List.Elements.{All-head, Contains-append_left}
use Rattle.disk_face.specs.declared.disk.File.TheVariants.{Log1, Log2}
use Rattle.disk_face.specs.declared.step.Step.{Step}
use Rattle.disk_face.specs.Files.{Files}
use Rattle.disk_face.specs.Steps.{History, reads}
use Rattle.page_spec.specs.PageMap.{PageMap}
use Rattle.log_spec.specs.Checksum.{Sum}
use Rattle.log_spec.specs.LogHeader.{LogFields, IsOurs, last_generation}
use Rattle.log_spec.specs.Accept.{last_size, page_numbers}
use Rattle.log_spec.specs.Written.{IsHeaderOf}
use Rattle.crash_spec.specs.Marks.{number_of, other_of}
use Rattle.crash_spec.specs.Logs.{IsWhole}
use Rattle.crash_spec.specs.Moments.{AtEachMoment}
use Rattle.crash_spec.specs.Opening.{Opening, grown, rebased}
use Rattle.crash_spec.specs.Passes.{Passes, ByAnswer}
use Rattle.crash_spec.specs.Recovered.{recovered}
use Rattle.crash_spec.specs.Store.{StoreView, Holds, Leaves}
use Rattle.crash_spec.proofs.Moments.{each_weaker}
use Rattle.crash_spec.proofs.Passing.{passes_weaker}
use Rattle.crash_spec.proofs.Rebased.{rebased_reads}
use Rattle.engine_spec.specs.declared.commits.Commit.{Commit}
use Rattle.engine_spec.specs.declared.pins.Readers.{Readers}
use Rattle.engine_spec.specs.Leaves.{RecoversOneOf, if_told, kept_map, may_recover}
use Rattle.log_commit.specs.Commit.{map_under}
use Rattle.engine_spec.specs.TwoLogs.{frames_of, current_frames, holders, full_holders, may_switch}
use Rattle.wal_frames.specs.Found.{log_file}
use Rattle.log_pair.specs.Pair.{PairView, log_of, other_number, current_file, current_header}
use Rattle.log_pair.specs.Switch.{Switches, MayGoOver, MayBeTorn, front_piece, next_header, other_file, switched_view}
use Rattle.log_commit.specs.Fronts.{HasFront}
use Rattle.log_commit.proofs.FrontLaws.{front_fresh}
use Rattle.store_spec.specs.Store.{StoreData, current_read, newest_in, newest_told, store_state, two_logs, since_of, view_of}
use Rattle.store_spec.specs.Standing.{IsWholeStore, IsRunning, IsStoreOn, StandsOn, IsOpenedAt, AreFronts}
use Rattle.store_spec.proofs.OwnFronts.{LeavesNamed, either_named, either_names, not_main, own_header, own_moments, own_of, size_of_either, switch_goes}

-- What the switch rule says: the other log is done, nobody reads it, the current one has enough frames, and its generation isn't the last.
pub record IsAllowed (kept : StoreData) (readers : Readers) : Type 0 where
  pub done : kept.state.done ≡ true
  pub unread : full_holders (two_logs kept) readers ≡ 0
  pub unheld : holders (two_logs kept) readers ≡ 0
  pub enough : kept.limit ≤ length (current_frames (two_logs kept) kept.history)
  pub few : (current_header kept.pair).generation < last_generation

tests : (a b c d e : Bool) → (a && b && c && d && e) ≡ true → (a ≡ true) × (b ≡ true) × (c ≡ true) × (d ≡ true) × (e ≡ true)
tests true true true true true is = (refl, refl, refl, refl, refl)
tests true true true true false is = absurd cc
tests true true true false e is = absurd cc
tests true true false d e is = absurd cc
tests true false c d e is = absurd cc
tests false b c d e is = absurd cc

least : (m n : ℕ) → not (nat_lt m n) ≡ true → n ≤ m
least m n is = grind (arith, nat_tests)

less : (m n : ℕ) → nat_lt m n ≡ true → m < n
less m n is = grind (arith, nat_tests)

pub allowed : (kept : StoreData) (readers : Readers) → may_switch (two_logs kept) readers kept.history ≡ true → IsAllowed kept readers
allowed kept readers is =
    let (done, unread, unheld, enough, few) = tests kept.state.done (full_holders (two_logs kept) readers == 0) (holders (two_logs kept) readers == 0)
    (not (nat_lt (length (current_frames (two_logs kept) kept.history)) kept.limit)) (nat_lt (current_header kept.pair).generation last_generation) is in
    record {
      done = done;
      unread = eqb-true (full_holders (two_logs kept) readers) 0 unread;
      unheld = eqb-true (holders (two_logs kept) readers) 0 unheld;
      enough = least (length (current_frames (two_logs kept) kept.history)) kept.limit enough;
      few = less (current_header kept.pair).generation last_generation few;
    }

-- the other log's file, by its number and by the current one
pub other_file_is : (pair : PairView) → other_of (current_file pair) ≡ other_file pair
other_file_is pair = by (pair.current == 1)
  where
    by : (first : Bool) → other_of (if first then Log1 else Log2) ≡ log_file (if first then 2 else 1)
    by true = refl
    by false = refl

pub other_number_is : (pair : PairView) → number_of (other_file pair) ≡ other_number pair.current
other_number_is pair = by (pair.current == 1)
  where
    by : (first : Bool) → number_of (log_file (if first then 2 else 1)) ≡ (if first then 2 else 1)
    by true = refl
    by false = refl

-- what is known of the other log's front
pub front_of_other : (opening : Opening) (kept : StoreData) (told : History) → AreFronts opening kept told
    → (most : ℕ) × (most ≤ (current_header kept.pair).generation) × HasFront opening told (other_file kept.pair) (log_of kept.pair (other_number kept.pair.current)).header.salt1 most
front_of_other opening kept told fronts = by (kept.pair.current == 1)
  where
    by : (first : Bool) → (most : ℕ) × (most ≤ (current_header kept.pair).generation)
        × HasFront opening told (log_file (if first then 2 else 1)) (log_of kept.pair (if first then 2 else 1)).header.salt1 most
    by true = (fronts.most2, fronts.few.1, fronts.log2)
    by false = (fronts.most1, fronts.few.0, fronts.log1)

-- each commit wrote page 1, so some frame is of it
pub first_page : (commits : List Commit) → All (λ commit. Contains commit.wrote 1) commits → 1 ≤ length (frames_of commits) → Contains (frames_of commits) 1
first_page [] all some = absurd (omega arith)
first_page (commit ∷ commits) all some = Contains-append_left commit.wrote (frames_of commits) 1 (All-head (λ commit. Contains commit.wrote 1) commit commits all)

-- a store that isn't stopped isn't torn, and has nothing on its way
pub on_of : (opening : Opening) (kept : StoreData) (told : History) → kept.stop ≡ None → StandsOn opening kept told → IsStoreOn opening kept told
on_of opening kept told none (inl on) = on
on_of opening kept told none (inr torn) = absurd (let some = subst (λ s. IsSome s) none torn.stopped in cc)

pub running_of : (opening : Opening) (kept : StoreData) (told : History) → kept.stop ≡ None → (on : IsStoreOn opening kept told) → IsRunning opening kept on.pending told
running_of opening kept told none on =
    subst (λ s. MatchOption s (IsRunning opening kept on.pending told) (λ stop. on.later ≡ map_under (newest_in kept.pair (reads told)) stop.images stop.size)) none on.running

-- so many frames that page 1 is among them
pub has_first : (opening : Opening) (kept : StoreData) (readers : Readers) (told : History) → IsWholeStore kept → IsAllowed kept readers → IsStoreOn opening kept told
    → Contains (page_numbers (current_read kept.pair (reads told))) 1
has_first opening kept readers told whole allowed on =
    subst (λ pages. Contains pages 1) (sym (on.there.current_pages ∙ whole.index.current.pages))
    (first_page (drop (since_of kept) kept.history) whole.index.current.first_pages
    (let most = allowed.enough in let some = whole.limit in omega arith))

-- The store may go over to its other log.
pub may_go : (opening : Opening) (kept : StoreData) (readers : Readers) (told : History) (salt2 : ℕ) (sum : Sum) (bytes : List ℕ) → IsWholeStore kept → IsAllowed kept readers
    → IsHeaderOf (other_number kept.pair.current) (next_header kept.pair salt2 sum) bytes → (on : IsStoreOn opening kept told)
    → MayGoOver opening (view_of kept (reads told) on.pending on.later) bytes told
may_go opening kept readers told salt2 sum bytes whole allowed is on =
    let file = other_file_is kept.pair in
    let (most, few, front) = front_of_other opening kept told on.fronts in
    let here = subst (λ log. HasFront opening told log (log_of kept.pair (other_number kept.pair.current)).header.salt1 most) (sym file) front in (
      on.holds,
      record {
        main = on.main_whole allowed.done;
        other_log = subst (IsWhole opening told) (sym file) on.other_whole;
        only = here.only;
        copied = λ number from. on.there.copied number from (inr allowed.done);
        page_1 = has_first opening kept readers told whole allowed on;
        long = is.whole;
        ours = subst (λ number. IsOurs number bytes) (sym (ap number_of file ∙ other_number_is kept.pair)) is.ours;
        fresh = front_fresh opening told (other_of (current_file kept.pair)) (log_of kept.pair (other_number kept.pair.current)).header.salt1 most bytes
            (let low = allowed.few in omega arith) (ap (λ (header : LogFields). header.salt1) is.told) here;
      },
    )

-- one of some maps is one of more
pub at_more : (opening : Opening) (maps more : List PageMap) (old new : Option History) → AtEachMoment opening (RecoversOneOf opening maps) old new
    → AtEachMoment opening (RecoversOneOf opening (maps ++ more)) old new
at_more opening maps more None None each = tt
at_more opening maps more None (Some new) each = absurd each
at_more opening maps more (Some old) None each = absurd each
at_more opening maps more (Some old) (Some new) (since, steps, is, same, all) = (
  since,
  steps,
  is,
  same,
  each_weaker opening.before (RecoversOneOf opening maps) (RecoversOneOf opening (maps ++ more))
      (λ told image leaves chance. let left = leaves chance in (Contains-append_left maps more (recovered image) left.0, left.1, left.2))
      (rebased opening.start (steps ++ since)) (length since) all,
)

-- What comes of a switch.
module _ (kept : StoreData) (readers : Readers) (none : kept.stop ≡ None) (whole : IsWholeStore kept) (allowed : IsAllowed kept readers)
    (ok : Bool) (pair : PairView) (salt2 : ℕ) (bytes : List ℕ) (sum : Sum) (new : Option History) (opening : Opening) where
  abbrev header : LogFields
  header = next_header kept.pair salt2 sum

  -- at each moment, and after it, by what was told since the opening
  pub goes_over : (told : History) → Switches ok kept.pair pair salt2 (Some told) new bytes sum → (since : List Step) → told ≡ grown since opening.start
      → (on : IsStoreOn opening kept (rebased opening.start since))
      → Passes opening (Leaves opening (view_of kept (reads (rebased opening.start since)) on.pending on.later))
      (ByAnswer ok (Holds opening (switched_view (view_of kept (reads (rebased opening.start since)) on.pending on.later) header))
      (MayBeTorn opening (view_of kept (reads (rebased opening.start since)) on.pending on.later))) (Some told) new
  goes_over told switches since is on =
      switches.moments opening (view_of kept (reads (rebased opening.start since)) on.pending on.later)
      (record { current = refl; header = refl; sealed = (running_of opening kept (rebased opening.start since) none on).none })
      (since, is, may_go opening kept readers (rebased opening.start since) salt2 sum bytes whole allowed switches.is on)

  recovers_newest : (told : History) (since : List Step) → told ≡ grown since opening.start → (on : IsStoreOn opening kept (rebased opening.start since)) → (later : History) (image : Files)
      → Leaves opening (view_of kept (reads (rebased opening.start since)) on.pending on.later) later image
      → LeavesNamed opening (newest_in kept.pair (reads told) ∷ []) kept.page_size (length (reads (rebased opening.start since)).main) later image
  recovers_newest told since is on later image leaves chance = elim (leaves chance) [
    | inl same ↦ (
      (0, omega arith, ap (newest_in kept.pair) (ap reads is ∙ rebased_reads opening.start since) ∙ sym same),
      either_named opening kept (rebased opening.start since) on (recovered image) (inl same),
      either_names opening kept (rebased opening.start since) on (recovered image) (inl same),
    )
    | inr (some, same) ↦ absurd (some (ap last_size (running_of opening kept (rebased opening.start since) none on).none))
  ]

  -- where nothing is told, nothing is said
  abbrev empty_view : StoreView
  empty_view = record {
    current = current_file kept.pair;
    header = current_header kept.pair;
    older = current_header kept.pair;
    frames = [];
    pending = [];
    other = [];
    size = 0;
    map = [];
    later = [];
  }

  nothing_told : (P Q : History → Files → Type 0) (new : Option History) → AtEachMoment opening P None new → AtEachMoment opening Q None new
  nothing_told P Q None each = tt
  nothing_told P Q (Some told) each = absurd each

  -- At each moment a crash leaves the newest map.
  pub moments : (old : Option History) → Switches ok kept.pair pair salt2 old new bytes sum → IsOpenedAt opening kept old
      → AtEachMoment opening (RecoversOneOf opening (if_told (newest_told kept old))) old new
  moments None switches opened =
      nothing_told (Leaves opening empty_view) (RecoversOneOf opening []) new
      (switches.moments opening empty_view
      (record { current = refl; header = refl; sealed = refl }) tt).each_moment
  moments (Some told) switches (since, is, stands) =
      let on = on_of opening kept (rebased opening.start since) none stands in
      let end : ℕ = length (reads (rebased opening.start since)).main in
      own_moments opening kept.page_size end (newest_in kept.pair (reads told) ∷ []) (Some told) new
      (switch_goes kept.page_size end (front_piece (other_file kept.pair) bytes) ok (Some told) new (not_main (other_number kept.pair.current))
      (own_header kept salt2 sum bytes (size_of_either opening kept (rebased opening.start since) on.fronts kept.pair.current) switches.is (other_number_is kept.pair)) switches.steps)
      (since, is, (own_of opening kept (rebased opening.start since) stands, omega arith))
      (passes_weaker opening (Leaves opening (view_of kept (reads (rebased opening.start since)) on.pending on.later)) (LeavesNamed opening (newest_in kept.pair (reads told) ∷ []) kept.page_size end)
      (ByAnswer ok (Holds opening (switched_view (view_of kept (reads (rebased opening.start since)) on.pending on.later) header)) (MayBeTorn opening (view_of kept (reads (rebased opening.start since)) on.pending on.later)))
      (λ later. Unit {0}) (recovers_newest told since is on) (λ later holds. tt) (Some told) new (goes_over told switches since is on)).each_moment

  -- and so one of those that a crash may leave of the store before
  pub moments_so : (old : Option History) (faults : ℕ) → Switches ok kept.pair pair salt2 old new bytes sum → IsOpenedAt opening kept old
      → AtEachMoment opening (RecoversOneOf opening (may_recover (store_state old faults kept readers))) old new
  moments_so old faults switches opened =
      at_more opening (if_told (newest_told kept old)) (kept_map (store_state old faults kept readers).stopped) old new (moments old switches opened)
