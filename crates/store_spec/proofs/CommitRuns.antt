-- A store goes on to stand for a run over a commit that is written, or fails in writing.
use Rattle.std.proofs.Common.{◌≡◌, ◌∙◌, ℕ, ◌+◌, ◌<◌, ◌≤◌, ◌==◌, if◌then◌else◌, true, false, List, [], ◌∷◌, ◌++◌, length, take, sym, ap, subst, inl, inr, arith, Option, Some, None}
use Rattle.std.specs.Prelude.{◌⊎◌, IfSome}
use Rattle.std.proofs.lemmas.Bool.{cases_lt}
use Rattle.std.proofs.lemmas.List.{take_all, take-append-le}
use Rattle.disk_face.specs.Steps.{History, reads}
use Rattle.page_spec.specs.PageMap.{PageMap}
use Rattle.log_spec.specs.Accept.{Frame}
use Rattle.engine_spec.specs.declared.commits.Commit.{Commit}
use Rattle.engine_spec.specs.declared.commits.PageImage.{PageImage}
use Rattle.engine_spec.specs.declared.pins.Pin.{Pin}
use Rattle.engine_spec.specs.declared.pins.Readers.{Readers}
use Rattle.engine_spec.specs.History.{statements_of, SnapsBefore}
use Rattle.engine_spec.specs.TwoLogs.{holders}
use Rattle.engine_spec.specs.Written.{Submitted}
use Rattle.wal_index.specs.Index.{Indexed}
use Rattle.log_pair.specs.Pair.{PairView, current_file, current_header}
use Rattle.log_commit.specs.Commit.{IsCommitStep}
use Rattle.store_spec.specs.Store.{StoreData, KeptStop, newest_in, map_over, map_below, since_of, other_since_of, two_logs}
use Rattle.store_spec.specs.Pins.{IsFront, IsOlderFront, mark_at}
use Rattle.store_spec.specs.Standing.{IsWholeStore, IsLiveStore, StandsFrom}
use Rattle.store_spec.specs.Steps.{HasIndexed, committed, stopped}
use Rattle.store_spec.proofs.Committed.{still_told}
use Rattle.store_spec.proofs.Committing.{IsCommitting, goes_committed, goes_stopped, read_committed, read_stopped}
use Rattle.store_spec.proofs.CommitLive.{whole_committed, whole_stopped}
use Rattle.store_spec.proofs.CommitPins.{HasRead, GoesOnFrom, front_stays, below_stays, mark_stays, other_mark_stays, long}
use Rattle.store_spec.proofs.Runs.{newest_is_front}

-- each commit began before itself, the last one too
snaps_push : (k : ℕ) (commits : List Commit) (commit : Commit) → SnapsBefore k commits → commit.entry.snap ≤ k + length commits → SnapsBefore k (commits ++ commit ∷ [])
snaps_push k [] commit before last = (omega arith, tt)
snaps_push k (one ∷ commits) commit before last = (before.0, snaps_push (k + 1) commits commit before.1 (omega arith))

-- the maps of another store that has gone on
module _ (sound : PageMap → Type 0) (leads : PageMap → List (List ℕ) → PageMap → Type 0) (first : PageMap) (kept later : StoreData) (commits : List Commit) (readers : Readers)
    (goes : GoesOnFrom kept later commits) where
  holders_same : holders (two_logs later) readers ≡ holders (two_logs kept) readers
  holders_same = ap (λ (log : ℕ). if log == 1 then readers.part2 else readers.part1) goes.pair.current

  front_before : (n : ℕ) → n ≤ length kept.history → IsFront later n → IsFront kept n
  front_before n within front = record { least = omega (arith, front.least, goes.since); most = within; held = by front.held }
    where
      by : (since_of later < n) ⊎ (since_of later ≡ 0) ⊎ (n ≡ length later.history) → (since_of kept < n) ⊎ (since_of kept ≡ 0) ⊎ (n ≡ length kept.history)
      by (inl less) = inl (omega (arith, less, goes.since))
      by (inr (inl none)) = inr (inl (sym goes.since ∙ none))
      by (inr (inr last)) = inr (inr (omega (arith, last, within, long kept later commits goes)))

  older_before : (n : ℕ) → IsOlderFront later n → IsOlderFront kept n
  older_before n front = record {
    least = omega (arith, front.least, goes.other_since);
    most = omega (arith, front.most, goes.since);
    held = subst (λ (since : ℕ). (since < n) ⊎ (since ≡ 0)) goes.other_since front.held;
  }

  taken : (n : ℕ) → n ≤ length kept.history → take n later.history ≡ take n kept.history
  taken n within = ap (take n) goes.history ∙ take-append-le n kept.history commits within

  pub stands_untold : SnapsBefore 0 later.history → StandsFrom sound leads first None later readers
  stands_untold snaps = record { snaps = snaps; newest = tt; fronts = tt; older = λ some. tt }

  module _ (more : List Frame) (told new : History) (whole : IsWholeStore kept) (whole_later : IsWholeStore later) (few : length commits ≤ 1)
      (read : HasRead kept.pair later.pair more (reads told) (reads new)) where
    moved : (n : ℕ) (before after : PageMap) → n ≤ length kept.history → after ≡ before
        → sound before × leads first (statements_of (take n kept.history)) before → sound after × leads first (statements_of (take n later.history)) after
    moved n before after within same is =
        subst (λ (map : PageMap). sound map × leads first (statements_of (take n later.history)) map) (sym same)
        (subst (λ (cs : List Commit). sound before × leads first (statements_of cs) before) (sym (taken n within)) is)

    pub stands_on : SnapsBefore 0 later.history → sound (newest_in later.pair (reads new)) × leads first (statements_of later.history) (newest_in later.pair (reads new))
        → StandsFrom sound leads first (Some told) kept readers → StandsFrom sound leads first (Some new) later readers
    stands_on snaps newest stands = record {
      snaps = snaps;
      newest = newest;
      fronts = λ n front. at n front (cases_lt (length kept.history) n);
      older = λ some n front.
          let old = older_before n front in
          let within : n ≤ length kept.history = least n old in
          moved n (map_below kept.pair (mark_at kept.history (other_since_of kept) n) (reads told)) (map_below later.pair (mark_at later.history (other_since_of later) n) (reads new)) within
          (below_stays kept later.pair more (reads told) (reads new) whole goes.pair read (mark_at later.history (other_since_of later) n)
          ∙ ap (λ (mark : ℕ). map_below kept.pair mark (reads told)) (other_mark_stays kept later commits goes n within))
          (stands.older (subst (λ (count : ℕ). 0 < count) holders_same some) n old);
    }
      where
        least : (n : ℕ) → IsOlderFront kept n → n ≤ length kept.history
        least n old = let most = old.most in omega arith

        at : (n : ℕ) → IsFront later n → (length kept.history < n) ⊎ (n ≤ length kept.history)
            → sound (map_over later.pair (mark_at later.history (since_of later) n) (reads new))
            × leads first (statements_of (take n later.history)) (map_over later.pair (mark_at later.history (since_of later) n) (reads new))
        at n front (inr within) =
            moved n (map_over kept.pair (mark_at kept.history (since_of kept) n) (reads told)) (map_over later.pair (mark_at later.history (since_of later) n) (reads new)) within
            (ap (λ (mark : ℕ). map_over later.pair mark (reads new)) (mark_stays kept later commits goes n within)
            ∙ front_stays kept later.pair more (reads told) (reads new) whole goes.pair read n (omega (arith, front.least, goes.since)) within)
            (stands.fronts n (front_before n within front))
        at n front (inl new_one) =
            let last : n ≡ length later.history = omega (arith, front.most, new_one, few, long kept later commits goes) in
            subst (λ (m : ℕ). sound (map_over later.pair (mark_at later.history (since_of later) m) (reads new))
            × leads first (statements_of (take m later.history)) (map_over later.pair (mark_at later.history (since_of later) m) (reads new))) (sym last)
            (subst (λ (map : PageMap). sound map × leads first (statements_of (take (length later.history) later.history)) map) (sym (newest_is_front later (reads new) whole_later))
            (subst (λ (cs : List Commit). sound (newest_in later.pair (reads new)) × leads first (statements_of cs) (newest_in later.pair (reads new)))
            (sym (take_all (length later.history) later.history (omega arith))) newest))

module _ (sound : PageMap → Type 0) (leads : PageMap → List (List ℕ) → PageMap → Type 0) (first : PageMap) where
  pub runs_committed : (kept : StoreData) (images : List PageImage) (pair : PairView) (index : Indexed) (asked : Submitted) (commit : Commit) (readers : Readers) (pins : List Pin) (old new : Option History)
      → IsCommitting kept true images pair asked commit old new → HasIndexed kept commit index → IsLiveStore old kept readers pins → commit.entry.snap ≤ length kept.history
      → IfSome new (λ told. sound (newest_in pair (reads told)) × leads first (statements_of (kept.history ++ commit ∷ [])) (newest_in pair (reads told)))
      → StandsFrom sound leads first old kept readers → StandsFrom sound leads first new (committed kept pair index commit) readers
  runs_committed kept images pair index asked commit readers pins None new c indexed live snap newest stands =
      subst (λ (t : Option History). StandsFrom sound leads first t (committed kept pair index commit) readers) (sym c.has.steps)
      (stands_untold sound leads first kept (committed kept pair index commit) (commit ∷ []) readers (goes_committed kept images pair index asked commit None new c indexed)
      (snaps_push 0 kept.history commit stands.snaps (omega arith)))
  runs_committed kept images pair index asked commit readers pins (Some told) new c indexed live snap newest stands =
      still_told (IsCommitStep (current_file kept.pair) (current_header kept.pair)) told
      (λ (t : Option History). StandsFrom sound leads first t (committed kept pair index commit) readers) new c.has.steps
      (λ later is.
      stands_on sound leads first kept (committed kept pair index commit) (commit ∷ []) readers (goes_committed kept images pair index asked commit (Some told) new c indexed) c.has.more told later
      live.whole (whole_committed kept images pair index asked commit (Some told) new c indexed live.whole) (omega arith)
      (read_committed live.opening kept images pair index asked commit told later new c indexed live.opened is).0
      (snaps_push 0 kept.history commit stands.snaps (omega arith))
      (subst (λ (t : Option History). IfSome t (λ told. sound (newest_in pair (reads told)) × leads first (statements_of (kept.history ++ commit ∷ [])) (newest_in pair (reads told)))) is newest)
      stands)

  pub runs_stopped : (kept : StoreData) (images : List PageImage) (pair : PairView) (stop : KeptStop) (asked : Submitted) (commit : Commit) (readers : Readers) (pins : List Pin) (old new : Option History)
      → IsCommitting kept false images pair asked commit old new → IsLiveStore old kept readers pins
      → StandsFrom sound leads first old kept readers → StandsFrom sound leads first new (stopped kept pair stop) readers
  runs_stopped kept images pair stop asked commit readers pins None new c live stands =
      subst (λ (t : Option History). StandsFrom sound leads first t (stopped kept pair stop) readers) (sym c.has.steps)
      (stands_untold sound leads first kept (stopped kept pair stop) [] readers (goes_stopped kept images pair stop asked commit None new c) stands.snaps)
  runs_stopped kept images pair stop asked commit readers pins (Some told) new c live stands =
      still_told (IsCommitStep (current_file kept.pair) (current_header kept.pair)) told
      (λ (t : Option History). StandsFrom sound leads first t (stopped kept pair stop) readers) new c.has.steps
      (λ later is.
      let read = read_stopped live.opening kept images pair stop asked commit told later new c live.opened is in
      stands_on sound leads first kept (stopped kept pair stop) [] readers (goes_stopped kept images pair stop asked commit (Some told) new c) [] told later
      live.whole (whole_stopped kept images pair stop asked commit (Some told) new c live.whole) (omega arith) read.0 stands.snaps
      (subst (λ (map : PageMap). sound map × leads first (statements_of kept.history) map) (sym read.1) stands.newest) stands)
