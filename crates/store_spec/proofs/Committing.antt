-- A store stays live over a commit that is written, or fails in writing.
use Rattle.std.proofs.Common.{◌≡◌, ◌∙◌, ℕ, ◌-◌, ◌≤◌, Bool, true, false, List, [], ◌∷◌, length, append-nil, refl, sym, ap, subst, inl, inr, arith, Option, Some, None}
use Rattle.std.specs.Prelude.{◌⊎◌}
use Rattle.disk_face.specs.Steps.{History, reads}
use Rattle.page_spec.specs.PageMap.{PageMap}
use Rattle.crash_spec.specs.Opening.{Opening}
use Rattle.engine_spec.specs.declared.commits.Commit.{Commit}
use Rattle.engine_spec.specs.declared.commits.PageImage.{PageImage}
use Rattle.engine_spec.specs.declared.pins.Pin.{Pin}
use Rattle.engine_spec.specs.declared.pins.Readers.{Readers}
use Rattle.engine_spec.specs.Change.{laid}
use Rattle.engine_spec.specs.Good.{MayLayOn}
use Rattle.engine_spec.specs.History.{counts}
use Rattle.engine_spec.specs.Written.{Submitted, commit_of, Writes}
use Rattle.engine_spec.proofs.Laying.{IsWhole, covers, legal_size}
use Rattle.wal_index.specs.Index.{Indexed, log_in}
use Rattle.log_pair.specs.Pair.{PairView, IsPair, other_number, current_file, current_header}
use Rattle.log_commit.specs.Commit.{IsCommitStep}
use Rattle.store_spec.specs.Store.{StoreData, KeptStop, current_read, newest_in, newest_told, pin_told, pin_map_in}
use Rattle.store_spec.specs.Pins.{PinHolds, IsOfCurrent, IsOfOther}
use Rattle.store_spec.specs.Standing.{IsWholeStore, IsLiveStore, IsOpenedAt}
use Rattle.store_spec.specs.Steps.{HasWritten, HasIndexed, committed, stopped}
use Rattle.store_spec.proofs.Commits.{since_same, other_since_same}
use Rattle.store_spec.proofs.Committed as written
use Rattle.store_spec.proofs.Committed.{IsLaid, MayWriteOn, still_told, same_pair, still_pair, is_done, on_way, IsDone, IsOnWay, more_numbers, opened_committed, opened_stopped, newest_committed, newest_stopped}
use Rattle.store_spec.proofs.CommitPins.{HasRead, HasBegun, GoesOnFrom, pin_stays, place_on, pin_holds_on, no_conflict_before, may_lay_on}
use Rattle.store_spec.proofs.Writing.{pair_more, pair_appended}

-- A commit was written to the current log of a store, or failed in writing.
pub record IsCommitting (kept : StoreData) (ok : Bool) (images : List PageImage) (pair : PairView) (asked : Submitted) (commit : Commit) (old new : Option History) : Type 0 where
  pub may : MayWriteOn kept
  pub has : HasWritten kept ok images pair old new
  pub lays : IsLaid kept old images asked.change commit
  pub is : commit ≡ commit_of asked commit.wrote
  pub whole : IsWhole kept.size kept.page_size asked.change
  pub wrote : Writes (newest_told kept old) kept.size asked.change commit.wrote
  pub legal : IsPair pair

-- what goes on
pub goes_committed : (kept : StoreData) (images : List PageImage) (pair : PairView) (index : Indexed) (asked : Submitted) (commit : Commit) (old new : Option History)
    → IsCommitting kept true images pair asked commit old new → HasIndexed kept commit index → GoesOnFrom kept (committed kept pair index commit) (commit ∷ [])
goes_committed kept images pair index asked commit old new c indexed =
    let same = (pair_more kept.pair pair (length images) c.has.writes.becomes).0 in
    record {
      pair = same;
      history = refl;
      since = since_same kept pair commit index same.current indexed;
      other_since = other_since_same kept pair commit index same.current indexed;
      page_size = refl;
    }

pub goes_stopped : (kept : StoreData) (images : List PageImage) (pair : PairView) (stop : KeptStop) (asked : Submitted) (commit : Commit) (old new : Option History)
    → IsCommitting kept false images pair asked commit old new → GoesOnFrom kept (stopped kept pair stop) []
goes_stopped kept images pair stop asked commit old new c =
    let same = (pair_appended kept.pair pair c.has.writes.becomes).0 in
    record {
      pair = same;
      history = sym (append-nil kept.history);
      since = ap (λ (log : ℕ). length kept.history - length (log_in kept.index log).numbers) same.current;
      other_since = ap (λ (log : ℕ). length kept.history - length (log_in kept.index log).numbers - length (log_in kept.index (other_number log)).numbers) same.current;
      page_size = refl;
    }

-- what is read
pub read_committed : (opening : Opening) (kept : StoreData) (images : List PageImage) (pair : PairView) (index : Indexed) (asked : Submitted) (commit : Commit) (told later : History) (new : Option History)
    (c : IsCommitting kept true images pair asked commit (Some told) new) → HasIndexed kept commit index → IsOpenedAt opening kept (Some told) → new ≡ Some later
    → HasRead kept.pair pair c.has.more (reads told) (reads later) × (newest_in pair (reads later) ≡ laid (newest_in kept.pair (reads told)) asked.change)
read_committed opening kept images pair index asked commit told later new c indexed opened is =
    let numbers = more_numbers kept images pair asked.change commit c.may (Some told) new c.has c.lays in (
      record {
        current = written.done_current opening kept images pair index commit told new c.may c.has c.lays.fits indexed numbers opened later is;
        other = written.done_other opening kept images pair index commit told new c.may c.has c.lays.fits indexed numbers opened later is;
        main = written.done_main opening kept images pair index commit told new c.may c.has c.lays.fits indexed numbers opened later is;
      },
      written.done_newest opening kept images pair index commit told new c.may c.has c.lays.fits indexed numbers opened later is ∙ c.lays.lies,
    )

pub read_stopped : (opening : Opening) (kept : StoreData) (images : List PageImage) (pair : PairView) (stop : KeptStop) (asked : Submitted) (commit : Commit) (told later : History) (new : Option History)
    (c : IsCommitting kept false images pair asked commit (Some told) new) → IsOpenedAt opening kept (Some told) → new ≡ Some later
    → HasRead kept.pair pair [] (reads told) (reads later) × (newest_in pair (reads later) ≡ newest_in kept.pair (reads told))
read_stopped opening kept images pair stop asked commit told later new c opened is = (
  record {
    current = written.way_current opening kept images pair stop told new c.may c.has c.lays.fits opened later is ∙ sym (append-nil (current_read kept.pair (reads told)));
    other = written.way_other opening kept images pair stop told new c.may c.has c.lays.fits opened later is;
    main = written.way_main opening kept images pair stop told new c.may c.has c.lays.fits opened later is;
  },
  written.way_newest opening kept images pair stop told new c.may c.has c.lays.fits opened later is,
)

-- a pin where nothing is told
holds_untold : (kept later : StoreData) (commits : List Commit) (pin : Pin) → GoesOnFrom kept later commits → IsWholeStore kept → (IsOfCurrent kept pin → (commits ≡ []) ⊎ HasBegun kept)
    → PinHolds None kept pin → PinHolds None later pin
holds_untold kept later commits pin goes whole begun holds = record {
  place = place_on kept later commits goes pin begun whole holds.place;
  some = holds.some;
  sizes = tt;
  agrees = tt;
}

-- each pin holds on, and is told the same
pub pin_committed : (kept : StoreData) (images : List PageImage) (pair : PairView) (index : Indexed) (asked : Submitted) (commit : Commit) (readers : Readers) (pins : List Pin) (old new : Option History)
    → IsCommitting kept true images pair asked commit old new → HasIndexed kept commit index → IsLiveStore old kept readers pins
    → (pin : Pin) → (IsOfCurrent kept pin → HasBegun kept) → PinHolds old kept pin
    → PinHolds new (committed kept pair index commit) pin × (pin_told (committed kept pair index commit) new pin ≡ pin_told kept old pin)
pin_committed kept images pair index asked commit readers pins None new c indexed live pin begun holds =
    subst (λ (t : Option History). PinHolds t (committed kept pair index commit) pin × (pin_told (committed kept pair index commit) t pin ≡ None)) (sym c.has.steps) (
      holds_untold kept (committed kept pair index commit) (commit ∷ []) pin (goes_committed kept images pair index asked commit None new c indexed) live.whole (λ of. inr (begun of)) holds,
      refl,
    )
pin_committed kept images pair index asked commit readers pins (Some told) new c indexed live pin begun holds =
    still_told (IsCommitStep (current_file kept.pair) (current_header kept.pair)) told
    (λ (t : Option History). PinHolds t (committed kept pair index commit) pin × (pin_told (committed kept pair index commit) t pin ≡ Some (pin_map_in kept.pair pin (reads told)))) new c.has.steps at
  where
    size : 100 ≤ kept.page_size
    size = let least = legal_size kept.page_size live.whole.legal in omega arith

    at : (later : History) → new ≡ Some later
        → PinHolds (Some later) (committed kept pair index commit) pin × (Some (pin_map_in pair pin (reads later)) ≡ Some (pin_map_in kept.pair pin (reads told)))
    at later is =
        let goes = goes_committed kept images pair index asked commit (Some told) new c indexed in
        let read = read_committed live.opening kept images pair index asked commit told later new c indexed live.opened is in
        let same : pin_map_in pair pin (reads later) ≡ pin_map_in kept.pair pin (reads told) =
        pin_stays kept pair c.has.more (reads told) (reads later) live.whole goes.pair read.0 pin holds.place in
        let within : pin.n ≤ length kept.history = most holds.place in (
          pin_holds_on kept (committed kept pair index commit) (commit ∷ []) told later pin goes live.whole (λ of. inr (begun of)) same
              (λ mode numbers none first.
              subst (λ (m : PageMap). MayLayOn mode (pin_map_in kept.pair pin (reads told)) numbers m) (sym read.1)
              (may_lay_on mode (pin_map_in kept.pair pin (reads told)) (newest_in kept.pair (reads told)) numbers asked commit.wrote kept.size kept.page_size size c.whole live.whole.some live.sizes
              (covers (newest_told kept (Some told)) kept.size asked.change commit.wrote c.wrote) c.lays.first first
              (λ q there. subst (λ (one : Commit). counts mode q one ≡ false) c.is (no_conflict_before mode numbers pin.n kept.history commit within none q there).1)
              (holds.agrees mode numbers (λ q there. (no_conflict_before mode numbers pin.n kept.history commit within none q there).0) first)))
              holds,
          ap (λ (m : PageMap). Some m) same,
        )
      where
        most : IsOfCurrent kept pin ⊎ IsOfOther kept pin → pin.n ≤ length kept.history
        most (inl of) = of.front.most
        most (inr of) = let m = of.front.most in omega arith

pub pin_stopped : (kept : StoreData) (images : List PageImage) (pair : PairView) (stop : KeptStop) (asked : Submitted) (commit : Commit) (readers : Readers) (pins : List Pin) (old new : Option History)
    → IsCommitting kept false images pair asked commit old new → IsLiveStore old kept readers pins
    → (pin : Pin) → PinHolds old kept pin
    → PinHolds new (stopped kept pair stop) pin × (pin_told (stopped kept pair stop) new pin ≡ pin_told kept old pin)
pin_stopped kept images pair stop asked commit readers pins None new c live pin holds =
    subst (λ (t : Option History). PinHolds t (stopped kept pair stop) pin × (pin_told (stopped kept pair stop) t pin ≡ None)) (sym c.has.steps) (
      holds_untold kept (stopped kept pair stop) [] pin (goes_stopped kept images pair stop asked commit None new c) live.whole (λ of. inl refl) holds,
      refl,
    )
pin_stopped kept images pair stop asked commit readers pins (Some told) new c live pin holds =
    still_told (IsCommitStep (current_file kept.pair) (current_header kept.pair)) told
    (λ (t : Option History). PinHolds t (stopped kept pair stop) pin × (pin_told (stopped kept pair stop) t pin ≡ Some (pin_map_in kept.pair pin (reads told)))) new c.has.steps at
  where
    at : (later : History) → new ≡ Some later
        → PinHolds (Some later) (stopped kept pair stop) pin × (Some (pin_map_in pair pin (reads later)) ≡ Some (pin_map_in kept.pair pin (reads told)))
    at later is =
        let goes = goes_stopped kept images pair stop asked commit (Some told) new c in
        let read = read_stopped live.opening kept images pair stop asked commit told later new c live.opened is in
        let same : pin_map_in pair pin (reads later) ≡ pin_map_in kept.pair pin (reads told) =
        pin_stays kept pair [] (reads told) (reads later) live.whole goes.pair read.0 pin holds.place in (
          pin_holds_on kept (stopped kept pair stop) [] told later pin goes live.whole (λ of. inl refl) same
              (λ mode numbers none first. subst (λ (m : PageMap). MayLayOn mode (pin_map_in kept.pair pin (reads told)) numbers m) (sym read.1) (holds.agrees mode numbers none first)) holds,
          ap (λ (m : PageMap). Some m) same,
        )
