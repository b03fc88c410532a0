-- The newest map and the pins of a store that has gone over to its other log, or failed in that.
use Rattle.std.proofs.Common.{◌≡◌, ◌∙◌, ℕ, ◌+◌, ◌<◌, ◌≤◌, ◌==◌, Bool, true, false, if◌then◌else◌, List, refl, sym, ap, subst, inl, inr, arith, Contains, Option, Some, None}
use Rattle.std.specs.Prelude.{◌⊎◌, IfSome}
use Rattle.disk_face.specs.Files.{Files}
use Rattle.disk_face.specs.Steps.{History, reads}
use Rattle.page_spec.specs.PageMap.{PageMap}
use Rattle.log_spec.specs.Checksum.{Sum}
use Rattle.log_spec.specs.LogHeader.{LogFields}
use Rattle.engine_spec.specs.declared.commits.Mode.{Mode}
use Rattle.engine_spec.specs.declared.commits.Mode.TheVariants.{Plain}
use Rattle.engine_spec.specs.declared.pins.Pin.{Pin}
use Rattle.engine_spec.specs.declared.pins.Lock.TheVariants.{Part1Full2, Part2Full1}
use Rattle.engine_spec.specs.declared.pins.Readers.{Readers}
use Rattle.engine_spec.specs.Good.{HasSizes, MayLayOn}
use Rattle.engine_spec.specs.History.{NoConflict}
use Rattle.engine_spec.specs.TwoLogs.{TwoLogs, full_holders, readers_of}
use Rattle.wal_index.specs.Index.{Indexed}
use Rattle.log_pair.specs.Pair.{PairView, other_number, current_header, switched_pair}
use Rattle.log_pair.specs.Switch.{next_header}
use Rattle.store_spec.specs.Store.{StoreData, KeptStop, current_read, newest_in, map_over, map_below, pin_map_in, newest_told, pin_told, two_logs, since_of, other_since_of}
use Rattle.store_spec.specs.Pins.{PinHolds, IsOfCurrent, IsOfOther, IsFront, IsOlderFront, AreCounted, mark_at, part_of, full_of}
use Rattle.store_spec.specs.Steps.{HasCleared, gone_over, stopped}
use Rattle.store_spec.specs.Standing.{IsWholeStore}
use Rattle.store_spec.proofs.Counting.{has_reader, holders_are}
use Rattle.store_spec.proofs.Runs.{of_current, of_other}
use Rattle.store_spec.proofs.Named.{AllName}
use Rattle.store_spec.proofs.Switching.{IsAllowed}
use Rattle.store_spec.proofs.Switched.{FrontAlone, BothTold, newest_alone, newest_over, new_header_is, other_of_other}
use Rattle.store_spec.proofs.SwitchIndex.{since_over, other_since_over}
use Rattle.store_spec.proofs.SwitchMaps.{front_some, front_below, over_alone, below_alone}
use Rattle.store_spec.proofs.SwitchOpened.{IsReady}

-- the readers of all of the other log below a front of the current one
pub full_holders_are : (logs : TwoLogs) (readers : Readers) → full_holders logs readers ≡ readers_of readers (full_of logs.current)
full_holders_are logs readers = by (logs.current == 1)
  where
    by : (first : Bool) → (if first then readers.part1_full2 else readers.part2_full1) ≡ readers_of readers (if first then Part1Full2 else Part2Full1)
    by true = refl
    by false = refl

module _ (kept : StoreData) (readers : Readers) (whole : IsWholeStore kept) (allowed : IsAllowed kept readers) (pins : List Pin) (counted : AreCounted readers pins) (pin : Pin) (there : Contains pins pin) where
  -- where a switch is allowed no pin reads the other log
  pub no_older : pin.lock ≡ part_of (other_number kept.pair.current) → ⊥
  no_older is =
      let some = has_reader readers pins pin (part_of (other_number kept.pair.current)) counted there is in
      let none = allowed.unheld in omega (arith, holders_are (two_logs kept) readers)

  pub no_full : pin.lock ≡ full_of kept.pair.current → ⊥
  no_full is =
      let some = has_reader readers pins pin (full_of kept.pair.current) counted there is in
      let none = allowed.unread in omega (arith, full_holders_are (two_logs kept) readers)

  -- so each is of a front of the current one
  pub of_front : IsOfCurrent kept pin ⊎ IsOfOther kept pin → IsOfCurrent kept pin × (pin.lock ≡ part_of kept.pair.current)
  of_front (inl current) = elim current.lock [ inl part ↦ (current, part) | inr full ↦ absurd (no_full full) ]
  of_front (inr other) = absurd (no_older other.lock)

module _ (kept : StoreData) (readers : Readers) (whole : IsWholeStore kept) (allowed : IsAllowed kept readers) (salt2 : ℕ) (sum : Sum) (index : Indexed) (cleared : HasCleared kept index) where
  abbrev header : LogFields
  header = next_header kept.pair salt2 sum

  abbrev over : PairView
  over = switched_pair kept.pair header

  -- The newest map is the same.
  pub newest_over_told : (old new : Option History) → BothTold (FrontAlone kept.pair) old new → IfSome old (λ told. IsReady kept (reads told))
      → newest_told (gone_over kept over index) new ≡ newest_told kept old
  newest_over_told None None alone ready = refl
  newest_over_told None (Some later) alone ready = absurd alone
  newest_over_told (Some told) None alone ready = absurd alone
  newest_over_told (Some told) (Some later) alone ready =
      ap (λ (pages : PageMap). Some pages) (newest_over kept.pair header whole.pair.which kept.page_size (reads told) (reads later) alone ready.first ready.copied ready.sized)

  -- A front of the current log is one of the other log then, and back.
  pub older_front : (n : ℕ) → IsFront kept n → IsOlderFront (gone_over kept over index) n
  older_front n front = record {
    least = subst (λ (since : ℕ). since ≤ n) (sym is) front.least;
    most = subst (λ (count : ℕ). n ≤ count) (sym (since_over kept readers whole allowed salt2 sum index cleared)) front.most;
    held = elim (front_some kept readers whole allowed n front) [
      | inl held ↦ inl (subst (λ (since : ℕ). since < n) (sym is) held)
      | inr none ↦ inr (is ∙ none)
    ];
  }
    where
      is : other_since_of (gone_over kept over index) ≡ since_of kept
      is = other_since_over kept readers whole allowed salt2 sum index cleared

  pub newer_front : (n : ℕ) → IsOlderFront (gone_over kept over index) n → IsFront kept n
  newer_front n front = record {
    least = subst (λ (since : ℕ). since ≤ n) is front.least;
    most = subst (λ (count : ℕ). n ≤ count) (since_over kept readers whole allowed salt2 sum index cleared) front.most;
    held = elim front.held [
      | inl held ↦ inl (subst (λ (since : ℕ). since < n) is held)
      | inr none ↦ inr (inl (sym is ∙ none))
    ];
  }
    where
      is : other_since_of (gone_over kept over index) ≡ since_of kept
      is = other_since_over kept readers whole allowed salt2 sum index cleared

  pub same_mark : (n : ℕ) → mark_at kept.history (other_since_of (gone_over kept over index)) n ≡ mark_at kept.history (since_of kept) n
  same_mark n = ap (λ (since : ℕ). mark_at kept.history since n) (other_since_over kept readers whole allowed salt2 sum index cleared)

  module _ (pin : Pin) (current : IsOfCurrent kept pin) where
    pub older_generation : pin.generation + 1 ≡ (current_header over).generation
    older_generation = let is = current.generation in omega (arith, ap (λ (h : LogFields). h.generation) (new_header_is kept.pair header))

    pub pin_over : pin.lock ≡ part_of kept.pair.current → IsOfOther (gone_over kept over index) pin
    pin_over part = record {
      generation = older_generation;
      front = older_front pin.n current.front;
      mark = current.mark ∙ sym (same_mark pin.n);
      lock = part ∙ sym (ap part_of (other_of_other kept.pair.current whole.pair.which));
    }

    -- with the same map
    pub pin_map_over : (one other : Files) → FrontAlone kept.pair one other → IsReady kept one → AllName kept.page_size (current_read kept.pair one)
        → pin_map_in over pin other ≡ pin_map_in kept.pair pin one
    pin_map_over one other alone ready named =
        of_other over pin other older_generation
        ∙ ap (λ (mark : ℕ). map_below over mark other) current.mark
        ∙ front_below kept readers whole allowed one ready named header other pin.n alone current.front
        ∙ sym (ap (λ (mark : ℕ). map_over kept.pair mark one) current.mark)
        ∙ sym (of_current kept.pair pin one current.generation)

    pub pin_over_told : (old new : Option History) → BothTold (FrontAlone kept.pair) old new → IfSome old (λ told. IsReady kept (reads told))
        → IfSome old (λ told. AllName kept.page_size (current_read kept.pair (reads told))) → pin_told (gone_over kept over index) new pin ≡ pin_told kept old pin
    pin_over_told None None alone ready named = refl
    pin_over_told None (Some later) alone ready named = absurd alone
    pin_over_told (Some told) None alone ready named = absurd alone
    pin_over_told (Some told) (Some later) alone ready named = ap (λ (pages : PageMap). Some pages) (pin_map_over (reads told) (reads later) alone ready named)

  -- A pin that held holds, of the other log now.
  pub pin_holds_over : (old new : Option History) → BothTold (FrontAlone kept.pair) old new → IfSome old (λ told. IsReady kept (reads told))
      → IfSome old (λ told. AllName kept.page_size (current_read kept.pair (reads told)))
      → (pins : List Pin) → AreCounted readers pins → (pin : Pin) → Contains pins pin → PinHolds old kept pin → PinHolds new (gone_over kept over index) pin
  pin_holds_over old new alone ready named pins counted pin there holds =
      let (current, part) = of_front kept readers whole allowed pins counted pin there holds.place in
      record {
        place = inr (pin_over pin current part);
        some = holds.some;
        sizes = sized current old new alone ready named holds.sizes;
        agrees = agreed current old new alone ready named holds.agrees;
      }
    where
      sized : IsOfCurrent kept pin → (old new : Option History) → BothTold (FrontAlone kept.pair) old new → IfSome old (λ told. IsReady kept (reads told))
          → IfSome old (λ told. AllName kept.page_size (current_read kept.pair (reads told)))
          → IfSome old (λ told. HasSizes (pin_map_in kept.pair pin (reads told)) pin.size kept.page_size) → IfSome new (λ told. HasSizes (pin_map_in over pin (reads told)) pin.size kept.page_size)
      sized current None None alone ready named sizes = tt
      sized current None (Some later) alone ready named sizes = absurd alone
      sized current (Some told) None alone ready named sizes = absurd alone
      sized current (Some told) (Some later) alone ready named sizes =
          subst (λ (pages : PageMap). HasSizes pages pin.size kept.page_size) (sym (pin_map_over pin current (reads told) (reads later) alone ready named)) sizes

      agreed : IsOfCurrent kept pin → (old new : Option History) → BothTold (FrontAlone kept.pair) old new → IfSome old (λ told. IsReady kept (reads told))
          → IfSome old (λ told. AllName kept.page_size (current_read kept.pair (reads told)))
          → IfSome old (λ told. (mode : Mode) (numbers : List ℕ) → NoConflict mode numbers pin.n kept.history → (mode ≡ Plain → Contains numbers 1)
          → MayLayOn mode (pin_map_in kept.pair pin (reads told)) numbers (newest_in kept.pair (reads told)))
          → IfSome new (λ told. (mode : Mode) (numbers : List ℕ) → NoConflict mode numbers pin.n kept.history → (mode ≡ Plain → Contains numbers 1)
          → MayLayOn mode (pin_map_in over pin (reads told)) numbers (newest_in over (reads told)))
      agreed current None None alone ready named agrees = tt
      agreed current None (Some later) alone ready named agrees = absurd alone
      agreed current (Some told) None alone ready named agrees = absurd alone
      agreed current (Some told) (Some later) alone ready named agrees = λ mode numbers none first.
          subst (λ (pages : PageMap). MayLayOn mode pages numbers (newest_in over (reads later))) (sym (pin_map_over pin current (reads told) (reads later) alone ready named))
          (subst (λ (pages : PageMap). MayLayOn mode (pin_map_in kept.pair pin (reads told)) numbers pages)
          (sym (newest_over kept.pair header whole.pair.which kept.page_size (reads told) (reads later) alone ready.first ready.copied ready.sized))
          (agrees mode numbers none first))

-- And where the switch failed all is the same.
module _ (kept : StoreData) (stop : KeptStop) where
  pub newest_torn_told : (old new : Option History) → BothTold (FrontAlone kept.pair) old new → newest_told (stopped kept kept.pair stop) new ≡ newest_told kept old
  newest_torn_told None None alone = refl
  newest_torn_told None (Some later) alone = absurd alone
  newest_torn_told (Some told) None alone = absurd alone
  newest_torn_told (Some told) (Some later) alone = ap (λ (pages : PageMap). Some pages) (newest_alone kept.pair (reads told) (reads later) alone)

  pub pin_map_torn : (pin : Pin) (one other : Files) → FrontAlone kept.pair one other → pin_map_in kept.pair pin other ≡ pin_map_in kept.pair pin one
  pin_map_torn pin one other alone = by (pin.generation == (current_header kept.pair).generation)
    where
      by : (newer : Bool) → (if newer then map_over kept.pair pin.mark other else map_below kept.pair pin.mark other) ≡ (if newer then map_over kept.pair pin.mark one else map_below kept.pair pin.mark one)
      by true = over_alone kept.pair one other alone pin.mark
      by false = below_alone kept.pair one other alone pin.mark

  pub pin_torn_told : (pin : Pin) (old new : Option History) → BothTold (FrontAlone kept.pair) old new → pin_told (stopped kept kept.pair stop) new pin ≡ pin_told kept old pin
  pin_torn_told pin None None alone = refl
  pin_torn_told pin None (Some later) alone = absurd alone
  pin_torn_told pin (Some told) None alone = absurd alone
  pin_torn_told pin (Some told) (Some later) alone = ap (λ (pages : PageMap). Some pages) (pin_map_torn pin (reads told) (reads later) alone)

  pub front_torn : (n : ℕ) → IsFront kept n → IsFront (stopped kept kept.pair stop) n
  front_torn n front = record { least = front.least; most = front.most; held = front.held }

  pub older_torn : (n : ℕ) → IsOlderFront kept n → IsOlderFront (stopped kept kept.pair stop) n
  older_torn n front = record { least = front.least; most = front.most; held = front.held }

  place_torn : (pin : Pin) → IsOfCurrent kept pin ⊎ IsOfOther kept pin → IsOfCurrent (stopped kept kept.pair stop) pin ⊎ IsOfOther (stopped kept kept.pair stop) pin
  place_torn pin (inl current) = inl (record { generation = current.generation; front = front_torn pin.n current.front; mark = current.mark; lock = current.lock })
  place_torn pin (inr other) = inr (record { generation = other.generation; front = older_torn pin.n other.front; mark = other.mark; lock = other.lock })

  pub pin_holds_torn : (old new : Option History) → BothTold (FrontAlone kept.pair) old new → (pin : Pin) → PinHolds old kept pin → PinHolds new (stopped kept kept.pair stop) pin
  pin_holds_torn old new alone pin holds = record {
    place = place_torn pin holds.place;
    some = holds.some;
    sizes = sized old new alone holds.sizes;
    agrees = agreed old new alone holds.agrees;
  }
    where
      sized : (old new : Option History) → BothTold (FrontAlone kept.pair) old new
          → IfSome old (λ told. HasSizes (pin_map_in kept.pair pin (reads told)) pin.size kept.page_size) → IfSome new (λ told. HasSizes (pin_map_in kept.pair pin (reads told)) pin.size kept.page_size)
      sized None None alone sizes = tt
      sized None (Some later) alone sizes = absurd alone
      sized (Some told) None alone sizes = absurd alone
      sized (Some told) (Some later) alone sizes = subst (λ (pages : PageMap). HasSizes pages pin.size kept.page_size) (sym (pin_map_torn pin (reads told) (reads later) alone)) sizes

      agreed : (old new : Option History) → BothTold (FrontAlone kept.pair) old new
          → IfSome old (λ told. (mode : Mode) (numbers : List ℕ) → NoConflict mode numbers pin.n kept.history → (mode ≡ Plain → Contains numbers 1)
          → MayLayOn mode (pin_map_in kept.pair pin (reads told)) numbers (newest_in kept.pair (reads told)))
          → IfSome new (λ told. (mode : Mode) (numbers : List ℕ) → NoConflict mode numbers pin.n kept.history → (mode ≡ Plain → Contains numbers 1)
          → MayLayOn mode (pin_map_in kept.pair pin (reads told)) numbers (newest_in kept.pair (reads told)))
      agreed None None alone agrees = tt
      agreed None (Some later) alone agrees = absurd alone
      agreed (Some told) None alone agrees = absurd alone
      agreed (Some told) (Some later) alone agrees = λ mode numbers none first.
          subst (λ (pages : PageMap). MayLayOn mode pages numbers (newest_in kept.pair (reads later))) (sym (pin_map_torn pin (reads told) (reads later) alone))
          (subst (λ (pages : PageMap). MayLayOn mode (pin_map_in kept.pair pin (reads told)) numbers pages) (sym (newest_alone kept.pair (reads told) (reads later) alone))
          (agrees mode numbers none first))
