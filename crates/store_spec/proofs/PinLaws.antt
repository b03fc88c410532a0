-- A step of a checkpoint keeps the pins, and the run for which a store stands.
use Rattle.std.proofs.Common.{◌≡◌, ◌∙◌, ◌⊎◌, inl, inr, ℕ, zero, suc, ◌+◌, ◌*◌, ◌≤◌, ◌<◌, ◌==◌, if◌then◌else◌, Bool, true, false, List, [], ◌∷◌, length, take, refl, sym, ap, subst, arith, Option, Some, None, get_or}
use Rattle.std.specs.Prelude.{Result, IfSome}
use Rattle.std.proofs.lemmas.Bool.{true≢false}
use Rattle.std.proofs.lemmas.Bool.Decides.{Decides-eqb}
use Rattle.disk_face.specs.declared.Failed.{Failed}
use Rattle.disk_face.specs.declared.disk.File.TheVariants.{Log1, Log2}
use Rattle.disk_face.specs.declared.step.Step.{Step}
use Rattle.disk_face.specs.Files.{Files}
use Rattle.disk_face.specs.Steps.{History, reads, further}
use Rattle.page_spec.specs.PageMap.{PageMap}
use Rattle.log_spec.specs.Frames.{frame_place}
use Rattle.crash_spec.specs.Store.{named_size}
use Rattle.crash_spec.proofs.Elsewhere.{content_elsewhere}
use Rattle.engine_spec.specs.declared.pins.Ckpt.{Ckpt}
use Rattle.engine_spec.specs.declared.pins.Lock.{Lock}
use Rattle.engine_spec.specs.declared.pins.Lock.TheVariants.{Part1, Part1Full2, Part2, Part2Full1}
use Rattle.engine_spec.specs.declared.pins.Pin.{Pin}
use Rattle.engine_spec.specs.declared.pins.Readers.{Readers}
use Rattle.engine_spec.specs.Good.{HasSizes, MayLayOn}
use Rattle.engine_spec.specs.History.{statements_of}
use Rattle.engine_spec.specs.TwoLogs.{readers_of, holders}
use Rattle.wal_rules.specs.declared.state.LogState.{LogState}
use Rattle.log_pair.specs.Pair.{other_number, current_header}
use Rattle.checkpoint.specs.Steps.{readers_behind}
use Rattle.store_spec.specs.Store.{StoreData, current_read, other_read, newest_in, map_over, map_below, pin_map_in, since_of, two_logs, pin_told}
use Rattle.store_spec.specs.Pins.{PinHolds, IsFront, IsOlderFront, IsOfCurrent, IsOfOther, AreCounted, mark_at, part_of, pins_with, same_lock}
use Rattle.store_spec.specs.Standing.{IsWholeStore, IsReadable, IsCountedLog, IsLiveStore, StandsFrom}
use Rattle.store_spec.specs.Steps.{HasTakenStep, stepped}
use Rattle.store_spec.specs.Named.{AreNamed}
use Rattle.log_spec.specs.Accept.{Frame}
use Rattle.std.proofs.lemmas.List.{take_all}
use Rattle.store_spec.proofs.Runs.{current_count, all_marked, since_least}
use Rattle.store_spec.proofs.Taken.{Taken, Stays, Goes, taken}
use Rattle.store_spec.proofs.Copied.{StepsOn}
use Rattle.store_spec.proofs.Standing.{newest_same, over_same, over_named}
use Rattle.store_spec.proofs.CheckpointLaws.{step_newest, step_opened, named_now}

-- A pin's lock is counted among the readers.
same_lock-refl : (lock : Lock) → same_lock lock lock ≡ true
same_lock-refl Part1 = refl
same_lock-refl Part1Full2 = refl
same_lock-refl Part2 = refl
same_lock-refl Part2Full1 = refl

one_with : (lock : Lock) (pins : List Pin) (place : ℕ) (default : Pin) → place < length pins → (get_or pins place default).lock ≡ lock → 1 ≤ pins_with lock pins
one_with lock [] place default within is = absurd (omega arith)
one_with lock (pin ∷ pins) zero default within is =
    by (same_lock pin.lock lock) (subst (λ (l : Lock). same_lock pin.lock l ≡ true) is (same_lock-refl pin.lock))
  where
    by : (same : Bool) → same ≡ true → 1 ≤ (if same then 1 else 0) + pins_with lock pins
    by true is = omega arith
    by false is = absurd (true≢false (sym is))
one_with lock (pin ∷ pins) (suc place) default within is = let rest = one_with lock pins place default (omega arith) is in omega arith

pub is_counted : (readers : Readers) (pins : List Pin) (lock : Lock) (place : ℕ) (default : Pin) → AreCounted readers pins → place < length pins
    → (get_or pins place default).lock ≡ lock → 0 < readers_of readers lock
is_counted readers pins lock place default counted within is =
    let one = one_with lock pins place default within is in
    elim (counted lock) [
      | inl few ↦ omega arith
      | inr last ↦ omega arith
    ]

-- the readers of a front of the other log are those who hold what a copy would change
pub holders_are : (kept : StoreData) (readers : Readers) → IsWholeStore kept → readers_of readers (part_of (other_number kept.pair.current)) ≡ holders (two_logs kept) readers
holders_are kept readers whole = by kept.pair.current whole.pair.which
  where
    by : (current : ℕ) → (current ≡ 1) ⊎ (current ≡ 2) → readers_of readers (part_of (other_number current)) ≡ (if current == 1 then readers.part2 else readers.part1)
    by current (inl one) = subst (λ (n : ℕ). readers_of readers (part_of (other_number n)) ≡ (if n == 1 then readers.part2 else readers.part1)) (sym one) refl
    by current (inr two) = subst (λ (n : ℕ). readers_of readers (part_of (other_number n)) ≡ (if n == 1 then readers.part2 else readers.part1)) (sym two) refl

pub behind_are : (kept : StoreData) (readers : Readers) → IsWholeStore kept → readers_behind kept.state readers ≡ holders (two_logs kept) readers
behind_are kept readers whole = ap (λ (n : ℕ). if n == 1 then readers.part2 else readers.part1) whole.current

-- the newest map names the page size, as the one after the last commit does
pub named_all : (told : History) (kept : StoreData) (readers : Readers) → IsWholeStore kept → AreNamed (Some told) kept readers
    → named_size (reads told).main (other_read kept.pair (reads told)) (current_read kept.pair (reads told)) ≡ kept.page_size
named_all told kept readers whole named =
    sym (ap (λ (frames : List Frame). named_size (reads told).main (other_read kept.pair (reads told)) frames)
    (take_all (mark_at kept.history (since_of kept) (length kept.history)) (current_read kept.pair (reads told))
    (let count = current_count kept (reads told) whole in let all = all_marked kept in omega arith)))
    ∙ named.fronts (length kept.history) (record { least = since_least kept; most = omega arith; held = inr (inr refl) })

-- the map of a pin by the log that was current then
pub pin_current : (kept : StoreData) (pin : Pin) (files : Files) → pin.generation ≡ (current_header kept.pair).generation → pin_map_in kept.pair pin files ≡ map_over kept.pair pin.mark files
pin_current kept pin files is = by (pin.generation == (current_header kept.pair).generation) ((Decides-eqb pin.generation (current_header kept.pair).generation).1 is)
  where
    by : (same : Bool) → same ≡ true → (if same then map_over kept.pair pin.mark files else map_below kept.pair pin.mark files) ≡ map_over kept.pair pin.mark files
    by true is = refl
    by false is = absurd (true≢false (sym is))

module _ (kept : StoreData) (state : LogState) where
  front_goes : (n : ℕ) → IsFront kept n → IsFront (stepped kept state) n
  front_goes n front = record { least = front.least; most = front.most; held = front.held }

  front_back : (n : ℕ) → IsFront (stepped kept state) n → IsFront kept n
  front_back n front = record { least = front.least; most = front.most; held = front.held }

  older_goes : (n : ℕ) → IsOlderFront kept n → IsOlderFront (stepped kept state) n
  older_goes n front = record { least = front.least; most = front.most; held = front.held }

  place_goes : (pin : Pin) → IsOfCurrent kept pin ⊎ IsOfOther kept pin → IsOfCurrent (stepped kept state) pin ⊎ IsOfOther (stepped kept state) pin
  place_goes pin (inl of) = inl (record { generation = of.generation; front = front_goes pin.n of.front; mark = of.mark; lock = of.lock })
  place_goes pin (inr of) = inr (record { generation = of.generation; front = older_goes pin.n of.front; mark = of.mark; lock = of.lock })

  counted_goes : (log : ℕ) → IsCountedLog kept log → IsCountedLog (stepped kept state) log
  counted_goes log counted = record { counted = counted.counted; pages = counted.pages }

  pub whole_goes : IsWholeStore kept → state.current ≡ kept.state.current → IsWholeStore (stepped kept state)
  whole_goes whole current = record {
    legal = whole.legal;
    usable = whole.usable;
    some = whole.some;
    fits = whole.fits;
    limit = whole.limit;
    pair = whole.pair;
    page_size = whole.page_size;
    rising = whole.rising;
    current = current ∙ whole.current;
    index = record {
      are = record {
        current = whole.index.are.current;
        least = whole.index.are.least;
        most = whole.index.are.most;
        odd = whole.index.are.odd;
        since = whole.index.are.since;
        other_since = whole.index.are.other_since;
      };
      current = whole.index.current;
      other = whole.index.other;
    };
    log1 = counted_goes 1 whole.log1;
    log2 = counted_goes 2 whole.log2;
    sealed = whole.sealed;
  }

  -- a pin whose map is the same, as the newest one is
  pin_goes : (pin : Pin) (old new : History) → pin_map_in kept.pair pin (reads new) ≡ pin_map_in kept.pair pin (reads old) → newest_in kept.pair (reads new) ≡ newest_in kept.pair (reads old)
      → PinHolds (Some old) kept pin → PinHolds (Some new) (stepped kept state) pin
  pin_goes pin old new same newest holds = record {
    place = place_goes pin holds.place;
    some = holds.some;
    sizes = subst (λ (pages : PageMap). HasSizes pages pin.size kept.page_size) (sym same) holds.sizes;
    agrees = λ mode numbers free one.
        subst (λ (pages : PageMap). MayLayOn mode pages numbers (newest_in kept.pair (reads new))) (sym same)
        (subst (λ (pages : PageMap). MayLayOn mode (pin_map_in kept.pair pin (reads old)) numbers pages) (sym newest) (holds.agrees mode numbers free one));
  }

  pin_untold : (pin : Pin) → PinHolds None kept pin → PinHolds None (stepped kept state) pin
  pin_untold pin holds = record { place = place_goes pin holds.place; some = holds.some; sizes = tt; agrees = tt }

  -- the files reach as far
  module _ (told : History) (step : Step) (s : StepsOn kept state told step) where
    readable_goes : IsReadable kept (Some told) → IsReadable (stepped kept state) (Some (further step told))
    readable_goes readable = record {
      log1 = subst (λ (bytes : List ℕ). frame_place kept.pair.one.header kept.pair.one.frames + 0 ≤ length bytes) (sym (content_elsewhere Log1 step told s.log1)) readable.log1;
      log2 = subst (λ (bytes : List ℕ). frame_place kept.pair.two.header kept.pair.two.frames + 0 ≤ length bytes) (sym (content_elsewhere Log2 step told s.log2)) readable.log2;
      main = let old : kept.size * kept.page_size + 0 ≤ length (reads told).main = readable.main in let more = s.longer in omega (arith, old, more);
    }

    named_at : (readers : Readers) (pin : Pin) → AreNamed (Some told) kept readers → IsOfCurrent kept pin
        → named_size (reads told).main (other_read kept.pair (reads told)) (take pin.mark (current_read kept.pair (reads told))) ≡ kept.page_size
    named_at readers pin named of =
        subst (λ (mark : ℕ). named_size (reads told).main (other_read kept.pair (reads told)) (take mark (current_read kept.pair (reads told))) ≡ kept.page_size) (sym of.mark)
        (named.fronts pin.n of.front)

    -- The map of a pin of the current log is the same. Where a copy is written, no pin is of the other one.
    pin_same : (readers : Readers) (pins : List Pin) (place : ℕ) (default : Pin) → IsWholeStore kept → readers_behind kept.state readers ≡ 0 → AreNamed (Some told) kept readers
        → AreCounted readers pins → place < length pins → PinHolds (Some told) kept (get_or pins place default)
        → pin_map_in kept.pair (get_or pins place default) (reads (further step told)) ≡ pin_map_in kept.pair (get_or pins place default) (reads told)
    pin_same readers pins place default whole free named counted within holds = by holds.place
      where
        pin : Pin
        pin = get_or pins place default

        by : IsOfCurrent kept (get_or pins place default) ⊎ IsOfOther kept (get_or pins place default)
            → pin_map_in kept.pair (get_or pins place default) (reads (further step told)) ≡ pin_map_in kept.pair (get_or pins place default) (reads told)
        by (inl of) =
            pin_current kept pin (reads (further step told)) of.generation ∙ over_same kept state told step s pin.mark (named_at readers pin named of)
            ∙ sym (pin_current kept pin (reads told) of.generation)
        by (inr of) =
            let some : 0 < readers_of readers (part_of (other_number kept.pair.current)) =
            is_counted readers pins (part_of (other_number kept.pair.current)) place default counted within of.lock in
            absurd (omega (arith, some, holders_are kept readers whole, behind_are kept readers whole, free))

    -- where a copy is written, nobody holds a map on the other log
    none_older : (readers : Readers) → IsWholeStore kept → readers_behind kept.state readers ≡ 0 → 0 < holders (two_logs kept) readers → ⊥
    none_older readers whole free some = omega (arith, some, behind_are kept readers whole, free)

    named_goes : (readers : Readers) → IsWholeStore kept → readers_behind kept.state readers ≡ 0 → AreNamed (Some told) kept readers
        → AreNamed (Some (further step told)) (stepped kept state) readers
    named_goes readers whole free named = record {
      fronts = λ n front. over_named kept state told step s (mark_at kept.history (since_of kept) n) (named.fronts n (front_back n front));
      older = λ some. absurd (none_older readers whole free some);
    }

    from_goes : (sound : PageMap → Type 0) (leads : PageMap → List (List ℕ) → PageMap → Type 0) (first : PageMap) (readers : Readers) → IsWholeStore kept
        → readers_behind kept.state readers ≡ 0 → AreNamed (Some told) kept readers → StandsFrom sound leads first (Some told) kept readers
        → StandsFrom sound leads first (Some (further step told)) (stepped kept state) readers
    from_goes sound leads first readers whole free named from = record {
      snaps = from.snaps;
      newest =
          subst (λ (pages : PageMap). sound pages × leads first (statements_of kept.history) pages)
          (sym (newest_same kept state told step s (named_all told kept readers whole named))) from.newest;
      fronts = λ n front.
          subst (λ (pages : PageMap). sound pages × leads first (statements_of (take n kept.history)) pages)
          (sym (over_same kept state told step s (mark_at kept.history (since_of kept) n) (named.fronts n (front_back n front))))
          (from.fronts n (front_back n front));
      older = λ some. absurd (none_older readers whole free some);
    }

module _ (kept : StoreData) (readers : Readers) (pins : List Pin) (state : LogState) where
  -- The maps go on to name the page size.
  named_step : (old new : Option History) → IsWholeStore kept → Taken kept readers state old new → AreNamed old kept readers → AreNamed new (stepped kept state) readers
  named_step old new whole (Stays is same) named =
      subst (λ (s : LogState). AreNamed new (stepped kept s) readers) (sym is) (subst (λ (t : Option History). AreNamed t kept readers) (sym same) named)
  named_step None new whole (Goes step same unfinished free current goes) named =
      subst (λ (t : Option History). AreNamed t (stepped kept state) readers) (sym same) (record { fronts = tt; older = λ some. tt })
  named_step (Some told) new whole (Goes step same unfinished free current goes) named =
      subst (λ (t : Option History). AreNamed t (stepped kept state) readers) (sym same)
      (named_goes kept state told step (goes told told refl refl) readers whole free named)

  from_step : (sound : PageMap → Type 0) (leads : PageMap → List (List ℕ) → PageMap → Type 0) (first : PageMap) (old new : Option History) → IsWholeStore kept
      → Taken kept readers state old new → AreNamed old kept readers → StandsFrom sound leads first old kept readers → StandsFrom sound leads first new (stepped kept state) readers
  from_step sound leads first old new whole (Stays is same) named from =
      subst (λ (s : LogState). StandsFrom sound leads first new (stepped kept s) readers) (sym is)
      (subst (λ (t : Option History). StandsFrom sound leads first t kept readers) (sym same) from)
  from_step sound leads first None new whole (Goes step same unfinished free current goes) named from =
      subst (λ (t : Option History). StandsFrom sound leads first t (stepped kept state) readers) (sym same)
      (record { snaps = from.snaps; newest = tt; fronts = tt; older = λ some. tt })
  from_step sound leads first (Some told) new whole (Goes step same unfinished free current goes) named from =
      subst (λ (t : Option History). StandsFrom sound leads first t (stepped kept state) readers) (sym same)
      (from_goes kept state told step (goes told told refl refl) sound leads first readers whole free named from)

  -- one of the pins
  pin_step : (old new : Option History) (place : ℕ) (default : Pin) → IsLiveStore old kept readers pins → AreNamed old kept readers → place < length pins → Taken kept readers state old new
      → PinHolds new (stepped kept state) (get_or pins place default)
  pin_step old new place default live named within (Stays is same) =
      subst (λ (s : LogState). PinHolds new (stepped kept s) (get_or pins place default)) (sym is)
      (subst (λ (t : Option History). PinHolds t kept (get_or pins place default)) (sym same) (live.hold place default within))
  pin_step None new place default live named within (Goes step same unfinished free current goes) =
      subst (λ (t : Option History). PinHolds t (stepped kept state) (get_or pins place default)) (sym same)
      (pin_untold kept state (get_or pins place default) (live.hold place default within))
  pin_step (Some told) new place default live named within (Goes step same unfinished free current goes) =
      let s : StepsOn kept state told step = goes told told refl refl in
      subst (λ (t : Option History). PinHolds t (stepped kept state) (get_or pins place default)) (sym same)
      (pin_goes kept state (get_or pins place default) told (further step told)
      (pin_same kept state told step s readers pins place default live.whole free named live.counted within (live.hold place default within))
      (newest_same kept state told step s (named_now kept readers state live.opening told unfinished live.opened))
      (live.hold place default within))

  told_step : (old new : Option History) (place : ℕ) (default : Pin) → IsLiveStore old kept readers pins → AreNamed old kept readers → place < length pins → Taken kept readers state old new
      → pin_told (stepped kept state) new (get_or pins place default) ≡ pin_told kept old (get_or pins place default)
  told_step old new place default live named within (Stays is same) = ap (λ (t : Option History). pin_told kept t (get_or pins place default)) same
  told_step None new place default live named within (Goes step same unfinished free current goes) =
      ap (λ (t : Option History). pin_told kept t (get_or pins place default)) same
  told_step (Some told) new place default live named within (Goes step same unfinished free current goes) =
      ap (λ (t : Option History). pin_told kept t (get_or pins place default)) same
      ∙ ap (λ (pages : PageMap). Some pages)
      (pin_same kept state told step (goes told told refl refl) readers pins place default live.whole free named live.counted within (live.hold place default within))

  readable_step : (old new : Option History) → IsReadable kept old → Taken kept readers state old new → IsReadable (stepped kept state) new
  readable_step old new readable (Stays is same) =
      subst (λ (s : LogState). IsReadable (stepped kept s) new) (sym is) (subst (λ (t : Option History). IsReadable kept t) (sym same) readable)
  readable_step None new readable (Goes step same unfinished free current goes) =
      subst (λ (t : Option History). IsReadable (stepped kept state) t) (sym same) (record { log1 = tt; log2 = tt; main = tt })
  readable_step (Some told) new readable (Goes step same unfinished free current goes) =
      subst (λ (t : Option History). IsReadable (stepped kept state) t) (sym same) (readable_goes kept state told step (goes told told refl refl) readable)

  current_step : (old new : Option History) → Taken kept readers state old new → state.current ≡ kept.state.current
  current_step old new (Stays is same) = ap (λ (s : LogState). s.current) is
  current_step old new (Goes step same unfinished free current goes) = current

-- Each pin's map is the same, and the pin holds.
pub step_pin : (kept : StoreData) (readers : Readers) (pins : List Pin) (result : Result Ckpt Failed) (state : LogState) (old new : Option History) (place : ℕ) (default : Pin)
    → IsLiveStore old kept readers pins → AreNamed old kept readers → HasTakenStep kept readers result state old new → place < length pins
    → (pin_told (stepped kept state) new (get_or pins place default) ≡ pin_told kept old (get_or pins place default)) × PinHolds new (stepped kept state) (get_or pins place default)
step_pin kept readers pins result state old new place default live named has within =
    let took : Taken kept readers state old new = taken kept readers pins result state old new live has in (
      told_step kept readers pins state old new place default live named within took,
      pin_step kept readers pins state old new place default live named within took,
    )

-- The store is live with these pins.
pub step_live : (kept : StoreData) (readers : Readers) (pins : List Pin) (result : Result Ckpt Failed) (state : LogState) (old new : Option History)
    → IsLiveStore old kept readers pins → AreNamed old kept readers → HasTakenStep kept readers result state old new → IsLiveStore new (stepped kept state) readers pins
step_live kept readers pins result state old new live named has =
    let took : Taken kept readers state old new = taken kept readers pins result state old new live has in
    record {
      whole = whole_goes kept state live.whole (current_step kept readers pins state old new took);
      readable = readable_step kept readers pins state old new live.readable took;
      sizes = subst (λ (pages : Option PageMap). IfSome pages (λ pages. HasSizes pages kept.size kept.page_size)) (sym (step_newest kept readers pins result state old new live has)) live.sizes;
      hold = λ place default within. pin_step kept readers pins state old new place default live named within took;
      counted = live.counted;
      opening = live.opening;
      opened = step_opened kept readers pins result state old new live.opening live has live.opened;
    }

-- Its maps name the page size.
pub step_named : (kept : StoreData) (readers : Readers) (pins : List Pin) (result : Result Ckpt Failed) (state : LogState) (old new : Option History)
    → IsLiveStore old kept readers pins → AreNamed old kept readers → HasTakenStep kept readers result state old new → AreNamed new (stepped kept state) readers
step_named kept readers pins result state old new live named has =
    named_step kept readers pins state old new live.whole (taken kept readers pins result state old new live has) named

-- It stands for the same runs.
pub step_from : (sound : PageMap → Type 0) (leads : PageMap → List (List ℕ) → PageMap → Type 0) (first : PageMap)
    (kept : StoreData) (readers : Readers) (pins : List Pin) (result : Result Ckpt Failed) (state : LogState) (old new : Option History)
    → IsLiveStore old kept readers pins → AreNamed old kept readers → HasTakenStep kept readers result state old new
    → StandsFrom sound leads first old kept readers → StandsFrom sound leads first new (stepped kept state) readers
step_from sound leads first kept readers pins result state old new live named has from =
    from_step kept readers pins state sound leads first old new live.whole (taken kept readers pins result state old new live has) named from
