-- Pins of the newest map, and what it means that a store stands for a run.
use Rattle.std.proofs.Common.{◌≡◌, ◌∙◌, ℕ, zero, suc, ◌+◌, ◌<◌, ◌≤◌, ◌==◌, Bool, true, false, if◌then◌else◌, List, length, take, drop, refl, sym, ap, subst, inl, inr, arith, Contains, Option, Some, None}
use Rattle.std.specs.Prelude.{IfSome, ◌⊎◌}
use Rattle.std.proofs.lemmas.Bool.{ne_eqb}
use Rattle.std.proofs.lemmas.Bool.Decides.{Decides-eqb}
use Rattle.std.proofs.lemmas.List.{take_all}
use Rattle.disk_face.specs.Files.{Files}
use Rattle.disk_face.specs.Steps.{History, reads}
use Rattle.page_spec.specs.PageMap.{PageMap}
use Rattle.log_spec.specs.Accept.{Frame}
use Rattle.crash_spec.specs.Recovered.{overlaid}
use Rattle.engine_spec.specs.declared.commits.Mode.{Mode}
use Rattle.engine_spec.specs.declared.commits.Mode.TheVariants.{Plain, Concurrent}
use Rattle.engine_spec.specs.declared.pins.Pin.{Pin}
use Rattle.engine_spec.specs.declared.pins.Lock.TheVariants.{Part1, Part1Full2, Part2, Part2Full1}
use Rattle.engine_spec.specs.declared.pins.Readers.{Readers}
use Rattle.engine_spec.specs.Good.{HasSizes, RunsFrom, MayLayOn}
use Rattle.engine_spec.specs.History.{statements_of, NoConflict}
use Rattle.engine_spec.specs.TwoLogs.{frames_of}
use Rattle.engine_spec.proofs.Laying.{agree_refl}
use Rattle.log_pair.specs.Pair.{PairView, other_number, current_header}
use Rattle.store_spec.specs.Store.{StoreData, frames_in, current_read, other_read, newest_in, map_over, map_below, pin_map_in, newest_told, pin_told, store_state, two_logs, since_of}
use Rattle.store_spec.specs.Pins.{PinHolds, mark_at, part_of, full_of, newest_pin}
use Rattle.store_spec.specs.Standing.{IsWholeStore, IsCountedLog, IsLiveStore, StandsFrom}
use Rattle.store_spec.proofs.EngineLaws.{held}
use Rattle.store_spec.proofs.Counting.{has_reader, holders_are}

pub frames_in-length : (size count : ℕ) (bytes : List ℕ) → length (frames_in size count bytes) ≡ count
frames_in-length size zero bytes = refl
frames_in-length size (suc count) bytes = ap suc (frames_in-length size count (drop size bytes))

-- what is counted of a log, by its number
pub counted_of : (kept : StoreData) (log : ℕ) → IsWholeStore kept → (log ≡ 1) ⊎ (log ≡ 2) → IsCountedLog kept log
counted_of kept log whole (inl is) = subst (IsCountedLog kept) (sym is) whole.log1
counted_of kept log whole (inr is) = subst (IsCountedLog kept) (sym is) whole.log2

-- as many frames are read of the current log as its commits wrote pages
pub current_count : (kept : StoreData) (files : Files) → IsWholeStore kept → length (current_read kept.pair files) ≡ length (frames_of (drop (since_of kept) kept.history))
current_count kept files whole =
    frames_in-length _ _ _ ∙ sym (counted_of kept kept.pair.current whole whole.pair.which).counted ∙ ap length whole.index.current.pages

pub since_least : (kept : StoreData) → since_of kept ≤ length kept.history
since_least kept = omega arith

-- the newest map is the one after the last commit
pub all_marked : (kept : StoreData) → mark_at kept.history (since_of kept) (length kept.history) ≡ length (frames_of (drop (since_of kept) kept.history))
all_marked kept = ap (λ commits. length (frames_of (drop (since_of kept) commits))) (take_all (length kept.history) kept.history (omega arith))

pub newest_is_front : (kept : StoreData) (files : Files) → IsWholeStore kept → map_over kept.pair (mark_at kept.history (since_of kept) (length kept.history)) files ≡ newest_in kept.pair files
newest_is_front kept files whole =
    ap (λ (frames : List Frame). overlaid files.main (other_read kept.pair files) frames)
    (take_all (mark_at kept.history (since_of kept) (length kept.history)) (current_read kept.pair files)
    (let count = current_count kept files whole in let all = all_marked kept in omega arith))

-- the map of a pin by the log that it is of
pub of_current : (pair : PairView) (pin : Pin) (files : Files) → pin.generation ≡ (current_header pair).generation → pin_map_in pair pin files ≡ map_over pair pin.mark files
of_current pair pin files is = ap (λ (b : Bool). if b then map_over pair pin.mark files else map_below pair pin.mark files) ((Decides-eqb pin.generation (current_header pair).generation).1 is)

pub of_other : (pair : PairView) (pin : Pin) (files : Files) → pin.generation + 1 ≡ (current_header pair).generation → pin_map_in pair pin files ≡ map_below pair pin.mark files
of_other pair pin files is = ap (λ (b : Bool). if b then map_over pair pin.mark files else map_below pair pin.mark files) (ne_eqb pin.generation (current_header pair).generation (λ e. omega arith))

-- A pin of the newest map holds.
lock_is : (current : ℕ) (done : Bool) → ((if current == 1 then (if done then Part1 else Part1Full2) else (if done then Part2 else Part2Full1)) ≡ part_of current)
    ⊎ ((if current == 1 then (if done then Part1 else Part1Full2) else (if done then Part2 else Part2Full1)) ≡ full_of current)
lock_is current done = by (current == 1) done
  where
    by : (first done : Bool) → ((if first then (if done then Part1 else Part1Full2) else (if done then Part2 else Part2Full1)) ≡ (if first then Part1 else Part2))
        ⊎ ((if first then (if done then Part1 else Part1Full2) else (if done then Part2 else Part2Full1)) ≡ (if first then Part1Full2 else Part2Full1))
    by true true = inl refl
    by true false = inr refl
    by false true = inl refl
    by false false = inr refl

pub newest_pin_map : (kept : StoreData) (files : Files) → IsWholeStore kept → pin_map_in kept.pair (newest_pin kept) files ≡ newest_in kept.pair files
newest_pin_map kept files whole =
    of_current kept.pair (newest_pin kept) files refl ∙ ap (λ (n : ℕ). map_over kept.pair n files) (sym (all_marked kept)) ∙ newest_is_front kept files whole

lays_on_itself : (mode : Mode) (pages : PageMap) (numbers : List ℕ) → MayLayOn mode pages numbers pages
lays_on_itself Plain pages numbers = refl
lays_on_itself Concurrent pages numbers = agree_refl pages numbers

pub begin_holds : (told : Option History) (kept : StoreData) → IsWholeStore kept → IfSome (newest_told kept told) (λ pages. HasSizes pages kept.size kept.page_size) → PinHolds told kept (newest_pin kept)
begin_holds told kept whole sizes = record {
  place = inl (record {
    generation = refl;
    front = record { least = since_least kept; most = omega arith; held = inr (inr refl) };
    mark = sym (all_marked kept);
    lock = lock_is kept.pair.current kept.state.done;
  });
  some = whole.some;
  sizes = sized told sizes;
  agrees = agreed told;
}
  where
    sized : (told : Option History) → IfSome (newest_told kept told) (λ pages. HasSizes pages kept.size kept.page_size)
        → IfSome told (λ told. HasSizes (pin_map_in kept.pair (newest_pin kept) (reads told)) kept.size kept.page_size)
    sized None sizes = tt
    sized (Some told) sizes = subst (λ (pages : PageMap). HasSizes pages kept.size kept.page_size) (sym (newest_pin_map kept (reads told) whole)) sizes

    agreed : (told : Option History) → IfSome told (λ told. (mode : Mode) (numbers : List ℕ) → NoConflict mode numbers (length kept.history) kept.history → (mode ≡ Plain → Contains numbers 1)
        → MayLayOn mode (pin_map_in kept.pair (newest_pin kept) (reads told)) numbers (newest_in kept.pair (reads told)))
    agreed None = tt
    agreed (Some told) = λ mode numbers none first. subst (λ (pages : PageMap). MayLayOn mode pages numbers (newest_in kept.pair (reads told))) (sym (newest_pin_map kept (reads told) whole)) (lays_on_itself mode (newest_in kept.pair (reads told)) numbers)

-- what it means that a store stands for a run
module _ (sound : PageMap → Type 0) (leads : PageMap → List (List ℕ) → PageMap → Type 0) (first : PageMap) (kept : StoreData) (readers : Readers) where
  pinned : (told : Option History) → StandsFrom sound leads first told kept readers → (pins : List Pin) (pin : Pin) (pages : PageMap) → IsLiveStore told kept readers pins → Contains pins pin
      → pin_told kept told pin ≡ Some pages → sound pages × leads first (statements_of (take pin.n kept.history)) pages
  pinned None stands pins pin pages live there is = absurd (let e = is in cc)
  pinned (Some told) stands pins pin pages live there is = elim (held (Some told) kept readers pins pin live there).place [
    | inl current ↦ map_is (of_current kept.pair pin (reads told) current.generation ∙ ap (λ (n : ℕ). map_over kept.pair n (reads told)) current.mark) (stands.fronts pin.n current.front)
    | inr other ↦ map_is (of_other kept.pair pin (reads told) other.generation ∙ ap (λ (n : ℕ). map_below kept.pair n (reads told)) other.mark)
        (stands.older (subst (λ (n : ℕ). 0 < n) (sym (holders_are (two_logs kept) readers)) (has_reader readers pins pin (part_of (other_number kept.pair.current)) live.counted there other.lock)) pin.n other.front)
  ]
    where
      some_is : {A : Type 0} {x y : A} → Some x ≡ Some y → x ≡ y
      some_is e = cc

      map_is : {map : PageMap} → pin_map_in kept.pair pin (reads told) ≡ map → sound map × leads first (statements_of (take pin.n kept.history)) map
          → sound pages × leads first (statements_of (take pin.n kept.history)) pages
      map_is {map} same has = subst (λ (p : PageMap). sound p × leads first (statements_of (take pin.n kept.history)) p) (sym same ∙ some_is is) has

  newest_of : (told : Option History) → StandsFrom sound leads first told kept readers → (pages : PageMap) → newest_told kept told ≡ Some pages → sound pages × leads first (statements_of kept.history) pages
  newest_of None stands pages is = absurd (let e = is in cc)
  newest_of (Some told) stands pages is = subst (λ (p : PageMap). sound p × leads first (statements_of kept.history) p) (some_is is) stands.newest
    where
      some_is : {A : Type 0} {x y : A} → Some x ≡ Some y → x ≡ y
      some_is e = cc

  pub runs : (told : Option History) (faults : ℕ) (IsHeld : Pin → Type 0) → ((pin : Pin) → IsHeld pin → (pins : List Pin) × IsLiveStore told kept readers pins × Contains pins pin)
      → StandsFrom sound leads first told kept readers → RunsFrom sound leads first (store_state told faults kept readers) IsHeld (pin_told kept told)
  runs told faults IsHeld live stands = record {
    snaps = stands.snaps;
    newest = newest_of told stands;
    pinned = λ pin pages holds is. (let at = live pin holds in pinned told stands at.0 pin pages at.1 at.2 is);
  }
