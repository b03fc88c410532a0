-- A store as an engine with one reader more, and with one fewer.
use Rattle.std.proofs.Common.{◌≡◌, ℕ, ◌+◌, ◌-◌, ◌<◌, ◌≤◌, ◌==◌, Bool, true, false, if◌then◌else◌, List, ◌∷◌, ◌++◌, length, refl, sym, ap, subst, arith, All, length-append, add-one, Option, Some, None}
use Rattle.std.proofs.lemmas.List.{get_or-append-add, get_or_append_left}
use Rattle.std.proofs.lemmas.List.Elements.{All-append, All-cons}
use Rattle.disk_face.specs.declared.tells.DiskTells.{Ghosts as DiskGhosts}
use Rattle.disk_face.specs.Faults.{last_count, one_more}
use Rattle.disk_face.specs.Steps.{History, reads}
use Rattle.page_spec.specs.PageMap.{PageMap}
use Rattle.engine_spec.specs.declared.pins.Pin.{Pin}
use Rattle.engine_spec.specs.declared.pins.Lock.{Lock}
use Rattle.engine_spec.specs.declared.pins.Lock.TheVariants.{Part1, Part1Full2, Part2, Part2Full1}
use Rattle.engine_spec.specs.declared.pins.Readers.{Readers}
use Rattle.engine_spec.specs.TwoLogs.{TwoLogs, lock_of, holders, one_fewer, change_readers}
use Rattle.engine_spec.proofs.Here.{later_same}
use Rattle.page_face.specs.declared.means.Means.{Ghosts as Meaning}
use Rattle.page_face.specs.Calls.{HasBegun, HasEnded}
use Rattle.store_spec.specs.Store.{StoreData, newest_told, pin_told, two_logs}
use Rattle.store_spec.specs.Pins.{PinHolds, newest_pin}
use Rattle.store_spec.specs.Standing.{IsWholeStore, StandsFrom}
use Rattle.store_spec.proofs.Counting.{counts_more, counts_fewer}
use Rattle.store_spec.proofs.NamedLaws.{named_held}
use Rattle.store_spec.proofs.Runs.{begin_holds, newest_pin_map}
use Rattle.store.specs.declared.store.Store.{Store}
use Rattle.store.specs.Kept.{kept_of, state_of, IsLiveIn}
use Rattle.store.specs.Solo.{solo_tells}

-- what holds of a list but for one element, and of that element
front_all : {X : Type 0} (P : X → Type 0) (xs ys : List X) → All P (xs ++ ys) → All P xs
front_all P xs ys all k d within = subst P (get_or_append_left xs ys d k within) (all k d (omega (arith, length-append xs ys)))

back_all : {X : Type 0} (P : X → Type 0) (xs ys : List X) → All P (xs ++ ys) → All P ys
back_all P xs ys all k d within = subst P (get_or-append-add xs ys k d) (all (length xs + k) d (omega (arith, length-append xs ys)))

all_with : {X : Type 0} (P : X → Type 0) (xs : List X) (x : X) (ys : List X) → P x → All P (xs ++ ys) → All P (xs ++ x ∷ ys)
all_with P xs x ys here all = All-append P xs (x ∷ ys) (front_all P xs ys all) (All-cons P x ys here (back_all P xs ys all))

all_without : {X : Type 0} (P : X → Type 0) (xs : List X) (x : X) (ys : List X) → All P (xs ++ x ∷ ys) → All P (xs ++ ys)
all_without P xs x ys all = All-append P xs ys (front_all P xs (x ∷ ys) all) (λ k d within. rw add-one at (back_all P xs (x ∷ ys) all (k + 1) d (omega arith)))

-- a reader who comes now holds nothing that a copy would change
held_more : (logs : TwoLogs) (readers : Readers) → holders logs (change_readers one_more readers (lock_of logs)) ≡ holders logs readers
held_more logs readers = by (logs.current == 1) logs.done
  where
    by : (first done : Bool) → (if first then (change_readers one_more readers (if first then (if done then Part1 else Part1Full2) else (if done then Part2 else Part2Full1))).part2
        else (change_readers one_more readers (if first then (if done then Part1 else Part1Full2) else (if done then Part2 else Part2Full1))).part1) ≡ (if first then readers.part2 else readers.part1)
    by true true = refl
    by true false = refl
    by false true = refl
    by false false = refl

-- and one who goes leaves no more of them
fewer_least : (count : ℕ) → one_fewer count ≤ count
fewer_least count = by (count == last_count)
  where
    by : (full : Bool) → (if full then count else count - 1) ≤ count
    by true = omega arith
    by false = omega arith

held_fewer : (logs : TwoLogs) (readers : Readers) (lock : Lock) → holders logs (change_readers one_fewer readers lock) ≤ holders logs readers
held_fewer logs readers lock = by (logs.current == 1) lock
  where
    by : (first : Bool) (lock : Lock) → (if first then (change_readers one_fewer readers lock).part2 else (change_readers one_fewer readers lock).part1) ≤ (if first then readers.part2 else readers.part1)
    by true Part1 = omega arith
    by true Part1Full2 = omega arith
    by true Part2 = fewer_least readers.part2
    by true Part2Full1 = omega arith
    by false Part1 = fewer_least readers.part1
    by false Part1Full2 = omega arith
    by false Part2 = omega arith
    by false Part2Full1 = omega arith

-- with other readers, of whom no more hold what a copy would change, it stands for the same runs
from_held : (sound : PageMap → Type 0) (leads : PageMap → List (List ℕ) → PageMap → Type 0) (first : PageMap) (told : Option History) (kept : StoreData) (readers others : Readers)
    → (0 < holders (two_logs kept) others → 0 < holders (two_logs kept) readers) → StandsFrom sound leads first told kept readers → StandsFrom sound leads first told kept others
from_held sound leads first told kept readers others held from = record {
  snaps = from.snaps;
  newest = from.newest;
  fronts = from.fronts;
  older = λ some. from.older (held some);
}

-- the map of a pin that comes now
newest_pin_told : (told : Option History) (kept : StoreData) → IsWholeStore kept → pin_told kept told (newest_pin kept) ≡ newest_told kept told
newest_pin_told None kept whole = refl
newest_pin_told (Some told) kept whole = ap (λ (pages : PageMap). Some pages) (newest_pin_map kept (reads told) whole)

module _ {D W M : Type 0} (disk : DiskGhosts D) (loans : W → List ℕ) (means : Meaning M) where
  some_more : (store : Store D W M) (readers : Readers) → 0 < holders (two_logs (kept_of store)) (change_readers one_more readers (newest_pin (kept_of store)).lock) → 0 < holders (two_logs (kept_of store)) readers
  some_more store readers some = subst (λ (n : ℕ). 0 < n) (held_more (two_logs (kept_of store)) readers) some

  some_fewer : (store : Store D W M) (readers : Readers) (lock : Lock) → 0 < holders (two_logs (kept_of store)) (change_readers one_fewer readers lock) → 0 < holders (two_logs (kept_of store)) readers
  some_fewer store readers lock some = omega (arith, some, held_fewer (two_logs (kept_of store)) readers lock)

  live_more : (store : Store D W M) (readers : Readers) (before after : List Pin) → IsLiveIn disk store readers (before ++ after)
      → IsLiveIn disk store (change_readers one_more readers (newest_pin (kept_of store)).lock) (before ++ newest_pin (kept_of store) ∷ after)
  live_more store readers before after live = record {
    able = live.able;
    live = record {
      whole = live.live.whole;
      readable = live.live.readable;
      sizes = live.live.sizes;
      hold = all_with (PinHolds (disk.told store.disk) (kept_of store)) before (newest_pin (kept_of store)) after (begin_holds (disk.told store.disk) (kept_of store) live.live.whole live.live.sizes) live.live.hold;
      counted = counts_more readers before (newest_pin (kept_of store)) after live.live.counted;
      opening = live.live.opening;
      opened = live.live.opened;
    };
    steady = record {
      named = named_held (disk.told store.disk) (kept_of store) readers (change_readers one_more readers (newest_pin (kept_of store)).lock) (some_more store readers) live.steady.named;
      frames = live.steady.frames;
      salts = live.steady.salts;
      begun = live.steady.begun;
      smaller = all_with (λ pin. pin.size ≤ store.size) before (newest_pin (kept_of store)) after (omega arith) live.steady.smaller;
    };
  }

  live_fewer : (store : Store D W M) (readers : Readers) (before : List Pin) (pin : Pin) (after : List Pin) → IsLiveIn disk store readers (before ++ pin ∷ after)
      → IsLiveIn disk store (change_readers one_fewer readers pin.lock) (before ++ after)
  live_fewer store readers before pin after live = record {
    able = live.able;
    live = record {
      whole = live.live.whole;
      readable = live.live.readable;
      sizes = live.live.sizes;
      hold = all_without (PinHolds (disk.told store.disk) (kept_of store)) before pin after live.live.hold;
      counted = counts_fewer readers before pin after live.live.counted;
      opening = live.live.opening;
      opened = live.live.opened;
    };
    steady = record {
      named = named_held (disk.told store.disk) (kept_of store) readers (change_readers one_fewer readers pin.lock) (some_fewer store readers pin.lock) live.steady.named;
      frames = live.steady.frames;
      salts = live.steady.salts;
      begun = live.steady.begun;
      smaller = all_without (λ pin. pin.size ≤ store.size) before pin after live.steady.smaller;
    };
  }

  -- a pin of the newest map is taken, and counted
  begins : (store : Store D W M) (readers : Readers) → IsWholeStore (kept_of store)
      → HasBegun (solo_tells disk loans means) (record { store = store; readers = readers }) (newest_pin (kept_of store))
      (record { store = store; readers = change_readers one_more readers (newest_pin (kept_of store)).lock })
  begins store readers whole = record {
    event = (
      state_of disk store readers,
      later_same (state_of disk store readers),
      (
        state_of disk store (change_readers one_more readers (newest_pin (kept_of store)).lock),
        record { n = refl; size = refl; lock = refl; generation = refl; mark = refl; after_is = refl },
        later_same (state_of disk store (change_readers one_more readers (newest_pin (kept_of store)).lock)),
        newest_pin_told (disk.told store.disk) (kept_of store) whole,
      ),
    );
    pins = record { added = λ before after live. live_more store readers before after live; maps = λ other live. refl };
    runs = λ first stands. from_held (means.sound first) (means.leads first) first (disk.told store.disk) (kept_of store) readers _ (some_more store readers) stands;
    opened = λ opening opened. opened;
    loans = refl;
  }

  pub begins_so : (store new : Store D W M) (readers others : Readers) (pin : Pin) → IsWholeStore (kept_of store) → pin ≡ newest_pin (kept_of store) → new ≡ store
      → others ≡ change_readers one_more readers pin.lock
      → HasBegun (solo_tells disk loans means) (record { store = store; readers = readers }) pin (record { store = new; readers = others })
  begins_so store new readers others pin whole pin_is same counted =
      subst (λ (r : Readers). HasBegun (solo_tells disk loans means) (record { store = store; readers = readers }) pin (record { store = new; readers = r })) (sym counted)
      (subst (λ (s : Store D W M). HasBegun (solo_tells disk loans means) (record { store = store; readers = readers }) pin (record { store = s; readers = change_readers one_more readers pin.lock })) (sym same)
      (subst (λ (p : Pin). HasBegun (solo_tells disk loans means) (record { store = store; readers = readers }) p (record { store = store; readers = change_readers one_more readers p.lock })) (sym pin_is)
      (begins store readers whole)))

  -- a pin is given back
  ends : (store : Store D W M) (readers : Readers) (pin : Pin)
      → HasEnded (solo_tells disk loans means) (record { store = store; readers = readers }) pin (record { store = store; readers = change_readers one_fewer readers pin.lock })
  ends store readers pin = record {
    event = refl;
    pins = record { taken = λ before after live. live_fewer store readers before pin after live; maps = λ other live. refl };
    runs = λ first stands. from_held (means.sound first) (means.leads first) first (disk.told store.disk) (kept_of store) readers _ (some_fewer store readers pin.lock) stands;
    opened = λ opening opened. opened;
    may_begin = tt;
    loans = refl;
  }

  pub ends_so : (store : Store D W M) (readers others : Readers) (pin : Pin) → others ≡ change_readers one_fewer readers pin.lock
      → HasEnded (solo_tells disk loans means) (record { store = store; readers = readers }) pin (record { store = store; readers = others })
  ends_so store readers others pin counted =
      subst (λ (r : Readers). HasEnded (solo_tells disk loans means) (record { store = store; readers = readers }) pin (record { store = store; readers = r })) (sym counted) (ends store readers pin)
