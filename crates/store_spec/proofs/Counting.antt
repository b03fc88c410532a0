-- The readers of a store's locks.
use Rattle.std.proofs.Common.{◌≡◌, ◌∙◌, ℕ, ◌+◌, ◌-◌, ◌<◌, ◌≤◌, ◌==◌, ltb, Bool, true, false, if◌then◌else◌, List, [], ◌∷◌, ◌++◌, refl, sym, ap, subst, inl, inr, arith, Contains}
use Rattle.std.specs.Prelude.{◌⊎◌}
use Rattle.std.proofs.lemmas.Bool.{eqb-true, ltb-true, ltb-false}
use Rattle.std.proofs.Math.Nat.{min-eq_left, min-eq_right}
use Rattle.disk_face.specs.Faults.{last_count, one_more}
use Rattle.engine_spec.specs.declared.pins.Pin.{Pin}
use Rattle.engine_spec.specs.declared.pins.Lock.{Lock}
use Rattle.engine_spec.specs.declared.pins.Lock.TheVariants.{Part1, Part1Full2, Part2, Part2Full1}
use Rattle.engine_spec.specs.declared.pins.Readers.{Readers}
use Rattle.engine_spec.specs.TwoLogs.{readers_of, one_fewer, change_readers, holders, TwoLogs}
use Rattle.engine_spec.proofs.Conflicts.{contains_cases}
use Rattle.log_pair.specs.Pair.{other_number}
use Rattle.store_spec.specs.Pins.{part_of, same_lock, pins_with, AreCounted}

pub same_is : (lock : Lock) → same_lock lock lock ≡ true
same_is Part1 = refl
same_is Part1Full2 = refl
same_is Part2 = refl
same_is Part2Full1 = refl

changed_other : (change : ℕ → ℕ) (readers : Readers) (lock other : Lock) → same_lock lock other ≡ false → readers_of (change_readers change readers lock) other ≡ readers_of readers other
changed_other change readers Part1 Part1 apart = absurd cc
changed_other change readers Part1 Part1Full2 apart = refl
changed_other change readers Part1 Part2 apart = refl
changed_other change readers Part1 Part2Full1 apart = refl
changed_other change readers Part1Full2 Part1 apart = refl
changed_other change readers Part1Full2 Part1Full2 apart = absurd cc
changed_other change readers Part1Full2 Part2 apart = refl
changed_other change readers Part1Full2 Part2Full1 apart = refl
changed_other change readers Part2 Part1 apart = refl
changed_other change readers Part2 Part1Full2 apart = refl
changed_other change readers Part2 Part2 apart = absurd cc
changed_other change readers Part2 Part2Full1 apart = refl
changed_other change readers Part2Full1 Part1 apart = refl
changed_other change readers Part2Full1 Part1Full2 apart = refl
changed_other change readers Part2Full1 Part2 apart = refl
changed_other change readers Part2Full1 Part2Full1 apart = absurd cc

same_readers : (change : ℕ → ℕ) (readers : Readers) (lock other : Lock) → same_lock lock other ≡ true → readers_of (change_readers change readers lock) other ≡ change (readers_of readers other)
same_readers change readers Part1 Part1 same = refl
same_readers change readers Part1 Part1Full2 same = absurd cc
same_readers change readers Part1 Part2 same = absurd cc
same_readers change readers Part1 Part2Full1 same = absurd cc
same_readers change readers Part1Full2 Part1 same = absurd cc
same_readers change readers Part1Full2 Part1Full2 same = refl
same_readers change readers Part1Full2 Part2 same = absurd cc
same_readers change readers Part1Full2 Part2Full1 same = absurd cc
same_readers change readers Part2 Part1 same = absurd cc
same_readers change readers Part2 Part1Full2 same = absurd cc
same_readers change readers Part2 Part2 same = refl
same_readers change readers Part2 Part2Full1 same = absurd cc
same_readers change readers Part2Full1 Part1 same = absurd cc
same_readers change readers Part2Full1 Part1Full2 same = absurd cc
same_readers change readers Part2Full1 Part2 same = absurd cc
same_readers change readers Part2Full1 Part2Full1 same = refl

-- pins with one more among them
pins_one_more : (lock : Lock) (before : List Pin) (pin : Pin) (after : List Pin) → pins_with lock (before ++ pin ∷ after) ≡ (if same_lock pin.lock lock then 1 else 0) + pins_with lock (before ++ after)
pins_one_more lock [] pin after = refl
pins_one_more lock (first ∷ before) pin after =
    let rest = pins_one_more lock before pin after in
    swap (if same_lock first.lock lock then 1 else 0) (if same_lock pin.lock lock then 1 else 0) (pins_with lock (before ++ after)) (pins_with lock (before ++ pin ∷ after)) rest
  where
    swap : (a b c d : ℕ) → d ≡ b + c → a + d ≡ b + (a + c)
    swap a b c d is = omega arith

-- One reader more comes with one pin more, and one goes with one pin.
pub counts_more : (readers : Readers) (before : List Pin) (pin : Pin) (after : List Pin) → AreCounted readers (before ++ after)
    → AreCounted (change_readers one_more readers pin.lock) (before ++ pin ∷ after)
counts_more readers before pin after counted lock = by (same_lock pin.lock lock) refl
  where
    none : (n : ℕ) → 0 + n ≡ n
    none n = omega arith

    more : (pins readers with : ℕ) → with ≡ 1 + pins → (pins ≤ readers) ⊎ (readers ≡ last_count) → (with ≤ one_more readers) ⊎ (one_more readers ≡ last_count)
    more pins readers with is (inl few) = elim (at_most readers) [ inl below ↦ inl (omega arith) | inr full ↦ inr full ]
      where
        at_most : (n : ℕ) → (one_more n ≡ n + 1) ⊎ (one_more n ≡ last_count)
        at_most n = below (ltb n last_count) refl
          where
            below : (b : Bool) → ltb n last_count ≡ b → (one_more n ≡ n + 1) ⊎ (one_more n ≡ last_count)
            below true is = inl (min-eq_left (let less = ltb-true n last_count is in omega arith))
            below false is = inr (min-eq_right (let least = ltb-false n last_count is in omega arith))
    more pins readers with is (inr full) = inr (omega arith)

    by : (same : Bool) → same_lock pin.lock lock ≡ same → (pins_with lock (before ++ pin ∷ after) ≤ readers_of (change_readers one_more readers pin.lock) lock) ⊎ (readers_of (change_readers one_more readers pin.lock) lock ≡ last_count)
    by true is = rw (same_readers one_more readers pin.lock lock is)
        (more (pins_with lock (before ++ after)) (readers_of readers lock) (pins_with lock (before ++ pin ∷ after)) (pins_one_more lock before pin after ∙ ap (λ (b : Bool). (if b then 1 else 0) + pins_with lock (before ++ after)) is) (counted lock))
    by false is = rw (changed_other one_more readers pin.lock lock is)
        (subst (λ (n : ℕ). (n ≤ readers_of readers lock) ⊎ (readers_of readers lock ≡ last_count)) (sym (pins_one_more lock before pin after ∙ ap (λ (b : Bool). (if b then 1 else 0) + pins_with lock (before ++ after)) is ∙ none (pins_with lock (before ++ after)))) (counted lock))

pub counts_fewer : (readers : Readers) (before : List Pin) (pin : Pin) (after : List Pin) → AreCounted readers (before ++ pin ∷ after)
    → AreCounted (change_readers one_fewer readers pin.lock) (before ++ after)
counts_fewer readers before pin after counted lock = by (same_lock pin.lock lock) refl
  where
    none : (n : ℕ) → 0 + n ≡ n
    none n = omega arith

    fewer : (pins readers with : ℕ) → with ≡ 1 + pins → (with ≤ readers) ⊎ (readers ≡ last_count) → (pins ≤ one_fewer readers) ⊎ (one_fewer readers ≡ last_count)
    fewer pins readers with is has = cases (readers == last_count) refl has
      where
        cases : (full : Bool) → (readers == last_count) ≡ full → (with ≤ readers) ⊎ (readers ≡ last_count) → (pins ≤ (if full then readers else readers - 1)) ⊎ ((if full then readers else readers - 1) ≡ last_count)
        cases true is_full has = inr (eqb-true readers last_count is_full)
        cases false is_full (inl few) = inl (omega arith)
        cases false is_full (inr full) = absurd (let e = subst (λ (n : ℕ). (n == last_count) ≡ false) full is_full in cc)

    by : (same : Bool) → same_lock pin.lock lock ≡ same → (pins_with lock (before ++ after) ≤ readers_of (change_readers one_fewer readers pin.lock) lock) ⊎ (readers_of (change_readers one_fewer readers pin.lock) lock ≡ last_count)
    by true is = rw (same_readers one_fewer readers pin.lock lock is)
        (fewer (pins_with lock (before ++ after)) (readers_of readers lock) (pins_with lock (before ++ pin ∷ after)) (pins_one_more lock before pin after ∙ ap (λ (b : Bool). (if b then 1 else 0) + pins_with lock (before ++ after)) is) (counted lock))
    by false is = rw (changed_other one_fewer readers pin.lock lock is)
        (subst (λ (n : ℕ). (n ≤ readers_of readers lock) ⊎ (readers_of readers lock ≡ last_count))
        (pins_one_more lock before pin after ∙ ap (λ (b : Bool). (if b then 1 else 0) + pins_with lock (before ++ after)) is ∙ none (pins_with lock (before ++ after))) (counted lock))

-- a lock that a pin holds has a reader
pins_some : (lock : Lock) (pins : List Pin) (pin : Pin) → Contains pins pin → pin.lock ≡ lock → 1 ≤ pins_with lock pins
pins_some lock [] pin there is = absurd (let low = there.1 in omega arith)
pins_some lock (first ∷ pins) pin there is = elim (contains_cases first pin pins there) [
  | inl here ↦ (let same : same_lock first.lock lock ≡ true = subst (λ (l : Lock). same_lock l lock ≡ true) (sym is ∙ sym (ap (λ (p : Pin). p.lock) here)) (same_is lock) in
      subst (λ (b : Bool). 1 ≤ (if b then 1 else 0) + pins_with lock pins) (sym same) (omega arith))
  | inr later ↦ (let rest = pins_some lock pins pin later is in omega arith)
]

pub has_reader : (readers : Readers) (pins : List Pin) (pin : Pin) (lock : Lock) → AreCounted readers pins → Contains pins pin → pin.lock ≡ lock → 0 < readers_of readers lock
has_reader readers pins pin lock counted there is = elim (counted lock) [
  | inl few ↦ (let some = pins_some lock pins pin there is in omega arith)
  | inr full ↦ omega arith
]

-- the readers of a front of the other log
pub holders_are : (logs : TwoLogs) (readers : Readers) → holders logs readers ≡ readers_of readers (part_of (other_number logs.current))
holders_are logs readers = by (logs.current == 1)
  where
    by : (first : Bool) → (if first then readers.part2 else readers.part1) ≡ readers_of readers (part_of (if first then 2 else 1))
    by true = refl
    by false = refl
