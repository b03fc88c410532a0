-- Naming: the numbers given to new pages are different, none is that of a page that is there, and each is within the size that is told.
use Rattle.std.proofs.Common.{◌≡◌, ◌≢◌, ℕ, zero, suc, ◌+◌, ◌-◌, ◌<◌, ◌≤◌, List, [], ◌∷◌, ◌++◌, length, refl, sym, ap, ◌∙◌, arith, inl, inr, eq-eqb}
use Rattle.std.specs.Prelude.{◌⊎◌, ◌==◌, if◌then◌else◌, Bool, true}
use Rattle.std.proofs.lemmas.Bool.{cases_eq, ne_eqb}
use Rattle.tree_spec.specs.Layout.{times}
use Rattle.relocate_spec.specs.Numbers.{numbers_given, new_number}

times_same : (page : ℕ) (pages : List ℕ) (n : ℕ) → page ≡ n → times (page ∷ pages) n ≡ 1 + times pages n
times_same page pages n same = ap (λ (b : Bool). (if b then 1 else 0) + times pages n) (eq-eqb page n same)

times_other : (page : ℕ) (pages : List ℕ) (n : ℕ) → page ≢ n → times (page ∷ pages) n ≡ times pages n
times_other page pages n other = ap (λ (b : Bool). (if b then 1 else 0) + times pages n) (ne_eqb page n other) ∙ omega arith

not_there : (t : ℕ) → (1 ≤ t → ⊥) → t ≡ 0
not_there zero never = refl
not_there (suc t) never = absurd (never (omega arith))

-- A number that was given stands behind the last page, and not behind the last page then.
pub given_range : (last count n : ℕ) → 1 ≤ times (numbers_given last count) n → (last < n) × (n ≤ last + count)
given_range last zero n there = absurd (omega (arith, there))
given_range last (suc count) n there = elim (cases_eq (last + 1) n) [
  | inl same ↦ (omega (arith, same), omega (arith, same))
  | inr other ↦
      let rest = given_range (last + 1) count n (omega (arith, there, times_other (last + 1) (numbers_given (last + 1) count) n other)) in
      (omega (arith, rest.0), omega (arith, rest.1))
]

-- No number is given twice.
pub given_once : (last count n : ℕ) → times (numbers_given last count) n ≤ 1
given_once last zero n = omega arith
given_once last (suc count) n = elim (cases_eq (last + 1) n) [
  | inl same ↦
      let none : times (numbers_given (last + 1) count) n ≡ 0 = not_there (times (numbers_given (last + 1) count) n) (λ there. omega (arith, (given_range (last + 1) count n there).0, same)) in
      omega (arith, none, times_same (last + 1) (numbers_given (last + 1) count) n same)
  | inr other ↦ omega (arith, times_other (last + 1) (numbers_given (last + 1) count) n other, given_once (last + 1) count n)
]

-- So many numbers are given.
pub given_count : (last count : ℕ) → length (numbers_given last count) ≡ count
given_count last zero = refl
given_count last (suc count) = omega (arith, given_count (last + 1) count)

-- A number given to a new page isn't that of any page up to the last one.
pub given_unused : (last : ℕ) (used : List ℕ) (count n : ℕ) → ((k : ℕ) → 1 ≤ times used k → k ≤ last)
    → 1 ≤ times (numbers_given last count) n → times used n ≡ 0
given_unused last used count n within there = not_there (times used n) (λ in_use. omega (arith, (given_range last count n there).0, within n in_use))

-- Where new pages keep their numbers, every page does.
pub all_keep : (own : List ℕ) (page : ℕ) → new_number own own page ≡ page
all_keep [] page = refl
all_keep (first ∷ own) page = elim (cases_eq first page) [
  | inl same ↦ ap (λ (b : Bool). if b then first else new_number own own page) (eq-eqb first page same) ∙ same
  | inr other ↦ ap (λ (b : Bool). if b then first else new_number own own page) (ne_eqb first page other) ∙ all_keep own page
]
