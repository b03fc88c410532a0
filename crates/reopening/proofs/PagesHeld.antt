-- The pages of a recovered map, page by page: those that a log holds, and the others, which Main has whole.
use Rattle.std.proofs.Common.{◌≡◌, ◌⊎◌, inl, inr, ℕ, zero, suc, ◌+◌, ◌-◌, ◌*◌, ◌≤◌, ◌<◌, ◌==◌, ◌||◌, Bool, true, false, List, [], ◌∷◌, length, take, drop, None, refl, ◌∙◌, ap, arith}
use Rattle.std.specs.List.{list_any}
use Rattle.std.specs.Prelude.{Contains, slice_index_or}
use Rattle.std.proofs.lemmas.Bool.Decides.{Decides-eqb}
use Rattle.std.proofs.lemmas.List.{length-take, length-drop}
use Rattle.crash_spec.specs.Recovered.{pages_from}
use Rattle.crash_spec.proofs.Pieces.{contains_cons, contains_tail, contains_none}
use Rattle.recover.specs.Seeing.{first_missing}

-- the pages from a number on, one by one
pub nth_page : (page : ℕ → List ℕ) (first count k : ℕ) → k < count → slice_index_or (pages_from page first count) k [] ≡ page (first + k)
nth_page page first zero k less = absurd (omega arith)
nth_page page first (suc count) zero less = ap page (omega arith)
nth_page page first (suc count) (suc k) less = nth_page page (first + 1) count k (omega arith) ∙ ap page (omega arith)

pub length_pages : (page : ℕ → List ℕ) (first count : ℕ) → length (pages_from page first count) ≡ count
length_pages page first zero = refl
length_pages page first (suc count) = omega (arith, length_pages page (first + 1) count)

-- a number is among others, or it isn't
pub among_or_not : (numbers : List ℕ) (number : ℕ) → (Contains numbers number × (list_any (λ n. n == number) numbers ≡ true)) ⊎ (Contains numbers number → ⊥)
among_or_not [] number = inr (λ held. contains_none number held)
among_or_not (first ∷ rest) number = by (first == number) (Decides-eqb first number) (among_or_not rest number)
  where
    apart : (false ≡ true → first ≡ number) × (first ≡ number → false ≡ true) → first ≡ number → ⊥
    apart decides same = let is = decides.1 same in cc

    by : (same : Bool) → (same ≡ true → first ≡ number) × (first ≡ number → same ≡ true) → (Contains rest number × (list_any (λ n. n == number) rest ≡ true)) ⊎ (Contains rest number → ⊥)
        → (Contains (first ∷ rest) number × ((same || list_any (λ n. n == number) rest) ≡ true)) ⊎ (Contains (first ∷ rest) number → ⊥)
    by true decides later = inl ((0, omega arith, decides.0 refl), refl)
    by false decides (inl (held, is)) = inl (contains_tail first rest number held, is)
    by false decides (inr none) = inr (λ held. elim (contains_cons first rest number held) [ inl same ↦ absurd (apart decides same) | inr later ↦ none later ])

-- where each page is held, none is missing
pub none_missing : (held : ℕ → Bool) (number count : ℕ) → ((n : ℕ) → number ≤ n → n < number + count → held n ≡ true) → first_missing held number count ≡ None
none_missing held number zero each = refl
none_missing held number (suc count) each =
    let first = each number (omega arith) (omega arith) in
    let rest = none_missing held (number + 1) count (λ n from less. each n (omega arith) (omega arith)) in
    rw (first, rest) refl

-- a whole piece of a file lies inside it
pub whole_inside : (main : List ℕ) (at size : ℕ) → 0 < size → length (take size (drop at main)) ≡ size → at + size ≤ length main
whole_inside main at size some is = omega (arith, length-take size (drop at main), length-drop at main)

pub page_end : (number size : ℕ) → 1 ≤ number → (number - 1) * size + size ≡ number * size
page_end zero size some = absurd (omega arith)
page_end (suc number) size some = by number (suc number - 1) (omega arith)
  where
    by : (n m : ℕ) → m ≡ n → m * size + size ≡ suc n * size
    by n m is = ap (λ (k : ℕ). k * size + size) is ∙ grind arith
