-- More pages than Main has whole, and than the logs have frames, can't all be whole.
use Rattle.std.proofs.Common.{◌≡◌, ℕ, zero, suc, ◌+◌, ◌*◌, ◌/◌, ◌≤◌, ◌<◌, ◌==◌, ◌||◌, Bool, true, false, if◌then◌else◌, List, [], ◌∷◌, ◌++◌, length, None, refl, sym, ◌∙◌, ap, arith, length-append}
use Rattle.std.specs.Prelude.{nat_le}
use Rattle.std.proofs.Math.Nat.{lt-div-mul-add}
use Rattle.std.proofs.lemmas.Bool.Decides.{Decides-eqb}
use Rattle.wal_frames.specs.declared.found.Accepted.{Accepted}
use Rattle.recover.specs.Seeing.{first_missing}
use Rattle.recover.specs.Looking.{place_in, is_whole_by}
use Rattle.recover.proofs.Page1.{le_of, not_le}
use Rattle.recover.proofs.PlacesHold.{whole_is}
use Rattle.recover.proofs.Held.{is_among, in_main_is}
use Rattle.recover.proofs.Missing.{none_missing}

-- the numbers without the first that is this one
abbrev take_out : List ℕ → ℕ → List ℕ
take_out [] n = []
take_out (page ∷ rest) n = if page == n then rest else page ∷ take_out rest n

one_fewer : (pages : List ℕ) (n : ℕ) → is_among pages n ≡ true → length pages ≡ suc (length (take_out pages n))
one_fewer [] n held = cc
one_fewer (page ∷ rest) n held = by (page == n) (λ later. one_fewer rest n later) held
  where
    by : (same : Bool) → (is_among rest n ≡ true → length rest ≡ suc (length (take_out rest n))) → (same || is_among rest n) ≡ true
        → suc (length rest) ≡ suc (length (if same then rest else page ∷ take_out rest n))
    by true more held = refl
    by false more held = ap (λ (k : ℕ). suc k) (more held)

others_stay : (pages : List ℕ) (n q : ℕ) → (n ≡ q → ⊥) → is_among pages q ≡ true → is_among (take_out pages n) q ≡ true
others_stay [] n q apart held = held
others_stay (page ∷ rest) n q apart held = by (page == n) (page == q) (Decides-eqb page n) (Decides-eqb page q) (λ later. others_stay rest n q apart later) held refl
  where
    by : (same is : Bool) → (same ≡ true → page ≡ n) × (page ≡ n → same ≡ true) → (is ≡ true → page ≡ q) × (page ≡ q → is ≡ true) → (is_among rest q ≡ true → is_among (take_out rest n) q ≡ true)
        → (is || is_among rest q) ≡ true → (page == q) ≡ is → is_among (if same then rest else page ∷ take_out rest n) q ≡ true
    by true true one other more held tested = absurd (apart (sym (one.0 refl) ∙ other.0 refl))
    by true false one other more held tested = held
    by false true one other more held tested = rw tested refl
    by false false one other more held tested = rw tested (more held)

-- so many numbers in a row are among no fewer
row_among : (count first : ℕ) (pages : List ℕ) → ((n : ℕ) → first ≤ n → n < first + count → is_among pages n ≡ true) → count ≤ length pages
row_among zero first pages held = omega arith
row_among (suc count) first pages held =
    let rest = row_among count (first + 1) (take_out pages first) (λ n past less. others_stay pages first n (λ is. omega arith) (held n (omega arith) (omega arith))) in
    omega (arith, rest, one_fewer pages first (held first (omega arith) (omega arith)))

-- a page past Main's whole ones is whole only where a log has it
pub not_all_whole : (one two : Accepted) (size main some : ℕ) → 0 < size → main / size + (length one.pages.items + length two.pages.items) < some → first_missing (is_whole_by one two size main) 1 some ≡ None → ⊥
not_all_whole one two size main some sized many none =
    let row = row_among (length pages + 1) (main / size + 1) pages (λ n first less. held n first (omega (arith, length-append one.pages.items two.pages.items))) in
    omega (arith, row)
  where
    pages : List ℕ
    pages = one.pages.items ++ two.pages.items

    past : (n : ℕ) → main / size + 1 ≤ n → main < n * size
    past n first = grind (arith, lt-div-mul-add {a = main} {b = size} sized, first)

    by : (among fits : Bool) → (fits ≡ true → ⊥) → (among || fits) ≡ true → among ≡ true
    by true fits small is = refl
    by false fits small is = absurd (small is)

    held : (n : ℕ) → main / size + 1 ≤ n → n < 1 + some → is_among pages n ≡ true
    held n first less =
        by (is_among pages n) (nat_le (n * size) main) (λ is. omega (arith, le_of (n * size) main is, past n first))
        (sym (whole_is size main n (place_in one two n) (is_among pages n) (in_main_is one two n)) ∙ none_missing (is_whole_by one two size main) 1 some none n (omega arith) less)

pub all_looked : (one two : Accepted) (size main frames some count : ℕ) → 0 < size → some ≤ count → frames ≡ length one.pages.items + length two.pages.items → (some < count → main / size + frames < some)
    → first_missing (is_whole_by one two size main) 1 some ≡ None → some ≡ count
all_looked one two size main frames some count sized within all enough none = by (nat_le count some) refl
  where
    by : (reached : Bool) → nat_le count some ≡ reached → some ≡ count
    by true reached = let least = le_of count some reached in omega (arith, least)
    by false short =
        let few = enough (not_le count some short) in
        absurd (not_all_whole one two size main some sized (omega (arith, few, all)) none)
