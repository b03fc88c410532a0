-- Page 1 with some pages, as a list that rises.
use Rattle.std.proofs.Common.{◌≡◌, ℕ, ◌<◌, ◌≤◌, List, [], ◌∷◌, length, get_or, zero, suc, refl, ap, ◌∙◌, inl, inr, arith, Contains, Some, add-one}
use Rattle.std.proofs.lemmas.Option.{slice_get-get_or, get_or_from_slice_get}
use Rattle.std.specs.List.Sorted.{IsStrictlyIncreasing}
use Rattle.engine_spec.specs.PageSet.{with_pages}
use Rattle.engine_spec.proofs.PageSets.{rises_far}
use Rattle.engine_spec.proofs.Conflicts.{contains_cases, contains_more}
use Rattle.engine_spec.proofs.WrittenSets.{pages_rise, pages_keep, pages_have, pages_cases}

-- what follows the first number of a rising list rises too
pub rest_rises : (first : ℕ) (numbers : List ℕ) → IsStrictlyIncreasing (first ∷ numbers) → IsStrictlyIncreasing numbers
rest_rises first numbers rises k within =
    let step = rises (suc k) (omega arith) in
    rw (add-one k) (rw (add-one (suc k)) at step)

-- with a number before them that is below the first, rising numbers rise
pub rises_more : (first : ℕ) (pages : List ℕ) → (0 < length pages → first < get_or pages 0 0) → IsStrictlyIncreasing pages
    → IsStrictlyIncreasing (first ∷ pages)
rises_more first pages below rises zero within = below (omega arith)
rises_more first pages below rises (suc k) within =
    let step = rises k (omega arith) in
    rw (add-one (suc k)) (rw (add-one k) at step)

-- each number behind the first of a rising list is above it
pub all_above : (first : ℕ) (numbers : List ℕ) (k : ℕ) → IsStrictlyIncreasing (first ∷ numbers) → k < length numbers → first < get_or numbers k 0
all_above first numbers k rises within =
    let next : first < get_or numbers 0 0 = rises 0 (omega (arith, within)) in
    let far : get_or numbers 0 0 ≤ get_or numbers k 0 = rises_far (first ∷ numbers) rises 1 (suc k) (omega arith) (omega (arith, within)) in
    omega (arith, next, far)

-- where a number stands, whatever is read past the end
read_at : (numbers : List ℕ) (n k : ℕ) → k < length numbers → get_or numbers k n ≡ n → get_or numbers k 0 ≡ n
read_at numbers n k within is = get_or_from_slice_get numbers k n 0 (slice_get-get_or numbers k n within ∙ ap Some is)

-- the first number of a rising list is the least, and what follows it is above
least : (first : ℕ) (numbers : List ℕ) (n : ℕ) → IsStrictlyIncreasing (first ∷ numbers) → Contains (first ∷ numbers) n → first ≤ n
least first numbers n rises (k, within, is) =
    let far : first ≤ get_or (first ∷ numbers) k 0 = rises_far (first ∷ numbers) rises 0 k (omega arith) within in
    let here : get_or (first ∷ numbers) k 0 ≡ n = read_at (first ∷ numbers) n k within is in
    omega (arith, far, here)

above : (first : ℕ) (numbers : List ℕ) (n : ℕ) → IsStrictlyIncreasing (first ∷ numbers) → Contains numbers n → first < n
above first numbers n rises (k, within, is) =
    let far : first < get_or numbers k 0 = all_above first numbers k rises within in
    let here : get_or numbers k 0 ≡ n = read_at numbers n k within is in
    omega (arith, far, here)

-- rising lists of the same numbers are the same
pub same_set : (some others : List ℕ) → IsStrictlyIncreasing some → IsStrictlyIncreasing others
    → ((n : ℕ) → Contains some n → Contains others n) → ((n : ℕ) → Contains others n → Contains some n) → some ≡ others
same_set [] [] rise rise' to from = refl
same_set [] (other ∷ others) rise rise' to from = absurd (let there = from other (0, omega arith, refl) in omega (arith, there.1))
same_set (one ∷ some) [] rise rise' to from = absurd (let there = to one (0, omega arith, refl) in omega (arith, there.1))
same_set (one ∷ some) (other ∷ others) rise rise' to from =
    let low = least other others one rise' (to one (0, omega arith, refl)) in
    let high = least one some other rise (from other (0, omega arith, refl)) in
    let same : one ≡ other = omega (arith, low, high) in
    let onward : (n : ℕ) → Contains some n → Contains others n =
    λ n there. elim (contains_cases other n others (to n (contains_more one n some there))) [
      | inl here ↦ absurd (let more = above one some n rise there in omega (arith, more, here, same))
      | inr later ↦ later
    ] in
    let back : (n : ℕ) → Contains others n → Contains some n =
    λ n there. elim (contains_cases one n some (from n (contains_more other n others there))) [
      | inl here ↦ absurd (let more = above other others n rise' there in omega (arith, more, here, same))
      | inr later ↦ later
    ] in
    ap (λ n. n ∷ some) same
    ∙ ap (λ numbers. other ∷ numbers) (same_set some others (rest_rises one some rise) (rest_rises other others rise') onward back)

-- page 1 with some pages, where they are those of a list that rises from page 1 on, but for page 1 itself
pub set_is : (pages rising : List ℕ) → IsStrictlyIncreasing (1 ∷ rising)
    → ((q : ℕ) → Contains pages q → Contains (1 ∷ rising) q) → ((q : ℕ) → Contains rising q → Contains pages q)
    → with_pages (1 ∷ []) pages ≡ 1 ∷ rising
set_is pages rising rises to from =
    same_set (with_pages (1 ∷ []) pages) (1 ∷ rising) (pages_rise (1 ∷ []) pages (λ k within. absurd (omega arith))) rises
    (λ q there. elim (pages_cases (1 ∷ []) pages q there) [
      | inl one ↦ elim (contains_cases 1 q [] one) [
        | inl same ↦ (0, omega arith, same)
        | inr nothing ↦ absurd (let low = nothing.1 in omega arith)
      ]
      | inr later ↦ to q later
    ])
    (λ q there. elim (contains_cases 1 q rising there) [
      | inl same ↦ pages_keep (1 ∷ []) pages q (0, omega arith, same)
      | inr later ↦ pages_have (1 ∷ []) pages q (from q later)
    ])
