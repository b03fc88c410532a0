-- Places that are sorted by their pages are an order.
use Rattle.std.proofs.Common.{◌≡◌, ℕ, ◌+◌, ◌<◌, ◌≤◌, Bool, true, false, cond, ltb, eqb, List, [], ◌∷◌, length, map, zero, suc, refl, sym, subst, ap, ◌∙◌, inl, inr, arith, Contains, All, eq-eqb}
use Rattle.std.specs.Prelude.{slice_index, ◌≢◌}
use Rattle.std.specs.List.{filter, AllPairs, IsDistinct}
use Rattle.std.specs.List.Sorted.{IsStrictlyIncreasing, IsNonDecreasing, IsNonDecreasingBy, IsPermutation}
use Rattle.std.proofs.lemmas.Bool.{ltb-true, lt-ltb, cases_eq, ne_eqb}
use Rattle.std.proofs.lemmas.Bool.Decides.{Decides-eqb}
use Rattle.std.proofs.lemmas.List.{length-map, get_or-map, get_or_default}
use Rattle.std.proofs.lemmas.List.Elements.{All-nil, All-cons, All-get_or}
use Rattle.std.proofs.lemmas.List.Kept.{AllPairs-filter}
use Rattle.std.proofs.lemmas.List.Sorted.{All-permutation, Contains-permutation, IsPermutation-map}
use Rattle.std.proofs.lemmas.Map.Keys.{IsDistinct-IsPermutation, IsStrictlyIncreasing-from_distinct}
use Rattle.std.proofs.lemmas.Map.Made.{IsDistinct-from_AllPairs}
use Rattle.engine_spec.specs.declared.commits.PageImage.{PageImage}
use Rattle.engine_spec.specs.PageSet.{AreDifferent}
use Rattle.engine_spec.proofs.Conflicts.{contains_more}
use Rattle.laying.specs.Order.{IsOrder, in_order, page_numbers, places_from}
use Rattle.laying.proofs.Sets.{rises_more}
use Rattle.laying.proofs.Orders.{page_read}

-- it doesn't matter which of two numbers comes first
eqb_flips : (x y : ℕ) → eqb x y ≡ eqb y x
eqb_flips x y = elim (cases_eq x y) [
  | inl same ↦ rw (eq-eqb x y same, eq-eqb y x (sym same)) refl
  | inr apart ↦ rw (ne_eqb x y apart, ne_eqb y x (λ same. apart (sym same))) refl
]

-- the pages at the places, in their order, are those from 2 on
pages_of_places : (page : ℕ → ℕ) (start : ℕ) (images : List PageImage)
    → ((k : ℕ) → k < length images → page (start + k) ≡ slice_index (page_numbers images) k)
    → map page (places_from start images) ≡ filter (λ n. ltb 1 n) (page_numbers images)
pages_of_places page start [] same = refl
pages_of_places page start (image ∷ images) same =
    let rest = pages_of_places page (start + 1) images (λ k within. ap page (omega arith) ∙ same (suc k) (omega arith)) in
    let first : page start ≡ image.page = ap page (omega arith) ∙ same zero (omega arith) in
    by_test (ltb 1 image.page) first rest
  where
    by_test : (test : Bool) → page start ≡ image.page
        → map page (places_from (start + 1) images) ≡ filter (λ n. ltb 1 n) (page_numbers images)
        → map page (cond test (start ∷ places_from (start + 1) images) (places_from (start + 1) images))
        ≡ cond test (image.page ∷ filter (λ n. ltb 1 n) (page_numbers images)) (filter (λ n. ltb 1 n) (page_numbers images))
    by_test true first rest = cc
    by_test false first rest = rest

filter_above : (numbers : List ℕ) → All (λ n. 1 < n) (filter (λ n. ltb 1 n) numbers)
filter_above [] = All-nil (λ (n : ℕ). 1 < n)
filter_above (number ∷ numbers) = by_test (ltb 1 number) refl (filter_above numbers)
  where
    by_test : (test : Bool) → ltb 1 number ≡ test → All (λ n. 1 < n) (filter (λ n. ltb 1 n) numbers)
        → All (λ n. 1 < n) (cond test (number ∷ filter (λ n. ltb 1 n) numbers) (filter (λ n. ltb 1 n) numbers))
    by_test true is rest = All-cons (λ (n : ℕ). 1 < n) number (filter (λ n. ltb 1 n) numbers) (ltb-true 1 number is) rest
    by_test false is rest = rest

-- the places lie among the images
places_within : (start : ℕ) (images : List PageImage) → All (λ place. place < start + length images) (places_from start images)
places_within start [] = All-nil (λ (place : ℕ). place < start + 0)
places_within start (image ∷ images) =
    let rest : All (λ place. place < start + suc (length images)) (places_from (start + 1) images) =
    λ k d within. (let less = places_within (start + 1) images k d within in omega arith) in
    by_test (ltb 1 image.page) rest
  where
    by_test : (test : Bool) → All (λ place. place < start + suc (length images)) (places_from (start + 1) images)
        → All (λ place. place < start + suc (length images)) (cond test (start ∷ places_from (start + 1) images) (places_from (start + 1) images))
    by_test true rest = All-cons (λ (place : ℕ). place < start + suc (length images)) start (places_from (start + 1) images) (omega arith) rest
    by_test false rest = rest

-- they are no more than the images
pub places_fewer : (start : ℕ) (images : List PageImage) → length (places_from start images) ≤ length images
places_fewer start [] = omega arith
places_fewer start (image ∷ images) = by_test (ltb 1 image.page) (places_fewer (start + 1) images)
  where
    by_test : (test : Bool) → length (places_from (start + 1) images) ≤ length images
        → length (cond test (start ∷ places_from (start + 1) images) (places_from (start + 1) images)) ≤ suc (length images)
    by_test true fewer = omega arith
    by_test false fewer = omega arith

-- none from page 2 on is left out
places_all : (start : ℕ) (images : List PageImage) (k : ℕ) → k < length images → 1 < slice_index (page_numbers images) k
    → Contains (places_from start images) (start + k)
places_all start [] k within above = absurd (omega arith)
places_all start (image ∷ images) zero within above =
    let is : start ≡ start + zero = omega arith in
    rw (lt-ltb 1 image.page above) (zero, omega arith, is)
places_all start (image ∷ images) (suc k) within above =
    let rest : Contains (places_from (start + 1) images) (start + suc k) =
    subst (Contains (places_from (start + 1) images)) (omega arith) (places_all (start + 1) images k (omega arith) above) in
    by_test (ltb 1 image.page) rest
  where
    by_test : (test : Bool) → Contains (places_from (start + 1) images) (start + suc k)
        → Contains (cond test (start ∷ places_from (start + 1) images) (places_from (start + 1) images)) (start + suc k)
    by_test true rest = contains_more start (start + suc k) (places_from (start + 1) images) rest
    by_test false rest = rest

-- the pages in order, read at their places
pages_in_order : (images : List PageImage) (order : List ℕ) → page_numbers (in_order images order) ≡ map (slice_index (page_numbers images)) order
pages_in_order images [] = refl
pages_in_order images (place ∷ order) = let first = page_read images place in let rest = pages_in_order images order in cc

pub sorted_is : (images : List PageImage) (places order : List ℕ) → AreDifferent (page_numbers images) → places ≡ places_from 0 images
    → IsPermutation places order → IsNonDecreasingBy (slice_index (page_numbers images)) order → IsOrder images order
sorted_is images places order different is moved sorted = record {
  places = All-permutation (λ (place : ℕ). place < length images) places order moved
      (subst (All (λ (place : ℕ). place < length images)) (sym is) (λ k d within. (let less = places_within 0 images k d within in omega arith)));
  rising = subst (λ (pages : List ℕ). IsStrictlyIncreasing (1 ∷ pages)) (sym (pages_in_order images order))
      (rises_more 1 (map page order) (λ some. All-get_or (λ (n : ℕ). 1 < n) (map page order) 0 0 some above) rises);
  all = λ place within high. Contains-permutation places order place moved
      (subst (λ (some : List ℕ). Contains some place) (sym is) (subst (Contains (places_from 0 images)) (omega arith) (places_all 0 images place within high)));
}
  where
    page : ℕ → ℕ
    page place = slice_index (page_numbers images) place

    pages_are : map page places ≡ filter (λ n. ltb 1 n) (page_numbers images)
    pages_are = ap (map page) is ∙ pages_of_places page 0 images (λ k within. ap page (omega arith))

    turned : IsPermutation (map page places) (map page order)
    turned = IsPermutation-map page places order moved

    above : All (λ n. 1 < n) (map page order)
    above = All-permutation (λ (n : ℕ). 1 < n) (map page places) (map page order) turned
        (subst (All (λ (n : ℕ). 1 < n)) (sym pages_are) (filter_above (page_numbers images)))

    pairs : AllPairs (λ x y. x ≢ y) (page_numbers images)
    pairs i j d before within same =
        different i j before within
        (get_or_default (page_numbers images) i 0 d (omega arith) ∙ same ∙ sym (get_or_default (page_numbers images) j 0 d within))

    apart : IsDistinct eqb (map page order)
    apart = IsDistinct-IsPermutation eqb eqb_flips (map page places) (map page order) turned
        (subst (IsDistinct eqb) (sym pages_are)
        (IsDistinct-from_AllPairs Decides-eqb (filter (λ n. ltb 1 n) (page_numbers images))
        (AllPairs-filter (λ x y. x ≢ y) (λ n. ltb 1 n) (page_numbers images) pairs)))

    fall : IsNonDecreasing (map page order)
    fall i j d before within =
        let inside : j < length order = omega (arith, length-map order page) in
        let one = get_or-map page order i d d (omega arith) in
        let other = get_or-map page order j d d inside in
        omega (arith, one, other, sorted i j d before inside)

    rises : IsStrictlyIncreasing (map page order)
    rises = IsStrictlyIncreasing-from_distinct (map page order) fall apart
