-- Images in the order of their pages.
use Rattle.std.proofs.Common.{◌≡◌, ℕ, ◌<◌, ◌≤◌, List, [], ◌∷◌, length, get_or, zero, suc, true, eqb, refl, sym, subst, ap, ◌∙◌, inl, inr, arith, Contains, All}
use Rattle.std.specs.Prelude.{◌+◌, ◌≢◌, slice_index}
use Rattle.std.specs.List.{AllPairs, IsDistinct, list_any}
use Rattle.std.proofs.lemmas.Bool.{cases_eq, ne_eqb}
use Rattle.std.proofs.lemmas.Bool.Decides.{Decides-eqb}
use Rattle.std.proofs.lemmas.List.{length-map, get_or-map, get_or_default}
use Rattle.std.proofs.lemmas.List.Elements.{All-nil, All-head, All-tail, All-cons, All-map, All-get_or}
use Rattle.std.proofs.lemmas.List.Kept.{AllPairs-cons}
use Rattle.std.proofs.lemmas.Map.Made.{IsDistinct-from_AllPairs}
use Rattle.std.proofs.lemmas.Map.Steps.{length-le_from_distinct_below}
use Rattle.engine_spec.specs.declared.commits.PageImage.{PageImage}
use Rattle.engine_spec.specs.PageSet.{AreDifferent, with_pages}
use Rattle.engine_spec.proofs.Conflicts.{contains_cases, contains_more}
use Rattle.laying.specs.Order.{IsOrder, in_order, no_image, page_numbers}
use Rattle.laying.proofs.Sets.{set_is}

-- the page of the image at a place
pub page_read : (images : List PageImage) (place : ℕ) → (get_or images place no_image).page ≡ slice_index (page_numbers images) place
page_read [] place = refl
page_read (image ∷ images) zero = refl
page_read (image ∷ images) (suc place) = page_read images place

-- what holds of all images holds of them in any order
pub all_in_order : (P : PageImage → Type 0) (images : List PageImage) (order : List ℕ) → All P images
    → All (λ place. place < length images) order → All P (in_order images order)
all_in_order P images [] all places = All-nil P
all_in_order P images (place ∷ order) all places =
    All-cons P (get_or images place no_image) (in_order images order)
    (All-get_or P images place no_image (All-head (λ (place : ℕ). place < length images) place order places) all)
    (all_in_order P images order all (All-tail (λ (place : ℕ). place < length images) place order places))

-- each image of an order is one of the images
ordered_there : (images : List PageImage) (order : List ℕ) (q : ℕ) → All (λ place. place < length images) order
    → Contains (page_numbers (in_order images order)) q → Contains (page_numbers images) q
ordered_there images [] q places there = absurd (let low = there.1 in omega arith)
ordered_there images (place ∷ order) q places there =
    let within : place < length images = All-head (λ (place : ℕ). place < length images) place order places in
    elim (contains_cases (get_or images place no_image).page q (page_numbers (in_order images order)) there) [
      | inl same ↦ (
        place,
        omega (arith, length-map images (λ (image : PageImage). image.page)),
        get_or-map (λ (image : PageImage). image.page) images place no_image q within ∙ same,
      )
      | inr later ↦ ordered_there images order q (All-tail (λ (place : ℕ). place < length images) place order places) later
    ]

-- and an image whose place is in the order is there
placed_there : (images : List PageImage) (order : List ℕ) (place : ℕ) → Contains order place
    → Contains (page_numbers (in_order images order)) (slice_index (page_numbers images) place)
placed_there images [] place there = absurd (let low = there.1 in omega arith)
placed_there images (first ∷ order) place there =
    let page : ℕ = slice_index (page_numbers images) place in
    elim (contains_cases first place order there) [
      | inl same ↦ (zero, omega arith, ap (λ (p : ℕ). (get_or images p no_image).page) same ∙ page_read images place)
      | inr later ↦ contains_more (get_or images first no_image).page page (page_numbers (in_order images order)) (placed_there images order place later)
    ]

-- page 1 and the pages of the images are page 1 and those of the images in order
pub set_in_order : (images : List PageImage) (order : List ℕ) → All (λ image. 1 ≤ image.page) images → IsOrder images order
    → with_pages (1 ∷ []) (page_numbers images) ≡ 1 ∷ page_numbers (in_order images order)
set_in_order images order from is =
    set_is (page_numbers images) (page_numbers (in_order images order)) is.rising to (λ q there. ordered_there images order q is.places there)
  where
    to : (q : ℕ) → Contains (page_numbers images) q → Contains (1 ∷ page_numbers (in_order images order)) q
    to q (place, within, here) =
        let inside : place < length images = omega (arith, length-map images (λ (image : PageImage). image.page)) in
        let page : slice_index (page_numbers images) place ≡ q = get_or_default (page_numbers images) place 0 q within ∙ here in
        let low : 1 ≤ slice_index (page_numbers images) place =
        subst (λ (n : ℕ). 1 ≤ n) (page_read images place) (All-get_or (λ (image : PageImage). 1 ≤ image.page) images place no_image inside from) in
        elim (cases_eq 1 (slice_index (page_numbers images) place)) [
          | inl same ↦ (zero, omega arith, same ∙ page)
          | inr apart ↦
              subst (Contains (1 ∷ page_numbers (in_order images order))) page
              (contains_more 1 (slice_index (page_numbers images) place) (page_numbers (in_order images order))
              (placed_there images order place (is.all place inside (omega arith))))
        ]

-- and so are these pages themselves
pub set_of_ordered : (images : List PageImage) (order : List ℕ) → IsOrder images order
    → with_pages (1 ∷ []) (page_numbers (in_order images order)) ≡ 1 ∷ page_numbers (in_order images order)
set_of_ordered images order is =
    set_is (page_numbers (in_order images order)) (page_numbers (in_order images order)) is.rising
    (λ q there. contains_more 1 q (page_numbers (in_order images order)) there) (λ q there. there)

-- Images of pages among the first n are of pages from 1 on.
pub from_1 : (images : List PageImage) (n : ℕ) → All (λ image. (1 ≤ image.page) × (image.page ≤ n)) images → All (λ image. 1 ≤ image.page) images
from_1 images n range k d within = (range k d within).0

-- An order has as many images as places.
pub ordered_length : (images : List PageImage) (order : List ℕ) → length (in_order images order) ≡ length order
ordered_length images [] = refl
ordered_length images (place ∷ order) = ap suc (ordered_length images order)

any_below : (numbers : List ℕ) (q n : ℕ) → All (λ number. number < n) numbers → list_any (eqb q) numbers ≡ true → q < n
any_below [] q n below there = absurd cc
any_below (number ∷ numbers) q n below there = elim (cases_eq q number) [
  | inl same ↦ (let less = All-head (λ (number : ℕ). number < n) number numbers below in omega (arith, same, less))
  | inr apart ↦ any_below numbers q n (All-tail (λ (number : ℕ). number < n) number numbers below) (rw (ne_eqb q number apart) at there)
]

-- Images of different pages among the first n are at most n.
pub few_images : (images : List PageImage) (n : ℕ) → AreDifferent (page_numbers images)
    → All (λ image. (1 ≤ image.page) × (image.page ≤ n)) images → length images ≤ n
few_images images n different range =
    let pages : List ℕ = page_numbers images in
    let within : All (λ page. (1 ≤ page) × (page ≤ n)) pages =
    All-map (λ (page : ℕ). (1 ≤ page) × (page ≤ n)) (λ (image : PageImage). image.page) images range in
    let pairs : AllPairs (λ x y. x ≢ y) pages =
    λ i j d before inside same. different i j before inside
    (get_or_default pages i 0 d (omega arith) ∙ same ∙ sym (get_or_default pages j 0 d inside)) in
    let apart : IsDistinct eqb (0 ∷ pages) =
    IsDistinct-from_AllPairs Decides-eqb (0 ∷ pages)
    (AllPairs-cons (λ x y. x ≢ y) 0 pages (λ k d inside same. (let low = (within k d inside).0 in omega (arith, same, low))) pairs) in
    let below : All (λ page. page < n + 1) (0 ∷ pages) =
    All-cons (λ (page : ℕ). page < n + 1) 0 pages (omega arith) (λ k d inside. (let high = (within k d inside).1 in omega arith)) in
    let count = length-le_from_distinct_below (0 ∷ pages) (n + 1) apart (λ q there. any_below (0 ∷ pages) q (n + 1) below there) in
    omega (arith, count, length-map images (λ (image : PageImage). image.page))
