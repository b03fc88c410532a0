-- What the pages that a commit writes make of the map below them.
use Rattle.std.proofs.Common.{◌≡◌, ℕ, ◌+◌, ◌<◌, ◌≤◌, ◌==◌, if◌then◌else◌, Bool, List, [], ◌∷◌, ◌++◌, length, get_or, take, drop, zero, suc, refl, sym, subst, ap, ◌∙◌, inl, inr, arith, eq-eqb, All, Contains, Option, Some, None, length-take, length-append}
use Rattle.std.specs.Prelude.{slice_index}
use Rattle.std.proofs.lemmas.Bool.{cases_eq, ne_eqb}
use Rattle.std.proofs.lemmas.List.{length-map, get_or-map, get_or-take, get_or_append_left, get_or_default, same_lists}
use Rattle.std.proofs.lemmas.List.Elements.{All-nil, All-head, All-tail, All-cons}
use Rattle.std.specs.List.Sorted.{IsStrictlyIncreasing}
use Rattle.page_spec.specs.Bytes.{u16_at}
use Rattle.page_spec.specs.Header.{fields_of, page_size_in}
use Rattle.page_spec.specs.PageMap.{PageMap, page_at}
use Rattle.crash_spec.specs.Recovered.{pages_from}
use Rattle.crash_spec.specs.Store.{StoreView}
use Rattle.engine_spec.specs.declared.commits.Mode.{Mode}
use Rattle.engine_spec.specs.declared.commits.PageImage.{PageImage}
use Rattle.engine_spec.specs.PageSet.{AreDifferent}
use Rattle.engine_spec.specs.Change.{Change, image_of, laid_page, stamped, laid, schema_fields, between, u32_bytes, next_counter}
use Rattle.engine_spec.specs.Written.{Writes}
use Rattle.engine_spec.proofs.Laying.{laid-length}
use Rattle.engine_spec.proofs.Conflicts.{contains_cases}
use Rattle.engine_spec.proofs.WrittenSets.{writes_changed}
use Rattle.engine_spec.specs.declared.pins.Pin.{Pin}
use Rattle.engine_spec.specs.State.{EngineState}
use Rattle.page_face.specs.declared.prepared.Prepared.{Prepared}
use Rattle.page_face.specs.Prepared.{IsFit, change_in}
use Rattle.log_commit.specs.Commit.{page_under, map_under, FitsMap}
use Rattle.laying.specs.Order.{IsOrder, images_of, in_order, no_image, page_numbers}
use Rattle.laying.specs.First.{IsChangeOf, put_first}
use Rattle.laying.proofs.Sets.{all_above, rest_rises}
use Rattle.laying.proofs.Orders.{page_read, all_in_order, set_in_order}
use Rattle.laying.proofs.Pages.{over, first_laid, other_laid}

-- a page that none of the images is of
under_none : (images : List PageImage) (q : ℕ) (below : List ℕ) → All (λ image. image.page ≡ q → ⊥) images → page_under images q below ≡ below
under_none [] q below apart = refl
under_none (image ∷ images) q below apart =
    rw (ne_eqb image.page q (All-head (λ (one : PageImage). one.page ≡ q → ⊥) image images apart))
    (under_none images q below (All-tail (λ (one : PageImage). one.page ≡ q → ⊥) image images apart))

-- images that follow a page in rising order are of others
after_first : (q : ℕ) (images : List PageImage) → IsStrictlyIncreasing (q ∷ page_numbers images) → All (λ image. image.page ≡ q → ⊥) images
after_first q images rises k d within same =
    let more = all_above q (page_numbers images) k rises (omega (arith, length-map images (λ (image : PageImage). image.page))) in
    let page = get_or-map (λ (image : PageImage). image.page) images k d 0 within in
    omega (arith, more, page, same)

-- a page whose image is in order
under_placed : (images : List PageImage) (order : List ℕ) (place q : ℕ) (below : List ℕ)
    → IsStrictlyIncreasing (page_numbers (in_order images order)) → Contains order place → (get_or images place no_image).page ≡ q
    → page_under (in_order images order) q below ≡ (get_or images place no_image).bytes
under_placed images [] place q below rises there is = absurd (let low = there.1 in omega arith)
under_placed images (first ∷ order) place q below rises there is =
    let one : PageImage = get_or images first no_image in
    let rest : IsStrictlyIncreasing (page_numbers (in_order images order)) = rest_rises one.page (page_numbers (in_order images order)) rises in
    elim (contains_cases first place order there) [
      | inl same ↦
          (let page : one.page ≡ q = ap (λ (p : ℕ). (get_or images p no_image).page) same ∙ is in
          let bytes : one.bytes ≡ (get_or images place no_image).bytes = ap (λ (p : ℕ). (get_or images p no_image).bytes) same in
          ap (λ (test : Bool). page_under (in_order images order) q (if test then one.bytes else below)) (eq-eqb one.page q page)
          ∙ under_none (in_order images order) q one.bytes
          (after_first q (in_order images order) (subst (λ (n : ℕ). IsStrictlyIncreasing (n ∷ page_numbers (in_order images order))) page rises))
          ∙ bytes)
      | inr later ↦ under_placed images order place q (if one.page == q then one.bytes else below) rest later is
    ]

-- where the image of a page stands, if it has one
record Stands (images : List PageImage) (q : ℕ) (bytes : List ℕ) : Type 0 where
  place : ℕ
  within : place < length images
  page : (get_or images place no_image).page ≡ q
  is : (get_or images place no_image).bytes ≡ bytes

stands : (images : List PageImage) (q : ℕ) (bytes : List ℕ) → image_of images q ≡ Some bytes → Stands images q bytes
stands [] q bytes is = absurd cc
stands (image ∷ images) q bytes is = elim (cases_eq image.page q) [
  | inl same ↦
      (let here : Some image.bytes ≡ Some bytes = rw (eq-eqb image.page q same) at is in
      record { place = 0; within = omega arith; page = same; is = cc })
  | inr apart ↦
      (let later : Stands images q bytes = stands images q bytes (rw (ne_eqb image.page q apart) at is) in
      record { place = suc later.place; within = (let less = later.within in omega arith); page = later.page; is = later.is })
]

stands_not : (images : List PageImage) (q : ℕ) → image_of images q ≡ None → All (λ image. image.page ≡ q → ⊥) images
stands_not [] q none = All-nil (λ (image : PageImage). image.page ≡ q → ⊥)
stands_not (image ∷ images) q none = elim (cases_eq image.page q) [
  | inl same ↦ (let here : Some image.bytes ≡ None = rw (eq-eqb image.page q same) at none in absurd cc)
  | inr apart ↦
      All-cons (λ (image : PageImage). image.page ≡ q → ⊥) image images apart
      (stands_not images q (rw (ne_eqb image.page q apart) at none))
]

-- a page from 2 on is laid as it is
page_other : (mode : Mode) (tail : Bool) (k : ℕ) (old new : List ℕ) → laid_page mode tail (suc (suc k)) old new ≡ new
page_other mode tail k old new = rw (ne_eqb (suc (suc k)) 1 (λ e. omega arith)) refl

-- each page from 2 on, under the images in order
under_order : (mode : Mode) (tail : Bool) (images : List PageImage) (order : List ℕ) (k : ℕ) (below : List ℕ) → IsOrder images order
    → page_under (in_order images order) (suc (suc k)) below ≡ over mode tail (suc (suc k)) (image_of images (suc (suc k))) below
under_order mode tail images order k below is = by_image (image_of images (suc (suc k))) refl
  where
    by_image : (found : Option (List ℕ)) → image_of images (suc (suc k)) ≡ found
        → page_under (in_order images order) (suc (suc k)) below ≡ over mode tail (suc (suc k)) found below
    by_image None none =
        under_none (in_order images order) (suc (suc k)) below
        (all_in_order (λ (image : PageImage). image.page ≡ suc (suc k) → ⊥) images order (stands_not images (suc (suc k)) none) is.places)
    by_image (Some bytes) some =
        let there : Stands images (suc (suc k)) bytes = stands images (suc (suc k)) bytes some in
        let page : slice_index (page_numbers images) there.place ≡ suc (suc k) = sym (page_read images there.place) ∙ there.page in
        under_placed images order there.place (suc (suc k)) below (rest_rises 1 (page_numbers (in_order images order)) is.rising)
        (is.all there.place there.within (omega (arith, page))) there.page
        ∙ there.is ∙ sym (page_other mode tail k below bytes)

length_pages : (page : ℕ → List ℕ) (number count : ℕ) → length (pages_from page number count) ≡ count
length_pages page number zero = refl
length_pages page number (suc count) = ap suc (length_pages page (number + 1) count)

read_pages : (page : ℕ → List ℕ) (number count i : ℕ) (d : List ℕ) → i < count → get_or (pages_from page number count) i d ≡ page (number + i)
read_pages page number zero i d less = absurd (omega arith)
read_pages page number (suc count) zero d less = ap page (omega arith)
read_pages page number (suc count) (suc i) d less = read_pages page (number + 1) count i d (omega arith) ∙ ap page (omega arith)

-- page 1 is the one in front
first_under : (changed : List PageImage) (order first below : List ℕ) → IsOrder changed order → page_under (images_of first changed order) 1 below ≡ first
first_under changed order first below is = under_none (in_order changed order) 1 first (after_first 1 (in_order changed order) is.rising)

-- Page 1 as it was laid, and the images in order, make of the map below them the map that the commit makes.
pub laid_is : (pages : PageMap) (change : Change) (order first : List ℕ) → change.fresh ≡ [] → 1 ≤ length pages
    → AreDifferent (page_numbers change.changed) → All (λ image. 1 ≤ image.page) change.changed → IsOrder change.changed order
    → first ≡ page_at (laid pages change) 1 → map_under pages (images_of first change.changed order) (length pages) ≡ laid pages change
laid_is pages change order first fresh some different from is is_first =
    same_lists (map_under pages (images_of first change.changed order) (length pages)) (laid pages change)
    (length_pages under 1 (length pages) ∙ sym count)
    (λ i d within. at i d (omega (arith, length_pages under 1 (length pages))))
  where
    under : ℕ → List ℕ
    under number = page_under (images_of first change.changed order) number (page_at pages number)

    count : length (laid pages change) ≡ length pages
    count = laid-length pages change fresh

    page : (i : ℕ) → i < length pages → under (suc i) ≡ page_at (laid pages change) (suc i)
    page zero within = first_under change.changed order first (page_at pages 1) is ∙ is_first
    page (suc k) within =
        ap (λ (test : Bool). page_under (in_order change.changed order) (suc (suc k)) (if test then first else page_at pages (suc (suc k))))
        (ne_eqb 1 (suc (suc k)) (λ e. omega arith))
        ∙ under_order change.mode change.tail change.changed order k (page_at pages (suc (suc k))) is
        ∙ sym (other_laid pages change k fresh (omega arith) different from)

    at : (i : ℕ) (d : List ℕ) → i < length pages → get_or (pages_from under 1 (length pages)) i d ≡ get_or (laid pages change) i d
    at i d within =
        read_pages under 1 (length pages) i d within ∙ ap under (omega arith) ∙ page i within
        ∙ get_or_default (laid pages change) i [] d (omega (arith, count))

-- bytes 16 and 17 of page 1, which name the page size, stay
stamped_keeps : (size k : ℕ) (old : List ℕ) → 24 ≤ length old → k < 24 → slice_index (stamped size old) k ≡ slice_index old k
stamped_keeps size k old long less =
    get_or_append_left (take 24 old)
    (u32_bytes (next_counter old) ++ (u32_bytes size ++ (between 32 92 old ++ (u32_bytes (next_counter old) ++ drop 96 old))))
    0 k (omega (arith, length-take 24 old))
    ∙ get_or-take 24 old k 0 (omega (arith, length-take 24 old))

put_keeps : (mode : Mode) (tail : Bool) (image : Option (List ℕ)) (old : List ℕ) (k : ℕ) → 100 ≤ length old → k < 24
    → slice_index (put_first mode tail image old) k ≡ slice_index old k
put_keeps mode tail None old k long less = refl
put_keeps mode tail (Some new) old k long less =
    get_or_append_left (take 32 old) (schema_fields mode old new ++ (between 60 100 old ++ (if tail then drop 100 new else drop 100 old)))
    0 k (omega (arith, length-take 32 old))
    ∙ get_or-take 32 old k 0 (omega (arith, length-take 32 old))

put_length : (mode : Mode) (tail : Bool) (image : Option (List ℕ)) (old : List ℕ) → 100 ≤ length old → 24 ≤ length (put_first mode tail image old)
put_length mode tail None old long = omega arith
put_length mode tail (Some new) old long =
    omega (arith, length-append (take 32 old) (schema_fields mode old new ++ (between 60 100 old ++ (if tail then drop 100 new else drop 100 old))), length-take 32 old)

size_read : (some other : List ℕ) → slice_index some 16 ≡ slice_index other 16 → slice_index some 17 ≡ slice_index other 17
    → page_size_in (fields_of some) ≡ page_size_in (fields_of other)
unfolding fields_of u16_at
size_read some other high low = rw (high, low) refl

-- The commit fits the store: page 1 is among its pages and names the page size still, and the size stays.
pub fits : (view : StoreView) (change : Change) (order first : List ℕ) → change.fresh ≡ [] → 100 ≤ length (page_at view.map 1)
    → AreDifferent (page_numbers change.changed) → All (λ image. 1 ≤ image.page) change.changed → IsOrder change.changed order
    → first ≡ page_at (laid view.map change) 1 → page_size_in (fields_of (page_at view.map 1)) ≡ view.size
    → FitsMap view (images_of first change.changed order) (length view.map)
fits view change order first fresh long different from is is_first named = record {
  named = λ below. ap (λ (bytes : List ℕ). page_size_in (fields_of bytes)) (first_under change.changed order first below is)
      ∙ size_read first old (kept 16 (omega arith)) (kept 17 (omega arith)) ∙ named;
  covers = λ number past within. absurd (omega arith);
}
  where
    old : List ℕ
    old = page_at view.map 1

    put : List ℕ
    put = put_first change.mode change.tail (image_of change.changed 1) old

    some : (pages : PageMap) → 100 ≤ length (page_at pages 1) → 1 ≤ length pages
    some [] long = absurd (omega arith)
    some (page ∷ pages) long = omega arith

    kept : (k : ℕ) → k < 24 → slice_index first k ≡ slice_index old k
    kept k less =
        ap (λ (bytes : List ℕ). slice_index bytes k) (is_first ∙ first_laid view.map change fresh (some view.map long) different from)
        ∙ stamped_keeps (length view.map) k put (put_length change.mode change.tail (image_of change.changed 1) old long) less
        ∙ put_keeps change.mode change.tail (image_of change.changed 1) old k long less

-- These are the pages that a commit writes which makes and frees none.
pub writes : (newest : Option PageMap) (size : ℕ) (change : Change) (order : List ℕ) → change.fresh ≡ []
    → All (λ image. 1 ≤ image.page) change.changed → IsOrder change.changed order
    → Writes newest size change (1 ∷ page_numbers (in_order change.changed order))
writes newest size change order fresh from is =
    subst (Writes newest size change) (set_in_order change.changed order from is) (writes_changed newest size change fresh)

-- each of them has a number and all bytes of a page
pub whole_images : (changed : List PageImage) (order first : List ℕ) (s : ℕ) → length first ≡ s
    → All (λ image. length image.bytes ≡ s) changed → All (λ image. 1 ≤ image.page) changed → IsOrder changed order
    → All (λ image. (0 < image.page) × (length image.bytes ≡ s)) (images_of first changed order)
whole_images changed order first s count whole from is =
    All-cons (λ (image : PageImage). (0 < image.page) × (length image.bytes ≡ s)) (record { page = 1; bytes = first }) (in_order changed order)
    (omega arith, count)
    (all_in_order (λ (image : PageImage). (0 < image.page) × (length image.bytes ≡ s)) changed order
    (λ k d within. ((let low = from k d within in omega arith), whole k d within)) is.places)

-- what a transaction hands in is a change of its images
pub is_change : {M : Type 0} (state : EngineState) (pin : Pin) (prepared : Prepared M) → IsFit state pin prepared
    → IsChangeOf prepared.mode prepared.tail prepared.changed (change_in prepared)
is_change state pin prepared fit = record { is_mode = refl; is_tail = refl; is_changed = refl; fresh = fit.fresh; freed = fit.freed }
