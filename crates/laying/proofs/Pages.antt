-- The pages of a laid map, each from its image.
use Rattle.std.proofs.Common.{◌≡◌, ℕ, ◌-◌, ◌≤◌, Bool, List, [], ◌∷◌, length, zero, suc, refl, sym, subst, ap, ◌∙◌, inl, inr, arith, eq-eqb, All, Option, Some, None, length-set, set}
use Rattle.std.proofs.lemmas.Bool.{cases_eq, ne_eqb}
use Rattle.std.proofs.lemmas.List.{get_or-set_same}
use Rattle.std.proofs.lemmas.List.Elements.{All-nil, All-head, All-tail, All-cons}
use Rattle.page_spec.specs.PageMap.{PageMap, page_at}
use Rattle.engine_spec.specs.declared.commits.Mode.{Mode}
use Rattle.engine_spec.specs.declared.commits.PageImage.{PageImage}
use Rattle.engine_spec.specs.PageSet.{AreDifferent}
use Rattle.engine_spec.specs.Change.{Change, image_of, laid_page, put_page, put_pages, stamped, with_header, laid}
use Rattle.engine_spec.proofs.Laying.{image_absent, different_first, different_rest, put_pages-length, put_pages-other, laid-put}
use Rattle.laying.specs.Order.{page_numbers}
use Rattle.laying.specs.First.{IsChangeOf, put_first}

-- a page with its image over it, if there is one
abbrev pub over : Mode → Bool → ℕ → Option (List ℕ) → List ℕ → List ℕ
over mode tail number None old = old
over mode tail number (Some new) old = laid_page mode tail number old new

-- a page that is set is there
page_set : (pages : PageMap) (number : ℕ) (bytes : List ℕ) → 1 ≤ number → number ≤ length pages
    → page_at (set pages (number - 1) bytes) number ≡ bytes
page_set pages zero bytes low high = absurd (omega arith)
page_set pages (suc k) bytes low high =
    let e : suc k - 1 ≡ k = omega arith in
    rw e (get_or-set_same pages k bytes [] (omega arith))

-- the bytes of an image are as many as those of each
pub image_whole : (images : List PageImage) (q : ℕ) (bytes : List ℕ) (s : ℕ) → All (λ image. length image.bytes ≡ s) images
    → image_of images q ≡ Some bytes → length bytes ≡ s
image_whole [] q bytes s whole is = absurd cc
image_whole (image ∷ images) q bytes s whole is = elim (cases_eq image.page q) [
  | inl same ↦
      (let here : Some image.bytes ≡ Some bytes = rw (eq-eqb image.page q same) at is in
      let one : image.bytes ≡ bytes = cc in
      ap length (sym one) ∙ All-head (λ (image : PageImage). length image.bytes ≡ s) image images whole)
  | inr apart ↦
      image_whole images q bytes s (All-tail (λ (image : PageImage). length image.bytes ≡ s) image images whole)
      (rw (ne_eqb image.page q apart) at is)
]

-- each page of the map is put from its image
pub put_at : (mode : Mode) (tail : Bool) (pages : PageMap) (images : List PageImage) (q : ℕ) → 1 ≤ q → q ≤ length pages
    → AreDifferent (page_numbers images) → All (λ image. 1 ≤ image.page) images
    → page_at (put_pages mode tail pages images) q ≡ over mode tail q (image_of images q) (page_at pages q)
put_at mode tail pages [] q low high different from = refl
put_at mode tail pages (image ∷ images) q low high different from =
    let put = put_page mode tail pages image in
    let new = laid_page mode tail image.page (page_at pages image.page) image.bytes in
    let one : 1 ≤ image.page = All-head (λ (image : PageImage). 1 ≤ image.page) image images from in
    let rest = All-tail (λ (image : PageImage). 1 ≤ image.page) image images from in
    let count : length put ≡ length pages = length-set pages (image.page - 1) new in
    elim (cases_eq image.page q) [
      | inl same ↦
          (let none : image_of images q ≡ None =
          image_absent images q (subst (λ (r : ℕ). All (λ (one : PageImage). one.page ≡ r → ⊥) images) same (different_first image images different)) in
          let here : page_at put image.page ≡ new = page_set pages image.page new one (omega arith) in
          let there : page_at put q ≡ laid_page mode tail q (page_at pages q) image.bytes =
          subst (λ (r : ℕ). page_at put r ≡ laid_page mode tail r (page_at pages r) image.bytes) same here in
          rw (eq-eqb image.page q same) (put_pages-other mode tail put images q rest none ∙ there))
      | inr apart ↦
          (let alone : image_of (image ∷ []) q ≡ None = rw (ne_eqb image.page q apart) refl in
          let kept : page_at put q ≡ page_at pages q =
          put_pages-other mode tail pages (image ∷ []) q
          (All-cons (λ (image : PageImage). 1 ≤ image.page) image [] one (All-nil (λ (image : PageImage). 1 ≤ image.page))) alone in
          rw (ne_eqb image.page q apart)
          (put_at mode tail put images q low (omega arith) (different_rest image images different) rest
          ∙ ap (over mode tail q (image_of images q)) kept))
    ]

header_first : (pages : PageMap) → 1 ≤ length pages → page_at (with_header pages) 1 ≡ stamped (length pages) (page_at pages 1)
header_first [] some = absurd (omega arith)
header_first (first ∷ pages) some = refl

header_other : (pages : PageMap) (k : ℕ) → page_at (with_header pages) (suc (suc k)) ≡ page_at pages (suc (suc k))
header_other [] k = refl
header_other (first ∷ pages) k = refl

over_first : (mode : Mode) (tail : Bool) (image : Option (List ℕ)) (old : List ℕ) → over mode tail 1 image old ≡ put_first mode tail image old
over_first mode tail None old = refl
over_first mode tail (Some new) old = refl

-- page 1 of a laid map
pub first_laid : (pages : PageMap) (change : Change) → change.fresh ≡ [] → 1 ≤ length pages → AreDifferent (page_numbers change.changed)
    → All (λ image. 1 ≤ image.page) change.changed
    → page_at (laid pages change) 1 ≡ stamped (length pages) (put_first change.mode change.tail (image_of change.changed 1) (page_at pages 1))
first_laid pages change fresh some different from =
    let put = put_pages change.mode change.tail pages change.changed in
    let count : length put ≡ length pages = put_pages-length change.mode change.tail pages change.changed in
    ap (λ (map : PageMap). page_at map 1) (laid-put pages change fresh)
    ∙ header_first put (omega arith)
    ∙ ap (λ (n : ℕ). stamped n (page_at put 1)) count
    ∙ ap (stamped (length pages)) (put_at change.mode change.tail pages change.changed 1 (omega arith) some different from
    ∙ over_first change.mode change.tail (image_of change.changed 1) (page_at pages 1))

-- each other page of it
pub other_laid : (pages : PageMap) (change : Change) (k : ℕ) → change.fresh ≡ [] → suc (suc k) ≤ length pages
    → AreDifferent (page_numbers change.changed) → All (λ image. 1 ≤ image.page) change.changed
    → page_at (laid pages change) (suc (suc k)) ≡ over change.mode change.tail (suc (suc k)) (image_of change.changed (suc (suc k))) (page_at pages (suc (suc k)))
other_laid pages change k fresh within different from =
    let put = put_pages change.mode change.tail pages change.changed in
    ap (λ (map : PageMap). page_at map (suc (suc k))) (laid-put pages change fresh)
    ∙ header_other put k
    ∙ put_at change.mode change.tail pages change.changed (suc (suc k)) (omega arith) within different from

-- a buffer that had page 1 of a map and was laid in place has page 1 of the laid map
pub laid_in_place : (mode : Mode) (tail : Bool) (changed : List PageImage) (size : ℕ) (old mid new : List ℕ) → 100 ≤ length old
    → AreDifferent (page_numbers changed) → All (λ image. 1 ≤ image.page) changed
    → mid ≡ put_first mode tail (image_of changed 1) old → new ≡ stamped size mid
    → (pages : PageMap) (change : Change) → IsChangeOf mode tail changed change → length pages ≡ size → page_at pages 1 ≡ old
    → new ≡ page_at (laid pages change) 1
laid_in_place mode tail changed size old mid new long different from is_mid is_new pages change is count first =
    let some : 1 ≤ length pages = has_first pages (subst (λ (bytes : List ℕ). 100 ≤ length bytes) (sym first) long) in
    let there = first_laid pages change is.fresh some
    (subst (λ (images : List PageImage). AreDifferent (page_numbers images)) (sym is.is_changed) different)
    (subst (All (λ (image : PageImage). 1 ≤ image.page)) (sym is.is_changed) from) in
    let put : mid ≡ put_first change.mode change.tail (image_of change.changed 1) (page_at pages 1) =
    is_mid ∙ sym (ap (λ (m : Mode). put_first m tail (image_of changed 1) old) is.is_mode)
    ∙ sym (ap (λ (t : Bool). put_first change.mode t (image_of changed 1) old) is.is_tail)
    ∙ sym (ap (λ (images : List PageImage). put_first change.mode change.tail (image_of images 1) old) is.is_changed)
    ∙ sym (ap (put_first change.mode change.tail (image_of change.changed 1)) first) in
    is_new ∙ ap (stamped size) put
    ∙ sym (ap (λ (n : ℕ). stamped n (put_first change.mode change.tail (image_of change.changed 1) (page_at pages 1))) count)
    ∙ sym there
  where
    has_first : (pages : PageMap) → 100 ≤ length (page_at pages 1) → 1 ≤ length pages
    has_first [] long = absurd (omega arith)
    has_first (page ∷ pages) long = omega arith
