-- Laws of images in rising order: which are there, what putting one changes, and that what is there tells all of them.
use Rattle.std.proofs.Common.{◌≡◌, ◌∙◌, ℕ, ◌<◌, ◌≤◌, List, [], ◌∷◌, ◌++◌, Option, Some, None, refl, sym, subst, ap, inl, inr, arith, eq-eqb}
use Rattle.std.specs.Prelude.{All}
use Rattle.std.proofs.lemmas.Bool.{cases_eq, cases_order, ne_eqb, lt-ltb, le-ltb}
use Rattle.std.proofs.lemmas.List.Elements.{All-head, All-tail, All-cons, All-nil}
use Rattle.engine_spec.specs.declared.commits.PageImage.{PageImage}
use Rattle.engine_spec.specs.Change.{image_of}
use Rattle.overlay.specs.Places.{image_numbers, RisesFrom}
use Rattle.overlay.specs.Images.{with_put, merged}

-- an image
abbrev pub of_page : ℕ → List ℕ → PageImage
of_page page bytes = record { page = page; bytes = bytes }

-- an image put over the first one, before it, or behind it
pub put_same : (image : PageImage) (images : List PageImage) (page : ℕ) (bytes : List ℕ) → page ≡ image.page
    → with_put (image ∷ images) page bytes ≡ of_page page bytes ∷ images
put_same image images page bytes same = rw (eq-eqb page image.page same) refl

pub put_before : (image : PageImage) (images : List PageImage) (page : ℕ) (bytes : List ℕ) → page < image.page
    → with_put (image ∷ images) page bytes ≡ of_page page bytes ∷ image ∷ images
put_before image images page bytes below = rw (ne_eqb page image.page (λ e. omega arith), lt-ltb page image.page below) refl

pub put_after : (image : PageImage) (images : List PageImage) (page : ℕ) (bytes : List ℕ) → image.page < page
    → with_put (image ∷ images) page bytes ≡ image ∷ with_put images page bytes
put_after image images page bytes above = rw (ne_eqb page image.page (λ e. omega arith), le-ltb page image.page (omega arith)) refl

-- the first image is the page's, or it isn't
pub image_at : (image : PageImage) (images : List PageImage) (q : ℕ) → image.page ≡ q → image_of (image ∷ images) q ≡ Some image.bytes
image_at image images q same = rw (eq-eqb image.page q same) refl

pub image_past : (image : PageImage) (images : List PageImage) (q : ℕ) → (image.page ≡ q → ⊥) → image_of (image ∷ images) q ≡ image_of images q
image_past image images q apart = rw (ne_eqb image.page q apart) refl

-- an image that is put is there
pub image_put : (images : List PageImage) (page : ℕ) (bytes : List ℕ) → image_of (with_put images page bytes) page ≡ Some bytes
image_put [] page bytes = image_at (of_page page bytes) [] page refl
image_put (image ∷ images) page bytes = elim (cases_order page image.page) [
  | inl same ↦ rw (put_same image images page bytes same) (image_at (of_page page bytes) images page refl)
  | inr (inl below) ↦ rw (put_before image images page bytes below) (image_at (of_page page bytes) (image ∷ images) page refl)
  | inr (inr above) ↦
      rw (put_after image images page bytes above)
      (image_past image (with_put images page bytes) page (λ e. omega arith) ∙ image_put images page bytes)
]

-- and those of the other pages are as before
pub image_other : (images : List PageImage) (page : ℕ) (bytes : List ℕ) (q : ℕ) → (q ≡ page → ⊥)
    → image_of (with_put images page bytes) q ≡ image_of images q
image_other [] page bytes q apart = image_past (of_page page bytes) [] q (λ e. apart (sym e))
image_other (image ∷ images) page bytes q apart = elim (cases_order page image.page) [
  | inl same ↦
      rw (put_same image images page bytes same)
      (image_past (of_page page bytes) images q (λ e. apart (sym e)) ∙ sym (image_past image images q (λ e. apart (sym e ∙ sym same))))
  | inr (inl below) ↦ rw (put_before image images page bytes below) (image_past (of_page page bytes) (image ∷ images) q (λ e. apart (sym e)))
  | inr (inr above) ↦
      rw (put_after image images page bytes above) (elim (cases_eq image.page q) [
        | inl here ↦ image_at image (with_put images page bytes) q here ∙ sym (image_at image images q here)
        | inr past ↦
            image_past image (with_put images page bytes) q past ∙ (image_other images page bytes q apart ∙ sym (image_past image images q past))
      ])
]

-- images that rise from a number rise from each lesser one
pub rises_lower : (low lower : ℕ) (images : List PageImage) → lower ≤ low → RisesFrom low (image_numbers images) → RisesFrom lower (image_numbers images)
rises_lower low lower [] less rises = tt
rises_lower low lower (image ∷ images) less rises = (let above = rises.0 in omega arith, rises.1)

-- no page is there that isn't above that number
pub none_low : (low : ℕ) (images : List PageImage) (q : ℕ) → RisesFrom low (image_numbers images) → q ≤ low → image_of images q ≡ None
none_low low [] q rises within = refl
none_low low (image ∷ images) q rises within =
    let above = rises.0 in
    image_past image images q (λ e. omega arith) ∙ none_low image.page images q rises.1 (omega arith)

-- images rise with one more
pub rises_put : (low : ℕ) (images : List PageImage) (page : ℕ) (bytes : List ℕ) → RisesFrom low (image_numbers images) → low < page
    → RisesFrom low (image_numbers (with_put images page bytes))
rises_put low [] page bytes rises past = (past, tt)
rises_put low (image ∷ images) page bytes rises past = elim (cases_order page image.page) [
  | inl same ↦ rw (put_same image images page bytes same) (past, subst (λ (n : ℕ). RisesFrom n (image_numbers images)) (sym same) rises.1)
  | inr (inl below) ↦ rw (put_before image images page bytes below) (past, (below, rises.1))
  | inr (inr above) ↦ rw (put_after image images page bytes above) (rises.0, rises_put image.page images page bytes rises.1 above)
]

-- images that rise are told by what is there of each page
pub told_by_pages : (low other : ℕ) (a b : List PageImage) → RisesFrom low (image_numbers a) → RisesFrom other (image_numbers b) → ((q : ℕ) → image_of a q ≡ image_of b q) → a ≡ b
told_by_pages low other [] [] first second same = refl
told_by_pages low other [] (y ∷ ys) first second same = absurd (let e = same y.page ∙ image_at y ys y.page refl in cc)
told_by_pages low other (x ∷ xs) [] first second same = absurd (let e = sym (same x.page) ∙ image_at x xs x.page refl in cc)
told_by_pages low other (x ∷ xs) (y ∷ ys) first second same = elim (cases_order x.page y.page) [
  | inl here ↦
      (let bytes : Some x.bytes ≡ Some y.bytes = sym (image_at x xs x.page refl) ∙ (same x.page ∙ image_at y ys x.page (sym here)) in
      let equal : x.bytes ≡ y.bytes = cc in
      let head : x ≡ y = λ i. record { page = here i; bytes = equal i } in
      let rest = told_by_pages x.page y.page xs ys first.1 second.1 (λ q. elim (cases_eq x.page q) [
        | inl at ↦ none_low x.page xs q first.1 (omega arith) ∙ sym (none_low y.page ys q second.1 (omega arith))
        | inr past ↦ sym (image_past x xs q past) ∙ (same q ∙ image_past y ys q (λ e. past (here ∙ e)))
      ]) in
      λ i. head i ∷ rest i)
  | inr (inl below) ↦
      absurd (let e = sym (image_at x xs x.page refl)
      ∙ (same x.page ∙ none_low x.page (y ∷ ys) x.page (below, second.1) (omega arith)) in cc)
  | inr (inr above) ↦
      absurd (let e = sym (image_at y ys y.page refl)
      ∙ (sym (same y.page) ∙ none_low y.page (x ∷ xs) y.page (above, first.1) (omega arith)) in cc)
]

-- what holds of each image holds with one put, if it holds of that
pub all_put : (P : PageImage → Type 0) (images : List PageImage) (page : ℕ) (bytes : List ℕ) → All P images → P (of_page page bytes)
    → All P (with_put images page bytes)
all_put P [] page bytes all one = All-cons P (of_page page bytes) [] one (All-nil P)
all_put P (image ∷ images) page bytes all one = elim (cases_order page image.page) [
  | inl same ↦ rw (put_same image images page bytes same) (All-cons P (of_page page bytes) images one (All-tail P image images all))
  | inr (inl below) ↦ rw (put_before image images page bytes below) (All-cons P (of_page page bytes) (image ∷ images) one all)
  | inr (inr above) ↦
      rw (put_after image images page bytes above)
      (All-cons P image (with_put images page bytes) (All-head P image images all) (all_put P images page bytes (All-tail P image images all) one))
]

-- others that are there over images are there over all of them
pub merged_has : (images others : List PageImage) (q : ℕ) (bytes : List ℕ) → image_of others q ≡ Some bytes
    → image_of (merged images others) q ≡ Some bytes
merged_has images [] q bytes there = absurd cc
merged_has images (image ∷ others) q bytes there = elim (cases_eq image.page q) [
  | inl same ↦
      subst (λ (n : ℕ). image_of (merged images (image ∷ others)) n ≡ Some bytes) same
      (image_put (merged images others) image.page image.bytes ∙ (sym (image_at image others q same) ∙ there))
  | inr apart ↦
      image_other (merged images others) image.page image.bytes q (λ e. apart (sym e))
      ∙ merged_has images others q bytes (sym (image_past image others q apart) ∙ there)
]

-- and else what is there of the images is
pub merged_below : (images others : List PageImage) (q : ℕ) → image_of others q ≡ None
    → image_of (merged images others) q ≡ image_of images q
merged_below images [] q none = refl
merged_below images (image ∷ others) q none = elim (cases_eq image.page q) [
  | inl same ↦ absurd (let e = sym none ∙ image_at image others q same in cc)
  | inr apart ↦
      image_other (merged images others) image.page image.bytes q (λ e. apart (sym e))
      ∙ merged_below images others q (sym (image_past image others q apart) ∙ none)
]

-- images rise with others put over them
pub rises_merged : (low : ℕ) (images others : List PageImage) → RisesFrom low (image_numbers images) → RisesFrom low (image_numbers others)
    → RisesFrom low (image_numbers (merged images others))
rises_merged low images [] first second = first
rises_merged low images (image ∷ others) first second =
    rises_put low (merged images others) image.page image.bytes
    (rises_merged low images others first (rises_lower image.page low others (let above = second.0 in omega arith) second.1)) second.0

-- an image put among the others is put over all of them
pub merged_put : (images others : List PageImage) (page : ℕ) (bytes : List ℕ) → RisesFrom 0 (image_numbers images) → RisesFrom 0 (image_numbers others)
    → 0 < page → merged images (with_put others page bytes) ≡ with_put (merged images others) page bytes
merged_put images others page bytes first second some =
    told_by_pages 0 0 (merged images (with_put others page bytes)) (with_put (merged images others) page bytes)
    (rises_merged 0 images (with_put others page bytes) first (rises_put 0 others page bytes second some))
    (rises_put 0 (merged images others) page bytes (rises_merged 0 images others first second) some)
    (λ q. elim (cases_eq q page) [
      | inl same ↦
          subst (λ (n : ℕ). image_of (merged images (with_put others page bytes)) n ≡ image_of (with_put (merged images others) page bytes) n) (sym same)
          (merged_has images (with_put others page bytes) page bytes (image_put others page bytes) ∙ sym (image_put (merged images others) page bytes))
      | inr apart ↦
          by_cases q (image_of others q) refl (image_other others page bytes q apart)
          ∙ sym (image_other (merged images others) page bytes q apart)
    ])
  where
    by_cases : (q : ℕ) (there : Option (List ℕ)) → image_of others q ≡ there → image_of (with_put others page bytes) q ≡ image_of others q
        → image_of (merged images (with_put others page bytes)) q ≡ image_of (merged images others) q
    by_cases q (Some held) is same =
        merged_has images (with_put others page bytes) q held (same ∙ is) ∙ sym (merged_has images others q held is)
    by_cases q None is same = merged_below images (with_put others page bytes) q (same ∙ is) ∙ sym (merged_below images others q is)

-- the last of the others is put first
pub merged_last : (images others : List PageImage) (image : PageImage)
    → merged images (others ++ image ∷ []) ≡ merged (with_put images image.page image.bytes) others
merged_last images [] image = refl
merged_last images (other ∷ others) image = ap (λ (all : List PageImage). with_put all other.page other.bytes) (merged_last images others image)
