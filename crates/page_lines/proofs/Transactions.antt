-- How the images of a transaction of page lines follow its statements.
use Rattle.std.proofs.Common.{◌≡◌, ℕ, ◌<◌, ◌≤◌, Bool, true, false, cond, eqb, List, [], ◌∷◌, ◌++◌, length, map, replicate, Some, zero, suc, refl, sym, subst, ap, ◌∙◌, inl, inr, arith, eq-eqb}
use Rattle.std.specs.Prelude.{All}
use Rattle.std.proofs.lemmas.List.{length-replicate, length-map, get_or-map, map_push}
use Rattle.std.proofs.lemmas.List.Elements.{All-head, All-tail, All-cons, All-nil}
use Rattle.std.proofs.lemmas.Bool.{cases_eq, ne_eqb}
use Rattle.engine_spec.specs.declared.commits.PageImage.{PageImage}
use Rattle.engine_spec.specs.PageSet.{AreDifferent}
use Rattle.page_lines.specs.PageLines.{Statement, ReadPage, WritePage, statement_text, page_after, with_image, Fills, AreImages}
use Rattle.engine_spec.specs.Change.{image_of}
use Rattle.page_lines.specs.PageLineLaws.{page_after-append}
use Rattle.engine_spec.proofs.Laying.{different_first, different_rest}

-- a page keeps its length
pub page_after-length : (page : ℕ) (statements : List Statement) (bytes : List ℕ)
    → length (page_after page statements bytes) ≡ length bytes
page_after-length page [] bytes = refl
page_after-length page (ReadPage other ∷ statements) bytes = page_after-length page statements bytes
page_after-length page (WritePage other byte ∷ statements) bytes =
    page_after-length page statements (cond (eqb other page) (replicate (length bytes) byte) bytes) ∙ by_test (eqb other page)
  where
    by_test : (test : Bool) → length (cond test (replicate (length bytes) byte) bytes) ≡ length bytes
    by_test true = length-replicate (length bytes) byte
    by_test false = refl

-- with an image put, it is there
pub image_of-same : (images : List PageImage) (page : ℕ) (bytes : List ℕ)
    → image_of (with_image images page bytes) page ≡ Some bytes
image_of-same [] page bytes = rw (eq-eqb page page refl) refl
image_of-same (image ∷ images) page bytes = elim (cases_eq image.page page) [
  | inl same ↦ rw (eq-eqb image.page page same, eq-eqb page page refl) refl
  | inr apart ↦ rw (ne_eqb image.page page apart, ne_eqb image.page page apart) (image_of-same images page bytes)
]

-- and the others are as before
pub image_of-other : (images : List PageImage) (page : ℕ) (bytes : List ℕ) (q : ℕ) → (page ≡ q → ⊥)
    → image_of (with_image images page bytes) q ≡ image_of images q
image_of-other [] page bytes q apart = rw (ne_eqb page q apart) refl
image_of-other (image ∷ images) page bytes q apart = elim (cases_eq image.page page) [
  | inl same ↦
      (let differs : image.page ≡ q → ⊥ = λ e. apart (sym same ∙ e) in
      rw (eq-eqb image.page page same, ne_eqb page q apart, ne_eqb image.page q differs) refl)
  | inr differs ↦
      rw (ne_eqb image.page page differs) (by_test (eqb image.page q) (image_of-other images page bytes q apart))
]
  where
    by_test : (test : Bool) → image_of (with_image images page bytes) q ≡ image_of images q
        → cond test (Some image.bytes) (image_of (with_image images page bytes) q) ≡ cond test (Some image.bytes) (image_of images q)
    by_test true rest = refl
    by_test false rest = rest

-- what holds of each image holds with one put, if it holds of that
pub all_with : (P : PageImage → Type 0) (images : List PageImage) (page : ℕ) (bytes : List ℕ) → All P images
    → P (record { page = page; bytes = bytes }) → All P (with_image images page bytes)
all_with P [] page bytes all one = All-cons P (record { page = page; bytes = bytes }) [] one (All-nil P)
all_with P (image ∷ images) page bytes all one =
    by_test (eqb image.page page) (all_with P images page bytes (All-tail P image images all) one)
  where
    by_test : (test : Bool) → All P (with_image images page bytes)
        → All P (cond test (record { page = page; bytes = bytes } ∷ images) (image ∷ with_image images page bytes))
    by_test true rest = All-cons P (record { page = page; bytes = bytes }) images one (All-tail P image images all)
    by_test false rest = All-cons P image (with_image images page bytes) (All-head P image images all) rest

-- images are of different pages where the first is of none of the others, and those are of different pages
pub different_more : (image : PageImage) (images : List PageImage) → All (λ one. one.page ≡ image.page → ⊥) images
    → AreDifferent (map (λ one. one.page) images) → AreDifferent (map (λ one. one.page) (image ∷ images))
different_more image images first rest zero zero below within = absurd (omega arith)
different_more image images first rest zero (suc k) below within =
    let there : k < length images = omega (arith, length-map images (λ (one : PageImage). one.page)) in
    λ same. first k image there (sym (same ∙ get_or-map (λ (one : PageImage). one.page) images k image 0 there))
different_more image images first rest (suc i) zero below within = absurd (omega arith)
different_more image images first rest (suc i) (suc j) below within = rest i j (omega arith) (omega arith)

-- with an image put, the images are of different pages
pub different_with : (images : List PageImage) (page : ℕ) (bytes : List ℕ) → AreDifferent (map (λ image. image.page) images)
    → AreDifferent (map (λ image. image.page) (with_image images page bytes))
different_with [] page bytes different = λ i j below within. absurd (omega arith)
different_with (image ∷ images) page bytes different = elim (cases_eq image.page page) [
  | inl same ↦
      rw (eq-eqb image.page page same)
      (subst (λ (number : ℕ). AreDifferent (number ∷ map (λ (one : PageImage). one.page) images)) same different)
  | inr apart ↦
      rw (ne_eqb image.page page apart)
      (different_more image (with_image images page bytes)
      (all_with (λ (one : PageImage). one.page ≡ image.page → ⊥) images page bytes (different_first image images different)
      (λ e. apart (sym e)))
      (different_with images page bytes (different_rest image images different)))
]

-- images as page lines make them stay so with one put
pub with_image-are : (images : List PageImage) (page : ℕ) (bytes : List ℕ) (page_size : ℕ) → 2 ≤ page → page ≤ 16
    → length bytes ≡ page_size → AreImages page_size images → AreImages page_size (with_image images page bytes)
with_image-are images page bytes page_size low high whole images_are = record {
  different = different_with images page bytes images_are.different;
  in_range = all_with (λ (image : PageImage). (2 ≤ image.page) × (image.page ≤ 16)) images page bytes images_are.in_range (low, high);
  whole = all_with (λ (image : PageImage). length image.bytes ≡ page_size) images page bytes images_are.whole whole;
}

-- no images are images as page lines make them
pub none_are : (page_size : ℕ) → AreImages page_size []
none_are page_size = record {
  different = λ i j below within. absurd (omega arith);
  in_range = λ k d within. absurd (omega arith);
  whole = λ k d within. absurd (omega arith);
}

-- no statements fill no images
pub fills_none : (page_size : ℕ) → Fills page_size [] []
fills_none page_size = λ page bytes whole. refl

-- a read changes nothing of that
pub fills_read : (page_size : ℕ) (statements : List Statement) (images : List PageImage) (page : ℕ)
    → Fills page_size statements images → Fills page_size (statements ++ ReadPage page ∷ []) images
fills_read page_size statements images page fills =
    λ q bytes whole. page_after-append q statements (ReadPage page ∷ []) bytes ∙ fills q bytes whole

-- a write puts its image
pub fills_write : (page_size : ℕ) (statements : List Statement) (images : List PageImage) (page byte : ℕ)
    → Fills page_size statements images
    → Fills page_size (statements ++ WritePage page byte ∷ []) (with_image images page (replicate page_size byte))
fills_write page_size statements images page byte fills =
    λ q bytes whole. page_after-append q statements (WritePage page byte ∷ []) bytes ∙ (elim (cases_eq page q) [
      | inl same ↦
          (let there : image_of (with_image images page (replicate page_size byte)) q ≡ Some (replicate page_size byte) =
          ap (image_of (with_image images page (replicate page_size byte))) (sym same)
          ∙ image_of-same images page (replicate page_size byte) in
          rw (eq-eqb page q same, there)
          (ap (λ (n : ℕ). replicate n byte) (page_after-length q statements bytes ∙ whole)))
      | inr apart ↦
          rw (ne_eqb page q apart, image_of-other images page (replicate page_size byte) q apart) (fills q bytes whole)
    ])

-- the texts of some statements and one more
pub texts-push : (statements : List Statement) (statement : Statement)
    → map statement_text (statements ++ statement ∷ []) ≡ map statement_text statements ++ statement_text statement ∷ []
texts-push statements statement = map_push statement_text statements statement
