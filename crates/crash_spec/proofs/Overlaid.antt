-- When two overlaid maps are the same.
use Rattle.std.proofs.Common.{◌≡◌, ℕ, zero, suc, ◌+◌, ◌≤◌, ◌==◌, ◌⊎◌, inl, inr, Bool, true, false, if◌then◌else◌, List, [], ◌∷◌, length, take, refl, sym, ◌∙◌, ap, arith}
use Rattle.std.specs.Prelude.{Contains}
use Rattle.std.proofs.lemmas.Bool.Decides.{Decides-eqb}
use Rattle.page_spec.specs.Header.{fields_of, page_size_in, pages_in}
use Rattle.log_spec.specs.Accept.{Frame, page_number, page_of, page_numbers}
use Rattle.crash_spec.specs.Recovered.{main_page, page_after_frames, pages_from, first_bytes, laid_over, overlaid, size_after}
use Rattle.crash_spec.specs.Store.{named_size}

-- a page that frames hold doesn't depend on what lies below, and one that they don't hold is what lies below
pub held_or_not : (frames : List Frame) (number : ℕ) → ((below other : List ℕ) → page_after_frames frames number below ≡ page_after_frames frames number other)
    ⊎ ((Contains (page_numbers frames) number → ⊥) × ((below : List ℕ) → page_after_frames frames number below ≡ below))
held_or_not [] number = inr (λ held. omega arith, λ below. refl)
held_or_not (frame ∷ rest) number = by (page_number frame == number) (Decides-eqb (page_number frame) number) (held_or_not rest number)
  where
    by : (same : Bool) → (same ≡ true → page_number frame ≡ number) × (page_number frame ≡ number → same ≡ true)
        → ((below other : List ℕ) → page_after_frames rest number below ≡ page_after_frames rest number other)
        ⊎ ((Contains (page_numbers rest) number → ⊥) × ((below : List ℕ) → page_after_frames rest number below ≡ below))
        → ((below other : List ℕ) → page_after_frames rest number (if same then page_of frame else below) ≡ page_after_frames rest number (if same then page_of frame else other))
        ⊎ ((Contains (page_number frame ∷ page_numbers rest) number → ⊥) × ((below : List ℕ) → page_after_frames rest number (if same then page_of frame else below) ≡ below))
    by true decides tail = inl (λ below other. refl)
    by false decides (inl held) = inl (λ below other. held below other)
    by false decides (inr (none, leaves)) = inr (
      λ held. not_held held,
      λ below. leaves below,
    )
      where
        not_held : Contains (page_number frame ∷ page_numbers rest) number → ⊥
        not_held (zero, less, is) = let no = decides.1 is in cc
        not_held (suc k, less, is) = none (k, omega arith, is)

pub same_pages : (page other : ℕ → List ℕ) (number count : ℕ) → ((n : ℕ) → number ≤ n → page n ≡ other n) → pages_from page number count ≡ pages_from other number count
same_pages page other number zero same = refl
same_pages page other number (suc count) same =
    let first = same number (omega arith) in
    let rest = same_pages page other (number + 1) count (λ n from. same n (omega arith)) in
    cc

-- a page, where what lies below differs only if no frame holds it
pub page_outside : (older newer : List Frame) (number : ℕ) (below other : List ℕ)
    → ((Contains (page_numbers older) number → ⊥) → (Contains (page_numbers newer) number → ⊥) → below ≡ other)
    → page_after_frames newer number (page_after_frames older number below) ≡ page_after_frames newer number (page_after_frames older number other)
page_outside older newer number below other same =
    elim (held_or_not newer number) [
      | inl held ↦ held (page_after_frames older number below) (page_after_frames older number other)
      | inr (none, leaves) ↦
          ap (λ (bytes : List ℕ). page_after_frames newer number bytes)
          (elim (held_or_not older number) [
            | inl held ↦ held below other
            | inr (neither, keeps) ↦ keeps below ∙ same neither none ∙ sym (keeps other)
          ])
    ]

pub firsts_outside : (main other : List ℕ) (older newer : List Frame)
    → ((Contains (page_numbers older) 1 → ⊥) → (Contains (page_numbers newer) 1 → ⊥) → take 100 main ≡ take 100 other)
    → first_bytes main older newer ≡ first_bytes other older newer
firsts_outside main other older newer first = page_outside older newer 1 (take 100 main) (take 100 other) first

-- Two contents of Main lie below the same map, where they differ in no page that neither list of frames holds, and are equally
-- long as far as that matters.
pub overlaid_outside : (size : ℕ) (main other : List ℕ) (older newer : List Frame)
    → ((first : List ℕ) → size_after newer (size_after older (pages_in first (length main))) ≡ size_after newer (size_after older (pages_in first (length other))))
    → ((number : ℕ) → 1 ≤ number → (Contains (page_numbers older) number → ⊥) → (Contains (page_numbers newer) number → ⊥) → main_page size main number ≡ main_page size other number)
    → ((Contains (page_numbers older) 1 → ⊥) → (Contains (page_numbers newer) 1 → ⊥) → take 100 main ≡ take 100 other)
    → named_size main older newer ≡ size
    → overlaid main older newer ≡ overlaid other older newer
overlaid_outside size main other older newer long pages first sized =
    let firsts = firsts_outside main other older newer first in
    ap (λ (bytes : List ℕ). laid_over (size_after newer (size_after older (pages_in bytes (length main)))) (page_size_in (fields_of bytes)) main older newer) firsts
    ∙ go (first_bytes other older newer) (sym (ap (λ (bytes : List ℕ). page_size_in (fields_of bytes)) firsts) ∙ sized)
  where
    same : (count : ℕ) → laid_over count size main older newer ≡ laid_over count size other older newer
    same count = same_pages _ _ 1 count (λ number from. page_outside older newer number (main_page size main number) (main_page size other number) (pages number from))

    go : (bytes : List ℕ) → page_size_in (fields_of bytes) ≡ size
        → laid_over (size_after newer (size_after older (pages_in bytes (length main)))) (page_size_in (fields_of bytes)) main older newer
        ≡ laid_over (size_after newer (size_after older (pages_in bytes (length other)))) (page_size_in (fields_of bytes)) other older newer
    go bytes is =
        let count : ℕ = size_after newer (size_after older (pages_in bytes (length main))) in
        ap (λ (n : ℕ). laid_over count n main older newer) is
        ∙ same count
        ∙ ap (λ (n : ℕ). laid_over count n other older newer) (sym is)
        ∙ ap (λ (n : ℕ). laid_over n (page_size_in (fields_of bytes)) other older newer) (long bytes)
