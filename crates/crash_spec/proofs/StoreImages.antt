-- What a crash leaves of a store.
use Rattle.std.proofs.Common.{◌∷◌, min, ◌≡◌, ◌≢◌, ℕ, ◌+◌, ◌-◌, ◌*◌, ◌/◌, ◌≤◌, ◌<◌, inl, inr, true, false, List, [], ◌++◌, length, take, drop, refl, sym, ◌∙◌, ap, subst, arith}
use Rattle.std.specs.Prelude.{Contains, nat_lt, slice_index}
use Rattle.std.proofs.lemmas.Bool.Decides.{nat_tests}
use Rattle.std.proofs.lemmas.Grind.{same_number_lists}
use Rattle.std.proofs.lemmas.List.{length-take, length-drop, get_or-take, get_or-drop}
use Rattle.std.proofs.lemmas.Nat.{div-mul-add}
use Rattle.disk_face.specs.declared.disk.File.{File}
use Rattle.disk_face.specs.declared.disk.File.TheVariants.{Main, Log1, Log2}
use Rattle.disk_face.specs.Files.{Files, content}
use Rattle.disk_face.specs.Steps.{History, reads}
use Rattle.disk_face.specs.Image.{MayLeave}
use Rattle.crash_spec.specs.Marks.{IsLog}
use Rattle.log_spec.specs.LogHeader.{LogFields, log_fields}
use Rattle.log_spec.specs.Accept.{Frame, page_numbers, last_size}
use Rattle.log_spec.specs.Frames.{accepted_frames}
use Rattle.crash_spec.specs.Marks.{number_of, other_of}
use Rattle.page_spec.specs.Header.{pages_in}
use Rattle.crash_spec.specs.Opening.{Opening}
use Rattle.crash_spec.specs.Logs.{IsWhole}
use Rattle.crash_spec.proofs.Elsewhere.{whole_file}
use Rattle.crash_spec.proofs.Pieces.{contains_none}
use Rattle.std.proofs.lemmas.Bool.{cases_lt}
use Rattle.crash_spec.specs.Recovered.{main_page, overlaid, recovered, size_after}
use Rattle.crash_spec.specs.Store.{AreOnDisk, MainIsSure, Recovers, named_size}
use Rattle.crash_spec.proofs.LogImages.{image_frames, image_header}
use Rattle.crash_spec.proofs.Overlaid.{overlaid_outside}

-- two rows with the same bytes in a range are equally long there
same_extent : (at count less more : ℕ) → less ≤ more → (at < more → 0 < count → min (at + count) more ≤ less) → min count (less - at) ≡ min count (more - at)
same_extent at count less more le reaches =
    elim (cases_lt at more) [
      | inl inside ↦ elim (cases_lt 0 count) [
        | inl some ↦ let far = reaches inside some in omega arith
        | inr none ↦ omega arith
      ]
      | inr past ↦ omega arith
    ]

-- pages of Main that are on the medium are in an image as they are read
module _ (opening : Opening) (told : History) (size : ℕ) (covered : List ℕ) (image : Files) (sure : MainIsSure opening told size covered) (left : MayLeave opening.before told image) where
  pub sure_place : (place : ℕ) → place < length (reads told).main → (Contains covered (place / size + 1) → ⊥) → slice_index image.main place ≡ slice_index (reads told).main place
  sure_place place inside none = (left Main).sure place inside (sure place inside none)

  -- a piece of Main of which every page is on the medium
  pub sure_piece : (at count : ℕ) → ((place : ℕ) → at ≤ place → place < at + count → Contains covered (place / size + 1) → ⊥) → take count (drop at image.main) ≡ take count (drop at (reads told).main)
  sure_piece at count none =
      let long : min count (length image.main - at) ≡ min count (length (reads told).main - at) =
      same_extent at count (length image.main) (length (reads told).main) (left Main).no_longer
      (λ inside some.
      let last : ℕ = min (at + count) (length (reads told).main) - 1 in
      let within : last < length (reads told).main = omega arith in
      let there = (left Main).reaches last within (sure last within (none last (omega arith) (omega arith))) in
      omega arith) in
      same_number_lists (take count (drop at image.main)) (take count (drop at (reads told).main))
      (omega (arith, long, length-take count (drop at image.main), length-take count (drop at (reads told).main), length-drop at image.main, length-drop at (reads told).main))
      (λ k less.
      let near : k < count = omega (arith, length-take count (drop at image.main)) in
      let inside : at + k < length (reads told).main = omega (arith, (left Main).no_longer, length-take count (drop at image.main), length-drop at image.main) in
      rw (get_or-take count (drop at image.main) k 0 near, get_or-drop at image.main k 0, get_or-take count (drop at (reads told).main) k 0 near, get_or-drop at (reads told).main k 0)
      (sure_place (at + k) inside (none (at + k) (omega arith) (omega arith))))

  pub page_same : (number : ℕ) → 0 < size → 1 ≤ number → (Contains covered number → ⊥) → main_page size image.main number ≡ main_page size (reads told).main number
  page_same number some from none =
      sure_piece ((number - 1) * size) size (λ place start end held.
      let at : ℕ = place - (number - 1) * size in
      let same : place ≡ (number - 1) * size + at = omega arith in
      let page : place / size ≡ number - 1 = ap (λ (n : ℕ). n / size) same ∙ div-mul-add (number - 1) size at (omega arith) in
      none (subst (λ n. Contains covered n) (omega arith) held))

  pub first_same : 100 ≤ size → (Contains covered 1 → ⊥) → take 100 image.main ≡ take 100 (reads told).main
  first_same some none =
      sure_piece 0 100 (λ place start end held.
      let page : place / size ≡ 0 = ap (λ (n : ℕ). n / size) (omega arith) ∙ div-mul-add 0 size place (omega arith) in
      none (subst (λ n. Contains covered n) (omega arith) held))

-- where no page is held all of Main is on the medium
main_whole : (opening : Opening) (told : History) (size : ℕ) → MainIsSure opening told size [] → IsWhole opening told Main
main_whole opening told size sure place inside = sure place inside (contains_none (place / size + 1))

-- where the size goes by Main's length, all of Main is on the medium, and so in an image
pub size_same : (opening : Opening) (told : History) (size : ℕ) (other : List Frame) (image : Files) → MainIsSure opening told size (page_numbers other) → MayLeave opening.before told image
    → (first : List ℕ) → size_after other (pages_in first (length (reads told).main)) ≡ size_after other (pages_in first (length image.main))
size_same opening told size [] image sure left first =
    ap (λ (main : List ℕ). pages_in first (length main)) (sym (whole_file opening told Main image (main_whole opening told size sure) left))
size_same opening told size (frame ∷ rest) image sure left first = refl

pub lt_true : (m n : ℕ) → m < n → nat_lt m n ≡ true
lt_true m n h = grind (arith, nat_tests)

pub lt_false : (m n : ℕ) → n < m → nat_lt m n ≡ false
lt_false m n h = grind (arith, nat_tests)

-- the log of lower generation lies below
pub recovered_is : (current : File) (image : Files) → IsLog current → (log_fields (content image (other_of current))).generation < (log_fields (content image current)).generation
    → recovered image ≡ overlaid image.main (accepted_frames (number_of (other_of current)) (content image (other_of current))) (accepted_frames (number_of current) (content image current))
recovered_is Main image is less = absurd is
recovered_is Log1 image is less = rw (lt_false (log_fields image.log1).generation (log_fields image.log2).generation less) refl
recovered_is Log2 image is less = rw (lt_true (log_fields image.log1).generation (log_fields image.log2).generation less) refl

-- Whatever a crash leaves of a store recovers to the map of its frames, or, where the pending ones end a commit, to that of these too.
pub store_images : (opening : Opening) (told : History) (current : File) (header older : LogFields) (frames pending other : List Frame) (size : ℕ)
    → AreOnDisk opening told current header older frames pending other size
    → named_size (reads told).main other frames ≡ size → (last_size pending ≢ 0 → named_size (reads told).main other (frames ++ pending) ≡ size)
    → (image : Files) → MayLeave opening.before told image
    → Recovers opening (overlaid (reads told).main other frames) (last_size pending ≢ 0) (overlaid (reads told).main other (frames ++ pending)) told image
store_images opening told current header older frames pending other size on named also image left chance =
    let new_header = image_header opening told current header frames pending on.newest image left in
    let old_header = image_header opening told (other_of current) older other [] on.oldest image left in
    let less : (log_fields (content image (other_of current))).generation < (log_fields (content image current)).generation = rw (new_header, old_header) on.rising in
    let is = recovered_is current image on.newest.is_log less in
    let other_is : accepted_frames (number_of (other_of current)) (content image (other_of current)) ≡ other =
    elim (image_frames opening told (other_of current) older other [] on.oldest image left chance) [ inl same ↦ same | inr (some, same) ↦ absurd (some refl) ] in
    let same : (newer : List Frame) → named_size (reads told).main other newer ≡ size → overlaid image.main other newer ≡ overlaid (reads told).main other newer =
    λ newer sized.
    sym (overlaid_outside size (reads told).main image.main other newer (λ first. ap (λ (n : ℕ). size_after newer n) (size_same opening told size other image on.main left first))
    (λ number from none held. sym (page_same opening told size (page_numbers other) image on.main left number (omega (arith, on.some_size)) from none))
    (λ none held. sym (first_same opening told size (page_numbers other) image on.main left on.some_size none))
    sized) in
    elim (image_frames opening told current header frames pending on.newest image left chance) [
      | inl old ↦ inl (is ∙ ap (λ (fs : List Frame). overlaid image.main fs (accepted_frames (number_of current) (content image current))) other_is ∙ ap (λ (fs : List Frame). overlaid image.main other fs) old ∙ same frames named)
      | inr (some, new) ↦ inr (some, is ∙ ap (λ (fs : List Frame). overlaid image.main fs (accepted_frames (number_of current) (content image current))) other_is ∙ ap (λ (fs : List Frame). overlaid image.main other fs) new ∙ same (frames ++ pending) (also some))
    ]
