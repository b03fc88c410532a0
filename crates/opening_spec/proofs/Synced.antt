-- What a crash leaves once both logs are on the medium, while pages that they hold are written to Main.
use Rattle.std.proofs.Common.{◌≡◌, ℕ, ◌+◌, ◌/◌, Bool, true, false, if◌then◌else◌, inl, inr, List, [], ◌∷◌, ◌++◌, length, refl, sym, ◌∙◌, ap, arith}
use Rattle.std.specs.Prelude.{Contains, nat_lt}
use Rattle.std.proofs.lemmas.List.Elements.{Contains-append_cases}
use Rattle.disk_face.specs.declared.disk.File.TheVariants.{Main, Log1, Log2}
use Rattle.disk_face.specs.Files.{Files}
use Rattle.disk_face.specs.Steps.{History, reads}
use Rattle.disk_face.specs.Image.{MayLeave}
use Rattle.page_spec.specs.Header.{pages_in}
use Rattle.log_spec.specs.LogHeader.{log_fields}
use Rattle.log_spec.specs.Accept.{Frame, page_numbers}
use Rattle.log_spec.specs.Frames.{accepted_frames}
use Rattle.crash_spec.specs.Opening.{Opening}
use Rattle.crash_spec.specs.Recovered.{overlaid, recovered, size_after}
use Rattle.crash_spec.specs.Store.{MainIsSure}
use Rattle.crash_spec.proofs.Elsewhere.{whole_file}
use Rattle.crash_spec.proofs.Headers.{none_foreign}
use Rattle.crash_spec.proofs.Overlaid.{overlaid_outside}
use Rattle.crash_spec.proofs.Pieces.{contains_none}
use Rattle.crash_spec.proofs.StoreImages.{page_same, first_same}
use Rattle.opening_spec.specs.Found.{OpeningView, FoundLog, older_in, newer_in, map_in, pages_held}
use Rattle.opening_spec.specs.States.{AreSynced, LeavesMap}
use Rattle.opening_spec.proofs.FoundLaws.{found_frames}
use Rattle.opening_spec.proofs.Sizes.{both_sized, kept_image}

-- what is recovered, by the frames of the two logs
by_order : (first : Bool) (main : List ℕ) (one two : List Frame)
    → (if first then overlaid main one two else overlaid main two one) ≡ overlaid main (if first then one else two) (if first then two else one)
by_order true main one two = refl
by_order false main one two = refl

pub recovered_by : (files : Files) (one two : FoundLog) → accepted_frames 1 files.log1 ≡ one.frames → accepted_frames 2 files.log2 ≡ two.frames
    → recovered files ≡ map_in files one two
recovered_by files one two is1 is2 =
    let first : Bool = nat_lt (log_fields files.log1).generation (log_fields files.log2).generation in
    ap (λ (fs : List Frame). if first then overlaid files.main fs (accepted_frames 2 files.log2) else overlaid files.main (accepted_frames 2 files.log2) fs) is1
    ∙ ap (λ (fs : List Frame). if first then overlaid files.main one.frames fs else overlaid files.main fs one.frames) is2
    ∙ by_order first files.main one.frames two.frames

-- none of two lists has what neither of the ordered two has
pub neither_in : (first : Bool) (one two : List Frame) (number : ℕ) → (Contains (page_numbers (if first then one else two)) number → ⊥) → (Contains (page_numbers (if first then two else one)) number → ⊥)
    → Contains (page_numbers one ++ page_numbers two) number → ⊥
neither_in true one two number older newer held =
    elim (Contains-append_cases (page_numbers one) (page_numbers two) number held) [ inl here ↦ older here | inr there ↦ newer there ]
neither_in false one two number older newer held =
    elim (Contains-append_cases (page_numbers one) (page_numbers two) number held) [ inl here ↦ newer here | inr there ↦ older there ]

-- Where the size goes by Main's length, no log has a frame, so all of Main is on the medium, and an image has it all.
size_stays : (opening : Opening) (told : History) (size : ℕ) (first : Bool) (one two : List Frame) (image : Files) → MainIsSure opening told size (page_numbers one ++ page_numbers two)
    → MayLeave opening.before told image → (bytes : List ℕ)
    → size_after (if first then two else one) (size_after (if first then one else two) (pages_in bytes (length (reads told).main)))
    ≡ size_after (if first then two else one) (size_after (if first then one else two) (pages_in bytes (length image.main)))
size_stays opening told size first [] [] image sure left bytes =
    ap (λ (main : List ℕ). size_after (if first then [] else []) (size_after (if first then [] else []) (pages_in bytes (length main))))
    (sym (whole_file opening told Main image (λ place inside. sure place inside (contains_none (place / size + 1))) left))
size_stays opening told size true (x ∷ xs) [] image sure left bytes = refl
size_stays opening told size false (x ∷ xs) [] image sure left bytes = refl
size_stays opening told size true [] (y ∷ ys) image sure left bytes = refl
size_stays opening told size false [] (y ∷ ys) image sure left bytes = refl
size_stays opening told size true (x ∷ xs) (y ∷ ys) image sure left bytes = refl
size_stays opening told size false (x ∷ xs) (y ∷ ys) image sure left bytes = refl

-- Once both logs are on the medium, a crash leaves the map.
pub synced_images : (view : OpeningView) (one two : FoundLog) (told : History) → AreSynced view one two told → (image : Files) → MayLeave view.opening.before told image → LeavesMap view told image
synced_images view one two told s image left chance =
    let is1 : image.log1 ≡ (reads told).log1 = whole_file view.opening told Log1 image s.whole1 left in
    let is2 : image.log2 ≡ (reads told).log2 = whole_file view.opening told Log2 image s.whole2 left in
    let first : Bool = nat_lt (log_fields (reads told).log1).generation (log_fields (reads told).log2).generation in
    let older : List Frame = older_in (reads told) one two in
    let newer : List Frame = newer_in (reads told) one two in
    let orders : map_in image one two ≡ overlaid image.main (older_in (reads told) one two) (newer_in (reads told) one two) =
    rw (is1, is2) refl in
    let mains : overlaid image.main older newer ≡ overlaid (reads told).main older newer =
    elim s.opened.fits [
      | inl (none, neither, empty) ↦
          ap (λ (main : List ℕ). overlaid main older newer)
          (no_bytes image.main (omega (arith, (left Main).no_longer, ap (λ (bytes : List ℕ). length bytes) empty)) ∙ sym empty)
      | inr (some, sized) ↦
          sym (overlaid_outside view.size (reads told).main image.main older newer
          (size_stays view.opening told view.size first one.frames two.frames image s.opened.main left)
          (λ number from no nor. sym (page_same view.opening told view.size (pages_held one two) image s.opened.main left number (omega arith) from (neither_in first one.frames two.frames number no nor)))
          (λ no nor. sym (first_same view.opening told view.size (pages_held one two) image s.opened.main left some (neither_in first one.frames two.frames 1 no nor)))
          sized)
    ] in
    let frames1 = found_frames view.opening told Log1 one s.opened.log1 s.whole1 image left chance in
    let frames2 = found_frames view.opening told Log2 two s.opened.log2 s.whole2 image left chance in (
      (
        recovered_by image one two frames1 frames2 ∙ orders ∙ mains ∙ s.opened.is,
        kept_image view.opening view.size view.own view.map (reads told) image (left Main).no_longer is2 s.opened.keeps,
      ),
      (
        none_foreign view.opening told image s.opened.log1.ours s.opened.log2.ours chance,
        λ had. both_sized view.size one two image (reads told) is1 is2 frames1 frames2 (s.opened.sizes had),
      ),
    )
  where
    no_bytes : (bytes : List ℕ) → length bytes ≡ 0 → bytes ≡ []
    no_bytes [] is = refl
    no_bytes (byte ∷ rest) is = absurd (omega arith)
