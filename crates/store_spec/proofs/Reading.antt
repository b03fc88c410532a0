-- The frames of a log on a disk, and the pages of an overlaid map by its last frames.
use Rattle.std.proofs.Common.{◌≡◌, ◌∙◌, ℕ, zero, suc, ◌-◌, ◌≤◌, ◌<◌, ◌==◌, if◌then◌else◌, Bool, true, false, List, [], ◌∷◌, length, take, refl, sym, ap, subst, arith, Some, slice_index}
use Rattle.std.specs.Prelude.{IfSome, slice_get}
use Rattle.std.proofs.lemmas.List.{take_all}
use Rattle.std.proofs.lemmas.Bool.Decides.{Decides-eqb}
use Rattle.disk_face.specs.declared.disk.File.{File}
use Rattle.disk_face.specs.Steps.{History}
use Rattle.page_spec.specs.PageMap.{page_at}
use Rattle.log_spec.specs.LogHeader.{LogFields}
use Rattle.log_spec.specs.Accept.{Frame, AreValidFrames, page_number, page_of, page_numbers}
use Rattle.crash_spec.specs.Opening.{Opening}
use Rattle.crash_spec.specs.Logs.{IsOnDisk}
use Rattle.crash_spec.specs.Recovered.{main_page, page_after_frames, overlaid, laid_over, size_after, first_bytes}
use Rattle.page_spec.specs.Header.{pages_in}
use Rattle.page_spec.specs.PageMap.{PageMap}
use Rattle.crash_spec.specs.Store.{named_size}
use Rattle.wal_index.specs.Frames.{IsFrameOf, IsLastFrame}
use Rattle.log_pair.specs.Appending.{HasFrames, IsPageOf}
use Rattle.log_commit.proofs.Lying.{page_of_map, length-pages}

-- a log that is on the disk has its frames
pub on_has : (opening : Opening) (told : History) (log : File) (header : LogFields) (frames pending : List Frame) → IsOnDisk opening told log header frames pending
    → HasFrames (Some told) log header frames
on_has opening told log header frames pending on =
    (subst (λ (h : LogFields). AreValidFrames h h.sum frames) on.same_header on.committed.valid, on.committed.there)

-- A page of an overlaid map is that of the newer frames over the older ones over Main.
pub page_of_overlaid : (size : ℕ) (main : List ℕ) (older newer : List Frame) (number : ℕ) → named_size main older newer ≡ size → 1 ≤ number
    → number ≤ length (overlaid main older newer)
    → page_at (overlaid main older newer) number ≡ page_after_frames newer number (page_after_frames older number (main_page size main number))
page_of_overlaid size main older newer number sized from within =
    ap (λ (pages : PageMap). page_at pages number) is
    ∙ page_of_map under count number from (omega (arith, ap (λ (pages : PageMap). length pages) is ∙ length-pages under 1 count, within))
  where
    count : ℕ
    count = size_after newer (size_after older (pages_in (first_bytes main older newer) (length main)))

    under : ℕ → List ℕ
    under n = page_after_frames newer n (page_after_frames older n (main_page size main n))

    is : overlaid main older newer ≡ laid_over (size_after newer (size_after older (pages_in (first_bytes main older newer) (length main)))) size main older newer
    is = ap (λ (n : ℕ). laid_over (size_after newer (size_after older (pages_in (first_bytes main older newer) (length main)))) n main older newer) sized

-- Where no frame up to the mark is of the page, it is what lies below.
none_at : (frames : List Frame) (page mark : ℕ) (below : List ℕ)
    → ((place : ℕ) → place < mark → place < length (page_numbers frames) → slice_index (page_numbers frames) place ≡ page → ⊥)
    → page_after_frames (take mark frames) page below ≡ below
none_at frames page zero below none = refl
none_at [] page (suc mark) below none = refl
none_at (frame ∷ rest) page (suc mark) below none =
    by (page_number frame == page) (Decides-eqb (page_number frame) page).0 (none_at rest page mark below (λ place less within same. none (suc place) (omega arith) (omega arith) same))
  where
    by : (same : Bool) → (same ≡ true → page_number frame ≡ page) → page_after_frames (take mark rest) page below ≡ below
        → page_after_frames (take mark rest) page (if same then page_of frame else below) ≡ below
    by true is others = absurd (none 0 (omega arith) (omega arith) (is refl))
    by false is others = others

-- Else it is the page of the last one.
last_at : (frames : List Frame) (page mark place : ℕ) (bytes below : List ℕ) → place < mark → place < length (page_numbers frames)
    → slice_index (page_numbers frames) place ≡ page
    → ((other : ℕ) → place < other → other < mark → other < length (page_numbers frames) → slice_index (page_numbers frames) other ≡ page → ⊥)
    → IfSome (slice_get frames place) (λ frame. bytes ≡ page_of frame) → bytes ≡ page_after_frames (take mark frames) page below
last_at frames page zero place bytes below less within is last read = absurd (omega arith)
last_at [] page (suc mark) place bytes below less within is last read = absurd (omega arith)
last_at (frame ∷ rest) page (suc mark) zero bytes below less within is last read =
    by (page_number frame == page) (Decides-eqb (page_number frame) page).1
  where
    by : (same : Bool) → (page_number frame ≡ page → same ≡ true) → bytes ≡ page_after_frames (take mark rest) page (if same then page_of frame else below)
    by true decides = read ∙ sym (none_at rest page mark (page_of frame) (λ other lower inside same. last (suc other) (omega arith) (omega arith) (omega arith) same))
    by false decides = let no = decides is in cc
last_at (frame ∷ rest) page (suc mark) (suc place) bytes below less within is last read =
    last_at rest page mark place bytes (if page_number frame == page then page_of frame else below) (omega arith) (omega arith) is
    (λ other above lower inside same. last (suc other) (omega arith) (omega arith) (omega arith) same) read

one_back : (n : ℕ) → suc n - 1 ≡ n
one_back n = omega arith

-- the frame behind so many is of the page
frame_of : (pages : List ℕ) (page place : ℕ) → place < length pages → slice_index pages place ≡ page → IsFrameOf pages page (suc place)
frame_of pages page place within is = record { counted = omega arith; there = omega arith; page_is = ap (slice_index pages) (one_back place) ∙ is }

pub no_frame : (frames : List Frame) (page mark : ℕ) (below : List ℕ) → ((other : ℕ) → other ≤ mark → IsFrameOf (page_numbers frames) page other → ⊥)
    → page_after_frames (take mark frames) page below ≡ below
no_frame frames page mark below none =
    none_at frames page mark below (λ place less within is. none (suc place) (omega arith) (frame_of (page_numbers frames) page place within is))

pub last_frame : (told : History) (frames : List Frame) (page mark frame : ℕ) (bytes below : List ℕ) → IsLastFrame (page_numbers frames) page mark frame
    → IsPageOf (Some told) frames frame bytes → bytes ≡ page_after_frames (take mark frames) page below
last_frame told frames page mark zero bytes below last read = let counted : 1 ≤ 0 = last.is.counted in absurd (omega arith)
last_frame told frames page mark (suc place) bytes below last read =
    let there : suc place ≤ length (page_numbers frames) = last.is.there in
    let marked : suc place ≤ mark = last.marked in
    last_at frames page mark place bytes below (omega arith) (omega arith) (sym (ap (slice_index (page_numbers frames)) (one_back place)) ∙ last.is.page_is)
    (λ other above lower inside same.
    let no : suc other ≤ suc place = last.last (suc other) (omega arith) (frame_of (page_numbers frames) page other inside same) in
    omega (arith, no, above))
    (subst (λ (n : ℕ). IfSome (slice_get frames n) (λ frame. bytes ≡ page_of frame)) (one_back place) read)

pub last_of_all : (told : History) (frames : List Frame) (page frame : ℕ) (bytes below : List ℕ) → IsLastFrame (page_numbers frames) page (length frames) frame
    → IsPageOf (Some told) frames frame bytes → bytes ≡ page_after_frames frames page below
last_of_all told frames page frame bytes below last read =
    last_frame told frames page (length frames) frame bytes below last read ∙ ap (λ (fs : List Frame). page_after_frames fs page below) (take_all (length frames) frames (omega arith))
