-- The frames of page 1 in a log, and the page size that they name.
use Rattle.std.proofs.Common.{◌≡◌, ◌∙◌, ℕ, ◌==◌, Bool, true, false, if◌then◌else◌, List, [], ◌∷◌, ◌++◌, map, refl, sym, ap, inl, inr, arith, Contains}
use Rattle.std.specs.Prelude.{◌⊎◌}
use Rattle.std.proofs.lemmas.Bool.{eqb-true, ne_eqb}
use Rattle.std.proofs.lemmas.Bool.Decides.{Decides-eqb}
use Rattle.std.proofs.lemmas.List.Elements.{All-head, All-tail, All-nil, All-cons, All-append}
use Rattle.page_spec.specs.Header.{fields_of, page_size_in}
use Rattle.log_spec.specs.Accept.{Frame, page_number, page_numbers, page_of}
use Rattle.crash_spec.specs.Recovered.{page_after_frames}
use Rattle.engine_spec.specs.declared.commits.PageImage.{PageImage}
pub use Rattle.store_spec.specs.Steady.{NamesSize, AllName}
use Rattle.engine_spec.proofs.Conflicts.{contains_cases, contains_more}
use Rattle.log_commit.specs.Commit.{AreFramesOf, page_under}

-- so a page 1 after such frames names it, where they hold it or what lies below names it
pub named_after : (size : ℕ) (frames : List Frame) (below : List ℕ) → AllName size frames → Contains (page_numbers frames) 1 ⊎ (page_size_in (fields_of below) ≡ size)
    → page_size_in (fields_of (page_after_frames frames 1 below)) ≡ size
named_after size [] below named (inl there) = absurd (let low = there.1 in omega arith)
named_after size [] below named (inr is) = is
named_after size (frame ∷ rest) below named has =
    by (page_number frame == 1) refl has
    (λ under. named_after size rest under (All-tail (NamesSize size) frame rest named))
  where
    by : (same : Bool) → (page_number frame == 1) ≡ same → Contains (page_numbers (frame ∷ rest)) 1 ⊎ (page_size_in (fields_of below) ≡ size)
        → ((under : List ℕ) → Contains (page_numbers rest) 1 ⊎ (page_size_in (fields_of under) ≡ size) → page_size_in (fields_of (page_after_frames rest 1 under)) ≡ size)
        → page_size_in (fields_of (page_after_frames rest 1 (if same then page_of frame else below))) ≡ size
    by true same has others =
        others (page_of frame) (inr (All-head (NamesSize size) frame rest named (eqb-true (page_number frame) 1 same)))
    by false same (inr is) others = others below (inr is)
    by false same (inl there) others = elim (contains_cases (page_number frame) 1 (page_numbers rest) there) [
      | inl is ↦ absurd (let yes = (Decides-eqb (page_number frame) 1).1 is in cc)
      | inr later ↦ others below (inl later)
    ]

-- no frames, and more frames
pub named_none : (size : ℕ) → AllName size []
named_none size = All-nil (NamesSize size)

pub named_more : (size : ℕ) (frames more : List Frame) → AllName size frames → AllName size more → AllName size (frames ++ more)
named_more size frames more = All-append (NamesSize size) frames more

-- frames of other pages than page 1
named_others : (size : ℕ) (images : List PageImage) (frames : List Frame) → AreFramesOf images frames → (Contains (map (λ image. image.page) images) 1 → ⊥) → AllName size frames
named_others size [] [] are none = named_none size
named_others size [] (frame ∷ frames) are none = absurd are
named_others size (image ∷ images) [] are none = absurd are
named_others size (image ∷ images) (frame ∷ frames) (same, bytes, are) none =
    All-cons (NamesSize size) frame frames
    (λ is. absurd (none (0, omega arith, sym same ∙ is)))
    (named_others size images frames are (λ there. none (contains_more image.page 1 (map (λ image. image.page) images) there)))

-- images of other pages leave what lies below
under_others : (images : List PageImage) (below : List ℕ) → (Contains (map (λ image. image.page) images) 1 → ⊥) → page_under images 1 below ≡ below
under_others [] below none = refl
under_others (image ∷ images) below none =
    ap (λ (same : Bool). page_under images 1 (if same then image.bytes else below)) (ne_eqb image.page 1 (λ is. none (0, omega arith, is)))
    ∙ under_others images below (λ there. none (contains_more image.page 1 (map (λ image. image.page) images) there))

-- the frames of a commit, which has one image of page 1, and names the page size
pub named_commit : (size : ℕ) (first : PageImage) (images : List PageImage) (more : List Frame) → AreFramesOf (first ∷ images) more → first.page ≡ 1
    → (Contains (map (λ image. image.page) images) 1 → ⊥) → ((below : List ℕ) → page_size_in (fields_of (page_under (first ∷ images) 1 below)) ≡ size) → AllName size more
named_commit size first images [] are one none named = absurd are
named_commit size first images (frame ∷ frames) (same, bytes, are) one none named =
    All-cons (NamesSize size) frame frames
    (λ is.
    ap (λ (bytes : List ℕ). page_size_in (fields_of bytes))
    (bytes ∙ sym (under_others images first.bytes none)
    ∙ sym (ap (λ (same : Bool). page_under images 1 (if same then first.bytes else [])) ((Decides-eqb first.page 1).1 one)))
    ∙ named [])
    (named_others size images frames are none)
