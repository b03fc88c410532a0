-- What the frames of pages make of a map that lies below them.
use Rattle.std.proofs.Common.{◌≡◌, ◌≢◌, inl, inr, ℕ, zero, suc, ◌+◌, ◌≤◌, ◌<◌, ◌==◌, if◌then◌else◌, List, [], ◌∷◌, ◌++◌, length, map, take, get_or, refl, sym, ◌∙◌, ap, subst, arith}
use Rattle.std.specs.Prelude.{Contains}
use Rattle.std.proofs.lemmas.Bool.{cases_lt}
use Rattle.page_spec.specs.Header.{fields_of as header_fields, page_size_in, pages_in}
use Rattle.page_spec.specs.PageMap.{PageMap, page_at}
use Rattle.log_spec.specs.Accept.{Frame, page_number, page_of, page_numbers, last_size}
use Rattle.crash_spec.specs.Recovered.{main_page, page_after_frames, pages_from, first_bytes, laid_over, overlaid, size_after}
use Rattle.crash_spec.specs.Store.{StoreView, named_size}
use Rattle.crash_spec.proofs.LogImages.{last_of_both}
use Rattle.crash_spec.proofs.Overlaid.{held_or_not}
use Rattle.engine_spec.specs.declared.commits.PageImage.{PageImage}
use Rattle.log_commit.specs.Commit.{AreFramesOf, page_under, map_under, FitsMap}
use Rattle.log_commit.proofs.Growing.{LiesOver}

under_frames : (pages : List PageImage) (frames : List Frame) (number : ℕ) (below : List ℕ) → AreFramesOf pages frames → page_after_frames frames number below ≡ page_under pages number below
under_frames [] [] number below are = refl
under_frames [] (f ∷ frames) number below are = absurd are
under_frames (p ∷ pages) [] number below are = absurd are
under_frames (p ∷ pages) (f ∷ frames) number below (same, bytes, are) =
    under_frames pages frames number (if page_number f == number then page_of f else below) are
    ∙ ap (λ (n : ℕ). page_under pages number (if n == number then page_of f else below)) same
    ∙ ap (λ (xs : List ℕ). page_under pages number (if p.page == number then xs else below)) bytes

numbers_of : (pages : List PageImage) (frames : List Frame) → AreFramesOf pages frames → page_numbers frames ≡ map (λ image. image.page) pages
numbers_of [] [] are = refl
numbers_of [] (f ∷ frames) are = absurd are
numbers_of (p ∷ pages) [] are = absurd are
numbers_of (p ∷ pages) (f ∷ frames) (same, bytes, are) = let rest = numbers_of pages frames are in cc

after_both : (xs ys : List Frame) (number : ℕ) (below : List ℕ) → page_after_frames (xs ++ ys) number below ≡ page_after_frames ys number (page_after_frames xs number below)
after_both [] ys number below = refl
after_both (x ∷ xs) ys number below = after_both xs ys number (if page_number x == number then page_of x else below)

size_both : (frames more : List Frame) (below : ℕ) → last_size more ≢ 0 → size_after (frames ++ more) below ≡ last_size more
size_both frames [] below some = absurd (some refl)
size_both [] (m ∷ ms) below some = refl
size_both (f ∷ fs) (m ∷ ms) below some = last_of_both (f ∷ fs) m ms

pub length-pages : (page : ℕ → List ℕ) (number count : ℕ) → length (pages_from page number count) ≡ count
length-pages page number zero = refl
length-pages page number (suc count) = ap suc (length-pages page (number + 1) count)

read_pages : (page : ℕ → List ℕ) (number count i : ℕ) → i < count → get_or (pages_from page number count) i [] ≡ page (number + i)
read_pages page number zero i less = absurd (omega arith)
read_pages page number (suc count) zero less = ap page (omega arith)
read_pages page number (suc count) (suc i) less = read_pages page (number + 1) count i (omega arith) ∙ ap page (omega arith)

pub page_of_map : (page : ℕ → List ℕ) (count number : ℕ) → 1 ≤ number → number ≤ count → page_at (pages_from page 1 count) number ≡ page number
page_of_map page count zero from within = absurd (omega arith)
page_of_map page count (suc number) from within = read_pages page 1 count number (omega arith) ∙ ap page (omega arith)

same_within : (page other : ℕ → List ℕ) (number count : ℕ) → ((n : ℕ) → number ≤ n → n < number + count → page n ≡ other n) → pages_from page number count ≡ pages_from other number count
same_within page other number zero same = refl
same_within page other number (suc count) same =
    let first = same number (omega arith) (omega arith) in
    let rest = same_within page other (number + 1) count (λ n from below. same n (omega arith) (omega arith)) in
    cc

pub lies_over : (view : StoreView) (pages : List PageImage) (more : List Frame) (size : ℕ) → AreFramesOf pages more → last_size more ≡ size → FitsMap view pages size → LiesOver view more (map_under view.map pages size)
lies_over view pages more size are is fit main sized same some =
    let firsts : first_bytes main view.other (view.frames ++ more) ≡ page_under pages 1 (first_bytes main view.other view.frames) =
    after_both view.frames more 1 (page_after_frames view.other 1 (take 100 main)) ∙ under_frames pages more 1 (first_bytes main view.other view.frames) are in
    let named : named_size main view.other (view.frames ++ more) ≡ view.size =
    ap (λ (first : List ℕ). page_size_in (header_fields first)) firsts ∙ fit.named (first_bytes main view.other view.frames) in
    (named, all named)
  where
    under : ℕ → List ℕ
    under number = page_after_frames view.frames number (page_after_frames view.other number (main_page view.size main number))

    old_count : ℕ
    old_count = size_after view.frames (size_after view.other (pages_in (first_bytes main view.other view.frames) (length main)))

    map_is : view.map ≡ pages_from (λ number. page_after_frames view.frames number (page_after_frames view.other number (main_page view.size main number))) 1 (size_after view.frames (size_after view.other (pages_in (first_bytes main view.other view.frames) (length main))))
    map_is = same ∙ ap (λ (n : ℕ). laid_over (size_after view.frames (size_after view.other (pages_in (first_bytes main view.other view.frames) (length main)))) n main view.other view.frames) sized

    count_is : length view.map ≡ size_after view.frames (size_after view.other (pages_in (first_bytes main view.other view.frames) (length main)))
    count_is = ap (λ (m : PageMap). length m) map_is ∙ length-pages _ 1 _

    each : (number : ℕ) → 1 ≤ number → number < 1 + size → page_under pages number (page_at view.map number) ≡ page_after_frames (view.frames ++ more) number (page_after_frames view.other number (main_page view.size main number))
    each number from less =
        let before : List ℕ = page_after_frames view.frames number (page_after_frames view.other number (main_page view.size main number)) in
        let right : page_after_frames (view.frames ++ more) number (page_after_frames view.other number (main_page view.size main number)) ≡ page_under pages number before =
        after_both view.frames more number (page_after_frames view.other number (main_page view.size main number)) ∙ under_frames pages more number before are in
        elim (cases_lt (length view.map) number) [
          | inr inside ↦
              let old : page_at view.map number ≡ before =
              ap (λ (m : PageMap). page_at m number) map_is ∙ page_of_map (λ n. page_after_frames view.frames n (page_after_frames view.other n (main_page view.size main n))) _ number from (omega (arith, count_is)) in
              ap (λ (bytes : List ℕ). page_under pages number bytes) old ∙ sym right
          | inl new ↦
              let held : Contains (page_numbers more) number = subst (λ (numbers : List ℕ). Contains numbers number) (sym (numbers_of pages more are)) (fit.covers number new (omega arith)) in
              elim (held_or_not more number) [
                | inl any ↦ sym (under_frames pages more number (page_at view.map number) are) ∙ any (page_at view.map number) before ∙ under_frames pages more number before are ∙ sym right
                | inr (none, leaves) ↦ absurd (none held)
              ]
        ]

    all : named_size main view.other (view.frames ++ more) ≡ view.size → map_under view.map pages size ≡ overlaid main view.other (view.frames ++ more)
    all named =
        same_within _ (λ number. page_after_frames (view.frames ++ more) number (page_after_frames view.other number (main_page view.size main number))) 1 size each
        ∙ ap (λ (n : ℕ). laid_over n view.size main view.other (view.frames ++ more)) (sym (size_both view.frames more _ some ∙ is))
        ∙ ap (λ (n : ℕ). laid_over (size_after (view.frames ++ more) (size_after view.other (pages_in (first_bytes main view.other (view.frames ++ more)) (length main)))) n main view.other (view.frames ++ more)) (sym named)
