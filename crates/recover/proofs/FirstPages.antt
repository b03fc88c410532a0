-- What the frames of a first commit make of Main.
use Rattle.std.proofs.Common.{◌≡◌, ℕ, ◌+◌, ◌-◌, ◌≤◌, ◌<◌, ◌==◌, Bool, true, false, if◌then◌else◌, inl, inr, List, [], ◌∷◌, ◌++◌, length, take, Option, Some, None, replicate, refl, sym, ◌∙◌, ap, subst, arith}
use Rattle.std.specs.Prelude.{IfSome, Contains, nat_lt}
use Rattle.std.proofs.lemmas.Bool.{cases_lt}
use Rattle.std.proofs.lemmas.Bool.Decides.{nat_tests}
use Rattle.std.proofs.lemmas.List.Elements.{Contains-append_left}
use Rattle.disk_face.specs.Steps.{History, reads}
use Rattle.page_spec.specs.Header.{fields_of, page_size_in, pages_in}
use Rattle.log_spec.specs.LogHeader.{log_fields}
use Rattle.log_spec.specs.Accept.{Frame, page_number, page_of, page_numbers, last_size}
use Rattle.crash_spec.specs.Recovered.{main_page, page_after_frames, pages_from, laid_over, size_after}
use Rattle.crash_spec.proofs.Pieces.{contains_head, contains_tail}
use Rattle.opening_spec.specs.Found.{OpeningView, FoundLog, pages_held, page_in}
use Rattle.recover.specs.NewPages.{first_then_zeros}
use Rattle.recover.specs.Founding.{HoldFrom, MakesMap}

pub hold_push : (page : ℕ → List ℕ) (number : ℕ) (frames : List Frame) (frame : Frame) → HoldFrom page number frames → page_number frame ≡ number + length frames → page_of frame ≡ page (number + length frames)
    → HoldFrom page number (frames ++ frame ∷ [])
hold_push page number [] frame hold is bytes =
    let same : number + 0 ≡ number = omega arith in
    (is ∙ same, bytes ∙ ap page same, tt)
hold_push page number (f ∷ fs) frame (n, b, hold) is bytes =
    let same : number + length (f ∷ fs) ≡ number + 1 + length fs = omega arith in
    (n, b, hold_push page (number + 1) fs frame hold (is ∙ same) (bytes ∙ ap page same))

other_number : (m n : ℕ) → n < m → (m == n) ≡ false
other_number m n less = grind (arith, nat_tests)

same_number : (m n : ℕ) → m ≡ n → (m == n) ≡ true
same_number m n is = grind (arith, nat_tests)

pub below_hold : (page : ℕ → List ℕ) (from n : ℕ) (frames : List Frame) (below : List ℕ) → HoldFrom page from frames → n < from → page_after_frames frames n below ≡ below
below_hold page from n [] below hold less = refl
below_hold page from n (f ∷ fs) below (is, bytes, hold) less =
    ap (λ (b : Bool). page_after_frames fs n (if b then page_of f else below)) (ap (λ (k : ℕ). k == n) is ∙ other_number from n less)
    ∙ below_hold page (from + 1) n fs below hold (omega arith)

pages_hold : (page : ℕ → List ℕ) (from : ℕ) (frames : List Frame) (below : ℕ → List ℕ) → HoldFrom page from frames
    → pages_from (λ n. page_after_frames frames n (below n)) from (length frames) ≡ pages_from page from (length frames)
pages_hold page from [] below hold = refl
pages_hold page from (f ∷ fs) below (is, bytes, hold) =
    let head : page_after_frames fs from (if page_number f == from then page_of f else below from) ≡ page from =
    ap (λ (b : Bool). page_after_frames fs from (if b then page_of f else below from)) (same_number (page_number f) from is)
    ∙ below_hold page (from + 1) from fs (page_of f) hold (omega arith) ∙ bytes in
    let tail = pages_hold page (from + 1) fs (λ n. if page_number f == n then page_of f else below n) hold in
    λ i. head i ∷ tail i

-- one of these pages
pub hold_page : (page : ℕ → List ℕ) (from : ℕ) (frames : List Frame) (n : ℕ) (below : List ℕ) → HoldFrom page from frames → from ≤ n → n < from + length frames
    → (page_after_frames frames n below ≡ page n) × Contains (page_numbers frames) n
hold_page page from [] n below hold ge less = absurd (omega arith)
hold_page page from (f ∷ fs) n below (is, bytes, hold) ge less = elim (cases_lt from n) [
  | inl later ↦
      let rest = hold_page page (from + 1) fs n (if page_number f == n then page_of f else below) hold (omega arith) (omega arith) in
      (rest.0, contains_tail (page_number f) (page_numbers fs) n rest.1)
  | inr here ↦
      let same : from ≡ n = omega arith in (
        ap (λ (b : Bool). page_after_frames fs n (if b then page_of f else below)) (same_number (page_number f) n (is ∙ same))
            ∙ below_hold page (from + 1) n fs (page_of f) hold (omega arith) ∙ bytes ∙ ap page same,
        subst (λ (k : ℕ). Contains (page_number f ∷ page_numbers fs) k) (is ∙ same) (contains_head (page_number f) (page_numbers fs)),
      )
]

pub size_of : (frames : List Frame) (below : ℕ) → 1 ≤ length frames → size_after frames below ≡ last_size frames
size_of [] below some = absurd (omega arith)
size_of (f ∷ fs) below some = refl

-- Frames of all pages make just these, whatever Main held.
pub makes_new : (main : List ℕ) (page_size : ℕ) (page : ℕ → List ℕ) (count : ℕ) → 1 ≤ count → page_size_in (fields_of (page 1)) ≡ page_size
    → MakesMap main page_size (pages_from page 1 count) page count count
makes_new main page_size page count some sized frames hold long ends =
    let first : page_after_frames frames 1 (take 100 main) ≡ page 1 = (hold_page page 1 frames 1 (take 100 main) hold (omega arith) (omega arith)).0 in
    let named : page_size_in (fields_of (page_after_frames frames 1 (take 100 main))) ≡ page_size = ap (λ (bytes : List ℕ). page_size_in (fields_of bytes)) first ∙ sized in
    let s : ℕ = page_size_in (fields_of (page_after_frames frames 1 (take 100 main))) in
    let p : ℕ = pages_in (page_after_frames frames 1 (take 100 main)) (length main) in (
      ap (λ (n : ℕ). laid_over n s main [] frames) (size_of frames p (omega arith) ∙ ends ∙ sym long)
          ∙ pages_hold page 1 frames (λ n. main_page s main n) hold
          ∙ ap (λ (n : ℕ). pages_from page 1 n) long,
      named,
    )

-- and each is the page of the map that is to be written to Main
pub either_page : (first : Bool) (one two : List Frame) (n : ℕ) (below : List ℕ) → two ≡ []
    → page_after_frames (if first then two else one) n (page_after_frames (if first then one else two) n below) ≡ page_after_frames one n below
either_page true one two n below none = ap (λ (fs : List Frame). page_after_frames fs n (page_after_frames one n below)) none
either_page false one two n below none = ap (λ (fs : List Frame). page_after_frames one n (page_after_frames fs n below)) none

pub held_page : (view : OpeningView) (one two : FoundLog) (page : ℕ → List ℕ) (n : ℕ) (bytes : List ℕ) (told : Option History) → two.frames ≡ [] → HoldFrom page 1 one.frames → 1 ≤ n → n ≤ length one.frames → bytes ≡ page n → n ≤ length view.map
    → IfSome told (λ told. Contains (pages_held one two) n × (bytes ≡ page_in view.size (reads told) one two n) × (n ≤ length view.map))
held_page view one two page n bytes None none hold from within is few = tt
held_page view one two page n bytes (Some told) none hold from within is few =
    let below : List ℕ = main_page view.size (reads told).main n in
    let has = hold_page page 1 one.frames n below hold from (omega arith) in (
      Contains-append_left (page_numbers one.frames) (page_numbers two.frames) n has.1,
      is ∙ sym has.0 ∙ sym (either_page (nat_lt (log_fields (reads told).log1).generation (log_fields (reads told).log2).generation) one.frames two.frames n below none),
      few,
    )

-- behind the first page they are zero
pub next_zeros : (first : List ℕ) (number size : ℕ) → 1 ≤ number → size ≡ length first → replicate size 0 ≡ first_then_zeros first (number + 1)
next_zeros first number size from sized =
    ap (λ (n : ℕ). replicate n 0) sized ∙ sym (ap (λ (b : Bool). if b then first else replicate (length first) 0) (other_number (number + 1) 1 (omega arith)))

pub once_more : (number : ℕ) → 1 ≤ number → number - 1 + 1 ≡ number
once_more number from = omega arith

pub one_back : (number : ℕ) → number + 1 - 1 ≡ number
one_back number = omega arith
