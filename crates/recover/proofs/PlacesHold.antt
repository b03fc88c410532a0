-- A page stands where the page numbers of the logs say.
use Rattle.std.proofs.Common.{◌≡◌, ℕ, ◌+◌, ◌*◌, ◌≤◌, ◌==◌, ◌&&◌, ◌||◌, not, Bool, true, false, if◌then◌else◌, List, [], ◌∷◌, ◌++◌, length, take, drop, refl, sym, ◌∙◌, ap, subst, arith, length-append}
use Rattle.std.specs.List.{concat, list_any}
use Rattle.std.specs.Prelude.{nat_le}
use Rattle.std.proofs.lemmas.List.{take-take, drop-take, drop-drop, take_at, drop_at, length-take, length-drop}
use Rattle.disk_face.specs.declared.disk.File.{File}
use Rattle.disk_face.specs.Files.{Files, content}
use Rattle.log_spec.specs.Checksum.{Sum}
use Rattle.log_spec.specs.LogHeader.{LogFields}
use Rattle.log_spec.specs.Accept.{Frame, AreValidFrames, page_number, page_numbers, page_of, sum_after}
use Rattle.log_spec.specs.Frames.{place_behind}
use Rattle.crash_spec.specs.Marks.{IsLog}
use Rattle.crash_spec.specs.Recovered.{page_after_frames}
use Rattle.recover.specs.declared.place.Place.{Place}
use Rattle.recover.specs.declared.place.Place.TheVariants.{InMain, InLog}
use Rattle.recover.specs.Looking.{place_after, page_place, is_whole_at}

-- some bytes have a page from a place on, which is so long as it has to be
pub record HasPage (bytes : List ℕ) (Fits : ℕ → Type 0) (at : ℕ) (page : List ℕ) : Type 0 where
  pub size : ℕ
  pub fits : Fits size
  pub inside : at + size ≤ length bytes
  pub is : take size (drop at bytes) ≡ page

-- a page stands there: in a log, or it is what it was below
abbrev pub HoldsAt : Files → (ℕ → Type 0) → List ℕ → Place → List ℕ → Type 0
HoldsAt files Fits base InMain page = page ≡ base
HoldsAt files Fits base (InLog file at) page = IsLog file × HasPage (content files file) Fits at page

front_of_row : (first rest row : List ℕ) → take (length (first ++ rest)) row ≡ first ++ rest → take (length first) row ≡ first
front_of_row first rest row is =
    sym (take-take (length first) (length (first ++ rest)) row (omega (arith, length-append first rest)))
    ∙ ap (λ (xs : List ℕ). take (length first) xs) is ∙ take_at first rest (length first) refl

rest_of_row : (first rest row : List ℕ) → take (length (first ++ rest)) row ≡ first ++ rest → take (length rest) (drop (length first) row) ≡ rest
rest_of_row first rest row is =
    sym (drop-take (length first) (length rest) row) ∙ ap (λ (n : ℕ). drop (length first) (take n row)) (sym (length-append first rest))
    ∙ ap (λ (xs : List ℕ). drop (length first) xs) is ∙ drop_at first rest (length first) refl

-- the page of a frame that stands in a row
page_stands : (bytes : List ℕ) (Fits : ℕ → Type 0) (from size : ℕ) (frame : Frame) → Fits size → length frame ≡ 24 + size → take (length frame) (drop from bytes) ≡ frame
    → HasPage bytes Fits (from + 24) (page_of frame)
page_stands bytes Fits from size frame fits long is = record {
  size = size;
  fits = fits;
  inside = omega (arith, long, ap (λ (xs : List ℕ). length xs) is, length-take (length frame) (drop from bytes), length-drop from bytes);
  is =
      ap (λ (xs : List ℕ). take size xs) (ap (λ (n : ℕ). drop n bytes) (omega arith) ∙ sym (drop-drop 24 from bytes)) ∙ sym (drop-take 24 size (drop from bytes))
      ∙ ap (λ (xs : List ℕ). drop 24 xs) (ap (λ (n : ℕ). take n (drop from bytes)) (sym long) ∙ is);
}

module _ (files : Files) (Fits : ℕ → Type 0) (base : List ℕ) (log : File) (is_log : IsLog log) (size : ℕ) (fits : Fits size) (number : ℕ) where
  bytes : List ℕ
  bytes = content files log

  pub frames_hold : (header : LogFields) (sum : Sum) (frames : List Frame) (count : ℕ) (place : Place) (page : List ℕ) → AreValidFrames header sum frames → header.page_size ≡ size
      → take (length (concat frames)) (drop (place_behind size count) (content files log)) ≡ concat frames → HoldsAt files Fits base place page
      → HoldsAt files Fits base (place_after log size count (page_numbers frames) number place) (page_after_frames frames number page)
  frames_hold header sum [] count place page valid sized there holds = holds
  frames_hold header sum (frame ∷ rest) count place page (valid, others) sized there holds =
      let long : length frame ≡ 24 + size = valid.whole ∙ ap (λ (n : ℕ). 24 + n) sized in
      let from : ℕ = place_behind size count in
      let behind : drop (length frame) (drop from (content files log)) ≡ drop (place_behind size (count + 1)) (content files log) =
      drop-drop (length frame) from (content files log) ∙ ap (λ (n : ℕ). drop n (content files log)) (next count (length frame) long) in
      frames_hold header (sum_after header sum frame) rest (count + 1) (if page_number frame == number then InLog log (page_place size count) else place) (if page_number frame == number then page_of frame else page) others sized
      (subst (λ (row : List ℕ). take (length (concat rest)) row ≡ concat rest) behind (rest_of_row frame (concat rest) (drop from (content files log)) there))
      (by (page_number frame == number) (page_stands (content files log) Fits from size frame fits long (front_of_row frame (concat rest) (drop from (content files log)) there)))
    where
      next : (count long : ℕ) → long ≡ 24 + size → place_behind size count + long ≡ place_behind size (count + 1)
      next count long is = grind (arith, is)

      by : (same : Bool) → HasPage (content files log) Fits (place_behind size count + 24) (page_of frame) → HoldsAt files Fits base (if same then InLog log (page_place size count) else place) (if same then page_of frame else page)
      by true here = (is_log, here)
      by false here = holds

-- whether a page stands in Main
abbrev pub is_in_main : Place → Bool
is_in_main InMain = true
is_in_main (InLog file at) = false

pub after_main : (log : File) (size count : ℕ) (pages : List ℕ) (number : ℕ) (place : Place) → is_in_main (place_after log size count pages number place) ≡ (is_in_main place && not (list_any (λ n. n == number) pages))
after_main log size count [] number place = none (is_in_main place)
  where
    none : (a : Bool) → a ≡ (a && true)
    none true = refl
    none false = refl
after_main log size count (page ∷ rest) number place =
    after_main log size (count + 1) rest number (if page == number then InLog log (page_place size count) else place) ∙ by (page == number) (is_in_main place) refl
  where
    by : (same main : Bool) → is_in_main place ≡ main
        → (is_in_main (if same then InLog log (page_place size count) else place) && not (list_any (λ n. n == number) rest)) ≡ (main && not (same || list_any (λ n. n == number) rest))
    by true true is = refl
    by true false is = refl
    by false main is = rw is refl

-- a page is whole where a log has it or Main is long enough
pub whole_is : (size main number : ℕ) (place : Place) (held : Bool) → is_in_main place ≡ not held → is_whole_at size main number place ≡ (held || nat_le (number * size) main)
whole_is size main number InMain true is = cc
whole_is size main number InMain false is = refl
whole_is size main number (InLog file at) true is = refl
whole_is size main number (InLog file at) false is = cc
