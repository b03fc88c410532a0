-- The page of a log's frame, where it is read.
use Rattle.std.proofs.Common.{◌≡◌, ℕ, zero, suc, ◌+◌, ◌-◌, ◌*◌, List, [], ◌∷◌, ◌++◌, length, take, drop, refl, sym, ◌∙◌, ap, arith, length-append, Option, Some, None}
use Rattle.std.specs.Prelude.{IfSome, slice_get}
use Rattle.std.specs.List.{concat}
use Rattle.std.proofs.lemmas.List.{drop-drop, drop-take, take_at, drop_at, take-take}
use Rattle.disk_face.specs.declared.disk.File.{File}
use Rattle.disk_face.specs.Files.{content}
use Rattle.disk_face.specs.Steps.{History, reads}
use Rattle.disk_face.specs.Told.{IsRead}
use Rattle.log_spec.specs.Checksum.{Sum}
use Rattle.log_spec.specs.LogHeader.{LogFields, header_size}
use Rattle.log_spec.specs.Accept.{Frame, AreValidFrames, sum_after, page_of}
use Rattle.log_spec.specs.Frames.{frame_place, frame_size}
use Rattle.log_pair.specs.Appending.{HasFrames, IsPageOf}

-- a row that begins with two lists, one behind the other
pub front_of_row : (first rest row : List ℕ) → take (length (first ++ rest)) row ≡ first ++ rest → take (length first) row ≡ first
front_of_row first rest row is =
    sym (take-take (length first) (length (first ++ rest)) row (omega (arith, length-append first rest)))
    ∙ ap (λ (xs : List ℕ). take (length first) xs) is ∙ take_at first rest (length first) refl

pub rest_of_row : (first rest row : List ℕ) → take (length (first ++ rest)) row ≡ first ++ rest → take (length rest) (drop (length first) row) ≡ rest
rest_of_row first rest row is =
    sym (drop-take (length first) (length rest) row) ∙ ap (λ (n : ℕ). drop (length first) (take n row)) (sym (length-append first rest))
    ∙ ap (λ (xs : List ℕ). drop (length first) xs) is ∙ drop_at first rest (length first) refl

-- each frame stands in its place
frame_in_row : (header : LogFields) (sum : Sum) (frames : List Frame) (row : List ℕ) (k : ℕ) → AreValidFrames header sum frames → take (length (concat frames)) row ≡ concat frames
    → IfSome (slice_get frames k) (λ frame. take (frame_size header) (drop (k * frame_size header) row) ≡ frame)
frame_in_row header sum [] row k valid there = tt
frame_in_row header sum (frame ∷ rest) row zero (valid, others) there =
    ap (λ (n : ℕ). take (frame_size header) (drop n row)) (none (frame_size header)) ∙ ap (λ (n : ℕ). take n row) (sym valid.whole) ∙ front_of_row frame (concat rest) row there
  where
    none : (size : ℕ) → 0 * size ≡ 0
    none size = omega arith
frame_in_row header sum (frame ∷ rest) row (suc k) (valid, others) there =
    by (slice_get rest k) (frame_in_row header (sum_after header sum frame) rest (drop (length frame) row) k others (rest_of_row frame (concat rest) row there))
  where
    further : (size : ℕ) → length frame ≡ size → drop (k * size) (drop (length frame) row) ≡ drop (suc k * size) row
    further size whole = drop-drop (k * size) (length frame) row ∙ ap (λ (n : ℕ). drop n row) (grind (arith, whole))

    by : (found : Option Frame) → IfSome found (λ f. take (frame_size header) (drop (k * frame_size header) (drop (length frame) row)) ≡ f)
        → IfSome found (λ f. take (frame_size header) (drop (suc k * frame_size header) row) ≡ f)
    by None is = tt
    by (Some f) is = ap (λ (xs : List ℕ). take (frame_size header) xs) (sym (further (frame_size header) valid.whole)) ∙ is

pub page_is_read : (told : Option History) (log : File) (header : LogFields) (frames : List Frame) (number : ℕ) (bytes : List ℕ) → HasFrames told log header frames
    → length bytes ≡ header.page_size → IsRead told log (frame_place header (number - 1) + 24) bytes → IsPageOf told frames number bytes
page_is_read None log header frames number bytes has long read = tt
page_is_read (Some told) log header frames number bytes (valid, there) long read =
    by (slice_get frames (number - 1)) (frame_in_row header header.sum frames (drop header_size row) (number - 1) valid there)
  where
    row : List ℕ
    row = content (reads told) log

    size : ℕ
    size = frame_size header

    by : (found : Option Frame) → IfSome found (λ f. take size (drop ((number - 1) * size) (drop header_size row)) ≡ f) → IfSome found (λ f. bytes ≡ page_of f)
    by None is = tt
    by (Some f) is =
        read ∙ ap (λ (n : ℕ). take n (drop (frame_place header (number - 1) + 24) row)) long
        ∙ ap (λ (xs : List ℕ). take header.page_size xs)
        (ap (λ (n : ℕ). drop n row) (omega arith) ∙ sym (drop-drop 24 (header_size + (number - 1) * size) row)
        ∙ ap (λ (xs : List ℕ). drop 24 xs) (ap (λ (n : ℕ). drop n row) (omega arith) ∙ sym (drop-drop ((number - 1) * size) header_size row)))
        ∙ sym (drop-take 24 header.page_size (drop ((number - 1) * size) (drop header_size row))) ∙ ap (λ (xs : List ℕ). drop 24 xs) is
