-- A frame that was written by one call, as the next one of a pair.
use Rattle.std.proofs.Common.{◌≡◌, ℕ, ◌+◌, ◌*◌, true, List, length, sym, ◌∙◌, ap, subst, arith, Result, is_ok, Option, Some, None}
use Rattle.disk_face.specs.declared.disk.File.{File}
use Rattle.disk_face.specs.declared.Failed.{Failed}
use Rattle.disk_face.specs.Files.{content}
use Rattle.disk_face.specs.Steps.{History, reads}
use Rattle.disk_face.proofs.Contents.{content-put, length-overwritten}
use Rattle.log_spec.specs.Accept.{Frame, sum_after}
use Rattle.log_spec.specs.Checksum.{Sum as Words}
use Rattle.log_spec.specs.LogHeader.{LogFields}
use Rattle.log_spec.specs.Frames.{frame_size}
use Rattle.log_spec.specs.Written.{IsFrameOf}
use Rattle.wal_frames.specs.Front.{words_of, fields_for}
use Rattle.wal_frames.specs.Found.{log_file}
use Rattle.wal_frames.specs.declared.sum.Sum.{Sum}
use Rattle.log_pair.specs.declared.frame.NewFrame.{NewFrame}
use Rattle.log_pair.specs.Frame.{WritesFrame}
use Rattle.log_pair.specs.Appending.{WritesPiece, IsReached}
use Rattle.log_pair.specs.Pair.{PairView, log_of, current_file, current_header, next_place, next_piece, with_frame}

-- the new frame goes behind those of the pair
pub record IsNext (pair : PairView) (new : NewFrame) : Type 0 where
  pub file : new.file ≡ current_file pair
  pub at : new.at ≡ next_place pair
  pub header : fields_for new.header ≡ current_header pair
  pub sum : words_of new.sum ≡ pair.sum

pub next_is : (pair : PairView) (log : ℕ) (new : NewFrame) → log ≡ pair.current → new.file ≡ log_file log → new.at ≡ next_place pair → fields_for new.header ≡ (log_of pair log).header
    → words_of new.sum ≡ pair.sum → IsNext pair new
next_is pair log new is file at header sum = record {
  file = file ∙ ap log_file is;
  at = at;
  header = header ∙ ap (λ (n : ℕ). (log_of pair n).header) is;
  sum = sum;
}

module _ (pair : PairView) (new : NewFrame) (next : IsNext pair new) (bytes : List ℕ) (result : Result Sum Failed) (old later : Option History) (frame : Frame)
    (written : WritesFrame new bytes result old later frame) where
  pub is_frame : IsFrameOf (current_header pair) pair.sum new.page new.size bytes frame
  is_frame =
      subst (λ (s : Words). IsFrameOf (current_header pair) s new.page new.size bytes frame) next.sum
      (subst (λ (h : LogFields). IsFrameOf h (words_of new.sum) new.page new.size bytes frame) next.header written.is)

  pub is_written : WritesPiece (is_ok result) (next_piece pair frame) old later
  is_written =
      subst (λ (n : ℕ). WritesPiece (is_ok result) (record { file = current_file pair; at = n; bytes = frame }) old later) next.at
      (subst (λ (f : File). WritesPiece (is_ok result) (record { file = f; at = new.at; bytes = frame }) old later) next.file written.step)

-- the checksum behind it
pub sum_is : (pair : PairView) (new : NewFrame) (sum : Sum) (frame : Frame) → IsNext pair new → words_of sum ≡ sum_after (fields_for new.header) (words_of new.sum) frame
    → (record pair { appended = pair.appended + 1; sum = words_of sum }) ≡ with_frame pair frame
sum_is pair new sum frame next is = λ i. record pair { appended = pair.appended + 1; sum = all i }
  where
    all : words_of sum ≡ sum_after (current_header pair) pair.sum frame
    all = is ∙ ap (λ (h : LogFields). sum_after h (words_of new.sum) frame) next.header ∙ ap (λ (s : Words). sum_after (current_header pair) s frame) next.sum

-- the log's file reaches the place behind it
pub reached : (pair : PairView) (frame : Frame) (old new : Option History) → length frame ≡ frame_size (current_header pair) → IsReached old pair → WritesPiece true (next_piece pair frame) old new → IsReached new (with_frame pair frame)
reached pair frame None new long inside step = subst (λ told. IsReached told (with_frame pair frame)) (sym step) tt
reached pair frame (Some told) new long inside step =
    subst (λ told. IsReached told (with_frame pair frame)) (sym step)
    (omega (arith, ap (λ (bytes : List ℕ). length bytes) (content-put (current_file pair) (next_place pair) frame (reads told)), length-overwritten (next_place pair) frame (content (reads told) (current_file pair)) (omega arith), place (log_of pair pair.current).frames pair.appended (frame_size (current_header pair))))
  where
    more : (n size : ℕ) → (n + 1) * size ≡ n * size + size
    more n size = grind arith

    place : (frames appended size : ℕ) → (frames + (appended + 1)) * size ≡ (frames + appended) * size + size
    place frames appended size = ap (λ (n : ℕ). n * size) (omega arith) ∙ more (frames + appended) size
