-- A frame that is written to a log by one call.
use Rattle.std.specs.Prelude.{◌≡◌, ℕ, List, Result, is_ok, IfOk, Option}
use Rattle.disk_face.specs.declared.Failed.{Failed}
use Rattle.disk_face.specs.declared.step.Piece.{Piece}
use Rattle.disk_face.specs.Steps.{History}
use Rattle.log_spec.specs.Accept.{Frame, sum_after}
use Rattle.log_spec.specs.Written.{IsFrameOf}
use Rattle.wal_frames.specs.Front.{words_of, fields_for}
use Rattle.wal_frames.specs.declared.sum.Sum.{Sum}
use Rattle.log_pair.specs.Appending.{WritesPiece}
use Rattle.log_pair.specs.declared.frame.NewFrame.{NewFrame}

-- the bytes of the frame, with this page
abbrev pub IsOf : NewFrame → List ℕ → Frame → Type 0
IsOf new bytes frame = IsFrameOf (fields_for new.header) (words_of new.sum) new.page new.size bytes frame

-- the frame as a piece of its file
abbrev pub piece_of : NewFrame → Frame → Piece
piece_of new frame = record { file = new.file; at = new.at; bytes = frame }

-- The frame was handed to one write, whose answer is this one: the checksum behind it, or that the write was refused.
pub record WritesFrame (new : NewFrame) (bytes : List ℕ) (result : Result Sum Failed) (old later : Option History) (frame : Frame) : Type 0 where
  pub is : IsOf new bytes frame
  pub step : WritesPiece (is_ok result) (piece_of new frame) old later
  pub summed : IfOk result (λ sum. words_of sum ≡ sum_after (fields_for new.header) (words_of new.sum) frame)
