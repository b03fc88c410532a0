-- A log that gets one frame more.
use Rattle.std.specs.Prelude.{◌≡◌, ◌≢◌, ℕ, ◌≤◌, List, [], ◌∷◌, ◌++◌, length}
use Rattle.disk_face.specs.declared.disk.File.{File}
use Rattle.disk_face.specs.Files.{content}
use Rattle.disk_face.specs.Steps.{History, reads}
use Rattle.log_spec.specs.LogHeader.{LogFields}
use Rattle.log_spec.specs.Accept.{Frame, IsValidFrame, AreCommitted, commit_size, sum_of_frames}
use Rattle.log_spec.specs.Frames.{end_of}
use Rattle.crash_spec.specs.Opening.{Opening}
use Rattle.crash_spec.specs.Logs.{IsOnDisk}

-- the log is on the medium with these frames, and this is a valid one behind them, at its place, which ends a commit
pub record MayAppend (opening : Opening) (log : File) (header : LogFields) (frames : List Frame) (at : ℕ) (frame : Frame) (told : History) : Type 0 where
  pub on : IsOnDisk opening told log header frames []
  pub place : at ≡ end_of frames
  pub valid : IsValidFrame header (sum_of_frames header header.sum frames) frame
  pub ends : commit_size frame ≢ 0

-- the frame is on its way
abbrev pub IsPending : Opening → File → LogFields → List Frame → Frame → History → Type 0
IsPending opening log header frames frame told = IsOnDisk opening told log header frames (frame ∷ [])

-- the frame is read behind the others
pub record IsWritten (opening : Opening) (log : File) (header : LogFields) (frames : List Frame) (frame : Frame) (told : History) : Type 0 where
  pub on : IsPending opening log header frames frame told
  pub committed : AreCommitted (content (reads told) log) (frames ++ frame ∷ [])
  pub long : end_of (frames ++ frame ∷ []) ≤ length (content (reads told) log)

-- the frame is one of the log's
abbrev pub IsAppended : Opening → File → LogFields → List Frame → Frame → History → Type 0
IsAppended opening log header frames frame told = IsOnDisk opening told log header (frames ++ frame ∷ []) []
