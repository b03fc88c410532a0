-- What it is for a log to stand on a disk, and what appending to it and sealing it do there.
use Rattle.std.specs.Prelude.{◌≡◌, ◌≢◌, ℕ, ◌≤◌, ◌-◌, ◌==◌, if◌then◌else◌, Bool, true, false, List, [], ◌∷◌, ◌++◌, length, slice_get, Option, IfSome}
use Rattle.disk_face.specs.declared.disk.File.{File}
use Rattle.disk_face.specs.declared.step.Piece.{Piece}
use Rattle.disk_face.specs.declared.step.Step.TheVariants.{Wrote, Synced}
use Rattle.disk_face.specs.Files.{content}
use Rattle.disk_face.specs.Steps.{History, reads, after}
use Rattle.disk_face.specs.Told.{Refuses, IsInside}
use Rattle.log_spec.specs.Accept.{Frame, AreThere, AreValidFrames, sum_of_frames, last_size, page_of}
use Rattle.log_spec.specs.LogHeader.{LogFields}
use Rattle.log_spec.specs.Frames.{accepted_frames, end_of}
use Rattle.log_spec.specs.Written.{IsFrameOf}
use Rattle.crash_spec.specs.Marks.{number_of}
use Rattle.crash_spec.specs.Opening.{Opening, Since}
use Rattle.crash_spec.specs.Known.{IsWithoutChance}
use Rattle.crash_spec.specs.Passes.{Passes, ByAnswer}
use Rattle.crash_spec.specs.Logs.{IsOnDisk, LeavesFrames}
use Rattle.log_pair.specs.Pair.{PairView, current_file, current_header, log_of, next_place, next_piece, with_frame, sealed_pair}

-- The current log of a pair stands on the disk with these frames, and behind them with the pending ones, which are those that were
-- appended: all of them are read, they are as many as the pair counts, and they leave its checksum.
pub record LogStands (opening : Opening) (pair : PairView) (frames pending : List Frame) (told : History) : Type 0 where
  pub on : IsOnDisk opening told (current_file pair) (current_header pair) frames pending
  pub there : AreThere (content (reads told) (current_file pair)) (frames ++ pending)
  pub long : end_of (frames ++ pending) ≤ length (content (reads told) (current_file pair))
  pub counted : length frames ≡ (log_of pair pair.current).frames
  pub appended : length pending ≡ pair.appended
  pub summed : pair.sum ≡ sum_of_frames (current_header pair) (current_header pair).sum (frames ++ pending)

-- The log is on the disk with these frames, and the pending ones are on their way.
abbrev pub IsUnderWay : Opening → PairView → List Frame → List Frame → History → Type 0
IsUnderWay opening pair frames pending told = IsOnDisk opening told (current_file pair) (current_header pair) frames pending

-- What is accepted of the log as it reads: its frames, and the pending ones too where they end a commit.
abbrev pub Accepts : Opening → File → List Frame → List Frame → History → Type 0
Accepts opening log frames pending told =
    IsWithoutChance opening told (reads told)
    → accepted_frames (number_of log) (content (reads told) log) ≡ (if last_size pending == 0 then frames else frames ++ pending)

-- where the disk tells it, the current log's file reaches the place of the next frame
abbrev pub IsReached : Option History → PairView → Type 0
IsReached told pair = IsInside told (current_file pair) (next_place pair) 0

-- a write of the piece was answered so
abbrev pub WritesPiece : Bool → Piece → Option History → Option History → Type 0
WritesPiece true piece old new = new ≡ after (Wrote piece) old
WritesPiece false piece old new = Refuses piece old new

-- a sync of the file was answered so
abbrev pub SyncsFile : Bool → File → Option History → Option History → Type 0
SyncsFile true file old new = new ≡ after (Synced file) old
SyncsFile false file old new = new ≡ old

-- Where the current log stood with these frames, and no commit has ended behind them: at each moment a crash leaves its frames, or
-- these and the pending ones where the new one ends a commit. Then the log stands with the new one, or, where the write failed, that
-- one may be on its way.
abbrev pub AppendsTo : Bool → PairView → PairView → Frame → Option History → Option History → Opening → List Frame → List Frame → Type 0
AppendsTo ok pair later frame old new opening frames pending =
    last_size pending ≡ 0 → Since opening.start (LogStands opening pair frames pending) old
    → Passes opening (LeavesFrames opening (current_file pair) frames (pending ++ frame ∷ []))
    (ByAnswer ok (LogStands opening later frames (pending ++ frame ∷ [])) (IsUnderWay opening pair frames (pending ++ frame ∷ []))) old new

-- This frame, which holds the page with these bytes and this size, was appended by one write at the next place; or that write was
-- refused, and the pair is as before.
pub record AppendsFrame (ok : Bool) (pair later : PairView) (page size : ℕ) (bytes : List ℕ) (old new : Option History) (frame : Frame) : Type 0 where
  pub is : IsFrameOf (current_header pair) pair.sum page size bytes frame
  pub step : WritesPiece ok (next_piece pair frame) old new
  pub becomes : later ≡ (if ok then with_frame pair frame else pair)
  pub moments : (opening : Opening) (frames pending : List Frame) → AppendsTo ok pair later frame old new opening frames pending
  pub accepted : ok ≡ true → (opening : Opening) (frames pending : List Frame) → last_size pending ≡ 0
      → Since opening.start (LogStands opening pair frames pending) old → Since opening.start (Accepts opening (current_file pair) frames (pending ++ frame ∷ [])) new

-- Where the current log stood with these frames, and the pending ones end a commit: at each moment a crash leaves its frames, or these
-- and the pending ones. Then it stands with all of them, or, where the sync failed, as before.
abbrev pub SealsIn : Bool → PairView → PairView → Option History → Option History → Opening → List Frame → List Frame → Type 0
SealsIn ok pair later old new opening frames pending =
    last_size pending ≢ 0 → Since opening.start (LogStands opening pair frames pending) old
    → Passes opening (LeavesFrames opening (current_file pair) frames pending)
    (ByAnswer ok (LogStands opening later (frames ++ pending) []) (LogStands opening pair frames pending)) old new

-- The appended frames were made frames of the current log by one sync of it; or that sync failed, and the pair is as before.
pub record SealsFrames (ok : Bool) (pair later : PairView) (old new : Option History) : Type 0 where
  pub step : SyncsFile ok (current_file pair) old new
  pub becomes : later ≡ (if ok then sealed_pair pair else pair)
  pub moments : (opening : Opening) (frames pending : List Frame) → SealsIn ok pair later old new opening frames pending
  pub accepted : ok ≡ true → (opening : Opening) (frames pending : List Frame) → last_size pending ≢ 0
      → Since opening.start (LogStands opening pair frames pending) old → Since opening.start (Accepts opening (current_file pair) (frames ++ pending) []) new

-- the log goes on, behind its header, with these frames, which are valid under this header
abbrev pub HasFrames : Option History → File → LogFields → List Frame → Type 0
HasFrames told log header frames =
    AreValidFrames header header.sum frames × IfSome told (λ told. AreThere (content (reads told) log) frames)

-- where the disk tells its bytes, these are the page of that frame, counted from 1
abbrev pub IsPageOf : Option History → List Frame → ℕ → List ℕ → Type 0
IsPageOf told frames number bytes = IfSome told (λ told. IfSome (slice_get frames (number - 1)) (λ frame. bytes ≡ page_of frame))
