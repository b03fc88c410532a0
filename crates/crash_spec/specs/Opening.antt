-- What is said of a disk since an opening. The disk may have made steps before it, also of an earlier opening: what a crash
-- leaves after it, and which pieces are known, go by what reads gave at the opening and by the steps since.
use Rattle.std.specs.Prelude.{◌≡◌, ◌-◌, if◌then◌else◌, List, [], ◌∷◌, ◌++◌, length, Option, Some, None}
use Rattle.disk_face.specs.declared.disk.File.{File}
use Rattle.disk_face.specs.declared.disk.File.TheVariants.{Log1, Log2}
use Rattle.disk_face.specs.declared.step.Piece.{Piece}
use Rattle.disk_face.specs.declared.step.Step.{Step}
use Rattle.disk_face.specs.Files.{Files, content}
use Rattle.disk_face.specs.Steps.{History, reads}
use Rattle.disk_face.specs.Image.{Range, unsure}
use Rattle.log_spec.specs.Frames.{accepted_frames, is_ours, end_of}
use Rattle.crash_spec.specs.Marks.{number_of, marks}

-- An opening: what the disk told then, the ranges that were unsure then, and the pieces that were known then.
pub record Opening : Type 0 where
  pub start : History
  pub before : List Range
  pub pieces : List Piece

-- the bytes of a log behind its accepted frames, all of it where it has no header of ours
abbrev pub tail_of : File → Files → Range
tail_of log files =
    let from = if is_ours (number_of log) (content files log) then end_of (accepted_frames (number_of log) (content files log)) else 0 in
    record { file = log; from = from; count = length (content files log) - from }

-- The opening that begins where a disk tells this. Besides what its steps made unsure, nothing is promised of what stands in the logs
-- behind their accepted frames, also where it was synced. Known are the marks that the logs have then.
abbrev pub opening_at : History → Opening
opening_at told = record {
  start = told;
  before = tail_of Log1 (reads told) ∷ tail_of Log2 (reads told) ∷ unsure [] told.steps;
  pieces = marks Log1 (reads told).log1 ++ marks Log2 (reads told).log2;
}

-- the disk made these steps more, the newest first
abbrev pub grown : List Step → History → History
grown more told = record { first = told.first; steps = more ++ told.steps }

-- a disk's history since an opening, as one of its own
abbrev pub rebased : History → List Step → History
rebased start since = record { first = reads start; steps = since }

-- the disk has gone on from the opening, and its history since then has P, where it tells
abbrev pub Since : History → (History → Type 0) → Option History → Type 0
Since start P None = Unit {0}
Since start P (Some told) = (since : List Step) × (told ≡ grown since start) × P (rebased start since)
