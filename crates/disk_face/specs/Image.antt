-- What a crash may leave of the three files.
use Rattle.std.specs.Prelude.{◌≡◌, ℕ, ◌+◌, ◌≤◌, ◌<◌, Bool, true, false, not, List, [], ◌∷◌, length, drop, filter, slice_index, All}
use Rattle.disk_face.specs.declared.disk.File.{File}
use Rattle.disk_face.specs.declared.disk.File.TheVariants.{Main, Log1, Log2}
use Rattle.disk_face.specs.declared.step.Piece.{Piece}
use Rattle.disk_face.specs.declared.step.Step.{Step}
use Rattle.disk_face.specs.declared.step.Step.TheVariants.{Wrote, Refused, Synced}
use Rattle.disk_face.specs.Files.{Files, content}
use Rattle.disk_face.specs.Steps.{History, reads}

-- so many bytes of a file, from a place on
pub record Range : Type 0 where
  pub file : File
  pub from : ℕ
  pub count : ℕ

-- the range of a piece
abbrev pub range_of : Piece → Range
range_of piece = record { file = piece.file; from = piece.at; count = length piece.bytes }

-- whether two files are one
abbrev pub same_file : File → File → Bool
same_file Main Main = true
same_file Log1 Log1 = true
same_file Log2 Log2 = true
same_file one other = false

-- the ranges of other files than this one
abbrev pub of_others : File → List Range → List Range
of_others file ranges = filter (λ range. not (same_file range.file file)) ranges

-- The ranges that a crash may leave with any bytes: those written since the last successful sync of their file,
-- also by a write that was refused. To begin with they are those of `before`.
abbrev pub unsure : List Range → List Step → List Range
unsure before [] = before
unsure before (Wrote piece ∷ steps) = range_of piece ∷ unsure before steps
unsure before (Refused piece left ∷ steps) = range_of piece ∷ unsure before steps
unsure before (Synced file ∷ steps) = of_others file (unsure before steps)

-- a place of a file lies outside a range
abbrev pub IsOutside : File → ℕ → Range → Type 0
IsOutside file place range = range.file ≡ file → range.from ≤ place → place < range.from + range.count → ⊥

-- none of the ranges has this place of the file
abbrev pub IsSure : List Range → File → ℕ → Type 0
IsSure ranges file place = All (IsOutside file place) ranges

-- One file of an image has, outside these ranges, the bytes that a read gives. It may end earlier where none of those bytes
-- is missing, and never ends later.
pub record IsFileImage (ranges : List Range) (file : File) (read image : List ℕ) : Type 0 where
  pub no_longer : length image ≤ length read
  pub reaches : (place : ℕ) → place < length read → IsSure ranges file place → place < length image
  pub sure : (place : ℕ) → place < length read → IsSure ranges file place → slice_index image place ≡ slice_index read place

-- An image of the three files where reads give these ones. The files vary each by itself.
abbrev pub IsImage : List Range → Files → Files → Type 0
IsImage ranges read image = (file : File) → IsFileImage ranges file (content read file) (content image file)

-- What a crash at this moment may leave. Besides what the steps make unsure, these ranges were it from the start.
abbrev pub MayLeave : List Range → History → Files → Type 0
MayLeave before told image = IsImage (unsure before told.steps) (reads told) image

-- the disk as it was this many steps ago
abbrev pub back : ℕ → History → History
back ago told = record { first = told.first; steps = drop ago told.steps }
