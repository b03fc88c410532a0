-- The marks of a log: what in its bytes is a header or an accepted frame, as pieces of its file.
use Rattle.std.specs.Prelude.{ℕ, ◌+◌, if◌then◌else◌, List, [], ◌∷◌, ◌++◌, length}
use Rattle.disk_face.specs.declared.disk.File.{File}
use Rattle.disk_face.specs.declared.disk.File.TheVariants.{Main, Log1, Log2}
use Rattle.disk_face.specs.declared.step.Piece.{Piece}
use Rattle.log_spec.specs.LogHeader.{is_signed, header_bytes, header_size}
use Rattle.log_spec.specs.Accept.{Frame}
use Rattle.log_spec.specs.Frames.{accepted_frames}

-- the file is a log
abbrev pub IsLog : File → Type 0
IsLog Main = ⊥
IsLog Log1 = Unit {0}
IsLog Log2 = Unit {0}

-- the number of a log
abbrev pub number_of : File → ℕ
number_of Main = 0
number_of Log1 = 1
number_of Log2 = 2

-- the other log
abbrev pub other_of : File → File
other_of Main = Main
other_of Log1 = Log2
other_of Log2 = Log1

-- the header at the front of a log
abbrev pub header_piece : File → List ℕ → Piece
header_piece log bytes = record { file = log; at = 0; bytes = header_bytes bytes }

-- frames as pieces of a file, the first at this place and each behind the one before
abbrev pub pieces_from : File → ℕ → List Frame → List Piece
pieces_from file at [] = []
pieces_from file at (frame ∷ rest) = (record { file = file; at = at; bytes = frame }) ∷ pieces_from file (at + length frame) rest

-- the accepted frames of a log as pieces
abbrev pub accepted_pieces : File → List ℕ → List Piece
accepted_pieces log bytes = pieces_from log header_size (accepted_frames (number_of log) bytes)

-- The marks of a log with these bytes: its header, where the bytes are signed, also as one of another version, page size or byte
-- order; and the frames that are accepted, each at its place.
unfoldable pub marks : File → List ℕ → List Piece
marks log bytes =
    (if is_signed bytes then header_piece log bytes ∷ [] else [])
    ++ accepted_pieces log bytes
