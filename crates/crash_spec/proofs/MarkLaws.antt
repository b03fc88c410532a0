-- What is known of a log's marks is known of its header and of its accepted frames.
use Rattle.std.proofs.Common.{◌≡◌, ℕ, true, false, List, [], ◌∷◌}
use Rattle.std.specs.Prelude.{All, ◌++◌, if◌then◌else◌, Bool}
use Rattle.std.proofs.lemmas.List.Elements.{All-head}
use Rattle.disk_face.specs.declared.disk.File.{File}
use Rattle.disk_face.specs.declared.step.Piece.{Piece}
use Rattle.log_spec.specs.LogHeader.{is_signed}
use Rattle.crash_spec.specs.Marks.{header_piece, accepted_pieces, marks}
use Rattle.crash_spec.proofs.Pieces.{all_right}

pub marked_frames : (P : Piece → Type 0) (log : File) (bytes : List ℕ) → All P (marks log bytes) → All P (accepted_pieces log bytes)
unfolding marks
marked_frames P log bytes all = all_right P (if is_signed bytes then header_piece log bytes ∷ [] else []) (accepted_pieces log bytes) all

pub marked_header : (P : Piece → Type 0) (log : File) (bytes : List ℕ) → is_signed bytes ≡ true → All P (marks log bytes) → P (header_piece log bytes)
unfolding marks
marked_header P log bytes signed all = by (is_signed bytes) signed all
  where
    by : (signed : Bool) → signed ≡ true → All P ((if signed then header_piece log bytes ∷ [] else []) ++ accepted_pieces log bytes) → P (header_piece log bytes)
    by true is all = All-head P (header_piece log bytes) (accepted_pieces log bytes) all
    by false is all = cc
