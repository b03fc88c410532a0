-- Pieces moved to the end of a page.
use Rattle.std.specs.Prelude.{◌≡◌, ℕ, ◌+◌, ◌-◌, ◌*◌, ◌<◌, ◌≤◌, List, [], ◌∷◌, length, take, slice_index, slice_index_or}
use Rattle.page_spec.specs.Bytes.{u16_at}
use Rattle.node_spec.specs.Layout.{Piece, nowhere, taken, Stands}

-- the pieces one below the other, the first of them up to `top`
abbrev pub packed : ℕ → List Piece → List Piece
packed top [] = []
packed top (piece ∷ pieces) =
    record { start = top - length piece.bytes; bytes = piece.bytes } ∷ packed (top - length piece.bytes) pieces

-- the first so many cells were moved, down to `end`
pub record Moved (usable pointers : ℕ) (old new : List ℕ) (cells : List Piece) (end i : ℕ) : Type 0 where
  pub same_length : length new ≡ length old
  pub down_to : end + taken (take i cells) ≡ usable
  pub points : (j : ℕ) → j < i → u16_at new (pointers + 2 * j) ≡ (slice_index_or (packed usable cells) j nowhere).start
  pub stand : (j : ℕ) → j < i → Stands new end usable (slice_index_or (packed usable cells) j nowhere)
  pub front : (j : ℕ) → j < pointers → slice_index new j ≡ slice_index old j
  pub rest : (j : ℕ) → usable ≤ j → slice_index new j ≡ slice_index old j
