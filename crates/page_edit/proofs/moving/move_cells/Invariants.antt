use Rattle.std.proofs.Common.{◌≡◌, ℕ, List, length}
use Rattle.node_spec.specs.Layout.{Piece, HasCells}
use Rattle.page_edit.specs.Packing.{Moved}
use Rattle.page_edit.proofs.moving.move_cells.Given as goal

-- the cells before the next pointer were moved
abbrev pub invariant-loop-i : goal.invariant-loop-i
invariant-loop-i l = record {
  size : length l.bytes ≡ length l.fn.bytes;
  moved : (content : ℕ) (cells : List Piece) → HasCells l.form.u l.form.at l.form.pointers content l.form.kind l.from cells
      → Moved l.form.u l.form.pointers l.fn.bytes l.bytes cells l.end l.i;
}
