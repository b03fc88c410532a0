use Rattle.std.proofs.Common.{◌≡◌, ℕ, ◌+◌, ◌*◌, List, length, take}
use Rattle.node_spec.specs.Layout.{Piece, HasCells, taken}
use Rattle.page_edit.proofs.edit.free_bytes.Given as goal

-- the cells before the next pointer were taken off
abbrev pub invariant-loop-i : goal.invariant-loop-i
invariant-loop-i l = (content : ℕ) (cells : List Piece) → HasCells l.form.u l.form.at l.form.pointers content l.form.kind l.bytes cells
    → l.free + taken (take l.i cells) + l.form.pointers + 2 * length cells ≡ l.form.u
