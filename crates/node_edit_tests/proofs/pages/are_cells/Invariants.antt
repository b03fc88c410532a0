use Rattle.std.proofs.Common.{ℕ, ◌<◌, List, get_or}
use Rattle.node_spec.specs.Cells.{IsOneCell}
use Rattle.node_edit_tests.proofs.pages.are_cells.Given as goal

-- the texts so far are cells
abbrev pub invariant-loop-i : goal.invariant-loop-i
invariant-loop-i l = (k : ℕ) (other : List ℕ) → k < l.i → IsOneCell l.kind 512 (get_or l.news k other)
