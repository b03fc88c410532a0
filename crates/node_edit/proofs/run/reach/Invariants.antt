use Rattle.std.proofs.Common.{◌≡◌, ◌+◌, ◌≤◌, List, length}
use Rattle.node_spec.specs.Cells.{NodeCell}
use Rattle.node_edit.specs.Runs.{IsRun, part_of, weight_of}
use Rattle.node_edit.proofs.run.reach.Given as goal

-- what is left is the limit without the cells so far
abbrev pub invariant-loop-i : goal.invariant-loop-i
invariant-loop-i l = (cells : List NodeCell) → IsRun l.run cells → l.end ≤ length cells → l.left + weight_of (part_of cells l.from l.i) ≡ l.limit
