use Rattle.std.proofs.Common.{◌≡◌, ◌≤◌, List, length}
use Rattle.node_spec.specs.Cells.{NodeCell}
use Rattle.node_edit.specs.Runs.{IsRun, part_of, weight_of}
use Rattle.node_edit.proofs.run.weigh.Given as goal

-- what the cells so far take
abbrev pub invariant-loop-i : goal.invariant-loop-i
invariant-loop-i l = (cells : List NodeCell) → IsRun l.run cells → l.end ≤ length cells → l.all ≡ weight_of (part_of cells 0 l.i)
