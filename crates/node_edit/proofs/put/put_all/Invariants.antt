use Rattle.std.proofs.Common.{◌≡◌, ◌≤◌, List, length, Some}
use Rattle.node_spec.specs.Cells.{NodeCell}
use Rattle.node_spec.specs.Nodes.{Node, node_of}
use Rattle.page_edit.specs.Forms.{KeepsOutside}
use Rattle.edit_spec.specs.Nodes.{node_taking}
use Rattle.node_edit.specs.Runs.{IsRun, part_of}
use Rattle.node_edit.proofs.put.put_all.Given as goal

-- the page took the cells so far
abbrev pub invariant-loop-i : goal.invariant-loop-i
invariant-loop-i l = ((cells : List NodeCell) (node : Node) → IsRun l.run cells → l.end ≤ length cells → node_of l.run.u l.first l.initial.bytes ≡ Some node
    → node_of l.run.u l.first l.bytes ≡ Some (node_taking node l.at (part_of cells l.from l.i))) × KeepsOutside l.run.u l.first l.initial.bytes l.bytes
