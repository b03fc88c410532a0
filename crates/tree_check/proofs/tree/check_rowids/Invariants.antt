use Rattle.std.proofs.Common.{◌==◌}
use Rattle.node_spec.specs.Nodes.{Node}
use Rattle.page_form.specs.Reading.{Tells}
use Rattle.tree_check.proofs.Rowids.{RowidsFrom}
use Rattle.tree_check.proofs.tree.check_rowids.Given as goal

abbrev pub invariant-loop-k : goal.invariant-loop-k
invariant-loop-k l = (told : Node) → Tells l.usable (l.page == 1) l.bytes l.node told → RowidsFrom l.spot.before l.spot.bound told.cells l.k l.before
