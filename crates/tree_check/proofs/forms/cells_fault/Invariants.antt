use Rattle.std.proofs.Common.{◌≡◌, None}
use Rattle.node_spec.specs.Nodes.{Node}
use Rattle.node_spec.specs.Faults.{first_fault}
use Rattle.page_form.specs.Reading.{Tells}
use Rattle.tree_check.specs.Cellwise.{fault_of_cell}
use Rattle.tree_check.proofs.forms.cells_fault.Given as goal

-- each cell before the next one names numbers in range
abbrev pub invariant-loop-k : goal.invariant-loop-k
invariant-loop-k l = (told : Node) → Tells l.usable l.first l.bytes l.node told → first_fault l.k (fault_of_cell l.last l.first l.bytes told) ≡ None
