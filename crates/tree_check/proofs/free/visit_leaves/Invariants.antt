use Rattle.tree_check.proofs.Freeing.{LeavesMet}
use Rattle.tree_check.proofs.free.visit_leaves.Given as goal

abbrev pub invariant-leaves : goal.invariant-leaves
invariant-leaves l = LeavesMet l.fn.walk l.trunk l.i l.walk
