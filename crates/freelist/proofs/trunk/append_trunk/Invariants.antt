use Rattle.std.proofs.Common.{◌≡◌, ◌∷◌, ◌++◌}
use Rattle.tree_spec.specs.Freelist.{numbers_at}
use Rattle.freelist.proofs.trunk.append_trunk.Given as goal

abbrev pub invariant-loop-i : goal.invariant-loop-i
invariant-loop-i l = l.to.items ≡ l.fn.to.items ++ l.number ∷ numbers_at l.page 8 l.i
