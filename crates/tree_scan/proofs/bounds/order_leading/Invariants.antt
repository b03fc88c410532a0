use Rattle.std.proofs.Common.{◌≡◌, drop}
use Rattle.tree_scan.specs.Bounded.{leading_order}
use Rattle.tree_scan.proofs.bounds.order_leading.Given as goal

-- what is left of both decides
abbrev pub invariant-loop-at : goal.invariant-loop-at
invariant-loop-at l = leading_order (drop l.at l.values) (drop l.at l.others) ≡ leading_order l.values l.others
