use Rattle.std.proofs.Common.{◌≡◌, drop}
use Rattle.value_form.specs.Order.{row_order}
use Rattle.value_form.proofs.compare.compared_rows.Given as goal

-- what is left of both decides
abbrev pub invariant-loop-at : goal.invariant-loop-at
invariant-loop-at l = row_order (drop l.at l.a) (drop l.at l.b) ≡ row_order l.a l.b
