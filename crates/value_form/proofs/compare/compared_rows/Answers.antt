use Rattle.std.proofs.Common.{arith, ◌∙◌}
use Rattle.value_form.proofs.OrderLaws.{row_order_past}
use Rattle.value_form.proofs.compare.compared_rows.Goals as goal

pub returns : goal.returns
returns c = c.cmp.ensures ∙ (let e = row_order_past c.args.a.now c.args.b.now c.loop-at.at (omega arith) in grind arith)
