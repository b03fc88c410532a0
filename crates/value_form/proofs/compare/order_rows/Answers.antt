use Rattle.std.proofs.Common.{rules}
use Rattle.value_form.proofs.OrderLaws.{row_linear, row_prefix, equal_is_same}
use Rattle.value_form.specs.Order.{row_order}
use Rattle.value_form.proofs.compare.order_rows.Goals as goal

pub returns-clause-same : goal.returns-clause-same
returns-clause-same c = equal_is_same row_order row_linear c.args.a.now c.args.b.now c.compared_rows.result (search rules)

pub returns-clause-linear : goal.returns-clause-linear
returns-clause-linear c = row_linear

pub returns-clause-prefix : goal.returns-clause-prefix
returns-clause-prefix c = row_prefix
