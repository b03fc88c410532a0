use Rattle.value_form.proofs.OrderLaws.{value_linear, equal_is_same}
use Rattle.value_form.specs.Order.{value_order}
use Rattle.value_form.proofs.compare.order.Goals as goal

pub returns-clause-same : goal.returns-clause-same
returns-clause-same c = equal_is_same value_order value_linear c.args.a.now c.args.b.now c.compared.result c.compared.ensures

pub returns-clause-linear : goal.returns-clause-linear
returns-clause-linear c = value_linear
