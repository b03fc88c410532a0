use Rattle.std.proofs.Common.{subst, sym, arith}
use Rattle.node_spec.specs.declared.kinds.Kind.{Kind}
use Rattle.node_spec.specs.Cells.{IsOneCell}
use Rattle.edit_tests.proofs.OneCell.{short_cell}
use Rattle.edit_tests.proofs.cells.is_cell.Goals as goal

pub returns-then-is_table_leaf : goal.returns-then-is_table_leaf
returns-then-is_table_leaf c = λ true_is.
    let leaf = c.is_table_leaf.ensures c.if-is_table_leaf.true in
    let short = c.is_short.ensures true_is in
    let one = short_cell c.args.u c.args.cell.now (omega arith) short.0 short.1 short.2 short.3 in
    subst (λ (kind : Kind). IsOneCell kind c.args.u c.args.cell.now) (sym leaf) one
