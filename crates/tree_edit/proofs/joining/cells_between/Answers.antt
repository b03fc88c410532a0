use Rattle.std.proofs.Common.{sym, ◌∙◌}
use Rattle.tree_edit.proofs.joining.cells_between.Goals as goal

pub cell_down-requires-clause-kind : goal.cell_down-requires-clause-kind
cell_down-requires-clause-kind c = sym c.is_rows.ensures ∙ c.if-is_rows.false
