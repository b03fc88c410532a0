use Rattle.std.proofs.Common.{refl}
use Rattle.tree_read.proofs.Nodes.{bad_node}
use Rattle.tree_edit.proofs.lay.node_among.Goals as goal

pub returns-in-Err-Bad-clause-cause : goal.returns-in-Err-Bad-clause-cause
returns-in-Err-Bad-clause-cause c =
    (refl, λ node shown. bad_node _ _ _ c.in-Err-Bad.field-0 c.in-Err-Bad.field-0-0 c.in-Err-Bad.field-0-is c.in-Err-Bad.ensures.refused node shown)
