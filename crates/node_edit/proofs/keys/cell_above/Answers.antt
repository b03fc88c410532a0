use Rattle.node_edit.proofs.KeyLaws.{key_leads, leads_as}
use Rattle.node_edit.proofs.keys.cell_above.Goals as goal

pub returns-clause-cell : goal.returns-clause-cell
returns-clause-cell c = λ kind usable inner is. key_leads (leads_as c.in_ok-text.ensures c.bytes.ensures c.from_vec.ensures) kind usable inner is
