use Rattle.std.proofs.Common.{arith}
use Rattle.node_edit.proofs.Rows.{spells_size}
use Rattle.node_edit.proofs.run.weight.Goals as goal

pub returns : goal.returns
returns c = λ cells is. omega (arith, spells_size (c.text_of.ensures cells is), c.max.ensures)
