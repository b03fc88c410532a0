use Rattle.std.proofs.Common.{◌∙◌, sym, arith}
use Rattle.tree_read.proofs.Nodes.{child_inside, child_past}
use Rattle.tree_read.proofs.place.child_before.Goals as goal

pub returns-then-place-len : goal.returns-then-place-len
returns-then-place-len c = λ node read.
    (c.read_cell.ensures node read).left ∙ sym (child_inside node.cells node.right c.args.place (omega (arith, c.if-place-len.true, c.len.ensures, read.tells.count)))

pub returns-else-place-len : goal.returns-else-place-len
returns-else-place-len c = λ node read.
    read.tells.right ∙ sym (child_past node.cells node.right c.args.place (omega (arith, c.if-place-len.false, c.len.ensures, read.tells.count)))
