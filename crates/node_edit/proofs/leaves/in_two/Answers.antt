use Rattle.std.proofs.Common.{arith}
use Rattle.node_edit.proofs.Dividing.{two_rows}
use Rattle.node_edit.proofs.leaves.in_two.Goals as goal

pub returns-clause-parts : goal.returns-clause-parts
returns-clause-parts c = λ cells middle is cuts.
    two_rows c.args.crowd cells c.args.cut is c.requires.leaf.0 cuts (c.in_ok-key.ensures.key cells is.is_run) (c.fill.ensures.shows cells is.is_run cuts.0.within)
    (c.fill-2.ensures.shows cells is.is_run (omega (arith, is.count)))
