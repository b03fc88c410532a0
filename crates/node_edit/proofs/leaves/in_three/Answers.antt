use Rattle.std.proofs.Common.{arith}
use Rattle.node_edit.proofs.Dividing.{three_rows}
use Rattle.node_edit.proofs.leaves.in_three.Goals as goal

pub returns-clause-parts : goal.returns-clause-parts
returns-clause-parts c = λ cells is cuts.
    three_rows c.args.crowd cells c.args.low c.args.high is c.requires.leaf.0 cuts (c.in_ok-below.ensures.key cells is.is_run) (c.in_ok-above.ensures.key cells is.is_run)
    (c.fill.ensures.shows cells is.is_run cuts.0.within) (c.fill-2.ensures.shows cells is.is_run cuts.1.within) (c.fill-3.ensures.shows cells is.is_run (omega (arith, is.count)))
