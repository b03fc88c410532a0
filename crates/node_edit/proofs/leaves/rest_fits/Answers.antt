use Rattle.std.proofs.Common.{◌+◌, length, arith}
use Rattle.node_edit.proofs.Rows.{nat_eq_not, part_within}
use Rattle.node_edit.proofs.leaves.rest_fits.Goals as goal

pub returns-clause-lacks : goal.returns-clause-lacks
returns-clause-lacks c = λ same cells is.
    let less = nat_eq_not _ _ same c.reach.ensures.range.1 in
    let next = c.reach.ensures.next cells is.is_run (omega (arith, is.count)) less in
    let most = part_within cells c.args.from (c.reach.result + 1) (length cells) (omega (arith, c.reach.ensures.range)) (omega (arith, less, is.count)) (omega arith) in
    omega (arith, next, most, is.is_run.least)
