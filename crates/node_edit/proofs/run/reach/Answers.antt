use Rattle.std.proofs.Common.{◌≡◌, ap, arith}
use Rattle.node_edit.specs.Runs.{weight_of, part_of}
use Rattle.node_edit.proofs.Rows.{weight_more}
use Rattle.node_edit.proofs.run.reach.Goals as goal

pub returns-then-left-weight-clause-next : goal.returns-then-left-weight-clause-next
returns-then-left-weight-clause-next c = λ cells is within less.
    let so_far = c.loop-i.invariant cells is within in
    let here = c.weight-weight.ensures cells is in
    let more = weight_more cells c.args.from c.loop-i.i (omega (arith, c.loop-i.auto.i)) (omega arith) in
    omega (arith, so_far, here, more, c.if-left-weight.true)

pub loop-i-preserved : goal.loop-i-preserved
loop-i-preserved c = λ cells is within.
    let so_far = c.loop-i.invariant cells is within in
    let here = c.weight-weight.ensures cells is in
    let more = weight_more cells c.args.from c.loop-i.i (omega (arith, c.loop-i.auto.i)) (omega (arith, c.loop-i-test.true)) in
    omega (arith, so_far, here, more, c.if-left-weight.false)

pub returns-clause-fit : goal.returns-clause-fit
returns-clause-fit c = λ cells is within.
    let so_far = c.loop-i.invariant cells is within in
    let end : c.loop-i.i ≡ c.args.end = omega (arith, c.loop-i-test.false, c.loop-i.auto.i-end, c.requires.run) in
    let is_end = ap (λ n. weight_of (part_of cells c.args.from n)) end in
    omega (arith, so_far, is_end)
