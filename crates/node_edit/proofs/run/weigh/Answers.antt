use Rattle.std.proofs.Common.{◌≡◌, length, refl, ap, arith}
use Rattle.node_edit.specs.Runs.{weight_of, part_of}
use Rattle.node_edit.proofs.Rows.{weight_more, weight_within, part_whole}
use Rattle.node_edit.proofs.run.weigh.Goals as goal

pub overflow_add-all : goal.overflow_add-all
overflow_add-all c =
    let r = c.requires.run in
    let so_far = c.loop-i.invariant r.0 r.1 r.2 in
    let here = c.weight-all.ensures r.0 r.1 in
    let more = weight_within r.0 0 c.loop-i.i (length r.0) (omega arith) (omega (arith, c.loop-i-test.true, r.2)) (omega arith) in
    let whole = ap weight_of (part_whole r.0 (length r.0) refl) in
    omega (arith, so_far, here, more, whole, r.3)

pub loop-i-preserved : goal.loop-i-preserved
loop-i-preserved c = λ cells is within.
    let so_far = c.loop-i.invariant cells is within in
    let here = c.weight-all.ensures cells is in
    let more = weight_more cells 0 c.loop-i.i (omega arith) (omega (arith, c.loop-i-test.true)) in
    omega (arith, so_far, here, more)

pub returns : goal.returns
returns c = λ cells is within.
    let so_far = c.loop-i.invariant cells is within in
    let end : c.loop-i.i ≡ c.args.end = omega (arith, c.loop-i-test.false, c.loop-i.auto.i-end) in
    let is_end = ap (λ n. weight_of (part_of cells 0 n)) end in
    omega (arith, so_far, is_end)
