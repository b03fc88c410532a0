use Rattle.std.proofs.Common.{◌+◌, ◌*◌, sym, arith}
use Rattle.node_spec.proofs.FaultLaws.{none_first, first_some, first_more}
use Rattle.node_spec.specs.Faults.{pointer_fault}
use Rattle.page_form.proofs.Checks.{pointer_bad, pointer_good}
use Rattle.page_form.proofs.front.bad_pointer.Goals as goal

pub loop-i-init : goal.loop-i-init
loop-i-init c = none_first 0 (pointer_fault c.args.content c.args.bytes.now c.args.pointers) (λ i l. absurd (omega arith))

pub loop-i-preserved : goal.loop-i-preserved
loop-i-preserved c =
    first_more c.loop-i.i (pointer_fault c.args.content c.args.bytes.now c.args.pointers) c.loop-i.invariant
    (pointer_good c.args.content c.args.bytes.now c.args.pointers c.loop-i.i (omega (arith, c.get_u16.ensures, c.from.ensures)))

pub returns-then-from-content : goal.returns-then-from-content
returns-then-from-content c =
    sym (first_some c.args.count (pointer_fault c.args.content c.args.bytes.now c.args.pointers) c.loop-i.i (c.args.pointers + 2 * c.loop-i.i)
    c.loop-i-test.true c.loop-i.invariant
    (pointer_bad c.args.content c.args.bytes.now c.args.pointers c.loop-i.i (omega (arith, c.get_u16.ensures, c.from.ensures))))
