use Rattle.std.proofs.Common.{sym, arith}
use Rattle.node_spec.specs.Faults.{byte_fault}
use Rattle.node_spec.proofs.FaultLaws.{none_first, first_some, first_more}
use Rattle.page_form.proofs.Checks.{byte_good, byte_bad}
use Rattle.page_form.proofs.content.shared_byte.Goals as goal

pub loop-k-init : goal.loop-k-init
loop-k-init c = λ cells blocks are. none_first 0 (byte_fault cells blocks) (λ i l. absurd (omega arith))

pub returns-then-marks-k-gt1 : goal.returns-then-marks-k-gt1
returns-then-marks-k-gt1 c = λ cells blocks are.
    sym (first_some c.args.u (byte_fault cells blocks) c.loop-k.k c.loop-k.k c.loop-k-test.true (c.loop-k.invariant cells blocks are)
    (byte_bad cells blocks c.loop-k.k (omega (arith, are c.loop-k.k, c.if-marks-k-gt1.true))))

pub loop-k-preserved : goal.loop-k-preserved
loop-k-preserved c = λ cells blocks are.
    first_more c.loop-k.k (byte_fault cells blocks) (c.loop-k.invariant cells blocks are)
    (byte_good cells blocks c.loop-k.k (omega (arith, are c.loop-k.k, c.if-marks-k-gt1.false)))
