use Rattle.std.proofs.Common.{◌≡◌, ◌+◌, ◌-◌, ◌%◌, ◌∙◌, zero, arith, length-set}
use Rattle.page_spec.specs.Varint.{groups}
use Rattle.be_fields.proofs.Steps.{group_written}
use Rattle.be_fields.proofs.varint.put_groups.Goals as goal

pub loop-left-preserved : goal.loop-left-preserved
loop-left-preserved c =
    let loop = c.loop-left in
    record {
      within = omega arith;
      room = omega (arith, length-set loop.to (loop.left - 1) (128 + loop.rest % 128));
      written = group_written loop.to loop.left loop.rest (omega arith) (omega arith) ∙ loop.invariant.written;
    }

pub returns : goal.returns
unfolding groups
returns c =
    let none : c.loop-left.left ≡ zero = omega arith in
    rw none at c.loop-left.invariant.written
