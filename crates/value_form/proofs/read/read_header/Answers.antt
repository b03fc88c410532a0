use Rattle.std.proofs.Common.{arith, ◌∷◌, [], ◌++◌}
use Rattle.value_form.proofs.ReadingLaws.{left_is, types_step}
use Rattle.value_form.proofs.read.read_header.Goals as goal

pub loop-at-preserved : goal.loop-at-preserved
loop-at-preserved c =
    let before = c.loop-at.invariant.types in
    let found = c.in-Some-serial_type.ensures in
    let number = c.in-Some.ensures.value.2 in
    let from = left_is c.args.bytes.now c.split_at.result.0.now c.in-Some.size c.loop-at.at c.split_at.ensures.front number in
    record {
      inside = omega arith;
      room = omega (arith, c.in_ok-take.ensures.grows, found.within);
      types = (
        before.0 ++ c.in-Some-serial_type.serial ∷ [],
        types_step c.args.bytes.now before.0 _ c.loop-at.at c.in-Some-serial_type.serial c.in-Some-serial_type.len before.1 from found.value,
        c.in_ok-take.ensures.taken before.0 before.2,
      );
    }
