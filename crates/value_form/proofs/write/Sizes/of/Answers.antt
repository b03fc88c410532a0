use Rattle.std.proofs.Common.{arith, ◌≡◌, ◌+◌}
use Rattle.page_spec.specs.Varint.{shortest_size}
use Rattle.value_form.specs.Serial.{type_of, body_size}
use Rattle.value_form.proofs.WrittenLaws.{types_more, bodies_more, writable_more}
use Rattle.value_form.proofs.write.Sizes.of.Goals as goal

pub loop-value-preserved : goal.loop-value-preserved
loop-value-preserved c =
    let loop = c.loop-value in
    let value = c.value-item.result in
    let types : c.in_ok-types.types ≡ loop.types + shortest_size (type_of value) = grind arith in
    let bodies : c.in_ok-bodies.bodies ≡ loop.bodies + body_size (type_of value) = grind arith in
    let was = c.value-item.is in
    record {
      types = types_more c.args.values.now loop.value-index loop.types c.in_ok-types.types value (omega arith) was loop.invariant.types types;
      bodies = bodies_more c.args.values.now loop.value-index loop.bodies c.in_ok-bodies.bodies value (omega arith) was loop.invariant.bodies c.in_ok-serial.ensures.writable bodies;
      writable = writable_more c.args.values.now loop.value-index value (omega arith) was loop.invariant.writable c.in_ok-serial.ensures.writable;
    }
