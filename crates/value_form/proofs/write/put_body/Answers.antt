use Rattle.std.proofs.Common.{arith, rules, ◌≡◌, ◌-◌, take, drop, ap, ◌∙◌, to_z-of_z, w64, SFits}
use Rattle.std.specs.Int.{bytes_high_first, cast_unsigned}
use Rattle.std.proofs.lemmas.List.{take_rest}
use Rattle.value_form.specs.Serial.{body_size, integer_type}
use Rattle.value_form.proofs.SerialLaws.{int_size}
use Rattle.value_form.proofs.WrittenLaws.{appended}
use Rattle.value_form.proofs.write.put_body.Goals as goal

pub overflow_sub-size : goal.overflow_sub-size
overflow_sub-size c =
    let fits : SFits w64 c.in-Int.n = search rules in
    let serial : c.integer_type.result ≡ integer_type c.in-Int.n = grind (arith, to_z-of_z) in
    omega (arith, c.body_size-size.ensures, ap body_size serial, (int_size c.in-Int.n).0)

pub returns-in-Int-clause-ok : goal.returns-in-Int-clause-ok
returns-in-Int-clause-ok c =
    let n = c.in-Int.n in
    let fits : SFits w64 n = search rules in
    let serial : c.integer_type.result ≡ integer_type n = grind (arith, to_z-of_z) in
    let size = c.body_size-size.ensures ∙ ap body_size serial in
    let bits : c.cast_unsigned.result ≡ cast_unsigned w64 n = grind (arith, to_z-of_z) in
    let all : c.to_be_bytes.result ≡ bytes_high_first 8 (cast_unsigned w64 n) = c.to_be_bytes.ensures ∙ ap (bytes_high_first 8) bits in
    let part : take (8 - (8 - c.body_size-size.result)) (drop (8 - c.body_size-size.result) c.to_be_bytes.result) ≡ bytes_high_first (body_size (integer_type n)) (cast_unsigned w64 n) =
    rw (all, size) (take_rest (bytes_high_first 8 (cast_unsigned w64 n)) (8 - body_size (integer_type n)) ∙ (int_size n).1) in
    let is = rw part at (appended c.extend_from_slice.result c.extend_from_slice.new.self.items c.args.to.now.items (take (8 - (8 - c.body_size-size.result)) (drop (8 - c.body_size-size.result) c.to_be_bytes.result)) c.extend_from_slice.ensures.items) in
    rw c.in-Int.is is
