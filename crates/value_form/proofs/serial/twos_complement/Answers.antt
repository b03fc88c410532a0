use Rattle.std.proofs.Common.{rules, to_z-of_z, SFits, w64}
use Rattle.value_form.specs.Serial.{twos_complement}
use Rattle.value_form.proofs.serial.twos_complement.Goals as goal

pub returns : goal.returns
unfolding twos_complement
returns c =
    let fits : SFits w64 c.with_sign.result = search rules in
    rw (← c.half_count.ensures.half, ← c.unsigned.ensures.value) (simp to_z-of_z c.with_sign.ensures)
