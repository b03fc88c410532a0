use Rattle.std.proofs.Common.{◌^◌, ◌≤◌, arith, rules}
use Rattle.std.proofs.Math.Nat.{pow-le-pow_right}
use Rattle.value_form.proofs.serial.unsigned.Goals as goal

pub overflow_mul-number : goal.overflow_mul-number
overflow_mul-number c =
    let cap : 256 ^ c.loop-byte.byte-index ≤ 256 ^ 7 = pow-le-pow_right (omega arith) (let h : c.loop-byte.byte-index ≤ 7 = omega arith in h) in search rules

pub overflow_add-number : goal.overflow_add-number
overflow_add-number c =
    let cap : 256 ^ c.loop-byte.byte-index ≤ 256 ^ 7 = pow-le-pow_right (omega arith) (let h : c.loop-byte.byte-index ≤ 7 = omega arith in h) in search rules
