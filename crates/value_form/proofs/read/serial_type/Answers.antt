use Rattle.std.proofs.Common.{arith}
use Rattle.page_spec.proofs.VarintLaws.{varint_size_bounds}
use Rattle.value_form.proofs.read.serial_type.Goals as goal

pub returns-else-serial-eq11-clause-within : goal.returns-else-serial-eq11-clause-within
returns-else-serial-eq11-clause-within c =
    let begins = c.in_ok-serial.ensures in
    let some = varint_size_bounds c.args.header.now in
    (omega (arith, begins.used), begins.whole)
