use Rattle.std.proofs.Common.{ℕ, ◌+◌, ◌%◌, ◌^◌, ap}
use Rattle.laying.proofs.Putting.{stamped_is}
use Rattle.laying.proofs.first.stamp.Goals as goal

pub returns-clause-stamped : goal.returns-clause-stamped
returns-clause-stamped c =
    stamped_is c.args.size _ c.args.first.now c.put_number.new.bytes c.put_number-2.new.bytes c.put_number-3.new.bytes c.requires
    (ap (λ (word : ℕ). (word + 1) % 2 ^ 32) c.get_u32-counter.ensures)
    c.put_number.ensures.put c.put_number-2.ensures.put c.put_number-3.ensures.put
