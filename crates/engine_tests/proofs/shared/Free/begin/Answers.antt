use Rattle.std.proofs.Common.{[]}
use Rattle.engine_tests.proofs.shared.Free.begin.Goals as goal

pub invariant_of-result : goal.invariant_of-result
invariant_of-result c = c.begin-pin.ensures.pins.added [] [] c.self.invariant
