use Rattle.std.proofs.Common.{[]}
use Rattle.engine_tests.proofs.shared.Held.end.Goals as goal

pub invariant_of-result : goal.invariant_of-result
invariant_of-result c = c.end.ensures.pins.taken [] [] c.self.invariant
