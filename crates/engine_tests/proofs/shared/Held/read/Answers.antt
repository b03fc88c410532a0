use Rattle.std.proofs.Common.{[], ◌∷◌}
use Rattle.engine_tests.proofs.shared.Held.read.Goals as goal

pub invariant_of-self : goal.invariant_of-self
invariant_of-self c = c.fetch.ensures.stays.pins.hold (c.self.inside.pin ∷ []) c.self.invariant
