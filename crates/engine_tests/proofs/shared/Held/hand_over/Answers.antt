use Rattle.std.proofs.Common.{[], ◌∷◌}
use Rattle.engine_tests.proofs.Twice.{held_twice}
use Rattle.engine_tests.proofs.shared.Held.hand_over.Goals as goal

pub invariant_of-self : goal.invariant_of-self
invariant_of-self c =
    c.hand_over.ensures.live [] (c.self.inside.pin ∷ []) (held_twice c.self.inside.shared c.self.inside.pin c.self.invariant)
