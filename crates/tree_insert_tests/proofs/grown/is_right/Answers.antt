use Rattle.std.proofs.Common.{[], ◌∷◌, refl, arith}
use Rattle.engine_spec.specs.declared.commits.Mode.TheVariants.{Concurrent}
use Rattle.tree_insert_tests.proofs.Ready.{begun_ready}
use Rattle.tree_insert_tests.proofs.grown.is_right.Goals as goal

pub grows-requires : goal.grows-requires
grows-requires c =
    begun_ready _ c.begin-pin.new.self c.begin-pin.result Concurrent c.in-Ok-new.overlay
    (c.begin-pin.result ∷ [], c.begin-pin.ensures.pins.added [] [] c.in-Ok.ensures.live, (0, omega arith, refl)) c.in-Ok-new.ensures
