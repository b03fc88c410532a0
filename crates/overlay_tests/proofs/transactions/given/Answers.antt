use Rattle.std.proofs.Common.{[], ◌∷◌, refl, arith}
use Rattle.overlay_tests.proofs.Ready.{begun_ready}
use Rattle.overlay_tests.proofs.transactions.given.Goals as goal

pub three_made-requires : goal.three_made-requires
three_made-requires c =
    begun_ready _ c.begin-pin.new.self c.begin-pin.result c.args.mode c.in-Ok-new.overlay
    (c.begin-pin.result ∷ [], c.begin-pin.ensures.pins.added [] [] c.in-Ok.ensures.live, (0, omega arith, refl)) c.in-Ok-new.ensures
