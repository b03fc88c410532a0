use Rattle.std.proofs.Common.{[], ◌∷◌, refl, arith}
use Rattle.overlay_tests.proofs.Ready.{marked_ready}
use Rattle.overlay_tests.proofs.transactions.after.Goals as goal

pub change-requires-clause-ready : goal.change-requires-clause-ready
change-requires-clause-ready c =
    marked_ready _ c.begin-pin.new.self c.begin-pin.result c.args.mode c.in-Ok-new.overlay c.mark.new.self
    (c.begin-pin.result ∷ [], c.begin-pin.ensures.pins.added [] [] c.in-Ok.ensures.live, (0, omega arith, refl)) c.in-Ok-new.ensures c.in-Ok-mark.ensures.ok
