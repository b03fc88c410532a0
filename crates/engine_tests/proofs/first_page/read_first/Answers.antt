use Rattle.std.proofs.Common.{[], ◌∷◌, refl, arith}
use Rattle.engine_tests.proofs.first_page.read_first.Goals as goal

pub fetch-requires-clause-live : goal.fetch-requires-clause-live
fetch-requires-clause-live c = (c.begin-pin.result ∷ [], c.begin-pin.ensures.pins.added [] [] c.requires.live, (0, omega arith, refl))

pub end-requires : goal.end-requires
end-requires c =
    (c.begin-pin.result ∷ [], c.fetch.ensures.stays.pins.hold (c.begin-pin.result ∷ []) (c.begin-pin.ensures.pins.added [] [] c.requires.live), (0, omega arith, refl))
