use Rattle.std.proofs.Common.{ℕ, ◌≤◌, subst, arith}
use Rattle.overlay.proofs.Readied.{readies_fetched}
use Rattle.overlay.proofs.making.read_first.Goals as goal

pub fetch-requires-clause-page : goal.fetch-requires-clause-page
fetch-requires-clause-page g c =
    let live = c.args.live.now in
    let some : 1 ≤ live.overlay.now.change.base =
    subst (λ (n : ℕ). 1 ≤ n) c.requires.ready.base (g.E.EngineTells.bounds live.engine.now live.pin.now c.requires.ready.hold).1 in
    (omega arith, omega (arith, some))

pub returns-in-Ok-clause-ready : goal.returns-in-Ok-clause-ready
returns-in-Ok-clause-ready g c = readies_fetched c.in-Ok.ensures (c.last-last.ensures.kept.first c.requires.plain)
