use Rattle.std.proofs.Common.{◌≡◌, List, [], ◌++◌, sym, subst}
use Rattle.std.specs.Prelude.{Contains}
use Rattle.acts.specs.declared.seats.Seat.{Seat}
use Rattle.acts.specs.Pagers.{pins_of}
use Rattle.acts.proofs.pagers.Pagers.act.Goals as goal

pub returns-clause-live : goal.returns-clause-live
returns-clause-live g c = λ others lives.
    (let seats : c.self.inside.seats.items ≡ c.args.self.now = c.self.view_is in
    c.act_on.ensures.stays.holds [] others
    (subst (λ (seats : List Seat). g.E.EngineTells.live c.args.engine.now (pins_of seats ++ others)) (sym seats) lives))

pub returns-clause-maps : goal.returns-clause-maps
returns-clause-maps g c = λ others pin lives is was.
    (let seats : c.self.inside.seats.items ≡ c.args.self.now = c.self.view_is in
    c.act_on.ensures.stays.maps [] others pin
    (subst (λ (seats : List Seat). g.E.EngineTells.live c.args.engine.now (pins_of seats ++ others)) (sym seats) lives)
    (subst (λ (seats : List Seat). Contains (pins_of seats ++ others) pin) (sym seats) was) is)
