use Rattle.std.proofs.Common.{sym, ◌∙◌, refl}
use Rattle.acts.proofs.Seatings.{live_there, none_acts, seat_acts, seat_stays}
use Rattle.acts.proofs.pagers.in_seat.Goals as goal

pub turn-requires-clause-live : goal.turn-requires-clause-live
turn-requires-clause-live g c =
    live_there g.E.EngineTells.live c.args.engine.now c.args.seats.now.items c.args.session c.in-Some.at c.index_mut.result.now
    (let e = rw c.as_slice.ensures.value at c.place_of.ensures in sym e ∙ c.in-Some.is) c.index_mut.ensures.value c.requires.live

pub returns-in-None-clause-acts : goal.returns-in-None-clause-acts
returns-in-None-clause-acts g c =
    none_acts _ c.args.seats.now.items c.args.session c.args.deed
    (let e = rw c.as_slice.ensures.value at c.place_of.ensures in sym e ∙ c.in-None.is) refl

pub returns-in-Some-clause-acts : goal.returns-in-Some-clause-acts
returns-in-Some-clause-acts g c =
    seat_acts _ c.turn.result c.args.seats.now.items c.args.session c.in-Some.at c.index_mut.result.now c.turn.new.self c.args.deed
    (let e = rw c.as_slice.ensures.value at c.place_of.ensures in sym e ∙ c.in-Some.is) c.index_mut.ensures.value
    c.turn.ensures.session c.turn.ensures.begun c.turn.ensures.acts

pub returns-in-Some-clause-stays : goal.returns-in-Some-clause-stays
returns-in-Some-clause-stays g c =
    seat_stays g.E.EngineTells
    c.args.engine.now c.turn.new.engine c.args.seats.now.items c.args.session c.in-Some.at c.index_mut.result.now c.turn.new.self
    (let e = rw c.as_slice.ensures.value at c.place_of.ensures in sym e ∙ c.in-Some.is) c.index_mut.ensures.value c.turn.ensures.stays
