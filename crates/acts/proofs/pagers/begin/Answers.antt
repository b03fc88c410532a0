use Rattle.acts.specs.Pagers.{told_between}
use Rattle.std.proofs.Common.{◌≡◌, sym, ◌∙◌, arith, length}
use Rattle.acts.proofs.Seatings.{begin_acts, pushed_acts, seat_stays, pushed_stays}
use Rattle.acts.proofs.pagers.begin.Goals as goal

pub returns-in-Some-clause-acts : goal.returns-in-Some-clause-acts
returns-in-Some-clause-acts g c =
    begin_acts (told_between g.E.EngineTells c.args.engine.now c.begin_again.new.engine)
    c.args.seats.now.items c.args.session c.in-Some.at c.index_mut.result.now c.begin_again.new.self c.begin_again.result
    (let e = rw c.as_slice.ensures.value at c.place_of.ensures in sym e ∙ c.in-Some.is) c.index_mut.ensures.value c.begin_again.ensures.begun

pub returns-in-Some-clause-stays : goal.returns-in-Some-clause-stays
returns-in-Some-clause-stays g c =
    seat_stays g.E.EngineTells
    c.args.engine.now c.begin_again.new.engine c.args.seats.now.items c.args.session c.in-Some.at c.index_mut.result.now c.begin_again.new.self
    (let e = rw c.as_slice.ensures.value at c.place_of.ensures in sym e ∙ c.in-Some.is) c.index_mut.ensures.value c.begin_again.ensures.stays

pub returns-in_ok-push-in-None-clause-acts : goal.returns-in_ok-push-in-None-clause-acts
returns-in_ok-push-in-None-clause-acts g c =
    let last : length c.args.seats.now.items ≡ c.len-at.result = omega (arith, c.args.seats.now.ok.0, c.len-at.ensures) in
    pushed_acts (told_between g.E.EngineTells c.args.engine.now c.begin_out.new.engine)
    c.args.seats.now.items c.push.new.self.items c.args.session c.len-at.result c.index_mut-in-None.result.now c.begin_out.new.self
    (let e = rw c.as_slice.ensures.value at c.place_of.ensures in sym e ∙ c.in-None.is) c.in_ok-push-in-None.ensures.items last
    c.index_mut-in-None.ensures.value c.begin_out.ensures.begun

pub returns-in_ok-push-in-None-clause-stays : goal.returns-in_ok-push-in-None-clause-stays
returns-in_ok-push-in-None-clause-stays g c =
    let last : length c.args.seats.now.items ≡ c.len-at.result = omega (arith, c.args.seats.now.ok.0, c.len-at.ensures) in
    pushed_stays g.E.EngineTells
    c.args.engine.now c.begin_out.new.engine c.args.seats.now.items c.push.new.self.items c.len-at.result _ c.begin_out.new.self
    c.in_ok-push-in-None.ensures.items last c.begin_out.ensures.stays
