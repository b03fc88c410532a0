use Rattle.acts.proofs.Outcomes.{begun_stays}
use Rattle.acts.proofs.seats.Seat.begin_out.Goals as goal

pub returns-clause-stays : goal.returns-clause-stays
returns-clause-stays g c = begun_stays g.E.EngineTells c.args.engine.now c.begin-pin.result c.begin-pin.new.self c.begin-pin.ensures
