use Rattle.std.proofs.Common.{refl}
use Rattle.memory_engine.specs.contracts.plain.PlainEngineTells.TheImpl.{ghosts as plain_ghosts}
use Rattle.witnesses.proofs.SharedCalls.{whole_then, begins_plain, begins_view, adds_pin, run_on}
use Rattle.witnesses.proofs.shared.SharedEngine.begin.Goals as goal

pub begin-pin-requires-clause-whole : goal.begin-pin-requires-clause-whole
begin-pin-requires-clause-whole g c = whole_then g.M.Means c.args.self.now c.meanwhile.new.self c.meanwhile.ensures c.requires.whole

pub returns : goal.returns
returns g c =
    let mid = c.meanwhile.new.self in
    let plain = c.begin-pin.new.self in
    let given = c.begin-pin.result in
    let came = c.meanwhile.ensures in
    let told = begins_plain g.M.Means (plain_ghosts g.row.M g.M.Means g.M.Means-dict) mid.plain given plain refl refl c.begin-pin.ensures in
    record {
      event = begins_view g.M.Means c.args.self.now mid plain given c.requires.whole came told;
      pins = adds_pin g.M.Means c.args.self.now mid plain given _ came refl refl told.2 c.begin-pin.ensures.pins;
      runs = λ first run. run_on c.args.self.now mid plain mid.commits _ came.came.none (g.M.Means.sound first) (g.M.Means.leads first) first
          (c.begin-pin.ensures.runs first (came.came.runs first run).plain);
      opened = λ opening opened. tt;
      loans = refl;
    }
