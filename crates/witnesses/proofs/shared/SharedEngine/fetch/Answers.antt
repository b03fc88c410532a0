use Rattle.std.proofs.Common.{refl, ◌∙◌}
use Rattle.memory_engine.specs.contracts.plain.PlainEngineTells.TheImpl.{ghosts as plain_ghosts}
use Rattle.witnesses.proofs.SharedCalls.{held_then, fetches_plain, fetches_view, fetched_page, same_counts, pins_on, run_on}
use Rattle.witnesses.proofs.shared.SharedEngine.fetch.Goals as goal

pub fetch-requires-clause-live : goal.fetch-requires-clause-live
fetch-requires-clause-live g c = held_then g.M.Means c.args.self.now c.meanwhile.new.self c.meanwhile.ensures c.args.pin.now c.requires.live

pub returns : goal.returns
returns g c =
    let old = c.args.self.now in
    let mid = c.meanwhile.new.self in
    let plain = c.fetch.new.self in
    let came = c.meanwhile.ensures in
    let same = fetches_plain g.M.Means (plain_ghosts g.row.M g.M.Means g.M.Means-dict) mid.plain c.fetch.result plain refl refl c.fetch.ensures.event in
    record {
      page_is = fetched_page g.M.Means old mid came c.args.pin.now c.args.page c.fetch.result c.fetch.new.buf c.requires.live c.fetch.ensures.page_is;
      event = fetches_view g.M.Means old mid plain came c.fetch.result same;
      stays = record {
        pins = pins_on old mid plain mid.commits mid.barred came.came.none came.came.pins c.fetch.ensures.stays.pins (same_counts mid plain same.0);
        may_begin = λ may. came.came.barred ∙ may;
        opened = λ opening opened. tt;
        loans = refl;
      };
      runs = λ first run. run_on old mid plain mid.commits mid.barred came.came.none (g.M.Means.sound first) (g.M.Means.leads first) first
          (c.fetch.ensures.runs first (came.came.runs first run).plain);
    }
