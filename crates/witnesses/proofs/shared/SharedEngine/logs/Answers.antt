use Rattle.std.proofs.Common.{refl, ◌∙◌}
use Rattle.witnesses.proofs.SharedCalls.{told_anew}
use Rattle.witnesses.proofs.shared.SharedEngine.logs.Goals as goal

pub returns : goal.returns
returns g c = record {
  answer = told_anew g.M.Means c.args.self.now c.meanwhile.new.self c.requires c.meanwhile.ensures;
  stays = record {
    pins = c.meanwhile.ensures.came.pins;
    may_begin = λ may. c.meanwhile.ensures.came.barred ∙ may;
    opened = λ opening opened. tt;
    loans = refl;
  };
  runs = c.meanwhile.ensures.came.runs;
}
