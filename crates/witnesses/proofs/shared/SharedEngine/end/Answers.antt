use Rattle.std.proofs.Common.{refl}
use Rattle.witnesses.proofs.SharedPins.{takes_pin}
use Rattle.witnesses.proofs.shared.SharedEngine.end.Goals as goal

pub returns : goal.returns
returns g c = record {
  event = refl;
  pins = takes_pin c.args.self.now c.args.pin;
  runs = λ first run. record { plain = run.plain; good = run.good };
  opened = λ opening opened. tt;
  may_begin = refl;
  loans = refl;
}
