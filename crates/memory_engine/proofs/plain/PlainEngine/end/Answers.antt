use Rattle.std.proofs.Common.{refl}
use Rattle.memory_engine.proofs.PlainPins.{takes_pin}
use Rattle.memory_engine.proofs.plain.PlainEngine.end.Goals as goal

pub returns : goal.returns
returns g c =
    let taken = takes_pin c.args.self.now c.args.pin in
    record {
      event = refl;
      pins = record { taken = taken.taken; maps = taken.maps };
      runs = λ first runs. runs;
      opened = λ opening opened. opened;
      may_begin = tt;
      loans = refl;
    }
