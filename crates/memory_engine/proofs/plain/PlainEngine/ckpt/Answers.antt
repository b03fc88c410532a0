use Rattle.std.proofs.Common.{refl, Ok}
use Rattle.engine_spec.specs.declared.pins.Ckpt.TheVariants.{Idle}
use Rattle.engine_spec.specs.Events.{TakesStep}
use Rattle.engine_spec.proofs.Here.{during_here}
use Rattle.page_face.proofs.EngineCalls.{stays_same}
use Rattle.memory_engine.specs.Plain.{state_of}
use Rattle.memory_engine.specs.contracts.plain.PlainEngineTells.TheImpl.{ghosts}
use Rattle.memory_engine.proofs.plain.PlainEngine.ckpt.Goals as goal

pub returns : goal.returns
returns g c = record {
  answer = during_here (state_of c.args.self.now) (λ mid. TakesStep (λ opening. Unit {0}) mid (Ok Idle) (state_of c.args.self.now))
      (record { steps = (refl, refl); moments = λ opening is. tt; after_is = refl });
  stays = stays_same (ghosts g.row.M g.M.Means g.M.Means-dict) c.args.self.now;
  runs = λ first runs. runs;
}
