use Rattle.std.proofs.Common.{drop}
use Rattle.engine_spec.specs.State.{EngineState}
use Rattle.acts.specs.Pagers.{pins_of, EndsAll}
use Rattle.acts.specs.Turns.{SwapsPins}
use Rattle.acts.proofs.pagers.end_all.Given as goal

abbrev pub invariant-loop-seat : goal.invariant-loop-seat
invariant-loop-seat g l = record {
  ends : (new : EngineState) → EndsAll (pins_of (drop l.seat-index l.seats)) (g.E.EngineTells.state l.engine) new
      → EndsAll (pins_of l.seats) (g.E.EngineTells.state l.initial.engine) new;
  stays : SwapsPins g.E.EngineTells
      l.initial.engine (pins_of l.seats) l.engine (pins_of (drop l.seat-index l.seats));
}
