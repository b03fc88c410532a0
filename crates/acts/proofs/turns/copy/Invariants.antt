use Rattle.std.proofs.Common.{◌-◌, ◌^◌, ◌≤◌, List, []}
use Rattle.std.specs.Prelude.{IfSome}
use Rattle.engine_spec.specs.declared.pins.Ckpt.{Ckpt}
use Rattle.page_lines.specs.declared.lines.Told.{Told}
use Rattle.engine_spec.specs.State.{EngineState}
use Rattle.acts.specs.Pagers.{Copies}
use Rattle.acts.specs.Turns.{SwapsPins}
use Rattle.acts.proofs.turns.copy.Given as goal

abbrev pub invariant-loop-answer : goal.invariant-loop-answer
invariant-loop-answer g l = record {
  above : IfSome (g.E.EngineTells.state l.engine).logs (λ logs. l.last ≤ logs.copied);
  stays : SwapsPins g.E.EngineTells
      l.initial.engine [] l.engine [];
  goes_on : (answers : List Ckpt) (told : Told) (new : EngineState)
      → Copies (g.E.EngineTells.opened l.initial.engine) answers (g.E.EngineTells.state l.engine) told new
      → (all : List Ckpt) × Copies (g.E.EngineTells.opened l.initial.engine) all (g.E.EngineTells.state l.initial.engine) told new;
}

abbrev pub decreases-loop-answer : goal.decreases-loop-answer
decreases-loop-answer g l = 2 ^ 32 - l.last
