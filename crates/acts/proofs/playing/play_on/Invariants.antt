use Rattle.std.proofs.Common.{◌≡◌, ◌≤◌, true, List, [], ◌++◌, drop}
use Rattle.std.specs.Prelude.{Contains}
use Rattle.page_spec.specs.PageMap.{PageMap}
use Rattle.engine_spec.specs.declared.pins.Pin.{Pin}
use Rattle.page_lines.specs.declared.lines.Told.{Told}
use Rattle.crash_spec.specs.Opening.{Opening}
use Rattle.engine_spec.specs.State.{EngineState}
use Rattle.acts.specs.Pagers.{AreSound, Grew, Plays, pins_of}
use Rattle.acts.proofs.playing.play_on.Given as goal

abbrev pub invariant-loop-act : goal.invariant-loop-act
invariant-loop-act g l = record {
  plays : (told : List Told) (new : EngineState)
      → Plays (g.E.EngineTells.opened l.initial.engine) (g.E.EngineTells.state l.engine) (g.E.EngineTells.map_at l.engine)
      l.pagers (drop l.act-index l.acts) told new
      → Plays (g.E.EngineTells.opened l.initial.engine) (g.E.EngineTells.state l.initial.engine)
      (g.E.EngineTells.map_at l.initial.engine) [] l.acts (l.answers.items ++ told) new;
  grew : Grew (g.E.EngineTells.state l.initial.engine) (g.E.EngineTells.state l.engine);
  always : (g.E.EngineTells.state l.engine).always_begins ≡ true;
  pages : 16 ≤ (g.E.EngineTells.state l.engine).size;
  page_size : (g.E.EngineTells.state l.engine).page_size ≡ (g.E.EngineTells.state l.initial.engine).page_size;
  sound : AreSound (g.E.EngineTells.state l.engine).page_size l.pagers;
  live : (others : List Pin) → g.E.EngineTells.live l.initial.engine others → g.E.EngineTells.live l.engine (pins_of l.pagers ++ others);
  maps : (others : List Pin) (pin : Pin) → g.E.EngineTells.live l.initial.engine others → Contains others pin
      → g.E.EngineTells.map_at l.engine pin ≡ g.E.EngineTells.map_at l.initial.engine pin;
  runs : (first : PageMap) → g.E.EngineTells.stands_from l.initial.engine first → g.E.EngineTells.stands_from l.engine first;
  alone : (g.E.EngineTells.state l.engine).alone ≡ (g.E.EngineTells.state l.initial.engine).alone;
  opened : (opening : Opening) → g.E.EngineTells.opened l.initial.engine opening → g.E.EngineTells.opened l.engine opening;
  references : g.E.EngineTells.loans l.engine ≡ g.E.EngineTells.loans l.initial.engine;
}
