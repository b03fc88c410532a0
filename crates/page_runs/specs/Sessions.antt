-- An engine with the sessions of page lines over it: what it takes for them to act, how acts are answered, and what a run of acts amounts to.
use Rattle.std.specs.Prelude.{◌≡◌, ◌≤◌, true, List, [], ◌∷◌}
use Rattle.engine_spec.specs.State.{EngineState}
use Rattle.page_face.specs.declared.engine_tells.EngineTells.{Ghosts}
use Rattle.page_face.specs.Calls.{KeepsOpenings}
use Rattle.page_lines.specs.declared.lines.Act.{Act}
use Rattle.page_lines.specs.declared.lines.Told.{Told}
use Rattle.acts.specs.declared.seats.Seat.{Seat}
use Rattle.acts.specs.Pagers.{Acts, AreSound, KeepsMaps, Plays, pins_of, told_between}

-- an engine and the seats of its sessions
pub record Seated (E : Type 0) : Type 0 where
  pub engine : E
  pub seats : List Seat

-- The sessions may act: nobody else commits to the engine, a transaction may always begin on it, its maps have 16 pages, and the sessions'
-- transactions are sound and their pins hold.
pub record MayAct {E M : Type 0} (told : Ghosts E M) (engine : E) (seats : List Seat) : Type 0 where
  pub alone : (told.state engine).alone ≡ true
  pub always : (told.state engine).always_begins ≡ true
  pub pages : 16 ≤ (told.state engine).size
  pub sound : AreSound (told.state engine).page_size seats
  pub live : told.live engine (pins_of seats)

-- An act was answered so.
pub record IsAnswered {E M : Type 0} (told : Ghosts E M) (old : Seated E) (act : Act) (answer : Told) (new : Seated E) : Type 0 where
  pub acts : Acts (told_between told old.engine new.engine) old.seats act answer new.seats
  pub maps : KeepsMaps old.seats (told.map_at old.engine) new.seats (told.map_at new.engine)
  pub opened : KeepsOpenings told old.engine new.engine

-- These acts were answered so, one after another.
abbrev pub AreAnswered : {E M : Type 0} → Ghosts E M → Seated E → List Act → List Told → Seated E → Type 0
AreAnswered told old [] [] new = new ≡ old
AreAnswered {E} told old (act ∷ acts) (answer ∷ answers) new =
    (mid : Seated E) × IsAnswered told old act answer mid × AreAnswered told mid acts answers new
AreAnswered told old [] (answer ∷ answers) new = ⊥
AreAnswered told old (act ∷ acts) [] new = ⊥

-- Nothing happened but that the engine was asked: it tells what it told, and the seats are as they were.
pub record Rests {E M : Type 0} (told : Ghosts E M) (old new : Seated E) : Type 0 where
  pub state : told.state new.engine ≡ told.state old.engine
  pub seats : new.seats ≡ old.seats

-- A run: over the engine as it was, without sessions, these acts were answered so, and then what was left open was given back; since then
-- the engine counts as many faults, and its disk tells the same, as the one now.
pub record AnsweredOver {E M : Type 0} (told : Ghosts E M) (old new : E) (acts : List Act) (answers : List Told) : Type 0 where
  pub last : EngineState
  pub plays : Plays (told.opened old) (told.state old) (told.map_at old) [] acts answers last
  pub faults : last.faults ≡ (told.state new).faults
  pub disk : last.disk ≡ (told.state new).disk
