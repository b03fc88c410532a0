-- What an act on one seat asks, how it bears on the list of seats, and what it leaves of an engine.
use Rattle.std.specs.Prelude.{◌≡◌, ℕ, ◌≤◌, List, ◌++◌, Contains, All, Result, Ok, Err, alloc_error, Option, Some, None}
use Rattle.std.specs.declared.alloc.AllocError.{AllocError}
use Rattle.engine_spec.specs.declared.commits.CommitFault.{CommitFault}
use Rattle.page_lines.specs.declared.lines.Told.{Told}
use Rattle.page_lines.specs.declared.lines.Told.TheVariants as reply
use Rattle.page_spec.specs.PageMap.{PageMap}
use Rattle.engine_spec.specs.declared.pins.Pin.{Pin}
use Rattle.page_lines.specs.declared.lines.Act.{Act}
use Rattle.page_lines.specs.declared.lines.Act.TheVariants as act
use Rattle.disk_face.specs.Faults.{one_more}
use Rattle.crash_spec.specs.Opening.{Opening}
use Rattle.engine_spec.specs.State.{EngineState, Later, During}
use Rattle.engine_spec.specs.Events.{Begins}
use Rattle.page_face.specs.declared.engine_tells.EngineTells.{Ghosts}
use Rattle.page_face.specs.Pins.{IsLive}
use Rattle.acts.specs.declared.seats.Seat.{Seat}
use Rattle.acts.specs.declared.seats.State.{State}
use Rattle.acts.specs.declared.seats.State.TheVariants.{Out, Open, Refused}
use Rattle.acts.specs.declared.seats.Transaction.{Transaction}
use Rattle.acts.specs.declared.turns.Deed.{Deed}
use Rattle.acts.specs.declared.turns.Deed.TheVariants.{Read, Write, Commit, Rollback}
use Rattle.acts.specs.Pagers.{Between, seat_state, begun_of, with_state, new_transaction, told_of_refusal, state_refused}

-- the act of a session that asks this
abbrev pub act_of : ℕ → Deed → Act
act_of session (Read page) = act.Read session page
act_of session (Write page byte) = act.Write session page byte
act_of session Commit = act.Commit session
act_of session Rollback = act.Rollback session

-- A session, which has begun so many transactions, went from one state to another, and nothing else changed.
pub record Moves (before : List Seat) (session ordinal : ℕ) (old new : State) (after : List Seat) : Type 0 where
  pub state : seat_state before session ≡ old
  pub begun : begun_of before session ≡ ordinal
  pub put : after ≡ with_state before session new
  pub rests : new ≡ old → after ≡ before

-- each of these pins holds
abbrev pub AllLive : {E : Type 0} → (E → List Pin → Type 0) → E → List Pin → Type 0
AllLive live engine pins = All (λ pin. IsLive live engine pin) pins

-- What stays of an engine where, of the pins that hold in it, these became those.
pub record SwapsPins {E M : Type 0} (told : Ghosts E M) (old : E) (olds : List Pin) (new : E) (news : List Pin) : Type 0 where
  pub holds : (front back : List Pin) → told.live old (front ++ (olds ++ back)) → told.live new (front ++ (news ++ back))
  pub maps : (front back : List Pin) (pin : Pin) → told.live old (front ++ (olds ++ back)) → Contains (front ++ (olds ++ back)) pin
      → Contains (front ++ (news ++ back)) pin → told.map_at new pin ≡ told.map_at old pin
  pub runs : (first : PageMap) → told.stands_from old first → told.stands_from new first
  pub opened : (opening : Opening) → told.opened old opening → told.opened new opening
  pub loans : told.loans new ≡ told.loans old
  pub always_begins : (told.state new).always_begins ≡ (told.state old).always_begins
  pub alone : (told.state new).alone ≡ (told.state old).alone
  pub pages : (told.state old).size ≤ (told.state new).size
  pub page_size : (told.state new).page_size ≡ (told.state old).page_size

-- what is told, or want of memory
abbrev pub told_or_want : Option Told → Result Told AllocError
told_or_want (Some told) = Ok told
told_or_want None = Err alloc_error

-- how a session stands after COMMIT of its transaction was refused, and what it is told
abbrev pub StandsRefused : CommitFault → Transaction → State → Result Told AllocError → Type 0
StandsRefused why transaction new told = (told ≡ told_or_want (told_of_refusal why)) × (new ≡ state_refused why transaction)

-- a session has begun a transaction, which changed nothing else of the engine that is told
abbrev pub SeatHasBegun : Between → Seat → Seat → Type 0
SeatHasBegun engine old new = (pin : Pin)
    × During engine.old (λ mid. (begun : EngineState) × Begins mid pin begun × Later begun engine.new
    × (engine.map_after pin ≡ mid.newest))
    × (new ≡ record { session = old.session; begun = one_more old.begun; state = Open (new_transaction pin) })

-- BEGIN of a session that has a seat, by how it stands
abbrev pub IsBegun : Between → Seat → Seat → Told → State → Type 0
IsBegun engine old new told Out = (told ≡ reply.Ok) × SeatHasBegun engine old new
IsBegun engine old new told (Open transaction) = (told ≡ reply.InTransaction) × (new ≡ old) × (engine.new ≡ engine.old)
IsBegun engine old new told (Refused pin) = (told ≡ reply.MustRollBack) × (new ≡ old) × (engine.new ≡ engine.old)
