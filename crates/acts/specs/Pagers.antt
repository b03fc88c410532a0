-- The sessions of page lines over an engine: what each holds, and what an act does to them and to the engine.
use Rattle.std.specs.Prelude.{◌≡◌, ℕ, ◌≤◌, ◌==◌, ◌⊎◌, if◌then◌else◌, true, false, List, [], ◌∷◌, ◌++◌, map, replicate, slice_index, Option, Some, None, IfSome, All, Contains}
use Rattle.std.specs.List.{flat_map}
use Rattle.page_spec.specs.PageMap.{PageMap, page_at}
use Rattle.engine_spec.specs.declared.pins.Pin.{Pin}
use Rattle.engine_spec.specs.declared.pins.Ckpt.{Ckpt}
use Rattle.engine_spec.specs.declared.pins.Ckpt.TheVariants as checkpoint
use Rattle.engine_spec.specs.declared.commits.Mode.TheVariants.{Concurrent}
use Rattle.engine_spec.specs.declared.commits.CommitFault.{CommitFault}
use Rattle.engine_spec.specs.declared.commits.CommitFault.TheVariants as fault
use Rattle.engine_spec.specs.declared.commits.Receipt.{Receipt}
use Rattle.page_lines.specs.declared.lines.Act.{Act}
use Rattle.page_lines.specs.declared.lines.Act.TheVariants as act
use Rattle.page_lines.specs.declared.lines.Told.{Told}
use Rattle.page_lines.specs.declared.lines.Told.TheVariants as reply
use Rattle.engine_spec.specs.declared.commits.Commit.{Commit}
use Rattle.engine_spec.specs.PageSet.{with_page}
use Rattle.page_lines.specs.PageLines.{Statement, statement_text, read_text, write_text, with_image, Fills, AreImages}
use Rattle.engine_spec.specs.Change.{image_of}
use Rattle.disk_face.specs.Faults.{one_more}
use Rattle.engine_spec.specs.TwoLogs.{told_logs}
use Rattle.crash_spec.specs.Opening.{Opening}
use Rattle.engine_spec.specs.Leaves.{RecoversNow, may_recover}
use Rattle.engine_spec.specs.State.{EngineState, Later, During}
use Rattle.engine_spec.specs.Written.{Submitted}
use Rattle.engine_spec.specs.Events.{Begins, Ends, FailsAlone, FailsInStep, AcceptsCommit, RefusesCommit, Checkpoints}
use Rattle.page_face.specs.declared.engine_tells.EngineTells.{Ghosts}
use Rattle.acts.specs.declared.seats.Seat.{Seat}
use Rattle.acts.specs.declared.seats.State.{State}
use Rattle.acts.specs.declared.seats.State.TheVariants.{Out, Open, Refused}
use Rattle.acts.specs.declared.seats.Transaction.{Transaction}

-- how a session stands; one that never acted is out of a transaction
abbrev pub seat_state : List Seat → ℕ → State
seat_state [] session = Out
seat_state (seat ∷ seats) session = if seat.session == session then seat.state else seat_state seats session

-- how many transactions a session has begun
abbrev pub begun_of : List Seat → ℕ → ℕ
begun_of [] session = 0
begun_of (seat ∷ seats) session = if seat.session == session then seat.begun else begun_of seats session

-- the seats with this one: in the place of that of its session, else at the end
abbrev pub with_seat : List Seat → Seat → List Seat
with_seat [] seat = seat ∷ []
with_seat (first ∷ seats) seat = if first.session == seat.session then seat ∷ seats else first ∷ with_seat seats seat

-- the seats with a session in another state
abbrev pub with_state : List Seat → ℕ → State → List Seat
with_state seats session state = with_seat seats (record { session = session; begun = begun_of seats session; state = state })

-- the pin of a session that is in a transaction
abbrev pub pins_in : State → List Pin
pins_in Out = []
pins_in (Open transaction) = transaction.pin ∷ []
pins_in (Refused pin) = pin ∷ []

-- the pins of all sessions
abbrev pub pins_of : List Seat → List Pin
pins_of seats = flat_map (λ seat. pins_in seat.state) seats

-- A transaction of page lines is sound: its snapshot has the 16 pages, the pages that it wrote are such images, and they are what
-- its statements make of any page.
pub record IsSoundTransaction (page_size : ℕ) (transaction : Transaction) : Type 0 where
  pub pages : 16 ≤ transaction.pin.size
  pub images : AreImages page_size transaction.changed
  pub statements : List Statement
  pub texts : transaction.said ≡ map statement_text statements
  pub fills : Fills page_size statements transaction.changed

abbrev pub IsSoundState : ℕ → State → Type 0
IsSoundState page_size Out = Unit {0}
IsSoundState page_size (Open transaction) = IsSoundTransaction page_size transaction
IsSoundState page_size (Refused pin) = Unit {0}

-- each session's transaction is sound
abbrev pub AreSound : ℕ → List Seat → Type 0
AreSound page_size seats = All (λ seat. IsSoundState page_size seat.state) seats

-- a transaction that has just begun
abbrev pub new_transaction : Pin → Transaction
new_transaction pin = record { pin = pin; reads = []; changed = []; said = []; wrote = false }

-- a transaction that has read a page of its snapshot
abbrev pub after_fetch : Transaction → ℕ → Transaction
after_fetch transaction page = record transaction {
  reads = with_page transaction.reads page;
  said = transaction.said ++ read_text page ∷ [];
}

-- a transaction that has read a page that it wrote itself
abbrev pub after_own : Transaction → ℕ → Transaction
after_own transaction page = record transaction { said = transaction.said ++ read_text page ∷ [] }

-- a transaction that has written a page
abbrev pub after_write : ℕ → Transaction → ℕ → ℕ → Transaction
after_write page_size transaction page byte = record transaction {
  changed = with_image transaction.changed page (replicate page_size byte);
  said = transaction.said ++ write_text page byte ∷ [];
  wrote = true;
}

-- what the session's transaction hands in to be committed
abbrev pub submitted_of : List Seat → ℕ → Transaction → Submitted
submitted_of seats session transaction = record {
  snap = transaction.pin.n;
  reads = transaction.reads;
  change = record { mode = Concurrent; base = transaction.pin.size; changed = transaction.changed; fresh = []; freed = []; tail = false };
  said = transaction.said;
  wrote = transaction.wrote;
  session = session;
  ordinal = begun_of seats session;
}

-- What an engine is before and after an act: since which openings its disk holds what it holds, what it tells, and the map of a pin.
pub record Between : Type 1 where
  pub opened : Opening → Type 0
  pub old : EngineState
  pub new : EngineState
  pub map_before : Pin → Option PageMap
  pub map_after : Pin → Option PageMap

-- the same of an engine, by all that it tells
abbrev pub told_between : {E M : Type 0} → Ghosts E M → E → E → Between
told_between told old new = record {
  opened = told.opened old;
  old = told.state old;
  new = told.state new;
  map_before = told.map_at old;
  map_after = told.map_at new;
}

-- nothing but the answer: neither the sessions nor the engine changed
abbrev pub Same : Between → List Seat → List Seat → Told → Told → Type 0
Same engine before after answer told = (told ≡ answer) × (after ≡ before) × (engine.new ≡ engine.old)

-- A COMMIT of page lines is refused so. They make and free no page, so no page of the freelist is read that might break its form.
abbrev pub RefusesLines : (Opening → Type 0) → EngineState → Submitted → CommitFault → EngineState → Type 0
RefusesLines opened before asked why after = RefusesCommit opened (Unit {0}) before asked why after

-- BEGIN
abbrev pub BeginActs : Between → ℕ → List Seat → List Seat → Told → State → Type 0
BeginActs engine session before after told Out = (told ≡ reply.Ok) × ((pin : Pin)
    × During engine.old (λ mid. (begun : EngineState) × Begins mid pin begun × Later begun engine.new
    × (engine.map_after pin ≡ mid.newest))
    × (after ≡ with_seat before (record {
      session = session;
      begun = one_more (begun_of before session);
      state = Open (new_transaction pin);
    })))
BeginActs engine session before after told (Open transaction) = Same engine before after reply.InTransaction told
BeginActs engine session before after told (Refused pin) = Same engine before after reply.MustRollBack told

-- READ of a page of the transaction's snapshot, which may fail where the disk does
abbrev pub FetchOpen : Between → ℕ → ℕ → List Seat → List Seat → Told → Transaction → Type 0
FetchOpen engine session page before after told transaction =
    ((told ≡ reply.Disk) × (after ≡ before) × During engine.old (λ mid. FailsAlone mid engine.new))
    ⊎ ((byte : ℕ) × (told ≡ reply.Byte byte)
    × IfSome (engine.map_before transaction.pin) (λ pages. byte ≡ slice_index (page_at pages page) 0)
    × (after ≡ with_state before session (Open (after_fetch transaction page)))
    × During engine.old (λ mid. engine.new ≡ mid))

-- READ of a page that the transaction wrote itself, or of its snapshot
abbrev pub ReadOpen : Between → ℕ → ℕ → List Seat → List Seat → Told → Transaction → Option (List ℕ) → Type 0
ReadOpen engine session page before after told transaction (Some bytes) = (told ≡ reply.Byte (slice_index bytes 0))
    × (after ≡ with_state before session (Open (after_own transaction page))) × (engine.new ≡ engine.old)
ReadOpen engine session page before after told transaction None = FetchOpen engine session page before after told transaction

-- What is asked of a transaction, by how its session stands: only one that is open does it.
abbrev pub InTransaction : Between → List Seat → List Seat → Told → (Transaction → Type 0) → State → Type 0
InTransaction engine before after told Asked Out = Same engine before after reply.NoTransaction told
InTransaction engine before after told Asked (Open transaction) = Asked transaction
InTransaction engine before after told Asked (Refused pin) = Same engine before after reply.MustRollBack told

abbrev pub ReadActs : Between → ℕ → ℕ → List Seat → List Seat → Told → State → Type 0
ReadActs engine session page before after told state = InTransaction engine before after told
    (λ transaction. ReadOpen engine session page before after told transaction (image_of transaction.changed page)) state

-- WRITE
abbrev pub WriteOpen : Between → ℕ → ℕ → ℕ → List Seat → List Seat → Told → Transaction → Type 0
WriteOpen engine session page byte before after told transaction = (told ≡ reply.Ok)
    × (after ≡ with_state before session (Open (after_write engine.old.page_size transaction page byte)))
    × (engine.new ≡ engine.old)

abbrev pub WriteActs : Between → ℕ → ℕ → ℕ → List Seat → List Seat → Told → State → Type 0
WriteActs engine session page byte before after told state =
    InTransaction engine before after told (WriteOpen engine session page byte before after told) state

-- What is told of a refused COMMIT. Want of memory ends the run, and page lines read no page whose form could be broken.
abbrev pub told_of_refusal : CommitFault → Option Told
told_of_refusal (fault.Stopped log at) = Some (reply.Stopped log at)
told_of_refusal (fault.BusySnapshot page number) = Some (reply.Busy page number)
told_of_refusal (fault.SizeLimit pages frames) = Some (reply.Size pages)
told_of_refusal fault.Disk = Some reply.Disk
told_of_refusal fault.Memory = None
told_of_refusal (fault.Corrupt page) = None

-- the session of a refused COMMIT stays in its transaction; where a page that it read was written since it has to roll it back
abbrev pub state_refused : CommitFault → Transaction → State
state_refused (fault.Stopped log at) transaction = Open transaction
state_refused (fault.BusySnapshot page number) transaction = Refused transaction.pin
state_refused (fault.SizeLimit pages frames) transaction = Open transaction
state_refused fault.Memory transaction = Open transaction
state_refused fault.Disk transaction = Open transaction
state_refused (fault.Corrupt page) transaction = Open transaction

-- COMMIT of an open transaction goes through
abbrev pub CommitAccepted : Between → ℕ → List Seat → List Seat → Transaction → Told → Type 0
CommitAccepted engine session before after transaction told = (receipt : Receipt) × (told ≡ reply.Done receipt)
    × During engine.old (λ mid. (done : EngineState) × AcceptsCommit engine.opened mid (submitted_of before session transaction) receipt done
    × Ends done transaction.pin engine.new)
    × (after ≡ with_state before session Out)

-- or is refused
abbrev pub CommitRefused : Between → ℕ → List Seat → List Seat → Transaction → Told → Type 0
CommitRefused engine session before after transaction told = (why : CommitFault) × (told_of_refusal why ≡ Some told)
    × During engine.old (λ mid. RefusesLines engine.opened mid (submitted_of before session transaction) why engine.new)
    × (after ≡ with_state before session (state_refused why transaction))

abbrev pub CommitOpen : Between → ℕ → List Seat → List Seat → Transaction → Told → Type 0
CommitOpen engine session before after transaction told =
    CommitAccepted engine session before after transaction told ⊎ CommitRefused engine session before after transaction told

abbrev pub CommitActs : Between → ℕ → List Seat → List Seat → Told → State → Type 0
CommitActs engine session before after told state =
    InTransaction engine before after told (λ transaction. CommitOpen engine session before after transaction told) state

-- ROLLBACK
abbrev pub RollbackActs : Between → ℕ → List Seat → List Seat → Told → State → Type 0
RollbackActs engine session before after told Out = Same engine before after reply.NoTransaction told
RollbackActs engine session before after told (Open transaction) = (told ≡ reply.Ok)
    × (after ≡ with_state before session Out) × Ends engine.old transaction.pin engine.new
RollbackActs engine session before after told (Refused pin) = (told ≡ reply.Ok)
    × (after ≡ with_state before session Out) × Ends engine.old pin engine.new

-- one step of a checkpoint, which may fail where the disk does
abbrev pub StepActs : Between → Told → Type 0
StepActs engine told = ((told ≡ reply.Disk) × During engine.old (λ mid. FailsInStep engine.opened mid engine.new))
    ⊎ ((answer : Ckpt) × (told ≡ reply.Ckpt answer) × During engine.old (λ mid. Checkpoints engine.opened mid answer engine.new))

-- a step that copied no page
abbrev pub IsLast : Ckpt → Type 0
IsLast (checkpoint.Copied page) = ⊥
IsLast checkpoint.Finished = Unit {0}
IsLast checkpoint.Idle = Unit {0}
IsLast (checkpoint.Held count) = Unit {0}

-- Steps of a checkpoint that each copied a page, from one moment to a later one, and then one that didn't, or that failed.
abbrev pub Copies : (Opening → Type 0) → List Ckpt → EngineState → Told → EngineState → Type 0
Copies opened [] old told new = ((told ≡ reply.Disk) × During old (λ mid. FailsInStep opened mid new))
    ⊎ ((answer : Ckpt) × IsLast answer × (told ≡ reply.Ckpt answer) × During old (λ mid. Checkpoints opened mid answer new))
Copies opened (answer ∷ answers) old told new = (copied : EngineState) × (page : ℕ) × (answer ≡ checkpoint.Copied page)
    × During old (λ mid. Checkpoints opened mid answer copied) × Copies opened answers copied told new

-- Steps of a checkpoint one after another, until one copies no page.
abbrev pub CopyActs : Between → Told → Type 0
CopyActs engine told = (answers : List Ckpt) × Copies engine.opened answers engine.old told engine.new

-- An act over an engine: what it is answered, and what becomes of the sessions and of the engine.
abbrev pub Acts : Between → List Seat → Act → Told → List Seat → Type 0
Acts engine before (act.Begin session) told after = BeginActs engine session before after told (seat_state before session)
Acts engine before (act.Read session page) told after = ReadActs engine session page before after told (seat_state before session)
Acts engine before (act.Write session page byte) told after =
    WriteActs engine session page byte before after told (seat_state before session)
Acts engine before (act.Commit session) told after = CommitActs engine session before after told (seat_state before session)
Acts engine before (act.Rollback session) told after = RollbackActs engine session before after told (seat_state before session)
Acts engine before act.Step told after = StepActs engine told × (after ≡ before)
Acts engine before act.Copy told after = CopyActs engine told × (after ≡ before)
Acts engine before act.Logs told after = (after ≡ before)
    × During engine.old (λ mid. (told ≡ reply.Logs (told_logs mid.logs mid.history)) × (engine.new ≡ mid))

-- each of these pins is given back, one after another
abbrev pub EndsAll : List Pin → EngineState → EngineState → Type 0
EndsAll [] old new = new ≡ old
EndsAll (pin ∷ pins) old new = (mid : EngineState) × Ends old pin mid × EndsAll pins mid new

-- the maps of the pins that stay through an act are as they were
abbrev pub KeepsMaps : List Seat → (Pin → Option PageMap) → List Seat → (Pin → Option PageMap) → Type 0
KeepsMaps before maps after maps_then =
    (pin : Pin) → Contains (pins_of before) pin → Contains (pins_of after) pin → maps_then pin ≡ maps pin

-- a crash leaves now what the engine says
abbrev pub LeavesItsMaps : (Opening → Type 0) → EngineState → Type 0
LeavesItsMaps opened seen = (opening : Opening) → opened opening → RecoversNow opening (may_recover seen) seen.disk

-- A run of page lines, from these seats on, where each pin that holds has such a map: the acts are answered one after another, and
-- then the pins of what is still open are given back. After each act a crash leaves what the engine says.
abbrev pub Plays : (Opening → Type 0) → EngineState → (Pin → Option PageMap) → List Seat → List Act → List Told → EngineState → Type 0
Plays opened old maps seats [] [] new = EndsAll (pins_of seats) old new
Plays opened old maps seats (act ∷ acts) (answer ∷ answers) new =
    (mid : EngineState) × (maps_then : Pin → Option PageMap) × (seats_then : List Seat)
    × Acts (record { opened = opened; old = old; new = mid; map_before = maps; map_after = maps_then }) seats act answer seats_then
    × KeepsMaps seats maps seats_then maps_then × LeavesItsMaps opened mid × Plays opened mid maps_then seats_then acts answers new
Plays opened old maps seats [] (answer ∷ answers) new = ⊥
Plays opened old maps seats (act ∷ acts) [] new = ⊥

-- The history, and which of it are the engine's own commits, grew at their ends alone, and the count of faults didn't fall.
pub record Grew (old new : EngineState) : Type 0 where
  pub more : List Commit
  pub history : new.history ≡ old.history ++ more
  pub more_own : List ℕ
  pub own : new.own ≡ old.own ++ more_own
  pub faults : old.faults ≤ new.faults
