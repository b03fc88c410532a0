-- An engine that keeps logs, under page lines, and the sessions over it, stand at a logged world: what they hold is what a run over whole
-- page maps and two logs holds.
use Rattle.std.specs.Prelude.{◌≡◌, ℕ, ◌+◌, true, List, length, Contains, Option, Some}
use Rattle.page_spec.specs.PageMap.{PageMap, page_size_of}
use Rattle.crash_spec.specs.Opening.{Opening}
use Rattle.engine_spec.specs.declared.pins.Pin.{Pin}
use Rattle.engine_spec.specs.Leaves.{RecoversNow}
use Rattle.engine_spec.specs.State.{EngineState}
use Rattle.page_lines.specs.declared.lines.Act.{Act}
use Rattle.page_lines.specs.declared.lines.Told.{Told}
use Rattle.page_lines.specs.PageLines.{IsPageStore}
use Rattle.page_lines.specs.World.{newest_map}
use Rattle.page_lines.specs.Logged.{LoggedWorld, DiskPast, Line, may_leave}
use Rattle.acts.specs.declared.seats.Seat.{Seat}
use Rattle.acts.specs.Pagers.{Between, AreSound, KeepsMaps, LeavesItsMaps, seat_state, begun_of, pins_in}
use Rattle.acts.specs.Standing.{Matches}

-- The engine tells of the world's newest map, which is a page store, of its commits, its logs and their readers, and of the place of a
-- failed log write.
pub record TellsLogged (seen : EngineState) (logged : LoggedWorld) : Type 0 where
  pub history_is : seen.history ≡ logged.world.history
  pub newest : seen.newest ≡ Some (newest_map logged.world)
  pub store : IsPageStore (newest_map logged.world)
  pub size : seen.size ≡ 16
  pub page_size : seen.page_size ≡ page_size_of (newest_map logged.world)
  pub count : length logged.world.maps ≡ length logged.world.history + 1
  pub logs : seen.logs ≡ Some logged.logs
  pub readers : seen.readers ≡ logged.readers
  pub stopped : seen.stopped ≡ logged.stopped

-- Besides, each session stands, and has begun as often, as the world says, and its transaction holds the lock that the world says.
pub record StandsLogged (seen : EngineState) (map_at : Pin → Option PageMap) (seats : List Seat) (logged : LoggedWorld) : Type 0 where
  pub tells : TellsLogged seen logged
  pub sessions : (session : ℕ) → Matches map_at logged.world.maps (seat_state seats session) (logged.world.sessions session)
  pub begun : (session : ℕ) → logged.world.begun session ≡ begun_of seats session
  pub locks : (session : ℕ) (pin : Pin) → Contains (pins_in (seat_state seats session)) pin → pin.lock ≡ logged.locks session

-- the disk beside an engine
abbrev pub past_of : EngineState → DiskPast
past_of seen = record { faults = seen.faults; past = seen.disk }

-- What an act finds: an engine to which nobody else commits, that may always begin and stands at the world, which a crash leaves as the
-- world says, which keeps the maps of pins, and of which a crash leaves what it says then.
pub record FindsLogged (engine : Between) (seats after : List Seat) (logged : LoggedWorld) : Type 0 where
  pub alone : engine.old.alone ≡ true
  pub always : engine.old.always_begins ≡ true
  pub stands : StandsLogged engine.old engine.map_before seats logged
  pub sound : AreSound engine.old.page_size seats
  pub maps : KeepsMaps seats engine.map_before after engine.map_after
  pub recovers : (opening : Opening) → engine.opened opening → RecoversNow opening (may_leave logged) engine.old.disk
  pub recovers_then : LeavesItsMaps engine.opened engine.new

-- And what it leaves: it was answered as one line of such a run, and the engine stands at the world after that.
pub record LeadsLogged (engine : Between) (seats after : List Seat) (logged : LoggedWorld) (act : Act) (answer : Told) : Type 0 where
  pub next : LoggedWorld
  pub line : Line engine.opened logged (past_of engine.old) act answer next (past_of engine.new)
  pub stands : StandsLogged engine.new engine.map_after after next
