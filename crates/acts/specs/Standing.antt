-- An engine under page lines, and the sessions over it, stand at a world: what they hold is what a run over whole page maps holds.
use Rattle.std.specs.Prelude.{◌≡◌, ℕ, ◌+◌, ◌<◌, List, [], length, Option, Some, None}
use Rattle.std.specs.List.{slice_index_or}
use Rattle.page_spec.specs.PageMap.{PageMap, page_size_of}
use Rattle.engine_spec.specs.declared.pins.Pin.{Pin}
use Rattle.engine_spec.specs.declared.commits.Commit.{Commit}
use Rattle.page_lines.specs.PageLines.{IsPageStore}
use Rattle.engine_spec.specs.State.{EngineState}
use Rattle.page_lines.specs.World.{World, SessionState}
use Rattle.page_lines.specs.World as run
use Rattle.acts.specs.declared.seats.Seat.{Seat}
use Rattle.acts.specs.declared.seats.State.{State}
use Rattle.acts.specs.declared.seats.State.TheVariants as seat
use Rattle.acts.specs.declared.seats.Transaction.{Transaction}
use Rattle.acts.specs.Pagers.{seat_state, begun_of}

-- The engine tells of the last of these maps, which is a page store, and of these commits. No write of a log failed.
pub record TellsMaps (seen : EngineState) (maps : List PageMap) (history : List Commit) : Type 0 where
  pub history_is : seen.history ≡ history
  pub newest : seen.newest ≡ Some (slice_index_or maps (length history) [])
  pub store : IsPageStore (slice_index_or maps (length history) [])
  pub size : seen.size ≡ 16
  pub page_size : seen.page_size ≡ page_size_of (slice_index_or maps (length history) [])
  pub running : seen.stopped ≡ None
  pub count : length maps ≡ length history + 1

-- The pin is of one of these maps, and the engine tells that map.
pub record PinStands (map_at : Pin → Option PageMap) (maps : List PageMap) (pin : Pin) : Type 0 where
  pub n : pin.n < length maps
  pub size : pin.size ≡ length (slice_index_or maps pin.n [])
  pub map : map_at pin ≡ Some (slice_index_or maps pin.n [])

-- What a session holds of its transaction is what the world has of it.
pub record IsTransaction (held : Transaction) (transaction : run.PageTransaction) : Type 0 where
  pub snap : transaction.snap ≡ held.pin.n
  pub reads : transaction.reads ≡ held.reads
  pub changed : transaction.changed ≡ held.changed
  pub said : transaction.said ≡ held.said
  pub wrote : transaction.wrote ≡ held.wrote

-- a session stands as the world says
abbrev pub Matches : (Pin → Option PageMap) → List PageMap → State → SessionState → Type 0
Matches map_at maps seat.Out run.Out = Unit {0}
Matches map_at maps (seat.Open held) (run.Open transaction) = IsTransaction held transaction × PinStands map_at maps held.pin
Matches map_at maps (seat.Refused pin) (run.Refused transaction) = (transaction.snap ≡ pin.n) × PinStands map_at maps pin
Matches map_at maps seat.Out (run.Open transaction) = ⊥
Matches map_at maps seat.Out (run.Refused transaction) = ⊥
Matches map_at maps (seat.Open held) run.Out = ⊥
Matches map_at maps (seat.Open held) (run.Refused transaction) = ⊥
Matches map_at maps (seat.Refused pin) run.Out = ⊥
Matches map_at maps (seat.Refused pin) (run.Open transaction) = ⊥

-- The engine tells of the world's maps and commits, and each session stands, and has begun as often, as the world says.
pub record StandsAt (seen : EngineState) (map_at : Pin → Option PageMap) (seats : List Seat) (world : World) : Type 0 where
  pub tells : TellsMaps seen world.maps world.history
  pub sessions : (session : ℕ) → Matches map_at world.maps (seat_state seats session) (world.sessions session)
  pub begun : (session : ℕ) → world.begun session ≡ begun_of seats session
