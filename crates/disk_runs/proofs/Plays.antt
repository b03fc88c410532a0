-- A run of acts over an engine, for fewer openings.
use Rattle.std.proofs.Common.{List, [], ◌∷◌}
use Rattle.std.specs.Prelude.{Option}
use Rattle.page_spec.specs.PageMap.{PageMap}
use Rattle.crash_spec.specs.Opening.{Opening}
use Rattle.engine_spec.specs.declared.pins.Pin.{Pin}
use Rattle.engine_spec.specs.State.{EngineState}
use Rattle.page_lines.specs.declared.lines.Act.{Act}
use Rattle.page_lines.specs.declared.lines.Told.{Told}
use Rattle.acts.specs.declared.seats.Seat.{Seat}
use Rattle.acts.specs.Pagers.{Plays}
use Rattle.acts.proofs.Growth.{acts_under}

pub plays_under : (fewer opened : Opening → Type 0) → ((one : Opening) → fewer one → opened one) → (old : EngineState) (maps : Pin → Option PageMap) (seats : List Seat)
    (acts : List Act) (answers : List Told) (new : EngineState) → Plays opened old maps seats acts answers new → Plays fewer old maps seats acts answers new
plays_under fewer opened among old maps seats [] [] new plays = plays
plays_under fewer opened among old maps seats [] (answer ∷ answers) new never = never
plays_under fewer opened among old maps seats (act ∷ acts) [] new never = never
plays_under fewer opened among old maps seats (act ∷ acts) (answer ∷ answers) new (mid, maps_then, seats_then, acted, keeps, leaves, rest) = (
  mid,
  maps_then,
  seats_then,
  acts_under fewer opened old mid maps maps_then seats act answer seats_then among acted,
  keeps,
  λ opening is. leaves opening (among opening is),
  plays_under fewer opened among mid maps_then seats_then acts answers new rest,
)
