-- What an act of sessions over an engine leaves, where no other pins than theirs are looked at.
use Rattle.std.proofs.Common.{◌≡◌, List, [], ◌++◌, sym, subst}
use Rattle.std.specs.Prelude.{Contains, Option}
use Rattle.std.proofs.lemmas.List.{append-nil}
use Rattle.std.proofs.lemmas.List.Elements.{Contains-append_left}
use Rattle.page_spec.specs.PageMap.{PageMap}
use Rattle.engine_spec.specs.declared.pins.Pin.{Pin}
use Rattle.acts.specs.declared.seats.Seat.{Seat}
use Rattle.acts.specs.Pagers.{KeepsMaps, pins_of}

-- the sessions' own pins hold, with no others
pub alone_held : {E : Type 0} (live : E → List Pin → Type 0) (engine : E) (seats : List Seat) → live engine (pins_of seats) → live engine (pins_of seats ++ [])
alone_held live engine seats held = subst (live engine) (sym (append-nil (pins_of seats))) held

pub live_alone : {E : Type 0} (live : E → List Pin → Type 0) (old new : E) (seats seats_then : List Seat)
    → ((others : List Pin) → live old (pins_of seats ++ others) → live new (pins_of seats_then ++ others)) → live old (pins_of seats)
    → live new (pins_of seats_then)
live_alone live old new seats seats_then lives held = subst (live new) (append-nil (pins_of seats_then)) (lives [] (alone_held live old seats held))

-- and the maps of those that stay are as they were
pub maps_alone : {E : Type 0} (live : E → List Pin → Type 0) (map_at : E → Pin → Option PageMap) (old new : E) (seats seats_then : List Seat)
    → live old (pins_of seats)
    → ((others : List Pin) (pin : Pin) → live old (pins_of seats ++ others) → Contains (pins_of seats_then ++ others) pin
    → Contains (pins_of seats ++ others) pin → map_at new pin ≡ map_at old pin)
    → KeepsMaps seats (map_at old) seats_then (map_at new)
maps_alone live map_at old new seats seats_then held maps = λ pin was is.
    maps [] pin (alone_held live old seats held) (Contains-append_left (pins_of seats_then) [] pin is) (Contains-append_left (pins_of seats) [] pin was)
