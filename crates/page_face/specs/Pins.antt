-- The pins that hold in an engine, and how a call changes them. `live` says of a list that its pins hold, equal ones as often as
-- they stand there; `map_at` gives a pin's map.
use Rattle.std.specs.Prelude.{◌≡◌, List, ◌∷◌, ◌++◌, Contains, Option}
use Rattle.page_spec.specs.PageMap.{PageMap}
use Rattle.engine_spec.specs.declared.pins.Pin.{Pin}

-- the pin holds
abbrev pub IsLive : {E : Type 0} → (E → List Pin → Type 0) → E → Pin → Type 0
IsLive live engine pin = (pins : List Pin) × live engine pins × Contains pins pin

-- Each pin that held holds, with the same map.
pub record KeepsPins {E : Type 0} (live : E → List Pin → Type 0) (map_at : E → Pin → Option PageMap) (old new : E) : Type 0 where
  pub hold : (pins : List Pin) → live old pins → live new pins
  pub maps : (pin : Pin) → IsLive live old pin → map_at new pin ≡ map_at old pin

-- One pin more holds, and each that held does, with the same map.
pub record AddsPin {E : Type 0} (live : E → List Pin → Type 0) (map_at : E → Pin → Option PageMap) (old : E) (pin : Pin) (new : E) : Type 0 where
  pub added : (before after : List Pin) → live old (before ++ after) → live new (before ++ pin ∷ after)
  pub maps : (other : Pin) → IsLive live old other → map_at new other ≡ map_at old other

-- A pin is given back, once, and each other that held holds, with the same map.
pub record TakesPin {E : Type 0} (live : E → List Pin → Type 0) (map_at : E → Pin → Option PageMap) (old : E) (pin : Pin) (new : E) : Type 0 where
  pub taken : (before after : List Pin) → live old (before ++ pin ∷ after) → live new (before ++ after)
  pub maps : (other : Pin) → IsLive live new other → map_at new other ≡ map_at old other
