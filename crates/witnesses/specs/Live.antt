-- A transaction's pages over the engine in memory.
use Rattle.std.specs.Prelude.{◌≡◌, ℕ, List, ◌∷◌, length, Contains, All, Option, None, IfSome, unwrap_or}
use Rattle.std.specs.List.{slice_index_or}
use Rattle.page_spec.specs.PageMap.{PageMap, page_at}
use Rattle.page_spec.specs.View.{View}
use Rattle.engine_spec.specs.declared.pins.Pin.{Pin}
use Rattle.page_face.specs.Pins.{IsLive}
use Rattle.memory_engine.specs.Plain.{PlainState, PlainLive}

-- the bytes that were put in the place of a page, if any were; the first place is that of page 1
abbrev pub put_at : List (Option (List ℕ)) → ℕ → Option (List ℕ)
put_at puts number = slice_index_or (None ∷ puts) number None

-- what stands over a world
abbrev pub over_world : List (Option (List ℕ)) → View → View
over_world puts world number = unwrap_or (put_at puts number) (world number)

-- a world has the pages that were read
abbrev pub AgreesOn : Option PageMap → List ℕ → View → Type 0
AgreesOn snapshot reads world = IfSome snapshot (λ pages. (number : ℕ) → Contains reads number → world number ≡ page_at pages number)

-- The pin holds, there is a place for each of its pages, and what was put is whole.
pub record IsReady (plain : PlainState) (pin : Pin) (puts : List (Option (List ℕ))) : Type 0 where
  pub live : IsLive PlainLive plain pin
  pub places : length puts ≡ pin.size
  pub whole : All (λ put. IfSome put (λ bytes. length bytes ≡ plain.page_size)) puts
