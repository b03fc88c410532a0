-- The pages of a transaction over its snapshot in an engine: which worlds it may be reading, and when they may be read.
use Rattle.std.specs.Prelude.{◌≡◌, ℕ, List, length, Contains, All, Option, None, Some, IfSome}
use Rattle.page_spec.specs.PageMap.{PageMap, page_at}
use Rattle.page_spec.specs.View.{View}
use Rattle.engine_spec.specs.declared.pins.Pin.{Pin}
use Rattle.engine_spec.specs.Change.{Change}
use Rattle.page_face.specs.declared.engine_tells.EngineTells.{Ghosts}
use Rattle.page_face.specs.Pins.{IsLive}
use Rattle.overlay.specs.Overlay.{OverlayState}

-- A world that a transaction may be reading: it has the pages of the snapshot's map that were read. Where the map isn't told, there is none.
abbrev pub MayBeRead : Option PageMap → List ℕ → View → Type 0
MayBeRead None reads world = ⊥
MayBeRead (Some pages) reads world = (number : ℕ) → Contains reads number → world number ≡ page_at pages number

-- each changed and each new page has all bytes of a page
pub record AreWhole (size : ℕ) (change : Change) : Type 0 where
  pub changed : All (λ image. length image.bytes ≡ size) change.changed
  pub fresh : All (λ image. length image.bytes ≡ size) change.fresh

-- The pin holds and is of the transaction's snapshot, and each page that it keeps is whole.
pub record IsOfPin {E M : Type 0} (told : Ghosts E M) (engine : E) (pin : Pin) (overlay : OverlayState) : Type 0 where
  pub hold : IsLive told.live engine pin
  pub snap : pin.n ≡ overlay.snap
  pub base : pin.size ≡ overlay.change.base
  pub whole : AreWhole (told.state engine).page_size overlay.change
  pub marked : IfSome overlay.marked (AreWhole (told.state engine).page_size)
