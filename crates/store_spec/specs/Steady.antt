-- What holds besides of a store between its calls.
use Rattle.std.specs.Prelude.{◌≡◌, ◌⊎◌, ℕ, ◌<◌, ◌≤◌, ◌^◌, List, length, All, Option, None, IfSome}
use Rattle.disk_face.specs.Steps.{History, reads}
use Rattle.page_spec.specs.Header.{fields_of, page_size_in}
use Rattle.log_spec.specs.Accept.{Frame, page_number, page_of}
use Rattle.engine_spec.specs.declared.pins.Pin.{Pin}
use Rattle.engine_spec.specs.declared.pins.Readers.{Readers}
use Rattle.log_pair.specs.Pair.{PairView}
use Rattle.store_spec.specs.Store.{StoreData, current_read, since_of}
use Rattle.store_spec.specs.Named.{AreNamed}

-- A frame, where it is of page 1, names this page size; and so does each of some frames.
abbrev pub NamesSize : ℕ → Frame → Type 0
NamesSize size frame = page_number frame ≡ 1 → page_size_in (fields_of (page_of frame)) ≡ size

abbrev pub AllName : ℕ → List Frame → Type 0
AllName size frames = All (NamesSize size) frames

-- the first salts of both logs are of 32 bits
abbrev pub AreSalts : PairView → Type 0
AreSalts pair = (pair.one.header.salt1 < 2 ^ 32) × (pair.two.header.salt1 < 2 ^ 32)

-- the current log has a commit, or no commit stands before its first
abbrev pub HasBegun : StoreData → Type 0
HasBegun kept = (since_of kept < length kept.history) ⊎ (since_of kept ≡ 0)

-- Each map that stands names the page size, and so does each page 1 in the current log; a store that isn't stopped has begun its current log; and no
-- pin has more pages than the newest map.
pub record IsSteady (told : Option History) (kept : StoreData) (readers : Readers) (pins : List Pin) : Type 0 where
  pub named : AreNamed told kept readers
  pub frames : IfSome told (λ told. AllName kept.page_size (current_read kept.pair (reads told)))
  pub salts : AreSalts kept.pair
  pub begun : kept.stop ≡ None → HasBegun kept
  pub smaller : All (λ pin. pin.size ≤ kept.size) pins
