-- A store's three files on a disk.
use Rattle.std.specs.Prelude.{◌≡◌, ◌≢◌, ◌⊎◌, ℕ, ◌+◌, ◌/◌, ◌≤◌, ◌<◌, List, [], ◌∷◌, ◌++◌, length, Contains, Option}
use Rattle.disk_face.specs.declared.disk.File.{File}
use Rattle.disk_face.specs.declared.disk.File.TheVariants.{Main}
use Rattle.disk_face.specs.Files.{Files, content}
use Rattle.disk_face.specs.Steps.{History, reads}
use Rattle.disk_face.specs.Image.{unsure, IsSure}
use Rattle.page_spec.specs.Header.{fields_of, page_size_in}
use Rattle.page_spec.specs.PageMap.{PageMap}
use Rattle.log_spec.specs.LogHeader.{LogFields, log_fields, header_bytes, header_size, IsOurs}
use Rattle.log_spec.specs.Accept.{Frame, page_numbers, last_size}
use Rattle.crash_spec.specs.Marks.{number_of, other_of}
use Rattle.crash_spec.specs.Opening.{Opening}
use Rattle.crash_spec.specs.Known.{known_pieces, IsWithoutChance}
use Rattle.crash_spec.specs.Logs.{IsWhole, IsOnDisk, IsOnlyHeader, IsFresh}
use Rattle.crash_spec.specs.Passes.{Passes}
use Rattle.crash_spec.specs.Recovered.{main_page, page_after_frames, overlaid, recovered, first_bytes}

-- Main is on the medium, but for pages that these numbers name.
abbrev pub MainIsSure : Opening → History → ℕ → List ℕ → Type 0
MainIsSure opening told size covered =
    (place : ℕ) → place < length (reads told).main → (Contains covered (place / size + 1) → ⊥) → IsSure (unsure opening.before told.steps) Main place

-- the page size that page 1 names
abbrev pub named_size : List ℕ → List Frame → List Frame → ℕ
named_size main older newer = page_size_in (fields_of (first_bytes main older newer))

-- The files of a store: the current log with its frames and what is on its way behind them, the other log with its frames, which are older,
-- and Main, of which only pages that the other log's frames hold may be on their way.
pub record AreOnDisk (opening : Opening) (told : History) (current : File) (header older : LogFields) (frames pending other : List Frame) (size : ℕ) : Type 0 where
  pub newest : IsOnDisk opening told current header frames pending
  pub oldest : IsOnDisk opening told (other_of current) older other []
  pub rising : older.generation < header.generation
  pub main : MainIsSure opening told size (page_numbers other)
  pub some_size : 100 ≤ size

-- what a crash leaves of a store: a map, or another one where that may be
abbrev pub Recovers : Opening → PageMap → (Type 0) → PageMap → History → Files → Type 0
Recovers opening before may after told image = IsWithoutChance opening told image → (recovered image ≡ before) ⊎ (may × (recovered image ≡ after))

-- The files hold a store whose newest map is `map`: what is on the disk lies over Main as this map, whose pages have this size. `later` is the
-- map with the pending frames too: where a write or a sync of a commit failed, a crash may leave that one.
pub record HoldsStore (opening : Opening) (current : File) (header older : LogFields) (frames pending other : List Frame) (size : ℕ) (map later : PageMap) (told : History) : Type 0 where
  pub on : AreOnDisk opening told current header older frames pending other size
  pub sized : named_size (reads told).main other frames ≡ size
  pub sized_later : last_size pending ≢ 0 → named_size (reads told).main other (frames ++ pending) ≡ size
  pub is : map ≡ overlaid (reads told).main other frames
  pub is_later : last_size pending ≢ 0 → later ≡ overlaid (reads told).main other (frames ++ pending)

-- All that is said of a store on a disk, as one value that a clause can range over.
pub record StoreView : Type 0 where
  pub current : File
  pub header : LogFields
  pub older : LogFields
  pub frames : List Frame
  pub pending : List Frame
  pub other : List Frame
  pub size : ℕ
  pub map : PageMap
  pub later : PageMap

abbrev pub Holds : Opening → StoreView → History → Type 0
Holds opening view told = HoldsStore opening view.current view.header view.older view.frames view.pending view.other view.size view.map view.later told

-- what a crash may leave of it: its newest map, or the one that was on its way
abbrev pub Leaves : Opening → StoreView → History → Files → Type 0
Leaves opening view told image = Recovers opening view.map (last_size view.pending ≢ 0) view.later told image

-- The files hold the same store before and after, and so at each moment.
abbrev pub KeepsStore : Opening → StoreView → Option History → Option History → Type 0
KeepsStore opening view old new = Passes opening (Leaves opening view) (Holds opening view) old new

-- Laying the older log's frames over Main leaves its pages.
abbrev pub IsCopied : ℕ → List ℕ → List Frame → Type 0
IsCopied size main older = (number : ℕ) → 1 ≤ number → page_after_frames older number (main_page size main number) ≡ main_page size main number

-- What has to hold where a commit goes over to the other log: that log, its header alone known at its front, and Main are all on the
-- medium, all that the log holds was copied, page 1 is among the current frames, and no known piece of that log has the salts of the
-- new header.
pub record MaySwitch (opening : Opening) (told : History) (current : File) (frames other : List Frame) (size : ℕ) (new_bytes : List ℕ) : Type 0 where
  pub main : IsWhole opening told Main
  pub other_log : IsWhole opening told (other_of current)
  pub only : IsOnlyHeader (known_pieces opening told) (other_of current) (header_bytes (content (reads told) (other_of current)))
  pub copied : IsCopied size (reads told).main other
  pub page_1 : Contains (page_numbers frames) 1
  pub long : length new_bytes ≡ header_size
  pub ours : IsOurs (number_of (other_of current)) new_bytes
  pub fresh : IsFresh ((record { file = other_of current; at = 0; bytes = new_bytes }) ∷ known_pieces opening told) (other_of current) (log_fields new_bytes) header_size []
