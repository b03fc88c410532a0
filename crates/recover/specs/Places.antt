-- Where the pages stand that an opening writes to Main, and what it leaves of the files meanwhile.
use Rattle.std.specs.Prelude.{◌≡◌, ℕ, ◌+◌, ◌*◌, ◌≤◌, ◌<◌, List, length, take, drop, Contains, Option, Some, None, slice_index_or}
use Rattle.disk_face.specs.Files.{Files, content}
use Rattle.disk_face.specs.Steps.{History, reads}
use Rattle.crash_spec.specs.Marks.{IsLog}
use Rattle.opening_spec.specs.Found.{OpeningView, FoundLog, NamesItsSize, pages_held, page_in}
use Rattle.recover.specs.declared.place.Place.{Place}
use Rattle.recover.specs.declared.place.Place.TheVariants.{InMain, InLog}

-- the file has the page whole there
abbrev pub FitsPlace : Files → ℕ → ℕ → Place → Type 0
FitsPlace files size number InMain = number * size ≤ length files.main
FitsPlace files size number (InLog file at) = at + size ≤ length (content files file)

abbrev pub FitPlaces : Files → ℕ → List Place → Type 0
FitPlaces files size places = (k : ℕ) (none : Place) → k < length places → FitsPlace files size (k + 1) (slice_index_or places k none)

-- no log holds the page; or a log does, and there it has the bytes that it has in the map
abbrev pub IsPlaceOf : OpeningView → FoundLog → FoundLog → Files → ℕ → Place → Type 0
IsPlaceOf view one two files number InMain = Contains (pages_held one two) number → ⊥
IsPlaceOf view one two files number (InLog file at) =
    IsLog file × Contains (pages_held one two) number × (take view.size (drop at (content files file)) ≡ page_in view.size files one two number)

abbrev pub ArePlacesOf : OpeningView → FoundLog → FoundLog → Files → List Place → Type 0
ArePlacesOf view one two files places = (k : ℕ) (none : Place) → k < length places → IsPlaceOf view one two files (k + 1) (slice_index_or places k none)

-- The places are those of all pages of the map, which has one; page 1 names their number; and Main is as long as the view says.
pub record AreSeen (view : OpeningView) (one two : FoundLog) (places : List Place) (files : Files) : Type 0 where
  pub standing : ArePlacesOf view one two files places
  pub count : length places ≡ length view.map
  pub some : 1 ≤ length view.map
  pub names : NamesItsSize view one two
  pub long : length files.main ≡ view.long

-- reads give the same as before
abbrev pub SameReads : Option History → Option History → Type 0
SameReads (Some old) (Some new) = reads new ≡ reads old
SameReads None None = Unit {0}
SameReads None (Some new) = ⊥
SameReads (Some old) None = ⊥

-- the logs are as they were, and Main is no shorter
abbrev pub OnlyMain : Option History → Option History → Type 0
OnlyMain (Some old) (Some new) = ((reads new).log1 ≡ (reads old).log1) × ((reads new).log2 ≡ (reads old).log2) × (length (reads old).main ≤ length (reads new).main)
OnlyMain None None = Unit {0}
OnlyMain None (Some new) = ⊥
OnlyMain (Some old) None = ⊥
