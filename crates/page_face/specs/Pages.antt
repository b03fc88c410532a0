-- What is left of pages, over one world that the caller may be reading, and whatever the world. The records take all that the pages
-- tell as one value.
use Rattle.std.specs.Prelude.{◌≡◌, ◌≢◌, ◌⊎◌, ℕ, ◌+◌, ◌*◌, ◌<◌, ◌≤◌, true, if◌then◌else◌, List, Contains}
use Rattle.disk_face.specs.Faults.{Rose}
use Rattle.page_spec.specs.Header.{database_limit}
use Rattle.page_spec.specs.View.{View, view_with, freelist_fields, but_freelist}
use Rattle.engine_spec.specs.declared.commits.FetchFault.{FetchFault}
use Rattle.engine_spec.specs.declared.commits.FetchFault.TheVariants as fault
use Rattle.engine_spec.specs.PageSet.{with_page}
use Rattle.page_face.specs.declared.pages_tells.PagesTells.{Ghosts}

-- The same numbers are free as before, and the freelist is in order, and has a page to spare, where it did.
pub record KeepsFree {P : Type 0} (pages : Ghosts P) (old new : P) (world : View) : Type 0 where
  pub stay : (number : ℕ) → pages.free old world number → pages.free new world number
  pub none_more : (number : ℕ) → pages.free new world number → pages.free old world number
  pub neat : pages.neat old world → pages.neat new world
  pub spare : pages.spare old world → pages.spare new world
  pub no_more_spare : pages.spare new world → pages.spare old world

-- All pages are as before, and so is the freelist.
pub record KeepsPages {P : Type 0} (pages : Ghosts P) (old new : P) (world : View) : Type 0 where
  pub each : (number : ℕ) → pages.over new world number ≡ pages.over old world number
  pub list : KeepsFree pages old new world

-- bytes for page 1 leave the freelist fields that it had
abbrev pub LeavesFields : ℕ → List ℕ → List ℕ → Type 0
LeavesFields page first bytes = page ≡ 1 → freelist_fields bytes ≡ freelist_fields first

-- A page has these bytes, and the others are as before. So is the freelist, if it was in order, the page wasn't free, and page 1
-- keeps its freelist fields.
pub record PutsPage {P : Type 0} (pages : Ghosts P) (old : P) (page : ℕ) (bytes : List ℕ) (new : P) (world : View) : Type 0 where
  pub each : (number : ℕ) → pages.over new world number ≡ view_with (pages.over old world) page bytes number
  pub list : (pages.free old world page → ⊥) → pages.neat old world → LeavesFields page (pages.over old world 1) bytes
      → KeepsFree pages old new world

-- A number that was free isn't any more, and the others are free as before. The pages that weren't free are as before, page 1 but
-- for its freelist fields, and the freelist is in order. The number is of a page that there was where the freelist had one to
-- spare, else it follows the last page.
pub record TakesPage {P : Type 0} (pages : Ghosts P) (old : P) (page : ℕ) (new : P) (world : View) : Type 0 where
  pub was_free : pages.free old world page
  pub taken : pages.free new world page → ⊥
  pub stay : (number : ℕ) → number ≢ page → pages.free old world number → pages.free new world number
  pub none_more : (number : ℕ) → pages.free new world number → pages.free old world number
  pub each : (number : ℕ) → 1 < number → (pages.free old world number → ⊥) → pages.over new world number ≡ pages.over old world number
  pub first : but_freelist (pages.over new world 1) ≡ but_freelist (pages.over old world 1)
  pub neat : pages.neat new world
  pub spared : pages.spare old world → page ≤ pages.last_page old
  pub grown : (pages.spare old world → ⊥) → page ≡ pages.last_page old + 1
  pub no_more_spare : pages.spare new world → pages.spare old world

-- A page is free now, and the other numbers are free as before. The other pages that weren't free are as before. The freelist
-- stays in order, if the page wasn't free already.
pub record GivesUp {P : Type 0} (pages : Ghosts P) (old : P) (page : ℕ) (new : P) (world : View) : Type 0 where
  pub given : pages.free new world page
  pub stay : (number : ℕ) → pages.free old world number → pages.free new world number
  pub none_more : (number : ℕ) → number ≢ page → pages.free new world number → pages.free old world number
  pub each : (number : ℕ) → number ≢ page → (pages.free old world number → ⊥) → pages.over new world number ≡ pages.over old world number
  pub neat : (pages.free old world page → ⊥) → pages.neat old world → pages.neat new world
  pub no_more_spare : pages.spare new world → pages.spare old world

-- What every call leaves, whatever it does and also where it is refused: the worlds that are told are among those before, no page
-- that was there, changed or read is forgotten, the sizes and the loans stay, and what stands behind the pages goes on.
pub record Editing {P : Type 0} (pages : Ghosts P) (old new : P) : Type 0 where
  pub narrows : (world : View) → pages.tells new world → pages.tells old world
  pub last : pages.last_page old ≤ pages.last_page new
  pub has : (number : ℕ) → pages.has old number ≡ true → pages.has new number ≡ true
  pub reads : (number : ℕ) → Contains (pages.reads old) number → Contains (pages.reads new) number
  pub ready : pages.ready new
  pub page_size : pages.page_size new ≡ pages.page_size old
  pub usable : pages.usable new ≡ pages.usable old
  pub faults : pages.faults old ≤ pages.faults new
  pub loans : pages.loans new ≡ pages.loans old
  pub follows : pages.follows old new

-- Pages were read at most: over each world that is still told all of them are as before, and so are their count and what was changed.
pub record ReadsAtMost {P : Type 0} (pages : Ghosts P) (old new : P) : Type 0 where
  pub each : (world : View) → pages.tells new world → KeepsPages pages old new world
  pub last : pages.last_page new ≡ pages.last_page old
  pub has : (number : ℕ) → pages.has new number ≡ pages.has old number
  pub edits : Editing pages old new

-- a page that is changed now was changed before, or was free, or is page 1 where a page was to spare
abbrev pub IsMadeAt : {P : Type 0} → Ghosts P → P → View → ℕ → Type 0
IsMadeAt pages old world number =
    (pages.has old number ≡ true) ⊎ (pages.free old world number ⊎ (pages.spare old world × (number ≡ 1)))

-- a page that is changed now was changed before, or is the one given up, or was free
abbrev pub IsGivenAt : {P : Type 0} → Ghosts P → P → View → ℕ → ℕ → Type 0
IsGivenAt pages old world page number =
    (pages.has old number ≡ true) ⊎ ((number ≡ page) ⊎ pages.free old world number)

-- a page that was read was read before, or was free
abbrev pub IsReadAt : {P : Type 0} → Ghosts P → P → View → ℕ → Type 0
IsReadAt pages old world number = Contains (pages.reads old) number ⊎ pages.free old world number

-- the pages of the world that were read, once this one is: one that is changed reads nothing of the world
abbrev pub pages_read : {P : Type 0} → Ghosts P → P → ℕ → List ℕ
pages_read pages old page = if pages.has old page then pages.reads old else with_page (pages.reads old) page

-- a fault that says nothing of the pages: the disk failed and counted it, or memory ran out
abbrev pub IsFromOutside : ℕ → ℕ → FetchFault → Type 0
IsFromOutside before after fault.Disk = Rose before after
IsFromOutside before after (fault.Corrupt page) = ⊥
IsFromOutside before after (fault.Size pages) = ⊥
IsFromOutside before after fault.Memory = Unit {0}

-- Why no page could be taken: the page that breaks its form is one that there was, and the size that is told is that with one
-- page more, which ends past the limit on a database.
abbrev pub BarsFresh : (last page_size before after : ℕ) → FetchFault → Type 0
BarsFresh last page_size before after fault.Disk = Rose before after
BarsFresh last page_size before after (fault.Corrupt page) = (1 ≤ page) × (page ≤ last)
BarsFresh last page_size before after (fault.Size pages) = (pages ≡ last + 1) × (database_limit < pages * page_size)
BarsFresh last page_size before after fault.Memory = Unit {0}

-- over a world whose freelist is in order no page of that breaks its form, and the size bars only where it has no page to spare
abbrev pub BarsNeat : Type 0 → FetchFault → Type 0
BarsNeat spare fault.Disk = Unit {0}
BarsNeat spare (fault.Corrupt page) = ⊥
BarsNeat spare (fault.Size pages) = spare → ⊥
BarsNeat spare fault.Memory = Unit {0}
