-- Which page numbers a transaction may give out over a world: those behind its last page, those that it gave up, and for a plain one those
-- of the freelist that its page 1 names.
use Rattle.std.specs.Prelude.{◌⊎◌, ℕ, ◌^◌, ◌<◌, ◌≤◌, List, Contains}
use Rattle.page_spec.specs.Bytes.{u32_at}
use Rattle.page_spec.specs.View.{View}
use Rattle.engine_spec.specs.declared.commits.Mode.{Mode}
use Rattle.engine_spec.specs.declared.commits.Mode.TheVariants.{Plain, Concurrent}
use Rattle.engine_spec.specs.Change.{Change}
use Rattle.tree_spec.specs.Layout.{times}
use Rattle.tree_spec.specs.Freelist.{IsFreelist}
use Rattle.overlay.specs.Overlay.{last_page, over_change}

-- the number of the last page of a database of the least page size that is as large as may be
abbrev pub greatest_page : ℕ
greatest_page = 2 ^ 21

-- A number behind the last page, as far as a database may go, or of a page that was given up. Greater numbers aren't free: where others made
-- pages meanwhile, these may stand there.
abbrev pub IsFreeNumber : Change → ℕ → Type 0
IsFreeNumber change number = ((last_page change < number) × (number ≤ greatest_page)) ⊎ Contains change.freed number

-- where page 1 has the number of the first trunk of the freelist, and how many pages that has
abbrev pub trunk_field : ℕ
trunk_field = 32

abbrev pub count_field : ℕ
count_field = 36

-- These pages of the snapshot, up to its last one, are the freelist that page 1 names.
abbrev pub IsNamedList : (usable base : ℕ) → View → List ℕ → Type 0
IsNamedList usable base view list = IsFreelist usable base view (u32_at (view 1) trunk_field) (u32_at (view 1) count_field) list

-- A plain transaction takes pages of the freelist; a concurrent one takes none, since others may take the same.
abbrev pub IsListed : Mode → (usable base : ℕ) → View → ℕ → Type 0
IsListed Plain usable base view number = (list : List ℕ) × IsNamedList usable base view list × (1 ≤ times list number)
IsListed Concurrent usable base view number = ⊥

-- The freelist has each page once, and none that was given up: those join it at COMMIT.
abbrev pub IsListNeat : Mode → (usable base : ℕ) → (freed : List ℕ) → View → Type 0
IsListNeat Plain usable base freed view = (list : List ℕ) × IsNamedList usable base view list × ((number : ℕ) → times list number ≤ 1)
    × ((number : ℕ) → 1 ≤ times list number → Contains freed number → ⊥)
IsListNeat Concurrent usable base freed view = Unit {0}

-- the freelist has a page
abbrev pub HasListed : Mode → View → Type 0
HasListed Plain view = 0 < u32_at (view 1) count_field
HasListed Concurrent view = ⊥

-- all of it over a world, for pages of which so many bytes are in use
abbrev pub IsFreeOver : (usable : ℕ) → Change → View → ℕ → Type 0
IsFreeOver usable change world number = IsFreeNumber change number ⊎ IsListed change.mode usable change.base (over_change change world) number

abbrev pub IsNeatOver : (usable : ℕ) → Change → View → Type 0
IsNeatOver usable change world = IsListNeat change.mode usable change.base change.freed (over_change change world)

abbrev pub SparesOver : Change → View → Type 0
SparesOver change world = HasListed change.mode (over_change change world)
