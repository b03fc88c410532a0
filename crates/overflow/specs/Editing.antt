-- What is left of pages, over one world, once some of them were made, or given up, one after another.
use Rattle.std.specs.Prelude.{◌≡◌, ◌⊎◌, ℕ, ◌<◌, ◌≤◌, true, List, Contains}
use Rattle.page_spec.specs.View.{View, but_freelist}
use Rattle.page_face.specs.declared.pages_tells.PagesTells.{Ghosts}
use Rattle.page_face.specs.Pages.{IsMadeAt, IsReadAt}
use Rattle.tree_spec.specs.Layout.{times}

-- These pages, each of them once, had free numbers, which aren't free any more. The other numbers are free as before, and the pages that weren't free are
-- as before, page 1 but for its freelist fields. The freelist is in order. Beyond what was changed before there are free pages alone, and page 1 where
-- there was a page to spare; beyond what was read before there are free pages alone.
pub record MakesPages {P : Type 0} (pages : Ghosts P) (made : List ℕ) (old new : P) (world : View) : Type 0 where
  pub once : (number : ℕ) → times made number ≤ 1
  pub were_free : (number : ℕ) → 1 ≤ times made number → pages.free old world number
  pub taken : (number : ℕ) → 1 ≤ times made number → pages.free new world number → ⊥
  pub stay : (number : ℕ) → times made number ≡ 0 → pages.free old world number → pages.free new world number
  pub none_more : (number : ℕ) → pages.free new world number → pages.free old world number
  pub each : (number : ℕ) → 1 < number → (pages.free old world number → ⊥) → pages.over new world number ≡ pages.over old world number
  pub first : but_freelist (pages.over new world 1) ≡ but_freelist (pages.over old world 1)
  pub neat : pages.neat new world
  pub no_more_spare : pages.spare new world → pages.spare old world
  pub changed : (number : ℕ) → pages.has new number ≡ true → IsMadeAt pages old world number
  pub read : (number : ℕ) → Contains (pages.reads new) number → IsReadAt pages old world number

-- these pages are in use, and each of them stands in the list once
abbrev pub AreInUse : {P : Type 0} → Ghosts P → P → View → List ℕ → Type 0
AreInUse pages at world list = (number : ℕ) → 1 ≤ times list number → (times list number ≤ 1) × (pages.free at world number → ⊥)

-- These pages are free now, and the other numbers are free as before. The other pages that weren't free are as before, page 1 among them. The freelist stays in
-- order where they were in use, each once.
pub record GivesPages {P : Type 0} (pages : Ghosts P) (gone : List ℕ) (old new : P) (world : View) : Type 0 where
  pub given : (number : ℕ) → 1 ≤ times gone number → pages.free new world number
  pub stay : (number : ℕ) → pages.free old world number → pages.free new world number
  pub none_more : (number : ℕ) → times gone number ≡ 0 → pages.free new world number → pages.free old world number
  pub each : (number : ℕ) → times gone number ≡ 0 → (pages.free old world number → ⊥) → pages.over new world number ≡ pages.over old world number
  pub neat : AreInUse pages old world gone → pages.neat old world → pages.neat new world
  pub no_more_spare : pages.spare new world → pages.spare old world

-- Beyond what was changed before, and beyond what was read before, there are these pages and free ones alone.
pub record TouchesOnly {P : Type 0} (pages : Ghosts P) (list : List ℕ) (old new : P) (world : View) : Type 0 where
  pub changed : (number : ℕ) → pages.has new number ≡ true
      → (pages.has old number ≡ true) ⊎ ((1 ≤ times list number) ⊎ pages.free old world number)
  pub read : (number : ℕ) → Contains (pages.reads new) number
      → Contains (pages.reads old) number ⊎ ((1 ≤ times list number) ⊎ pages.free old world number)
