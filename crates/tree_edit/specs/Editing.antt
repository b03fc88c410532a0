-- What calls on pages leave of them, over one world, said by the pages that they read, put, made and gave up.
use Rattle.std.specs.Prelude.{◌≡◌, ◌⊎◌, ℕ, ◌+◌, ◌<◌, ◌≤◌, true, List, [], ◌∷◌, ◌++◌, length, Contains}
use Rattle.page_spec.specs.View.{View, but_freelist}
use Rattle.page_face.specs.declared.pages_tells.PagesTells.{Ghosts}
use Rattle.tree_spec.specs.Layout.{times}

-- The pages of some calls, in lists that are only counted.
pub record PageLists : Type 0 where
  pub read : List ℕ
  pub put : List ℕ
  pub made : List ℕ
  pub gone : List ℕ

-- the pages of calls in a row
abbrev pub lists_joined : PageLists → PageLists → PageLists
lists_joined one two = record { read = one.read ++ two.read; put = one.put ++ two.put; made = one.made ++ two.made; gone = one.gone ++ two.gone }

-- some page was made or given up, so that free pages were looked at
abbrev pub UsesFreelist : PageLists → Type 0
UsesFreelist lists = 1 ≤ length lists.made + length lists.gone

-- How a number is free, by how often its page was made and given up: as before; or it was made last, was free and isn't any more; or it was given up last, wasn't
-- free and is now.
pub data IsFreeBy (Before After : Type 0) (made gone : ℕ) : Type 0 where
  kept : made ≡ gone → (Before → After) → (After → Before) → IsFreeBy Before After made gone
  taken : made ≡ gone + 1 → Before → (After → ⊥) → IsFreeBy Before After made gone
  given : gone ≡ made + 1 → (Before → ⊥) → After → IsFreeBy Before After made gone

-- A page has the same bytes as before, page 1 but for its freelist fields.
pub record HasSameBytes (number : ℕ) (before after : List ℕ) : Type 0 where
  pub whole : 1 < number → after ≡ before
  pub first : number ≡ 1 → but_freelist after ≡ but_freelist before

-- a page that such calls may change: one that they put or give up, and where the freelist is used a free one, and page 1 where there is a page to spare
abbrev pub MayChange : {P : Type 0} → Ghosts P → PageLists → P → View → ℕ → Type 0
MayChange pages lists old world number = (1 ≤ times lists.put number) ⊎ ((1 ≤ times lists.gone number)
    ⊎ (UsesFreelist lists × (pages.free old world number ⊎ (pages.spare old world × (number ≡ 1)))))

-- a page that they may read: one that they read or give up, and where the freelist is used a free one
abbrev pub MayRead : {P : Type 0} → Ghosts P → PageLists → P → View → ℕ → Type 0
MayRead pages lists old world number = (1 ≤ times lists.read number) ⊎ ((1 ≤ times lists.gone number) ⊎ (UsesFreelist lists × pages.free old world number))

-- Over a world whose freelist was in order such calls were made, and it still is. The pages in use that weren't put or given up are as before, and no more pages
-- were changed and read than said. A page is given up only where it was in use.
pub record EditsPages {P : Type 0} (pages : Ghosts P) (lists : PageLists) (old new : P) (world : View) : Type 0 where
  pub free : (number : ℕ) → IsFreeBy (pages.free old world number) (pages.free new world number) (times lists.made number) (times lists.gone number)
  pub same : (number : ℕ) → (pages.free old world number → ⊥) → times lists.put number ≡ 0 → times lists.gone number ≡ 0
      → HasSameBytes number (pages.over old world number) (pages.over new world number)
  pub neat : pages.neat new world
  pub no_more_spare : pages.spare new world → pages.spare old world
  pub changed : (number : ℕ) → pages.has new number ≡ true → (pages.has old number ≡ true) ⊎ MayChange pages lists old world number
  pub read : (number : ℕ) → Contains (pages.reads new) number → Contains (pages.reads old) number ⊎ MayRead pages lists old world number

-- the pages of single calls
abbrev pub reading : List ℕ → PageLists
reading list = record { read = list; put = []; made = []; gone = [] }

abbrev pub putting : List ℕ → PageLists
putting list = record { read = []; put = list; made = []; gone = [] }

abbrev pub making : List ℕ → PageLists
making list = record { read = []; put = []; made = list; gone = [] }

abbrev pub giving : List ℕ → PageLists
giving list = record { read = []; put = []; made = []; gone = list }

-- a page and others made for it: the page was read and put
abbrev pub storing : (page : ℕ) → (made : List ℕ) → PageLists
storing page made = record { read = page ∷ []; put = page ∷ []; made = made; gone = [] }
