-- The freelist: the pages of a database that aren't in use, held by trunk pages that follow one another.
-- Source: SQLite's "Database File Format", "The Freelist".
--
-- | bytes of a trunk page | what                                           |
-- | 0 to 3                | the number of the next trunk, 0 in the last one |
-- | 4 to 7                | how many leaves it lists                        |
-- | from 8 on             | the numbers of these leaves, of four bytes each |
--
-- A trunk and its leaves are free alike. What stands in a leaf means nothing.
use Rattle.std.specs.Prelude.{◌≡◌, ℕ, zero, suc, ◌+◌, ◌-◌, ◌/◌, ◌≤◌, List, [], ◌∷◌, ◌++◌, length}
use Rattle.page_spec.specs.Bytes.{u32_at}
use Rattle.page_spec.specs.View.{View}
use Rattle.tree_spec.specs.Layout.{Each}

-- so many numbers of four bytes, one behind the other from an offset on
abbrev pub numbers_at : List ℕ → (at count : ℕ) → List ℕ
numbers_at bytes at zero = []
numbers_at bytes at (suc count) = u32_at bytes at ∷ numbers_at bytes (at + 4) count

-- a trunk page: the number of the next trunk, and the leaves that it lists
pub record Trunk : Type 0 where
  pub next : ℕ
  pub leaves : List ℕ

-- the trunk in a page
abbrev pub trunk_in : List ℕ → Trunk
trunk_in page = record { next = u32_at page 0; leaves = numbers_at page 8 (u32_at page 4) }

-- how many leaves there is room for in a page
abbrev pub most_leaves : (usable : ℕ) → ℕ
most_leaves usable = usable / 4 - 2

-- A trunk lists no more leaves than there is room for, each a page from 2 to the last one.
pub record IsTrunk (usable last : ℕ) (trunk : Trunk) : Type 0 where
  pub room : length trunk.leaves ≤ most_leaves usable
  pub range : Each (λ leaf. (2 ≤ leaf) × (leaf ≤ last)) trunk.leaves

-- These trunks, each a page from 2 to the last one, follow one another from the first number on, and the last of them names the next number.
abbrev pub AreTrunks : (usable last : ℕ) → View → (first : ℕ) → List ℕ → (next : ℕ) → Type 0
AreTrunks usable last view first [] next = next ≡ first
AreTrunks usable last view first (page ∷ pages) next =
    (page ≡ first) × (2 ≤ page) × (page ≤ last) × IsTrunk usable last (trunk_in (view page)) × AreTrunks usable last view (trunk_in (view page)).next pages next

-- what trunks hold: each trunk itself and then its leaves
abbrev pub held_by : View → List ℕ → List ℕ
held_by view [] = []
held_by view (page ∷ pages) = page ∷ (trunk_in (view page)).leaves ++ held_by view pages

-- These pages, so many, are the freelist from the first trunk on, in its order. Its last trunk names 0, and a list without a page begins
-- there. That a page stands in it once is said where pages are counted.
pub record IsFreelist (usable last : ℕ) (view : View) (first count : ℕ) (list : List ℕ) : Type 0 where
  pub trunks : List ℕ
  pub follow : AreTrunks usable last view first trunks 0
  pub held : list ≡ held_by view trunks
  pub counted : count ≡ length list
