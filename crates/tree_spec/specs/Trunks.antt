-- How a trunk page changes where a page is taken out of the freelist and where one is put in. A leaf's own bytes never change.
-- Source: SQLite's "Database File Format", "The Freelist".
use Rattle.std.specs.Prelude.{◌≡◌, ℕ, ◌+◌, ◌-◌, ◌*◌, ◌/◌, List, [], ◌∷◌, ◌++◌, length, replicate}
use Rattle.page_spec.specs.Bytes.{u32_at, DiffersOnlyWithin}
use Rattle.tree_spec.specs.Freelist.{trunk_in}

-- How many leaves this program puts into a trunk: it leaves the last six places empty, which the first versions of SQLite misread.
abbrev pub leaves_put : (usable : ℕ) → ℕ
leaves_put usable = usable / 4 - 8

-- A trunk loses its last leaf: it counts one less, and no other byte changes.
pub record LosesLeaf (bytes bytes_then : List ℕ) (leaf : ℕ) : Type 0 where
  pub others : List ℕ
  pub had : (trunk_in bytes).leaves ≡ others ++ leaf ∷ []
  pub has : trunk_in bytes_then ≡ record { next = (trunk_in bytes).next; leaves = others }
  pub rest : DiffersOnlyWithin bytes bytes_then 4 8

-- A trunk gets a leaf behind those that it has: it counts one more, and no byte changes behind the new number.
pub record GetsLeaf (bytes bytes_then : List ℕ) (leaf : ℕ) : Type 0 where
  pub has : trunk_in bytes_then ≡ record { next = (trunk_in bytes).next; leaves = (trunk_in bytes).leaves ++ leaf ∷ [] }
  pub rest : DiffersOnlyWithin bytes bytes_then 4 (12 + 4 * length (trunk_in bytes).leaves)

-- a new trunk without leaves: zeros but for the number of the next one
pub record IsNewTrunk (size next : ℕ) (bytes : List ℕ) : Type 0 where
  pub next_is : u32_at bytes 0 ≡ next
  pub rest : DiffersOnlyWithin (replicate size 0) bytes 0 4
