-- Overflow chains: the pages that hold the end of a payload which is too large for its cell.
-- Source: SQLite's "Database File Format", "Cell Payload Overflow Pages".
use Rattle.std.specs.Prelude.{◌≡◌, ℕ, ◌-◌, ◌<◌, ◌≤◌, List, [], ◌∷◌, ◌++◌, take}
use Rattle.tree_spec.specs.Shown.{Shown}

-- These pages, each from 2 to the last one, are the chain from the first page on that holds so many bytes. A chain has just the pages
-- that its bytes need, and 0 stands where the next number would.
abbrev pub IsChain : (usable last : ℕ) → Shown → (first size : ℕ) → List ℕ → Type 0
IsChain usable last shown first size [] = (size ≡ 0) × (first ≡ 0)
IsChain usable last shown first size (page ∷ pages) =
    (0 < size) × (page ≡ first) × (2 ≤ page) × (page ≤ last) × IsChain usable last shown (shown.link page).next (size - (usable - 4)) pages

-- the first so many bytes that the pages of a chain hold
abbrev pub chain_bytes : (usable : ℕ) → Shown → List ℕ → (size : ℕ) → List ℕ
chain_bytes usable shown [] size = []
chain_bytes usable shown (page ∷ pages) size = take size (shown.link page).bytes ++ chain_bytes usable shown pages (size - (usable - 4))
