-- What taking bytes from a source means.
use Rattle.std.specs.Prelude.{◌≡◌, ℕ, ◌<◌, List, [], ◌++◌, Option, Some, None}

-- From the bytes that were left, the first ones were taken into a buffer with this much room.
-- Into a buffer with room none are taken only where none were left. A source that tells nothing goes on so.
abbrev pub Takes : Option (List ℕ) → ℕ → List ℕ → Option (List ℕ) → Type 0
Takes None room taken None = Unit {0}
Takes (Some before) room taken (Some after) = (before ≡ taken ++ after) × (0 < room → taken ≡ [] → before ≡ [])
Takes None room taken (Some after) = ⊥
Takes (Some before) room taken None = ⊥
