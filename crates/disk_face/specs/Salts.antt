-- What the next word of a source of salts is.
use Rattle.std.specs.Prelude.{◌≡◌, ℕ, List, [], ◌∷◌, Option, Some, None}

-- The first of the words that were to come is given, and the others are still to come. Once all of them are given nothing
-- is said of a word. A source that tells nothing goes on so.
abbrev pub Gives : Option (List ℕ) → ℕ → Option (List ℕ) → Type 0
Gives None word None = Unit {0}
Gives (Some []) word (Some after) = after ≡ []
Gives (Some (next ∷ before)) word (Some after) = (word ≡ next) × (after ≡ before)
Gives None word (Some after) = ⊥
Gives (Some before) word None = ⊥
