-- What putting bytes into a sink means.
use Rattle.std.specs.Prelude.{◌≡◌, ℕ, Bool, false, ◌==◌, ◌||◌, nat_lt, List, ◌++◌, Option, Some, None, Result, Ok, Err}

-- These bytes were added at the end of those written. A sink that tells nothing goes on so.
abbrev pub Puts : Option (List ℕ) → List ℕ → Option (List ℕ) → Type 0
Puts None added None = Unit {0}
Puts (Some before) added (Some after) = after ≡ before ++ added
Puts None added (Some after) = ⊥
Puts (Some before) added None = ⊥

-- Whether a put of a piece of so many bytes went well: it wrote some of them, or there were none to write.
abbrev pub goes_well : {E : Type 0} → ℕ → Result ℕ E → Bool
goes_well length (Ok count) = nat_lt 0 count || length == 0
goes_well length (Err failed) = false
