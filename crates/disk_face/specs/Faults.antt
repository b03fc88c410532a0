-- Counts of faults: how often something outside the program has failed.
use Rattle.std.specs.Prelude.{◌≡◌, ℕ, ◌<◌, ◌≤◌, ◌+◌, ◌-◌, ◌^◌, ◌⊎◌, min, Bool, true, false}

-- the last value of a count, at which it stays
abbrev pub last_count : ℕ
last_count = 2 ^ 64 - 1

-- a count with one more, which stays at its last value
abbrev pub one_more : ℕ → ℕ
one_more count = min (count + 1) last_count

-- The count rose: it is greater than before, or it stands at its last value.
pub record Rose (before after : ℕ) : Type 0 where
  pub later : before ≤ after
  pub counted : (before < after) ⊎ (after ≡ last_count)

-- A call that goes well leaves the count of faults as it was, and in one that doesn't the count rises.
abbrev pub Counts : Bool → ℕ → ℕ → Type 0
Counts true before after = after ≡ before
Counts false before after = Rose before after
