-- A file in memory.
use Rattle.std.specs.Prelude.{ℕ, List}

-- what it held at first, and what it holds
pub record FileState : Type 0 where
  pub first : List ℕ
  pub bytes : List ℕ
