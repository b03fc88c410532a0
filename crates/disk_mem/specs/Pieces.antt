-- What a source and a sink in memory are.
use Rattle.std.specs.Prelude.{ℕ, List, Option}

-- a source
pub record SourceState : Type 0 where
  -- the bytes that are left
  pub left : List ℕ
  -- the greatest piece of one call
  pub most : ℕ
  -- which call from now on fails, from 1
  pub fails_in : Option ℕ
  -- how often it has failed
  pub faults : ℕ

-- a sink
pub record SinkState : Type 0 where
  -- the bytes written
  pub written : List ℕ
  -- the greatest piece of one call
  pub most : ℕ
  -- which call from now on fails, from 1
  pub fails_in : Option ℕ
  -- how often it has failed
  pub faults : ℕ
