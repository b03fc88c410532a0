-- What a file in memory holds.
use Rattle.std.specs.Prelude.{ℕ, List, Option, Some, None, Vec}
use Rattle.std.specs.declared.alloc.Global.{Global}

-- what was written over, or else what it held at first
abbrev pub held : Vec ℕ Global → Option (Vec ℕ Global) → List ℕ
held first None = first.items
held first (Some changed) = changed.items
