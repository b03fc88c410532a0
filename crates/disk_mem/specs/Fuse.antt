-- A call that is to fail, named by how many calls from now it comes.
use Rattle.std.specs.Prelude.{ℕ, ◌-◌, Option, Some, None}

-- The same call named after one call more. 0 names a call that has been.
abbrev pub burnt : Option ℕ → Option ℕ
burnt None = None
burnt (Some calls) = Some (calls - 1)
