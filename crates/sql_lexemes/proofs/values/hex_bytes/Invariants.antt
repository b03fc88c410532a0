-- The bytes so far, and then those of the other digits.
use Rattle.std.proofs.Common.{◌≡◌, ◌++◌, length}
use Rattle.sql_lexemes.specs.Values as spec
use Rattle.sql_lexemes.proofs.values.hex_bytes.Given as goal

abbrev pub invariant-loop-high : goal.invariant-loop-high
invariant-loop-high l = spec.hex_bytes l.fn.digits ≡ l.out.items ++ spec.hex_bytes l.left

abbrev pub decreases-loop-high : goal.decreases-loop-high
decreases-loop-high l = length l.left
