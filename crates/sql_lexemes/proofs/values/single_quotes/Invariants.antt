-- The bytes so far, and then what the rest gives.
use Rattle.std.proofs.Common.{◌≡◌, false, ◌++◌, length}
use Rattle.sql_lexemes.specs.Values as spec
use Rattle.sql_lexemes.proofs.values.single_quotes.Given as goal

abbrev pub invariant-loop-byte : goal.invariant-loop-byte
invariant-loop-byte l = spec.single_quotes l.quote false l.fn.bytes ≡ l.out.items ++ spec.single_quotes l.quote l.second l.left

abbrev pub decreases-loop-byte : goal.decreases-loop-byte
decreases-loop-byte l = length l.left
