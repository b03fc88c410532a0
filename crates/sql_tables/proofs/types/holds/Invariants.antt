use Rattle.std.proofs.Common.{◌≡◌, length}
use Rattle.sql_grammar.specs.Lexemes.{holds}
use Rattle.sql_tables.proofs.types.holds.Given as goal

abbrev pub invariant-loop-rest : goal.invariant-loop-rest
invariant-loop-rest l = holds l.fn.word l.fn.bytes ≡ holds l.fn.word l.left

abbrev pub decreases-loop-rest : goal.decreases-loop-rest
decreases-loop-rest l = length l.left
