use Rattle.std.proofs.Common.{◌≡◌, length}
use Rattle.sql_grammar.specs.Lexemes.{begins_with}
use Rattle.sql_exprs.proofs.lexeme.begins_with.Given as goal

abbrev pub invariant-loop-letter : goal.invariant-loop-letter
invariant-loop-letter l = begins_with l.fn.word l.fn.bytes ≡ begins_with l.letters l.left

abbrev pub decreases-loop-letter : goal.decreases-loop-letter
decreases-loop-letter l = length l.letters
