-- What is left is compared as all of it is.
use Rattle.std.proofs.Common.{◌≡◌, length}
use Rattle.sql_lexemes.specs.Words.{same_word}
use Rattle.sql_lexemes.proofs.words.is.Given as goal

abbrev pub invariant-loop-byte : goal.invariant-loop-byte
invariant-loop-byte l = same_word l.fn.word l.fn.spelling ≡ same_word l.left l.wanted

abbrev pub decreases-loop-byte : goal.decreases-loop-byte
decreases-loop-byte l = length l.left
