-- What is left makes of the number so far what all of it makes of 0.
use Rattle.std.proofs.Common.{◌≡◌, length}
use Rattle.std.specs.List.{list_all}
use Rattle.sql_text.specs.Token.{is_digit}
use Rattle.sql_lexemes.specs.Values.{number_of, number_from, capped}
use Rattle.sql_lexemes.proofs.values.number.Given as goal

abbrev pub invariant-loop-byte : goal.invariant-loop-byte
invariant-loop-byte l =
    (list_all is_digit l.fn.bytes ≡ list_all is_digit l.left) × (capped (number_of l.fn.bytes) ≡ capped (number_from l.number l.left))

abbrev pub decreases-loop-byte : goal.decreases-loop-byte
decreases-loop-byte l = length l.left
