-- The lexemes and places so far, and then those of the tokens that are left.
use Rattle.std.proofs.Common.{◌≡◌, ◌++◌, length}
use Rattle.std.specs.Prelude.{All}
use Rattle.sql_text.specs.Cut.{IsWithin}
use Rattle.sql_lexemes.specs.Lexemes as spec
use Rattle.sql_lexemes.proofs.join.joined.Given as goal

abbrev pub invariant-loop-token : goal.invariant-loop-token
invariant-loop-token l = record {
  lexemes : spec.lexemes_from l.fn.text l.fn.tokens l.fn.bad ≡ l.lexemes.items ++ spec.lexemes_from l.fn.text l.left l.fn.bad;
  places : spec.places_from l.fn.tokens l.fn.bad ≡ l.places.items ++ spec.places_from l.left l.fn.bad;
  within : All (IsWithin l.fn.text) l.left;
}

abbrev pub decreases-loop-token : goal.decreases-loop-token
decreases-loop-token l = length l.left
