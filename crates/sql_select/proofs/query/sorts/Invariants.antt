-- What is left is read as all of it is.
use Rattle.std.proofs.Common.{◌≡◌, length, [], ◌∷◌}
use Rattle.grammars.specs.Lists.{more_of}
use Rattle.grammars.specs.Reading.{read}
use Rattle.sql_lexemes.specs.declared.lexeme.Symbol.TheVariants as sign
use Rattle.sql_grammar.specs.Lexemes.{is, one_of}
use Rattle.sql_grammar.specs.Statement.{sort}
use Rattle.sql_grammar.specs.Statement as spec
use Rattle.sql_select.proofs.query.sorts.Given as goal

abbrev pub invariant-loop-more : goal.invariant-loop-more
invariant-loop-more l = read spec.sorts l.fn.lexemes ≡ read (more_of (λ _. is sign.Comma) (one_of (sign.Comma ∷ sign.Limit ∷ sign.Semicolon ∷ [])) (λ _. sort) l.found) l.rest

abbrev pub decreases-loop-more : goal.decreases-loop-more
decreases-loop-more l = length l.rest
