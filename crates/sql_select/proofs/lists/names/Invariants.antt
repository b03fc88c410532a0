-- What is left is read as all of it is.
use Rattle.std.proofs.Common.{◌≡◌, length}
use Rattle.grammars.specs.Lists.{more_of}
use Rattle.grammars.specs.Reading.{read}
use Rattle.sql_lexemes.specs.declared.lexeme.Symbol.TheVariants as sign
use Rattle.sql_grammar.specs.Table.{ends_column, name}
use Rattle.sql_grammar.specs.Lexemes.{is}
use Rattle.sql_grammar.specs.Statement as spec
use Rattle.sql_select.proofs.lists.names.Given as goal

abbrev pub invariant-loop-more : goal.invariant-loop-more
invariant-loop-more l = read spec.names l.fn.lexemes ≡ read (more_of (λ _. is sign.Comma) ends_column (λ _. name) l.found) l.rest

abbrev pub decreases-loop-more : goal.decreases-loop-more
decreases-loop-more l = length l.rest
