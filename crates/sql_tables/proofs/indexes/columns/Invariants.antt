-- What is left is read as all of it is.
use Rattle.std.proofs.Common.{◌≡◌, length}
use Rattle.grammars.specs.Lists.{more_of}
use Rattle.grammars.specs.Reading.{read}
use Rattle.sql_grammar.specs.Table as spec
use Rattle.sql_grammar.specs.Table.{comma_below, ends_column}
use Rattle.sql_tables.proofs.indexes.columns.Given as goal

abbrev pub invariant-loop-more : goal.invariant-loop-more
invariant-loop-more l = read (spec.names_below 16) l.fn.lexemes ≡ read (more_of (comma_below 16) ends_column (λ _. spec.name) l.found) l.rest

abbrev pub decreases-loop-more : goal.decreases-loop-more
decreases-loop-more l = length l.rest
