-- What is left is read as all of it is.
use Rattle.std.proofs.Common.{◌≡◌, length}
use Rattle.grammars.specs.Reading.{read}
use Rattle.sql_grammar.specs.Table as spec
use Rattle.sql_tables.proofs.columns.more_columns.Given as goal

abbrev pub invariant-loop-more : goal.invariant-loop-more
invariant-loop-more l = read (spec.more_columns l.fn.wide l.fn.first) l.fn.lexemes ≡ read (spec.more_columns l.fn.wide l.table) l.rest

abbrev pub decreases-loop-more : goal.decreases-loop-more
decreases-loop-more l = length l.rest
