-- What is left is read as all of it is.
use Rattle.std.proofs.Common.{◌≡◌, length}
use Rattle.grammars.specs.Reading.{read}
use Rattle.sql_grammar.specs.Table as spec
use Rattle.sql_tables.proofs.types.type_words.Given as goal

abbrev pub invariant-loop-other : goal.invariant-loop-other
invariant-loop-other l = read (spec.type_words l.fn.wide l.fn.first) l.fn.lexemes ≡ read (spec.type_words l.fn.wide l.all) l.rest

abbrev pub decreases-loop-other : goal.decreases-loop-other
decreases-loop-other l = length l.rest
