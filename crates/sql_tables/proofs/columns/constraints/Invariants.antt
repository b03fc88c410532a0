-- What is left is read as all of it is.
use Rattle.std.proofs.Common.{◌≡◌, length}
use Rattle.grammars.specs.Reading.{read}
use Rattle.sql_grammar.specs.Table as spec
use Rattle.sql_tables.proofs.columns.constraints.Given as goal

abbrev pub invariant-loop-found : goal.invariant-loop-found
invariant-loop-found l =
    read (spec.constraints l.fn.wide l.fn.keyed l.fn.first) l.fn.lexemes ≡ read (spec.constraints l.fn.wide l.fn.keyed l.one) l.rest

abbrev pub decreases-loop-found : goal.decreases-loop-found
decreases-loop-found l = length l.rest
