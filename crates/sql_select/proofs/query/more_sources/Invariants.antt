-- What is left is read as all of it is.
use Rattle.std.proofs.Common.{◌≡◌, length}
use Rattle.grammars.specs.Reading.{read}
use Rattle.sql_grammar.specs.Statement as spec
use Rattle.sql_select.proofs.query.more_sources.Given as goal

abbrev pub invariant-loop-found : goal.invariant-loop-found
invariant-loop-found l = read (spec.more_sources l.fn.first) l.fn.lexemes ≡ read (spec.more_sources l.sources) l.rest

abbrev pub decreases-loop-found : goal.decreases-loop-found
decreases-loop-found l = length l.rest
