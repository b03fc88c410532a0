use Rattle.std.proofs.Common.{All}
use Rattle.page_lines.specs.Range.{IsInRange}
use Rattle.store_tests.proofs.trial.acts_of.Given as goal

abbrev pub invariant-loop-line : goal.invariant-loop-line
invariant-loop-line l = All IsInRange l.acts.items
