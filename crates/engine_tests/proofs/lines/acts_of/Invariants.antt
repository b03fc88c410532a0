use Rattle.std.proofs.Common.{All}
use Rattle.page_lines.specs.Range.{IsInRange}
use Rattle.engine_tests.proofs.lines.acts_of.Given as goal

abbrev pub invariant-loop-row : goal.invariant-loop-row
invariant-loop-row g l = All IsInRange l.acts.items
