-- The tokens of the text are those so far, and then those from here on.
use Rattle.std.proofs.Common.{◌≡◌, ◌-◌, ◌≤◌, length}
use Rattle.sql_text.specs.Cut.{tokens_from}
use Rattle.sql_text.proofs.Cutting.{here, before}
use Rattle.sql_text.proofs.cut.cut_text.Given as goal

abbrev pub invariant-loop-at : goal.invariant-loop-at
invariant-loop-at l = (tokens_from 0 0 l.text ≡ before l.tokens.items (here l.text l.at)) × (l.at ≤ length l.text)

abbrev pub decreases-loop-at : goal.decreases-loop-at
decreases-loop-at l = length l.text - l.at
