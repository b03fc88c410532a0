-- One level of depth less, or a tighter rung.
use Rattle.std.proofs.Common.{◌≡◌, ◌≤◌, ◌+◌, ◌-◌, ◌*◌}
use Rattle.grammars.specs.Reading.{read}
use Rattle.sql_grammar.specs.Expr as spec
use Rattle.sql_grammar.specs.Expr.{less}
use Rattle.sql_exprs.proofs.expr.+ladder.Given as goal

abbrev pub decreases-expression : goal.decreases-expression
decreases-expression l = l.room * 20 + l.level * 2 + 1

abbrev pub decreases-argument : goal.decreases-argument
decreases-argument l = (l.room + 1) * 20 - 2

abbrev pub decreases-aggregated : goal.decreases-aggregated
decreases-aggregated l = (l.room + 1) * 20 - 1

abbrev pub decreases-term : goal.decreases-term
decreases-term l = (l.room + 1) * 20

abbrev pub decreases-signed : goal.decreases-signed
decreases-signed l = (l.room + 1) * 20 + 2

abbrev pub decreases-negation : goal.decreases-negation
decreases-negation l = (l.room + 1) * 20 + 12

abbrev pub decreases-linked : goal.decreases-linked
decreases-linked l = l.room * 20 + l.level * 2 + 2

abbrev pub decreases-binary : goal.decreases-binary
decreases-binary l = (l.room + 1) * 20 + l.level * 2 + 2

-- what is left is read as all of it is
abbrev pub invariant-binary-loop-link : goal.invariant-binary-loop-link
invariant-binary-loop-link l =
    (read (spec.binary (l.fn.room + 1) l.fn.place (less (spec.ladder l.fn.room)) l.fn.level (spec.ladder (l.fn.room + 1) l.fn.place l.fn.level)) l.fn.lexemes
    ≡ read (spec.links (l.fn.room + 1) (spec.ladder l.fn.room) l.fn.place l.fn.level l.left) l.rest)
    × (l.left.depth ≤ l.fn.room + 1)

abbrev pub decreases-binary-loop-link : goal.decreases-binary-loop-link
decreases-binary-loop-link l = l.room + 1 - l.left.depth
