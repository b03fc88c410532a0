-- Each call is for one level less.
use Rattle.parse_tests.proofs.note.Note.+expr.Given as goal

abbrev pub decreases-expr : goal.decreases-expr
decreases-expr l = l.depth
