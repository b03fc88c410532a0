use Rattle.std.proofs.Common.{w64, to_z, of_z, sym, ◌∙◌, arith}
use Rattle.std.proofs.lemmas.Int.{to_z-of_z, ints}
use Rattle.tree_check.proofs.RowsTold.{number_names, number_never}
use Rattle.tree_check.proofs.row.page_numbered.Goals as goal

pub returns-then-is_inside_or_none : goal.returns-then-is_inside_or_none
returns-then-is_inside_or_none c =
    number_names c.args.n (to_z w64 (of_z w64 c.args.n)) c.args.last (to_z-of_z w64 c.args.n (omega (arith, ints, c.ranges.n.sfits))) (omega (arith, ints, c.if-n-lt0.false))
    (sym c.is_inside_or_none.ensures ∙ c.if-is_inside_or_none.true)

pub returns-else-is_inside_or_none : goal.returns-else-is_inside_or_none
returns-else-is_inside_or_none c =
    number_never c.args.n (to_z w64 (of_z w64 c.args.n)) c.args.last (to_z-of_z w64 c.args.n (omega (arith, ints, c.ranges.n.sfits)))
    (sym c.is_inside_or_none.ensures ∙ c.if-is_inside_or_none.false)
