use Rattle.std.proofs.Common.{◌≤◌, arith, ◌∙◌, sym}
use Rattle.tree_spec.proofs.Freelists.{length-numbers_at, number_at, each_number}
use Rattle.freelist.proofs.trunk.are_inside.Goals as goal

pub returns-then-is_outside-clause-outside : goal.returns-then-is_outside-clause-outside
returns-then-is_outside-clause-outside c = λ is. (
  c.get_u32.result,
  (
    c.loop-i.i,
    omega (arith, c.loop-i-test.true, length-numbers_at c.args.page.now 8 c.args.count),
    number_at c.args.page.now 8 c.args.count c.loop-i.i c.get_u32.result c.loop-i-test.true ∙ sym c.get_u32.ensures,
  ),
  c.is_outside.ensures.outside c.if-is_outside.true,
)

pub returns-clause-inside : goal.returns-clause-inside
returns-clause-inside c = λ is.
    each_number (λ leaf. (2 ≤ leaf) × (leaf ≤ c.args.last)) c.args.page.now 8 c.args.count
    (λ k less. c.loop-i.invariant k (omega (arith, less, c.loop-i-test.false)))
