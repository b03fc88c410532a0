use Rattle.std.proofs.Common.{arith, inl, inr}
use borrow.Author.Tests.{leb-true}
use Rattle.page_spec.specs.Bytes.{u32_at}
use Rattle.tree_spec.proofs.Freelists.{length-numbers_at}
use Rattle.freelist.proofs.trunk.lists_too_many.Goals as goal

pub returns-then-count-saturating_sub-clause-many : goal.returns-then-count-saturating_sub-clause-many
returns-then-count-saturating_sub-clause-many c = λ is.
    inl (omega (arith, length-numbers_at c.args.page.now 8 (u32_at c.args.page.now 4), c.if-count-saturating_sub.true, c.saturating_sub.ensures, c.get_u32-count.ensures))

pub returns-else-count-saturating_sub-clause-many : goal.returns-else-count-saturating_sub-clause-many
returns-else-count-saturating_sub-clause-many c = λ is.
    let less = leb-true c.args.left c.get_u32-count.result is in
    inr (omega (arith, less, length-numbers_at c.args.page.now 8 (u32_at c.args.page.now 4), c.get_u32-count.ensures))
