use Rattle.std.proofs.Common.{arith}
use Rattle.wal_index.proofs.Orders.{below_rank, above_rank}
use Rattle.wal_index.proofs.frames.rank.Goals as goal

pub loop-low-preserved-then-is_before : goal.loop-low-preserved-then-is_before
loop-low-preserved-then-is_before c = let kept = c.loop-low.invariant in (
  omega arith,
  omega arith,
  kept.2,
  below_rank c.args.pages.now c.args.order.now c.args.start c.args.end c.args.page c.args.place _
      c.requires.ordered c.requires.part.0 c.requires.part.2 c.requires.part.3 (omega (arith, kept.2)) (c.is_before.ensures.yes c.if-is_before.true),
  kept.4,
)

pub loop-low-preserved : goal.loop-low-preserved
loop-low-preserved c = let kept = c.loop-low.invariant in (
  kept.0,
  omega arith,
  omega arith,
  kept.3,
  above_rank c.args.pages.now c.args.order.now c.args.start c.args.end c.args.page c.args.place _
      c.requires.ordered c.requires.part.0 c.requires.part.2 c.requires.part.3 (omega (arith, kept.0)) (c.is_before.ensures.no c.if-is_before.false),
)
