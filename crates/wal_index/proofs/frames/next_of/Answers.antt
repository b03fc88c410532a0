use Rattle.std.proofs.Common.{◌+◌, arith, sym, subst}
use Rattle.wal_index.specs.Parts.{LeastBelow}
use Rattle.wal_index.proofs.Least.{least_on, least_all}
use Rattle.wal_index.proofs.frames.next_of.Goals as goal

pub loop-start-preserved : goal.loop-start-preserved
loop-start-preserved c = (
  omega arith,
  omega arith,
  subst (LeastBelow c.args.pages.now (c.loop-start.start + 4096) c.args.after) (sym c.lesser-least.ensures)
      (least_on c.args.pages.now c.loop-start.start c.args.after c.loop-start.least c.next_in_part.result c.loop-start.invariant.2 c.next_in_part.ensures),
)

pub returns : goal.returns
returns c = least_all c.args.pages.now c.loop-start.start c.args.after c.loop-start.least c.loop-start-test.false c.loop-start.invariant.2
