use Rattle.std.proofs.Common.{arith}
use Rattle.wal_index.proofs.Found.{part_end, none_next, found_next}
use Rattle.wal_index.proofs.frames.next_in_part.Goals as goal

pub returns-then-entry-end : goal.returns-then-entry-end
returns-then-entry-end c = none_next c.args.pages.now c.args.order.now c.args.start c.min-end.result c.args.after c.rank-entry.result
    (record { ordered = c.requires.ordered; starts = c.requires.part.0; ends = part_end c.args.pages.now c.args.start c.min-end.result c.min-end.ensures; ranks = c.rank-entry.ensures })
    c.if-entry-end.true

pub returns : goal.returns
returns c = found_next c.args.pages.now c.args.order.now c.args.start c.min-end.result c.args.after c.rank-entry.result c.place_at.result
    (record { ordered = c.requires.ordered; starts = c.requires.part.0; ends = part_end c.args.pages.now c.args.start c.min-end.result c.min-end.ensures; ranks = c.rank-entry.ensures })
    (omega (arith, c.rank-entry.ensures.to, c.if-entry-end.false)) c.place_at.ensures
