use Rattle.std.proofs.Common.{arith}
use Rattle.wal_index.proofs.Found.{part_end, none_below, found_last, none_last}
use Rattle.wal_index.proofs.frames.last_in_part.Goals as goal

pub returns-then-entry-start : goal.returns-then-entry-start
returns-then-entry-start c = none_below c.args.pages.now c.args.order.now c.args.start c.min-end.result c.args.page c.args.limit c.rank-entry.result
    (record { ordered = c.requires.ordered; starts = c.requires.part.0; ends = part_end c.args.pages.now c.args.start c.min-end.result c.min-end.ensures; ranks = c.rank-entry.ensures })
    (omega arith)

pub returns-then-pages-place : goal.returns-then-pages-place
returns-then-pages-place c = found_last c.args.pages.now c.args.order.now c.args.start c.min-end.result c.args.page c.args.limit c.rank-entry.result c.place_at-place.result
    (record { ordered = c.requires.ordered; starts = c.requires.part.0; ends = part_end c.args.pages.now c.args.start c.min-end.result c.min-end.ensures; ranks = c.rank-entry.ensures })
    (omega (arith, c.rank-entry.ensures.from, c.if-entry-start.false)) c.place_at-place.ensures c.if-pages-place.true

pub returns-else-pages-place : goal.returns-else-pages-place
returns-else-pages-place c = none_last c.args.pages.now c.args.order.now c.args.start c.min-end.result c.args.page c.args.limit c.rank-entry.result c.place_at-place.result
    (record { ordered = c.requires.ordered; starts = c.requires.part.0; ends = part_end c.args.pages.now c.args.start c.min-end.result c.min-end.ensures; ranks = c.rank-entry.ensures })
    (omega (arith, c.rank-entry.ensures.from, c.if-entry-start.false)) c.place_at-place.ensures c.if-pages-place.false
