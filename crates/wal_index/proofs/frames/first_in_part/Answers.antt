use Rattle.std.proofs.Common.{arith}
use Rattle.wal_index.proofs.Found.{part_end, none_above, found_first, none_first}
use Rattle.wal_index.proofs.frames.first_in_part.Goals as goal

pub returns-then-entry-end : goal.returns-then-entry-end
returns-then-entry-end c = none_above c.args.pages.now c.args.order.now c.args.start c.min-end.result c.args.page c.args.from c.rank-entry.result
    (record { ordered = c.requires.ordered; starts = c.requires.part.0; ends = part_end c.args.pages.now c.args.start c.min-end.result c.min-end.ensures; ranks = c.rank-entry.ensures })
    c.if-entry-end.true

pub returns-then-pages-place : goal.returns-then-pages-place
returns-then-pages-place c = found_first c.args.pages.now c.args.order.now c.args.start c.min-end.result c.args.page c.args.from c.rank-entry.result c.place_at-place.result
    (record { ordered = c.requires.ordered; starts = c.requires.part.0; ends = part_end c.args.pages.now c.args.start c.min-end.result c.min-end.ensures; ranks = c.rank-entry.ensures })
    (omega (arith, c.rank-entry.ensures.to, c.if-entry-end.false)) c.place_at-place.ensures c.if-pages-place.true

pub returns-else-pages-place : goal.returns-else-pages-place
returns-else-pages-place c = none_first c.args.pages.now c.args.order.now c.args.start c.min-end.result c.args.page c.args.from c.rank-entry.result c.place_at-place.result
    (record { ordered = c.requires.ordered; starts = c.requires.part.0; ends = part_end c.args.pages.now c.args.start c.min-end.result c.min-end.ensures; ranks = c.rank-entry.ensures })
    (omega (arith, c.rank-entry.ensures.to, c.if-entry-end.false)) c.place_at-place.ensures c.if-pages-place.false
