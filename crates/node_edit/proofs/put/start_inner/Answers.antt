use Rattle.std.proofs.Common.{Some, length, ap, sym, ◌∙◌, arith}
use Rattle.page_edit.specs.Forms.{empty_node}
use Rattle.node_edit.specs.Runs.{spelled_by, weight_of}
use Rattle.node_edit.proofs.Rows.{room_for, part_whole, length_spelled, took_all, begun_with}
use Rattle.node_edit.proofs.put.start_inner.Goals as goal

pub put_all-requires : goal.put_all-requires
put_all-requires c =
    let e = c.listed-run.ensures in
    let cells = spelled_by c.args.kind c.args.u c.args.cells.now in
    let len = length_spelled c.args.kind c.args.u c.args.cells.now in
    let whole = ap weight_of (part_whole cells (length c.args.cells.now) (sym len)) in
    record { room = room_for cells (empty_node c.args.kind c.args.right) e.usable (sym e.kind) e.run (omega arith) (omega (arith, len)) c.start_page.ensures.shows (omega arith) (omega (arith, whole, c.requires.room)) }

pub returns-clause-shows : goal.returns-clause-shows
returns-clause-shows c =
    let e = c.listed-run.ensures in
    let cells = spelled_by c.args.kind c.args.u c.args.cells.now in
    let len = length_spelled c.args.kind c.args.u c.args.cells.now in
    took_all c.args.first c.start_page.new.bytes c.put_all.new.bytes 0 cells (empty_node c.args.kind c.args.right) e.usable e.run (sym len) c.start_page.ensures.shows c.put_all.ensures.put ∙ ap Some (begun_with c.args.kind c.args.right cells)
