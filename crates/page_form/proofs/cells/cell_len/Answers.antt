use Rattle.std.proofs.Common.{◌∙◌, arith}
use Rattle.page_form.proofs.CellReads.{cell_past, cell_keys_past, cell_is}
use Rattle.page_form.proofs.cells.cell_len.Goals as goal

pub returns-then-start-left : goal.returns-then-start-left
returns-then-start-left c =
    cell_past c.args.kind c.args.u c.args.bytes.now c.args.start (omega (arith, c.from-start.ensures, c.left_size-left.ensures.size))

pub returns-in_default : goal.returns-in_default
returns-in_default c =
    cell_keys_past c.args.kind c.args.u c.args.bytes.now c.args.start c.from-start.result c.left_size-left.result c.from-start.ensures c.left_size-left.ensures.size
    (omega arith) (omega (arith, c.requires)) c.in_default.ensures

pub returns-then-start-len : goal.returns-then-start-len
returns-then-start-len c =
    let is = cell_is c.args.kind c.args.u c.args.bytes.now c.args.start c.from-start.result c.left_size-left.result c.in-Some.keys.size c.in-Some.keys.payload
    c.stored_size.result c.is_table.result c.from-start.ensures c.left_size-left.ensures.size (omega arith) c.in-Some.ensures.2 c.in-Some.ensures.0
    c.is_table.ensures c.stored_size.ensures.value in
    omega (arith, is, c.max-len.ensures, c.from-start.ensures)

pub returns-else-start-len : goal.returns-else-start-len
returns-else-start-len c =
    let is = cell_is c.args.kind c.args.u c.args.bytes.now c.args.start c.from-start.result c.left_size-left.result c.in-Some.keys.size c.in-Some.keys.payload
    c.stored_size.result c.is_table.result c.from-start.ensures c.left_size-left.ensures.size (omega arith) c.in-Some.ensures.2 c.in-Some.ensures.0
    c.is_table.ensures c.stored_size.ensures.value in
    (c.max-len.ensures ∙ is, omega (arith, c.from-start.ensures))
