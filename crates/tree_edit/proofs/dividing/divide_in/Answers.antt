use Rattle.std.proofs.Common.{◌∙◌}
use Rattle.node_spec.specs.Cells.{cell_in}
use Rattle.tree_edit.specs.Roots.{inner_kind}
use Rattle.tree_edit.proofs.Divided.{under_held, divided_put, beside_bars, needless_bars}
use Rattle.tree_edit.proofs.dividing.divide_in.Goals as goal

pub returns-in-Err-clause-cause : goal.returns-in-Err-clause-cause
returns-in-Err-clause-cause g c =
    beside_bars g.P.PagesTells c.args.pages.now c.fetch_beside.new.pages c.args.table c.args.left c.args.right
    (cell_in (inner_kind c.args.table) (g.P.PagesTells.usable c.args.pages.now) c.args.cell.now) c.in-Err.why c.in-Err.ensures.cause

pub returns-in-Ok-None-clause-cause : goal.returns-in-Ok-None-clause-cause
returns-in-Ok-None-clause-cause g c =
    needless_bars g.P.PagesTells c.args.pages.now c.fetch_beside.new.pages c.args.table c.args.left c.args.right c.fetch_beside.new.one c.fetch_beside.new.two c.in-Ok.told
    c.usable_of.result c.args.cell.now (c.usable_of.ensures.value ∙ c.fetch_beside.ensures.reading.edits.usable) c.in-Ok.ensures.nodes
    (c.in-Ok-None.ensures.none c.in-Ok-None.field-0-is)

pub returns-in-Ok-store_both-clause-above : goal.returns-in-Ok-store_both-clause-above
returns-in-Ok-store_both-clause-above g c =
    (under_held g.P.PagesTells c.args.pages.now c.fetch_beside.new.pages c.args.table c.args.left c.args.right c.fetch_beside.new.one c.fetch_beside.new.two c.in-Ok.told
    c.usable_of.result c.args.cell.now c.in-Ok-Some.text c.divide_under.new.left c.divide_under.new.right
    (c.usable_of.ensures.value ∙ c.fetch_beside.ensures.reading.edits.usable) c.in-Ok.ensures.nodes (c.in-Ok-Some.ensures.divided c.in-Ok-Some.text c.in-Ok-Some.field-0-is)).is_above

pub returns-in-Ok-store_both-clause-divided : goal.returns-in-Ok-store_both-clause-divided
returns-in-Ok-store_both-clause-divided g c = λ world told neat used_left used_right.
    let p = g.P.PagesTells in
    let old = c.args.pages.now in
    let mid = c.fetch_beside.new.pages in
    let have = c.in-Ok.ensures.nodes in
    let one = c.divide_under.new.left in
    let two = c.divide_under.new.right in
    divided_put p old mid c.store_both.new.pages world c.args.table c.args.left c.args.right c.fetch_beside.new.one c.fetch_beside.new.two c.in-Ok.told
    (cell_in (inner_kind c.args.table) (p.usable old) c.args.cell.now) c.in-Ok-Some.text one two
    c.fetch_beside.ensures.reading c.fetch_beside.ensures.read have (c.store_both.ensures.edits.narrows world told) neat used_left used_right
    (under_held p old mid c.args.table c.args.left c.args.right c.fetch_beside.new.one c.fetch_beside.new.two c.in-Ok.told c.usable_of.result c.args.cell.now c.in-Ok-Some.text one two
    (c.usable_of.ensures.value ∙ c.fetch_beside.ensures.reading.edits.usable) have (c.in-Ok-Some.ensures.divided c.in-Ok-Some.text c.in-Ok-Some.field-0-is))
    (c.in-Ok-store_both.ensures.stored world told)
