use Rattle.node_spec.specs.Nodes.{cell_at}
use Rattle.tree_scan.proofs.Places.{tested, not_tested, cell_told}
use Rattle.tree_scan.proofs.seek.is_under.Goals as goal

pub read_row-requires-clause-cell : goal.read_row-requires-clause-cell
read_row-requires-clause-cell g c =
    let level = c.args.level.now in
    let shown = c.requires.cell.0 in (
      cell_at shown c.args.k,
      cell_told (g.P.PagesTells.usable c.args.pages.now) c.usable_of.result level.bytes.items c.as_slice.result.now level.node shown c.args.k
          c.read_cell-cell.result c.usable_of.ensures.value c.as_slice.ensures.value c.requires.cell.1.0 (λ read. c.read_cell-cell.ensures shown read),
    )

pub returns-in-Ok-clause-tested : goal.returns-in-Ok-clause-tested
returns-in-Ok-clause-tested g c = λ shown read.
    let level = c.args.level.now in
    let cell = cell_told (g.P.PagesTells.usable c.args.pages.now) c.usable_of.result level.bytes.items c.as_slice.result.now level.node shown c.args.k
    c.read_cell-cell.result c.usable_of.ensures.value c.as_slice.ensures.value read (λ again. c.read_cell-cell.ensures shown again) in
    tested g.P.PagesTells c.args.pages.now c.read_row.new.pages (cell_at shown c.args.k) level.page c.args.values.now c.in-Ok.row c.is_below.result
    (c.in-Ok.ensures.row (cell_at shown c.args.k) cell) c.is_below.ensures.below c.is_below.ensures.not

pub returns-in-Err-clause-tested : goal.returns-in-Err-clause-tested
returns-in-Err-clause-tested g c = λ shown read.
    let level = c.args.level.now in
    let cell = cell_told (g.P.PagesTells.usable c.args.pages.now) c.usable_of.result level.bytes.items c.as_slice.result.now level.node shown c.args.k
    c.read_cell-cell.result c.usable_of.ensures.value c.as_slice.ensures.value read (λ again. c.read_cell-cell.ensures shown again) in
    not_tested g.P.PagesTells c.args.pages.now c.read_row.new.pages (cell_at shown c.args.k) level.page c.args.values.now c.in-Err.why
    (c.in-Err.ensures.row (cell_at shown c.args.k) cell)
