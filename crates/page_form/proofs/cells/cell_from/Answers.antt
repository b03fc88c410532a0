use Rattle.std.proofs.Common.{◌+◌, if◌then◌else◌, ◌∙◌, ap, sym, refl, arith}
use Rattle.std.specs.Int.{w64}
use Rattle.std.proofs.lemmas.Int.{to_z-of_z, ints}
use Rattle.page_spec.specs.Bytes.{u32_at}
use Rattle.node_spec.specs.Cells.{local_size, stored_size, spills}
use Rattle.page_form.proofs.CellReads.{cell_room, cell_tells, stored_parts}
use Rattle.page_form.proofs.cells.cell_from.Goals as goal

pub slice_bounds-read_keys-count : goal.slice_bounds-read_keys-count
slice_bounds-read_keys-count c =
    let s = c.requires.stands.1 in
    (cell_room c.args.u c.args.kind c.args.bytes.now c.requires.stands.0 c.args.start c.left_size.result s c.left_size.ensures.size).left_fits

pub unreachable-requires : goal.unreachable-requires
unreachable-requires c =
    let s = c.requires.stands.1 in
    let r = cell_room c.args.u c.args.kind c.args.bytes.now c.requires.stands.0 c.args.start c.left_size.result s c.left_size.ensures.size in
    omega (arith, r.keys_fit, c.in_default.ensures)

pub overflow_page-requires : goal.overflow_page-requires
overflow_page-requires c = λ spilled.
    let s = c.requires.stands.1 in
    let r = cell_room c.args.u c.args.kind c.args.bytes.now c.requires.stands.0 c.args.start c.left_size.result s c.left_size.ensures.size in
    let all = r.stored_fits c.in-Some.keys.size c.in-Some.keys.payload c.stored_size.result c.is_table-table.result c.in-Some.ensures.2 c.in-Some.ensures.0 c.is_table-table.ensures c.stored_size.ensures.value in
    let parts = stored_parts c.is_table-table.result c.args.u c.in-Some.keys.payload c.stored_size.result c.stored_size.ensures.value in
    omega (arith, all, s.high, s.long, parts.1 (sym c.spills-spilled.ensures ∙ spilled), c.local_size-local.ensures.value)

pub returns : goal.returns
returns c = λ text s.
    let table = c.is_table-table.ensures in
    cell_tells c.args.kind c.args.u c.args.bytes.now text c.args.start c.left_size.result c.in-Some.keys.size c.local_size-local.result c.in-Some.keys.payload
    c.in-Some.keys.rowid c.stored_size.result _ s c.left_size.ensures.size c.in-Some.ensures.0 c.in-Some.ensures.1 c.in-Some.ensures.2
    (c.local_size-local.ensures.value ∙ ap (λ t. local_size t c.args.u c.in-Some.keys.payload) table)
    (c.stored_size.ensures.value ∙ ap (λ t. stored_size t c.args.u c.in-Some.keys.payload) table)
    refl c.max.ensures c.left_child.ensures (to_z-of_z w64 c.cast_signed.result (omega (arith, ints)) ∙ c.cast_signed.ensures) refl refl
    (c.overflow_page.ensures ∙ ap (λ b. if b then u32_at c.args.bytes.now (c.args.start + c.left_size.result + c.in-Some.keys.size + c.local_size-local.result) else 0)
    (c.spills-spilled.ensures ∙ ap (λ t. spills t c.args.u c.in-Some.keys.payload) table))
