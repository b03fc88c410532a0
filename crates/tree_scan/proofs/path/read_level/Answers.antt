use Rattle.std.proofs.Common.{◌≡◌, ◌==◌, ℕ, Bool, List, length, sym, subst, ap, ◌∙◌, refl}
use Rattle.std.specs.Vec.{with_items}
use Rattle.page_form.specs.Reading.{IsReadPage, Tells}
use Rattle.tree_read.specs.Looking.{HasNode, BarsNode}
use Rattle.tree_scan.specs.Bounded.{of_table}
use Rattle.tree_scan.proofs.Places.{refilled, has_level, bars_buffer, bars_node, bars_place}
use Rattle.tree_scan.proofs.path.read_level.Goals as goal

pub returns-in-Err-clause-barred : goal.returns-in-Err-clause-barred
returns-in-Err-clause-barred g c = bars_buffer g.P.PagesTells c.args.pages.now c.args.seek c.args.bounds.now c.args.page c.args.depth c.in-Err.why c.in-Err.ensures.cause

pub returns-in-Err-read_node-clause-barred : goal.returns-in-Err-read_node-clause-barred
returns-in-Err-read_node-clause-barred g c =
    let p = g.P.PagesTells in
    bars_node p c.args.pages.now c.read_node.new.pages c.args.seek c.args.bounds.now c.args.page c.args.depth c.in-Err-read_node.why
    (subst (λ (b : Bool). BarsNode p c.args.pages.now b c.args.page c.args.depth c.read_node.new.pages c.in-Err-read_node.why) c.is_of_table-table.ensures c.in-Err-read_node.ensures.cause)
    c.in-Err-read_node.ensures.read

pub first_place-requires-clause-page : goal.first_place-requires-clause-page
first_place-requires-clause-page g c =
    let p = g.P.PagesTells in
    let old = c.args.pages.now in
    let now = c.read_node.new.pages in
    let t = of_table c.args.bounds.now in
    let told = c.in-Ok-read_node.node in
    let buf = c.read_node.new.buf in
    let items = (with_items c.in-Ok.bytes buf).items in
    let same : items ≡ buf = refilled buf c.in-Ok.bytes.items c.in-Ok.bytes.len (c.in-Ok-read_node.ensures.room ∙ ap length c.as_mut_slice.ensures.value) c.in-Ok.bytes.ok.0 in
    let has : HasNode p old t c.args.page c.args.depth items told now = subst (λ (b : List ℕ). HasNode p old t c.args.page c.args.depth b told now) (sym same)
    (subst (λ (b : Bool). HasNode p old b c.args.page c.args.depth buf told now) c.is_of_table-table.ensures c.in-Ok-read_node.ensures.node) in
    let read : IsReadPage (p.usable now) items told has.node = record {
      first = c.args.page == 1;
      tells = subst (λ (u : ℕ). Tells u (c.args.page == 1) items told has.node) (sym c.in-Ok-read_node.ensures.reading.edits.usable) has.tells;
    } in
    (has.node, read)

pub returns-in-Ok-first_place-clause-level : goal.returns-in-Ok-first_place-clause-level
returns-in-Ok-first_place-clause-level g c =
    let p = g.P.PagesTells in
    let old = c.args.pages.now in
    let now = c.read_node.new.pages in
    let t = of_table c.args.bounds.now in
    let told = c.in-Ok-read_node.node in
    let buf = c.read_node.new.buf in
    let items = (with_items c.in-Ok.bytes buf).items in
    let same : items ≡ buf = refilled buf c.in-Ok.bytes.items c.in-Ok.bytes.len (c.in-Ok-read_node.ensures.room ∙ ap length c.as_mut_slice.ensures.value) c.in-Ok.bytes.ok.0 in
    let has : HasNode p old t c.args.page c.args.depth items told now = subst (λ (b : List ℕ). HasNode p old t c.args.page c.args.depth b told now) (sym same)
    (subst (λ (b : Bool). HasNode p old b c.args.page c.args.depth buf told now) c.is_of_table-table.ensures c.in-Ok-read_node.ensures.node) in
    let read : IsReadPage (p.usable now) items told has.node = record {
      first = c.args.page == 1;
      tells = subst (λ (u : ℕ). Tells u (c.args.page == 1) items told has.node) (sym c.in-Ok-read_node.ensures.reading.edits.usable) has.tells;
    } in
    has_level p old now c.first_place.new.pages c.args.seek c.args.bounds.now c.args.page c.args.depth
    (record { page = c.args.page; node = told; bytes = with_items c.in-Ok.bytes buf; place = c.in-Ok-first_place.place; at_cell = c.is_leaf-at_cell.result })
    c.in-Ok-read_node.ensures.reading c.in-Ok-first_place.ensures.reading refl c.is_leaf-at_cell.ensures has (c.in-Ok-first_place.ensures.placed has.node read)

pub returns-in-Err-first_place-clause-barred : goal.returns-in-Err-first_place-clause-barred
returns-in-Err-first_place-clause-barred g c =
    let p = g.P.PagesTells in
    let old = c.args.pages.now in
    let now = c.read_node.new.pages in
    let t = of_table c.args.bounds.now in
    let told = c.in-Ok-read_node.node in
    let buf = c.read_node.new.buf in
    let items = (with_items c.in-Ok.bytes buf).items in
    let same : items ≡ buf = refilled buf c.in-Ok.bytes.items c.in-Ok.bytes.len (c.in-Ok-read_node.ensures.room ∙ ap length c.as_mut_slice.ensures.value) c.in-Ok.bytes.ok.0 in
    let has : HasNode p old t c.args.page c.args.depth items told now = subst (λ (b : List ℕ). HasNode p old t c.args.page c.args.depth b told now) (sym same)
    (subst (λ (b : Bool). HasNode p old b c.args.page c.args.depth buf told now) c.is_of_table-table.ensures c.in-Ok-read_node.ensures.node) in
    let read : IsReadPage (p.usable now) items told has.node = record {
      first = c.args.page == 1;
      tells = subst (λ (u : ℕ). Tells u (c.args.page == 1) items told has.node) (sym c.in-Ok-read_node.ensures.reading.edits.usable) has.tells;
    } in
    bars_place p old now c.first_place.new.pages c.args.seek c.args.bounds.now c.args.page c.args.depth items told c.in-Err-first_place.why
    c.in-Ok-read_node.ensures.reading c.in-Err-first_place.ensures.reading has (c.in-Err-first_place.ensures.placed has.node read)
