use Rattle.std.proofs.Common.{◌≡◌, ℕ, List, length, ◌∙◌, sym, subst, arith, w64, to_z, of_z}
use Rattle.std.proofs.lemmas.Int.{to_z-of_z, ints}
use Rattle.page_form.specs.Reading.{IsReadPage, TellsCell}
use Rattle.node_spec.specs.Nodes.{cell_at}
use Rattle.tree_read.proofs.Descents.{cell_again}
use Rattle.tree_scan.specs.Bounded.{of_table, IsKeyOver}
use Rattle.tree_scan.proofs.Lasts.{cut_last}
use Rattle.tree_scan.proofs.Shows.{top_of, count_levels}
use Rattle.tree_scan.proofs.Taking.{at_cell, first_over, none_taken, row_taken, row_barred, chain_taken, chain_barred, is_there}
use Rattle.tree_scan.proofs.row.row_at.Goals as goal

pub returns-then-count-eq0-clause-taken : goal.returns-then-count-eq0-clause-taken
returns-then-count-eq0-clause-taken g c = none_taken (of_table c.args.bounds.now) g.P.PagesTells c.args.pages.now c.args.levels.now.items

pub returns-then-is_key_over-clause-taken : goal.returns-then-is_key_over-clause-taken
returns-then-is_key_over-clause-taken g c = none_taken (of_table c.args.bounds.now) g.P.PagesTells c.args.pages.now c.args.levels.now.items

pub returns-then-is_key_over-clause-takes : goal.returns-then-is_key_over-clause-takes
returns-then-is_key_over-clause-takes g c =
    let p = g.P.PagesTells in
    let t = of_table c.args.bounds.now in
    let old = c.args.pages.now in
    let levels = c.args.levels.now.items in
    let cut = cut_last levels (omega (arith, c.if-count-eq0.false, c.len-count.ensures)) in
    let count : c.len-count.result ≡ length levels = omega (arith, c.len-count.ensures, count_levels c.args.levels.now) in
    let top = c.index-top.result.now in
    let found = top_of t p old levels cut.above cut.top top c.len-count.result c.requires.levels.0 cut.is count c.index-top.ensures in
    let at = at_cell t p old levels top found.1 c.requires.cell c.requires.left in
    let is_level = at.is_top.is_level in
    let node = is_level.node in
    let read : IsReadPage c.usable_of-usable.result c.as_slice.result.now top.node node = subst (λ (b : List ℕ). IsReadPage c.usable_of-usable.result b top.node node) (sym c.as_slice.ensures.value)
    (subst (λ (u : ℕ). IsReadPage u top.bytes.items top.node node) (sym c.usable_of-usable.ensures.value) is_level.read) in
    let told : TellsCell c.usable_of-usable.result node.kind c.as_slice.result.now c.read_cell-cell.result (cell_at node top.place) = c.read_cell-cell.ensures node read in
    let rowid = to_z w64 (of_z w64 c.read_cell-cell.result.rowid) in
    let back = to_z-of_z w64 c.read_cell-cell.result.rowid (omega (arith, ints)) in
    first_over p old levels top c.args.bounds.now at (subst (IsKeyOver c.args.bounds.now) (back ∙ told.rowid) (c.is_key_over.ensures.over c.if-is_key_over.true))

pub read_row-requires-clause-cell : goal.read_row-requires-clause-cell
read_row-requires-clause-cell g c =
    let p = g.P.PagesTells in
    let t = of_table c.args.bounds.now in
    let old = c.args.pages.now in
    let levels = c.args.levels.now.items in
    let cut = cut_last levels (omega (arith, c.if-count-eq0.false, c.len-count.ensures)) in
    let count : c.len-count.result ≡ length levels = omega (arith, c.len-count.ensures, count_levels c.args.levels.now) in
    let top = c.index-top.result.now in
    let found = top_of t p old levels cut.above cut.top top c.len-count.result c.requires.levels.0 cut.is count c.index-top.ensures in
    let at = at_cell t p old levels top found.1 c.requires.cell c.requires.left in
    let is_level = at.is_top.is_level in
    let node = is_level.node in
    let read : IsReadPage c.usable_of-usable.result c.as_slice.result.now top.node node = subst (λ (b : List ℕ). IsReadPage c.usable_of-usable.result b top.node node) (sym c.as_slice.ensures.value)
    (subst (λ (u : ℕ). IsReadPage u top.bytes.items top.node node) (sym c.usable_of-usable.ensures.value) is_level.read) in
    let told : TellsCell c.usable_of-usable.result node.kind c.as_slice.result.now c.read_cell-cell.result (cell_at node top.place) = c.read_cell-cell.ensures node read in
    let cell : TellsCell (p.usable old) top.node.kind top.bytes.items c.read_cell-cell.result (cell_at node top.place) =
    subst (λ (b : List ℕ). TellsCell (p.usable old) top.node.kind b c.read_cell-cell.result (cell_at node top.place)) c.as_slice.ensures.value
    (cell_again _ _ _ _ _ _ _ c.usable_of-usable.ensures.value is_level.read.tells.kind told) in
    (cell_at node top.place, cell)

pub returns-in-Ok-clause-takes : goal.returns-in-Ok-clause-takes
returns-in-Ok-clause-takes g c =
    let p = g.P.PagesTells in
    let t = of_table c.args.bounds.now in
    let old = c.args.pages.now in
    let levels = c.args.levels.now.items in
    let cut = cut_last levels (omega (arith, c.if-count-eq0.false, c.len-count.ensures)) in
    let count : c.len-count.result ≡ length levels = omega (arith, c.len-count.ensures, count_levels c.args.levels.now) in
    let top = c.index-top.result.now in
    let found = top_of t p old levels cut.above cut.top top c.len-count.result c.requires.levels.0 cut.is count c.index-top.ensures in
    let at = at_cell t p old levels top found.1 c.requires.cell c.requires.left in
    let is_level = at.is_top.is_level in
    let node = is_level.node in
    let read : IsReadPage c.usable_of-usable.result c.as_slice.result.now top.node node = subst (λ (b : List ℕ). IsReadPage c.usable_of-usable.result b top.node node) (sym c.as_slice.ensures.value)
    (subst (λ (u : ℕ). IsReadPage u top.bytes.items top.node node) (sym c.usable_of-usable.ensures.value) is_level.read) in
    let told : TellsCell c.usable_of-usable.result node.kind c.as_slice.result.now c.read_cell-cell.result (cell_at node top.place) = c.read_cell-cell.ensures node read in
    let cell : TellsCell (p.usable old) top.node.kind top.bytes.items c.read_cell-cell.result (cell_at node top.place) =
    subst (λ (b : List ℕ). TellsCell (p.usable old) top.node.kind b c.read_cell-cell.result (cell_at node top.place)) c.as_slice.ensures.value
    (cell_again _ _ _ _ _ _ _ c.usable_of-usable.ensures.value is_level.read.tells.kind told) in
    let rowid = to_z w64 (of_z w64 c.read_cell-cell.result.rowid) in
    let back = to_z-of_z w64 c.read_cell-cell.result.rowid (omega (arith, ints)) in
    row_taken p old c.read_row.new.pages levels top c.args.bounds.now rowid c.in-Ok.row c.given.result c.in-Ok.ensures.reading at
    (c.is_key_over.ensures.inside c.if-is_key_over.false) (sym (back ∙ told.rowid)) c.given.ensures.none c.given.ensures.number c.given.ensures.row
    (c.in-Ok.ensures.row (cell_at node top.place) cell)

pub returns-in-Ok-clause-taken : goal.returns-in-Ok-clause-taken
returns-in-Ok-clause-taken g c =
    let p = g.P.PagesTells in
    let t = of_table c.args.bounds.now in
    let old = c.args.pages.now in
    let levels = c.args.levels.now.items in
    let cut = cut_last levels (omega (arith, c.if-count-eq0.false, c.len-count.ensures)) in
    let count : c.len-count.result ≡ length levels = omega (arith, c.len-count.ensures, count_levels c.args.levels.now) in
    let top = c.index-top.result.now in
    let found = top_of t p old levels cut.above cut.top top c.len-count.result c.requires.levels.0 cut.is count c.index-top.ensures in
    let at = at_cell t p old levels top found.1 c.requires.cell c.requires.left in
    let is_level = at.is_top.is_level in
    let node = is_level.node in
    let read : IsReadPage c.usable_of-usable.result c.as_slice.result.now top.node node = subst (λ (b : List ℕ). IsReadPage c.usable_of-usable.result b top.node node) (sym c.as_slice.ensures.value)
    (subst (λ (u : ℕ). IsReadPage u top.bytes.items top.node node) (sym c.usable_of-usable.ensures.value) is_level.read) in
    let told : TellsCell c.usable_of-usable.result node.kind c.as_slice.result.now c.read_cell-cell.result (cell_at node top.place) = c.read_cell-cell.ensures node read in
    let cell : TellsCell (p.usable old) top.node.kind top.bytes.items c.read_cell-cell.result (cell_at node top.place) =
    subst (λ (b : List ℕ). TellsCell (p.usable old) top.node.kind b c.read_cell-cell.result (cell_at node top.place)) c.as_slice.ensures.value
    (cell_again _ _ _ _ _ _ _ c.usable_of-usable.ensures.value is_level.read.tells.kind told) in
    chain_taken t p old c.read_row.new.pages levels top c.in-Ok.row c.given.result c.in-Ok.ensures.reading at (c.in-Ok.ensures.row (cell_at node top.place) cell)

pub returns-in-Ok-clause-there : goal.returns-in-Ok-clause-there
returns-in-Ok-clause-there g c = is_there c.given.result c.args.levels.now.items (omega (arith, c.if-count-eq0.false, c.len-count.ensures))

pub returns-in-Err-clause-barred : goal.returns-in-Err-clause-barred
returns-in-Err-clause-barred g c =
    let p = g.P.PagesTells in
    let t = of_table c.args.bounds.now in
    let old = c.args.pages.now in
    let levels = c.args.levels.now.items in
    let cut = cut_last levels (omega (arith, c.if-count-eq0.false, c.len-count.ensures)) in
    let count : c.len-count.result ≡ length levels = omega (arith, c.len-count.ensures, count_levels c.args.levels.now) in
    let top = c.index-top.result.now in
    let found = top_of t p old levels cut.above cut.top top c.len-count.result c.requires.levels.0 cut.is count c.index-top.ensures in
    let at = at_cell t p old levels top found.1 c.requires.cell c.requires.left in
    let is_level = at.is_top.is_level in
    let node = is_level.node in
    let read : IsReadPage c.usable_of-usable.result c.as_slice.result.now top.node node = subst (λ (b : List ℕ). IsReadPage c.usable_of-usable.result b top.node node) (sym c.as_slice.ensures.value)
    (subst (λ (u : ℕ). IsReadPage u top.bytes.items top.node node) (sym c.usable_of-usable.ensures.value) is_level.read) in
    let told : TellsCell c.usable_of-usable.result node.kind c.as_slice.result.now c.read_cell-cell.result (cell_at node top.place) = c.read_cell-cell.ensures node read in
    let cell : TellsCell (p.usable old) top.node.kind top.bytes.items c.read_cell-cell.result (cell_at node top.place) =
    subst (λ (b : List ℕ). TellsCell (p.usable old) top.node.kind b c.read_cell-cell.result (cell_at node top.place)) c.as_slice.ensures.value
    (cell_again _ _ _ _ _ _ _ c.usable_of-usable.ensures.value is_level.read.tells.kind told) in
    let rowid = to_z w64 (of_z w64 c.read_cell-cell.result.rowid) in
    let back = to_z-of_z w64 c.read_cell-cell.result.rowid (omega (arith, ints)) in
    row_barred p old c.read_row.new.pages levels top c.args.bounds.now rowid c.in-Err.why c.in-Err.ensures.reading at
    (c.is_key_over.ensures.inside c.if-is_key_over.false) (sym (back ∙ told.rowid)) (c.in-Err.ensures.row (cell_at node top.place) cell)

pub returns-in-Err-clause-taken : goal.returns-in-Err-clause-taken
returns-in-Err-clause-taken g c =
    let p = g.P.PagesTells in
    let t = of_table c.args.bounds.now in
    let old = c.args.pages.now in
    let levels = c.args.levels.now.items in
    let cut = cut_last levels (omega (arith, c.if-count-eq0.false, c.len-count.ensures)) in
    let count : c.len-count.result ≡ length levels = omega (arith, c.len-count.ensures, count_levels c.args.levels.now) in
    let top = c.index-top.result.now in
    let found = top_of t p old levels cut.above cut.top top c.len-count.result c.requires.levels.0 cut.is count c.index-top.ensures in
    let at = at_cell t p old levels top found.1 c.requires.cell c.requires.left in
    let is_level = at.is_top.is_level in
    let node = is_level.node in
    let read : IsReadPage c.usable_of-usable.result c.as_slice.result.now top.node node = subst (λ (b : List ℕ). IsReadPage c.usable_of-usable.result b top.node node) (sym c.as_slice.ensures.value)
    (subst (λ (u : ℕ). IsReadPage u top.bytes.items top.node node) (sym c.usable_of-usable.ensures.value) is_level.read) in
    let told : TellsCell c.usable_of-usable.result node.kind c.as_slice.result.now c.read_cell-cell.result (cell_at node top.place) = c.read_cell-cell.ensures node read in
    let cell : TellsCell (p.usable old) top.node.kind top.bytes.items c.read_cell-cell.result (cell_at node top.place) =
    subst (λ (b : List ℕ). TellsCell (p.usable old) top.node.kind b c.read_cell-cell.result (cell_at node top.place)) c.as_slice.ensures.value
    (cell_again _ _ _ _ _ _ _ c.usable_of-usable.ensures.value is_level.read.tells.kind told) in
    chain_barred t p old c.read_row.new.pages levels top c.in-Err.why c.in-Err.ensures.reading at (c.in-Err.ensures.row (cell_at node top.place) cell)
