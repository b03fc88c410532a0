use Rattle.std.proofs.Common.{◌≡◌, ℕ, ◌≤◌, Bool, Option, ℤ, length, drop, sym, subst, ap, ◌∙◌}
use Rattle.node_spec.specs.Cells.{local_size}
use Rattle.node_edit.specs.Payloads.{IsLeafCell}
use Rattle.tree_keys.specs.Keys.{sought_by, is_row, rowid_of}
use Rattle.tree_insert.proofs.Cells.{local_within, rest_is, makes_cell}
use Rattle.tree_insert.proofs.cell.make_cell.Goals as goal

pub slice_bounds-write_chain-count : goal.slice_bounds-write_chain-count
slice_bounds-write_chain-count g c =
    subst (λ (n : ℕ). n ≤ length c.args.payload.now) (sym c.local_size-local.ensures.value)
    (local_within c.is_rowid.result c.usable_of-usable.result (length c.args.payload.now))

pub slice_bounds-write_chain-start : goal.slice_bounds-write_chain-start
slice_bounds-write_chain-start g c =
    subst (λ (n : ℕ). n ≤ length c.args.payload.now) (sym c.local_size-local.ensures.value)
    (local_within c.is_rowid.result c.usable_of-usable.result (length c.args.payload.now))

pub returns-in-Ok-leaf_cell-clause-made : goal.returns-in-Ok-leaf_cell-clause-made
returns-in-Ok-leaf_cell-clause-made g c =
    let payload = c.args.payload.now in
    let sought = sought_by c.args.key in
    let usable : c.usable_of-usable.result ≡ g.P.PagesTells.usable c.args.pages.now = c.usable_of-usable.ensures.value in
    let local : c.local_size-local.result ≡ local_size (is_row sought) (g.P.PagesTells.usable c.args.pages.now) (length payload) =
    subst (λ (b : Bool). c.local_size-local.result ≡ local_size b (g.P.PagesTells.usable c.args.pages.now) (length payload)) c.is_rowid.ensures
    (subst (λ (u : ℕ). c.local_size-local.result ≡ local_size c.is_rowid.result u (length payload)) usable c.local_size-local.ensures.value) in
    let made : IsLeafCell c.usable_of-usable.result c.rowid.result payload c.in-Ok.first c.in-Ok-leaf_cell.cell = c.in-Ok-leaf_cell.ensures in
    makes_cell g.P.PagesTells c.args.pages.now c.write_chain.new.pages sought payload _ c.in-Ok-leaf_cell.cell c.in-Ok.first
    (rest_is payload c.local_size-local.result ∙ ap (λ (n : ℕ). drop n payload) local)
    (subst (λ (u : ℕ). IsLeafCell u (rowid_of sought) payload c.in-Ok.first c.in-Ok-leaf_cell.cell) usable
    (subst (λ (o : Option ℤ). IsLeafCell c.usable_of-usable.result o payload c.in-Ok.first c.in-Ok-leaf_cell.cell) c.rowid.ensures made))
    c.in-Ok.ensures.written c.in-Ok.ensures.none
