use Rattle.std.proofs.Common.{◌≡◌, [], ◌∷◌, ℕ, true, sym, subst, Some}
use Rattle.page_spec.specs.View.{View}
use Rattle.node_spec.specs.declared.kinds.Kind.TheVariants.{TableLeaf}
use Rattle.node_spec.specs.Nodes.{Node, node_of}
use Rattle.overflow.specs.Following.{shown_over}
use Rattle.edit_spec.specs.Nodes.{node_taking}
use Rattle.node_edit.specs.Runs.{spelled_by}
use Rattle.tree_edit.specs.Editing.{EditsPages, storing}
use Rattle.tree_edit.proofs.Joined.{one_node}
use Rattle.tree_insert.specs.Inserting.{TakesFirst}
use Rattle.tree_insert.proofs.FirstPage.{first_took, on_ok}
use Rattle.tree_insert.proofs.first.put_in_first.Goals as goal

pub returns-then-put_cells-clause-taken : goal.returns-then-put_cells-clause-taken
returns-then-put_cells-clause-taken g c =
    let p = g.P.PagesTells in
    let old = c.args.pages.now in
    let new = c.store.new.pages in
    let r = c.requires.shown in
    let news = c.args.cell ∷ [] in
    on_ok
    ((world : View) → p.tells new world → p.neat old world → (p.free old world 1 → ⊥) → EditsPages p (storing 1 []) old new world)
    ((world : View) → p.tells new world → (node : Node) → node_of (p.usable old) true c.put_cells.new.bytes ≡ Some node → (shown_over p new world).node 1 ≡ Some node)
    ((node : Node) → node_of (p.usable old) true c.args.bytes.now ≡ Some node → (world : View) → p.tells new world → p.neat old world → (p.free old world 1 → ⊥)
    → TakesFirst p old (node_taking node c.args.place (spelled_by TableLeaf (p.usable old) news)) new world)
    c.store.result
    (λ stored shows node is world told neat used.
    let kind : node.kind ≡ TableLeaf = subst (λ (n : Node). n.kind ≡ TableLeaf) (one_node r.0 node (node_of (p.usable old) true c.args.bytes.now) r.1 is) r.2 in
    first_took p old new world c.args.place c.usable_of.result node news c.put_cells.new.bytes kind c.usable_of.ensures.value
    (c.put_cells.ensures.put c.if-put_cells.true node (subst (λ (v : ℕ). node_of v true c.args.bytes.now ≡ Some node) (sym c.usable_of.ensures.value) is)) (stored world told neat used)
    (shows world told))
    c.store.ensures.stored c.store.ensures.shows
