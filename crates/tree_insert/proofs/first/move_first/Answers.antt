use Rattle.std.proofs.Common.{◌≡◌, [], true, sym, subst, ◌∙◌, Some}
use Rattle.page_spec.specs.View.{View}
use Rattle.node_spec.specs.declared.kinds.Kind.TheVariants.{TableLeaf}
use Rattle.node_spec.specs.Nodes.{Node, node_of}
use Rattle.page_face.proofs.PageLaws.{editing_join}
use Rattle.overflow.specs.Following.{shown_over}
use Rattle.edit_spec.specs.Nodes.{node_taking}
use Rattle.node_edit.specs.Runs.{spelled_by}
use Rattle.tree_edit.specs.Editing.{EditsPages, storing}
use Rattle.tree_edit.proofs.Joined.{one_node}
use Rattle.tree_edit.proofs.Sizes.{room_inner}
use Rattle.tree_insert.specs.Inserting.{MovesFirst}
use Rattle.tree_insert.proofs.FirstPage.{copy_shows, above_first, first_led, on_ok}
use Rattle.tree_insert.proofs.first.move_first.Goals as goal

pub start_inner-requires-clause-cells : goal.start_inner-requires-clause-cells
start_inner-requires-clause-cells g c =
    let p = g.P.PagesTells in
    let r = c.requires.shown in
    let made = c.in-Ok.ensures in
    let u_is = c.usable_of-usable.ensures.value in
    let shown = copy_shows c.usable_of-usable.result (p.usable c.args.pages.now) (p.usable c.make_page.new.pages) c.in-Ok.child c.copy_node.new.to c.args.bytes.now r.0 u_is made.edits.usable made.range.0
    (c.copy_node.ensures.copied c.if-not-copy_node.false) r.1 in
    (above_first c.usable_of-usable.result (p.usable c.make_page.new.pages) (p.last_page c.settle.new.pages) r.0 c.in-Ok-settle.siblings.items c.as_slice.result.now
    (made.edits.usable ∙ sym u_is) r.2 c.as_slice.ensures.value (c.in-Ok-settle.ensures.siblings r.0 shown)).0

pub start_inner-requires-clause-room : goal.start_inner-requires-clause-room
start_inner-requires-clause-room g c =
    let p = g.P.PagesTells in
    let r = c.requires.shown in
    let made = c.in-Ok.ensures in
    let u_is = c.usable_of-usable.ensures.value in
    let shown = copy_shows c.usable_of-usable.result (p.usable c.args.pages.now) (p.usable c.make_page.new.pages) c.in-Ok.child c.copy_node.new.to c.args.bytes.now r.0 u_is made.edits.usable made.range.0
    (c.copy_node.ensures.copied c.if-not-copy_node.false) r.1 in
    let above = above_first c.usable_of-usable.result (p.usable c.make_page.new.pages) (p.last_page c.settle.new.pages) r.0 c.in-Ok-settle.siblings.items c.as_slice.result.now
    (made.edits.usable ∙ sym u_is) r.2 c.as_slice.ensures.value (c.in-Ok-settle.ensures.siblings r.0 shown) in
    room_inner true true c.usable_of-usable.result c.as_slice.result.now c.usable_of-usable.ensures.least above.1 above.0

pub returns-clause-moved : goal.returns-clause-moved
returns-clause-moved g c =
    let p = g.P.PagesTells in
    let old = c.args.pages.now in
    let a = c.make_page.new.pages in
    let b = c.settle.new.pages in
    let new = c.store.new.pages in
    let r = c.requires.shown in
    let made = c.in-Ok.ensures in
    let u = c.usable_of-usable.result in
    let u_is = c.usable_of-usable.ensures.value in
    let child = c.in-Ok.child in
    on_ok
    ((world : View) → p.tells new world → p.neat b world → (p.free b world 1 → ⊥) → EditsPages p (storing 1 []) b new world)
    ((world : View) → p.tells new world → (node : Node) → node_of (p.usable b) true c.start_inner.new.bytes ≡ Some node → (shown_over p new world).node 1 ≡ Some node)
    ((node : Node) → node_of (p.usable old) true c.args.bytes.now ≡ Some node → (world : View) → p.tells new world → p.neat old world → (p.free old world 1 → ⊥)
    → MovesFirst p old (node_taking node c.args.place (spelled_by TableLeaf (p.usable old) c.args.news.now)) new world)
    c.store.result
    (λ stored shows node is world told neat used.
    let told_b = c.store.ensures.edits.narrows world told in
    let told_a = c.settle.ensures.edits.narrows world told_b in
    let kind : node.kind ≡ TableLeaf = subst (λ (n : Node). n.kind ≡ TableLeaf) (one_node r.0 node (node_of (p.usable old) true c.args.bytes.now) r.1 is) r.2 in
    let shown = copy_shows u (p.usable old) (p.usable a) child c.copy_node.new.to c.args.bytes.now node u_is made.edits.usable made.range.0 (c.copy_node.ensures.copied c.if-not-copy_node.false) is in
    first_led p old a b new world child c.args.place u node c.args.news.now c.in-Ok-settle.siblings.items c.as_slice.result.now c.start_inner.new.bytes kind u_is made.edits.usable
    c.settle.ensures.edits.usable c.store.ensures.edits.usable c.as_slice.ensures.value made.range.0 made.range.1 c.settle.ensures.edits.last c.store.ensures.last
    (c.in-Ok-settle.ensures.siblings node shown) used (made.made world told_a neat) (c.in-Ok-settle.ensures.settled node shown world told_b) (stored world told) (shows world told)
    c.start_inner.ensures.shows)
    c.store.ensures.stored c.store.ensures.shows

pub returns-clause-edits : goal.returns-clause-edits
returns-clause-edits g c =
    editing_join g.P.PagesTells c.args.pages.now c.make_page.new.pages c.store.new.pages c.in-Ok.ensures.edits
    (editing_join g.P.PagesTells c.make_page.new.pages c.settle.new.pages c.store.new.pages c.settle.ensures.edits c.store.ensures.edits g.P.PagesTells.follows_on) g.P.PagesTells.follows_on
