use Rattle.std.proofs.Common.{◌≡◌, ◌==◌, ℕ, sym, subst, ap, ◌∙◌, arith, inl, Some}
use Rattle.std.specs.Prelude.{All}
use Rattle.node_spec.specs.Cells.{IsOneCell}
use Rattle.node_spec.specs.Nodes.{node_of}
use Rattle.page_face.proofs.PageLaws.{editing_join}
use Rattle.node_edit.specs.Runs.{spelled_by}
use Rattle.tree_edit.specs.Roots.{inner_kind}
use Rattle.tree_edit.proofs.Edits.{read_one}
use Rattle.tree_edit.proofs.Storing.{outside_barred, barred_since}
use Rattle.tree_edit.proofs.Rooted.{root_barred, raises}
use Rattle.tree_edit.proofs.rooting.raise_in.Goals as goal

pub returns-in-Err-clause-stopped : goal.returns-in-Err-clause-stopped
returns-in-Err-clause-stopped g c = root_barred g.P.PagesTells c.args.pages.now c.read_node.new.pages c.args.table c.args.root c.in-Err.why c.in-Err.ensures.cause

pub returns-in-Err-make_child-clause-stopped : goal.returns-in-Err-make_child-clause-stopped
returns-in-Err-make_child-clause-stopped g c = inl
    (barred_since g.P.PagesTells c.args.pages.now c.read_node.new.pages c.make_child.new.pages c.in-Err-make_child.why c.read_node.ensures.reading.edits
    (λ world told neat. (c.read_node.ensures.reading.each world (c.make_child.ensures.edits.narrows world told)).list.neat neat) c.in-Err-make_child.ensures.stopped)

pub returns-in-Err-store-clause-stopped : goal.returns-in-Err-store-clause-stopped
returns-in-Err-store-clause-stopped g c = inl
    (outside_barred g.P.PagesTells c.args.pages.now c.store.new.pages (g.P.PagesTells.faults c.make_child.new.pages) c.in-Err-store.why
    (omega (arith, c.read_node.ensures.reading.edits.faults, c.make_child.ensures.edits.faults)) c.in-Err-store.ensures.cause)

pub make_child-requires-clause-shown : goal.make_child-requires-clause-shown
make_child-requires-clause-shown g c =
    let has = c.in-Ok.ensures.node in
    (has.node, subst (λ (u : ℕ). node_of u (c.args.root == 1) c.read_node.new.buf ≡ Some has.node) (sym c.read_node.ensures.reading.edits.usable) has.tells.shown)

pub lead_to-requires-clause-cells : goal.lead_to-requires-clause-cells
lead_to-requires-clause-cells g c =
    subst (λ (u : ℕ). All (IsOneCell (inner_kind c.args.table) u) c.args.news.now) (sym (c.make_child.ensures.edits.usable ∙ c.read_node.ensures.reading.edits.usable)) c.requires.cells

pub returns-in-Ok-store-clause-raised : goal.returns-in-Ok-store-clause-raised
returns-in-Ok-store-clause-raised g c = λ world told neat used.
    let p = g.P.PagesTells in
    let old = c.args.pages.now in
    let a = c.read_node.new.pages in
    let b = c.make_child.new.pages in
    let new = c.store.new.pages in
    let has = c.in-Ok.ensures.node in
    let told_b = c.store.ensures.edits.narrows world told in
    let told_a = c.make_child.ensures.edits.narrows world told_b in
    let child = c.in-Ok-make_child.child in
    let same_b : p.usable b ≡ p.usable old = c.make_child.ensures.edits.usable ∙ c.read_node.ensures.reading.edits.usable in
    raises p old a b new world c.args.table c.args.root child c.args.news.now has.node c.read_node.ensures.reading told_a neat (read_one p old a c.args.root has.read) used c.store.ensures.edits.usable
    c.in-Ok-make_child.ensures.range.0 (has.shown world told_a)
    (c.in-Ok-make_child.ensures.shows world told_b has.node (subst (λ (u : ℕ). node_of u (c.args.root == 1) c.read_node.new.buf ≡ Some has.node) (sym c.read_node.ensures.reading.edits.usable) has.tells.shown))
    (c.in-Ok-make_child.ensures.made world told_b) (c.in-Ok-store.ensures.stored world told)
    (c.in-Ok-store.ensures.shows world told _ (c.lead_to.ensures.shows
    ∙ ap (λ (u : ℕ). Some (record { kind = inner_kind c.args.table; cells = spelled_by (inner_kind c.args.table) u c.args.news.now; right = child })) same_b))

pub returns-in-Ok-store-clause-edits : goal.returns-in-Ok-store-clause-edits
returns-in-Ok-store-clause-edits g c =
    editing_join g.P.PagesTells c.args.pages.now c.read_node.new.pages c.store.new.pages c.read_node.ensures.reading.edits
    (editing_join g.P.PagesTells c.read_node.new.pages c.make_child.new.pages c.store.new.pages c.make_child.ensures.edits c.store.ensures.edits g.P.PagesTells.follows_on) g.P.PagesTells.follows_on

pub returns-in-Err-store-clause-edits : goal.returns-in-Err-store-clause-edits
returns-in-Err-store-clause-edits g c =
    editing_join g.P.PagesTells c.args.pages.now c.read_node.new.pages c.store.new.pages c.read_node.ensures.reading.edits
    (editing_join g.P.PagesTells c.read_node.new.pages c.make_child.new.pages c.store.new.pages c.make_child.ensures.edits c.store.ensures.edits g.P.PagesTells.follows_on) g.P.PagesTells.follows_on
