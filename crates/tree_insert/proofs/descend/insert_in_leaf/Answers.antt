use Rattle.std.proofs.Common.{◌≡◌, ◌==◌, ℕ, sym, subst, Some}
use Rattle.node_spec.specs.Nodes.{node_of}
use Rattle.tree_keys.specs.Keys.{sought_by}
use Rattle.tree_insert.proofs.InLeaf.{puts_leaf}
use Rattle.tree_insert.proofs.descend.insert_in_leaf.Goals as goal

pub returns-in-Ok-settle-clause-inserted : goal.returns-in-Ok-settle-clause-inserted
returns-in-Ok-settle-clause-inserted g c = λ world told height own items stands.
    let p = g.P.PagesTells in
    let old = c.args.pages.now in
    let mid = c.make_cell.new.pages in
    let new = c.settle.new.pages in
    let read = c.requires.read in
    let first = c.in-Ok.ensures.edits in
    let second = c.settle.ensures.edits in
    let told_mid = second.narrows world told in
    let shown : node_of (p.usable mid) (c.args.page == 1) c.args.buf.now ≡ Some read.0 =
    subst (λ (u : ℕ). node_of u (c.args.page == 1) c.args.buf.now ≡ Some read.0) (sym first.usable) read.1.of in
    puts_leaf p old mid new world (sought_by c.args.key) c.args.payload.now c.in-Ok.cell c.args.level c.args.page height c.args.place c.args.buf.now read.0 c.in-Ok-settle.siblings.items own items
    c.requires.page.0 first.usable second.usable first.last second.last (first.narrows world told_mid) told_mid read.1 read.2 c.in-Ok.ensures.made
    (λ neat used. c.in-Ok-settle.ensures.settled read.0 shown world told neat used) (c.in-Ok-settle.ensures.siblings read.0 shown) stands
