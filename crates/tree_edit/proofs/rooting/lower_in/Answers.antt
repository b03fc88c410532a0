use Rattle.std.proofs.Common.{◌≡◌, ◌==◌, ℕ, [], List, sym, subst, ◌∙◌, arith, Some, Bool, false}
use Rattle.std.proofs.lemmas.Bool.{ne_eqb}
use Rattle.node_spec.specs.Nodes.{Node, node_of}
use Rattle.std.specs.Prelude.{Option, Contains}
use Rattle.overflow.specs.Following.{shown_over}
use Rattle.page_face.proofs.PageLaws.{reading_join}
use Rattle.tree_edit.specs.Editing.{EditsPages, storing}
use Rattle.tree_edit.specs.Roots.{LacksRoom}
use Rattle.tree_edit.proofs.Edits.{read_one}
use Rattle.tree_edit.proofs.Rooted.{moves_up, outside_none, by_fit}
use Rattle.tree_edit.proofs.rooting.lower_in.Goals as goal

pub lower_first-requires-clause-shown : goal.lower_first-requires-clause-shown
lower_first-requires-clause-shown g c =
    let has = c.in-Ok.ensures.node in
    let other : (c.args.child == 1) ≡ false = ne_eqb c.args.child 1 (λ is. omega (arith, is, c.requires.child.0)) in (
      has.node,
      subst (λ (u : ℕ). node_of u false c.fetch_node.new.buf ≡ Some has.node) (sym c.fetch_node.ensures.reading.edits.usable)
          (subst (λ (b : Bool). node_of (g.P.PagesTells.usable c.args.pages.now) b c.fetch_node.new.buf ≡ Some has.node) other has.tells.shown),
    )

pub returns-in-Err-lower_first-clause-cause : goal.returns-in-Err-lower_first-clause-cause
returns-in-Err-lower_first-clause-cause g c =
    outside_none g.P.PagesTells c.args.pages.now c.lower_first.new.pages c.args.child _ c.in-Err-lower_first.why c.fetch_node.ensures.reading.edits.faults c.in-Err-lower_first.ensures.cause

pub returns-in-Err-store-clause-cause : goal.returns-in-Err-store-clause-cause
returns-in-Err-store-clause-cause g c =
    outside_none g.P.PagesTells c.args.pages.now c.store.new.pages c.args.child _ c.in-Err-store.why c.fetch_node.ensures.reading.edits.faults c.in-Err-store.ensures.cause

pub returns-in-Ok-store-clause-lowered : goal.returns-in-Ok-store-clause-lowered
returns-in-Ok-store-clause-lowered g c = λ world told neat used.
    let p = g.P.PagesTells in
    let old = c.args.pages.now in
    let mid = c.fetch_node.new.pages in
    let has = c.in-Ok.ensures.node in
    let told_mid = c.store.ensures.edits.narrows world told in
    let other : (c.args.child == 1) ≡ false = ne_eqb c.args.child 1 (λ is. omega (arith, is, c.requires.child.0)) in
    let apart : (c.args.root == 1) ≡ false = ne_eqb c.args.root 1 c.if-root-eq1.false in
    moves_up p old mid c.store.new.pages world c.args.root c.args.child has.node c.fetch_node.ensures.reading told_mid neat (read_one p old mid c.args.child has.read) used (has.shown world told_mid)
    (c.in-Ok-store.ensures.shows world told has.node
    (subst (λ (u : ℕ). node_of u (c.args.root == 1) c.fetch_node.new.buf ≡ Some has.node) (sym c.fetch_node.ensures.reading.edits.usable)
    (subst (λ (b : Bool). node_of (p.usable old) b c.fetch_node.new.buf ≡ Some has.node) (other ∙ sym apart) has.tells.shown)))
    (c.in-Ok-store.ensures.stored world told)

pub returns-in-Ok-lower_first-clause-lowered : goal.returns-in-Ok-lower_first-clause-lowered
returns-in-Ok-lower_first-clause-lowered g c =
    let p = g.P.PagesTells in
    let old = c.args.pages.now in
    let mid = c.fetch_node.new.pages in
    let new = c.lower_first.new.pages in
    let has = c.in-Ok.ensures.node in
    let first = c.if-root-eq1.true in
    let lowers = c.in-Ok-lower_first.ensures in
    let other : (c.args.child == 1) ≡ false = ne_eqb c.args.child 1 (λ is. omega (arith, is, c.requires.child.0)) in
    let shown = subst (λ (u : ℕ). node_of u false c.fetch_node.new.buf ≡ Some has.node) (sym c.fetch_node.ensures.reading.edits.usable)
    (subst (λ (b : Bool). node_of (p.usable old) b c.fetch_node.new.buf ≡ Some has.node) other has.tells.shown) in
    by_fit p old new c.args.root c.args.child c.in-Ok-lower_first.fits
    (λ fits world told neat used.
    let told_mid = c.lower_first.ensures.edits.narrows world told in
    moves_up p old mid new world c.args.root c.args.child has.node c.fetch_node.ensures.reading told_mid neat (read_one p old mid c.args.child has.read) used (has.shown world told_mid)
    (subst (λ (n : ℕ). (shown_over p new world).node n ≡ Some has.node) (sym first) (lowers.shows fits world told has.node shown))
    (λ neat_mid used_mid. subst (λ (n : ℕ). EditsPages p (storing n []) mid new world) (sym first) (lowers.stored fits world told neat_mid (subst (λ (n : ℕ). p.free mid world n → ⊥) first used_mid))))
    (λ lacks.
    let less = lowers.lacks lacks in (
      first,
      reading_join p old mid new c.fetch_node.ensures.reading less.0 p.follows_on,
      λ world told node child_shows. subst (λ (u : ℕ). LacksRoom u node) c.fetch_node.ensures.reading.edits.usable
          (less.1 node (same_node ((shown_over p old world).node c.args.child) has.node node (p.usable mid) c.fetch_node.new.buf (has.shown world (less.0.edits.narrows world told)) child_shows shown)),
    ))
  where
    same_node : (P : Option Node) (a b : Node) (u : ℕ) (bytes : List ℕ) → P ≡ Some a → P ≡ Some b → node_of u false bytes ≡ Some a → node_of u false bytes ≡ Some b
    same_node P a b u bytes one two shown = shown ∙ (sym one ∙ two)

pub returns-in-Ok-lower_first-clause-read : goal.returns-in-Ok-lower_first-clause-read
returns-in-Ok-lower_first-clause-read g c = λ lacks n there.
    let p = g.P.PagesTells in
    let old = c.args.pages.now in
    let mid = c.fetch_node.new.pages in
    read_one p old mid c.args.child c.in-Ok.ensures.node.read n (subst (λ (l : List ℕ). Contains l n) (c.in-Ok-lower_first.ensures.unread lacks) there)
