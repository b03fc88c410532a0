use Rattle.std.proofs.Common.{ℕ, ◌<◌, ◌≤◌, true, ◌∷◌, [], ◌++◌, sym, ap, subst, ◌∙◌, arith, length, length-append}
use Rattle.std.specs.Prelude.{◌⊎◌}
use Rattle.page_face.proofs.PageLaws.{reading_join}
use Rattle.node_spec.specs.Kinds.{is_leaf}
use Rattle.tree_read.specs.Ways.{NamesChild}
use Rattle.tree_read.specs.Looking.{BarsNode, HasNode}
use Rattle.tree_read.proofs.Descents.{one_more, no_node, child_outside, at_leaf, names_child}
use Rattle.tree_read.proofs.way.descend.Goals as goal

pub returns-in-Err-clause-barred : goal.returns-in-Err-clause-barred
returns-in-Err-clause-barred g c =
    let p = g.P.PagesTells in
    let before = c.levels.invariant in
    no_node p c.args.pages.now c.levels.pages c.read_node.new.pages c.args.root c.args.aim before.so_far.0 c.levels.page c.in-Err.why before.reading c.in-Err.ensures.reading before.so_far.1.0
    (subst (λ (l : ℕ). BarsNode p c.levels.pages true c.levels.page l c.read_node.new.pages c.in-Err.why) before.so_far.1.1 c.in-Err.ensures.cause)
    c.in-Err.ensures.read

pub returns-then-is_leaf-clause-leaf : goal.returns-then-is_leaf-clause-leaf
returns-then-is_leaf-clause-leaf g c =
    let p = g.P.PagesTells in
    let before = c.levels.invariant in
    let way = before.so_far.0 in
    let has : HasNode p c.levels.pages true c.levels.page (length way) c.read_node.new.buf c.in-Ok.node c.read_node.new.pages =
    subst (λ (l : ℕ). HasNode p c.levels.pages true c.levels.page l c.read_node.new.buf c.in-Ok.node c.read_node.new.pages) before.so_far.1.1 c.in-Ok.ensures.node in
    at_leaf p c.args.pages.now c.levels.pages c.read_node.new.pages c.args.root c.args.aim way c.levels.page c.read_node.new.buf c.in-Ok.node before.reading c.in-Ok.ensures.reading
    before.so_far.1.0 has (ap is_leaf (sym has.tells.kind) ∙ sym c.is_leaf.ensures ∙ c.if-is_leaf.true)

pub returns-then-is_leaf-clause-reading : goal.returns-then-is_leaf-clause-reading
returns-then-is_leaf-clause-reading g c =
    reading_join g.P.PagesTells c.args.pages.now c.levels.pages c.read_node.new.pages c.levels.invariant.reading c.in-Ok.ensures.reading (g.P.PagesTells.follows_on)

pub returns-then-is_outside-clause-barred : goal.returns-then-is_outside-clause-barred
returns-then-is_outside-clause-barred g c =
    let p = g.P.PagesTells in
    let before = c.levels.invariant in
    let way = before.so_far.0 in
    let child = c.next_child-child.result in
    let has : HasNode p c.levels.pages true c.levels.page (length way) c.read_node.new.buf c.in-Ok.node c.read_node.new.pages =
    subst (λ (l : ℕ). HasNode p c.levels.pages true c.levels.page l c.read_node.new.buf c.in-Ok.node c.read_node.new.pages) before.so_far.1.1 c.in-Ok.ensures.node in
    child_outside p c.args.pages.now c.levels.pages c.read_node.new.pages c.args.root c.args.aim way c.levels.page child before.reading c.in-Ok.ensures.reading before.so_far.1.0
    (names_child p c.args.pages.now c.levels.pages c.read_node.new.pages c.args.aim (length way) c.levels.page c.usable-usable.result child c.read_node.new.buf c.in-Ok.node
    before.reading c.in-Ok.ensures.reading has (ap is_leaf (sym has.tells.kind) ∙ sym c.is_leaf.ensures ∙ c.if-is_leaf.false) c.usable-usable.ensures.value c.next_child-child.ensures)
    has.read (subst (λ (n : ℕ). (child < 2) ⊎ (n < child)) c.last-last.ensures (c.is_outside.ensures.outside c.if-is_outside.true))

pub returns-then-is_outside-clause-reading : goal.returns-then-is_outside-clause-reading
returns-then-is_outside-clause-reading g c =
    reading_join g.P.PagesTells c.args.pages.now c.levels.pages c.read_node.new.pages c.levels.invariant.reading c.in-Ok.ensures.reading (g.P.PagesTells.follows_on)

pub levels-preserved : goal.levels-preserved
levels-preserved g c =
    let p = g.P.PagesTells in
    let before = c.levels.invariant in
    let way = before.so_far.0 in
    let child = c.next_child-child.result in
    let inside = c.is_outside.ensures.inside c.if-is_outside.false in
    let most : child ≤ p.last_page c.args.pages.now = omega (arith, inside.1, c.last-last.ensures) in
    let has : HasNode p c.levels.pages true c.levels.page (length way) c.read_node.new.buf c.in-Ok.node c.read_node.new.pages =
    subst (λ (l : ℕ). HasNode p c.levels.pages true c.levels.page l c.read_node.new.buf c.in-Ok.node c.read_node.new.pages) before.so_far.1.1 c.in-Ok.ensures.node in
    let names = names_child p c.args.pages.now c.levels.pages c.read_node.new.pages c.args.aim (length way) c.levels.page c.usable-usable.result child c.read_node.new.buf c.in-Ok.node
    before.reading c.in-Ok.ensures.reading has (ap is_leaf (sym has.tells.kind) ∙ sym c.is_leaf.ensures ∙ c.if-is_leaf.false) c.usable-usable.ensures.value c.next_child-child.ensures in
    record {
      reading = reading_join p c.args.pages.now c.levels.pages c.read_node.new.pages before.reading c.in-Ok.ensures.reading (g.P.PagesTells.follows_on);
      room = c.in-Ok.ensures.room ∙ before.room;
      page = (omega (arith, inside.0), most);
      so_far = (
        way ++ c.levels.page ∷ [],
        (
          one_more p c.args.pages.now c.levels.pages c.read_node.new.pages (λ shown. NamesChild shown c.args.aim) c.args.root way c.levels.page child before.reading
              c.in-Ok.ensures.reading has.read names inside.0 most before.so_far.1.0,
          omega (arith, before.so_far.1.1, length-append way (c.levels.page ∷ [])),
        ),
      );
      level = omega (arith, has.may.depth, before.so_far.1.1);
    }
