use Rattle.std.proofs.Common.{ℕ, ◌<◌, ◌≤◌, ◌==◌, false, ◌∷◌, [], ◌++◌, Ok, Err, refl, sym, ap, subst, ◌∙◌, arith, length, length-append}
use Rattle.std.specs.Prelude.{◌⊎◌}
use Rattle.page_face.proofs.PageLaws.{reading_join, reading_same}
use Rattle.node_spec.specs.Kinds.{is_leaf}
use Rattle.page_form.specs.Reading.{IsReadPage}
use Rattle.tree_read.specs.declared.entry.Spot.{Spot}
use Rattle.tree_read.specs.declared.entry.Spot.TheVariants.{At, Before}
use Rattle.tree_read.specs.Looking.{BarsNode, HasNode}
use Rattle.tree_read.specs.Entries.{HasSought}
use Rattle.tree_read.proofs.Descents.{page_again}
use Rattle.tree_read.proofs.Searching.{nothing_searched, at_page, is_found, is_missing, is_broken, entry_child_outside, entry_more, no_index_node}
use Rattle.tree_read.proofs.entry.search_with.Goals as goal

pub levels-init : goal.levels-init
levels-init g c = record {
  reading = reading_same g.P.PagesTells c.args.pages.now c.requires.ready (g.P.PagesTells.follows_itself _);
  buf = c.requires.buf;
  room = c.requires.room;
  page = c.requires.root;
  so_far = ([], (nothing_searched g.P.PagesTells c.args.pages.now c.args.root c.args.entry.now, refl));
  level = omega arith;
}

pub returns-in-Err-clause-searched : goal.returns-in-Err-clause-searched
returns-in-Err-clause-searched g c =
    let p = g.P.PagesTells in
    let before = c.levels.invariant in
    no_index_node p c.args.pages.now c.levels.pages c.read_node.new.pages c.args.root c.args.entry.now before.so_far.0 c.levels.page c.in-Err.why before.reading c.in-Err.ensures.reading
    before.so_far.1.0
    (subst (λ (l : ℕ). BarsNode p c.levels.pages false c.levels.page l c.read_node.new.pages c.in-Err.why) before.so_far.1.1 c.in-Err.ensures.cause)
    c.in-Err.ensures.read

pub returns-in-Ok-At-clause-searched : goal.returns-in-Ok-At-clause-searched
returns-in-Ok-At-clause-searched g c =
    let p = g.P.PagesTells in
    let before = c.levels.invariant in
    let way = before.so_far.0 in
    let has : HasNode p c.levels.pages false c.levels.page (length way) c.read_node.new.buf c.in-Ok.node c.read_node.new.pages =
    subst (λ (l : ℕ). HasNode p c.levels.pages false c.levels.page l c.read_node.new.buf c.in-Ok.node c.read_node.new.pages) before.so_far.1.1 c.in-Ok.ensures.node in
    let whole : IsReadPage (p.usable c.levels.pages) c.read_node.new.buf c.in-Ok.node has.node = record { first = c.levels.page == 1; tells = has.tells } in
    let both = reading_join p c.args.pages.now c.levels.pages c.read_node.new.pages before.reading c.in-Ok.ensures.reading (p.follows_on) in
    let sought = c.in-Ok-At.ensures.sought has.node (page_again _ _ _ _ _ c.in-Ok.ensures.reading.edits.usable whole) in
    let told = subst (λ (s : Spot). HasSought p c.read_node.new.pages has.node c.levels.page c.args.entry.now (Ok s) c.seek.new.pages) c.in-Ok-At.field-0-is sought in
    let at = at_page p c.args.pages.now c.levels.pages c.read_node.new.pages c.seek.new.pages c.args.root c.args.entry.now way c.levels.page c.read_node.new.buf c.in-Ok.node (Ok At)
    before.reading c.in-Ok.ensures.reading both c.in-Ok-At.ensures.reading before.so_far.1.0 has told in
    is_found p c.args.pages.now c.seek.new.pages c.args.root c.args.entry.now way c.levels.page has.node at

pub returns-in-Ok-At-clause-reading : goal.returns-in-Ok-At-clause-reading
returns-in-Ok-At-clause-reading g c =
    let p = g.P.PagesTells in
    let both = reading_join p c.args.pages.now c.levels.pages c.read_node.new.pages c.levels.invariant.reading c.in-Ok.ensures.reading (p.follows_on) in
    reading_join p c.args.pages.now c.read_node.new.pages c.seek.new.pages both c.in-Ok-At.ensures.reading (p.follows_on)

pub returns-in-Err-seek-clause-searched : goal.returns-in-Err-seek-clause-searched
returns-in-Err-seek-clause-searched g c =
    let p = g.P.PagesTells in
    let before = c.levels.invariant in
    let way = before.so_far.0 in
    let has : HasNode p c.levels.pages false c.levels.page (length way) c.read_node.new.buf c.in-Ok.node c.read_node.new.pages =
    subst (λ (l : ℕ). HasNode p c.levels.pages false c.levels.page l c.read_node.new.buf c.in-Ok.node c.read_node.new.pages) before.so_far.1.1 c.in-Ok.ensures.node in
    let whole : IsReadPage (p.usable c.levels.pages) c.read_node.new.buf c.in-Ok.node has.node = record { first = c.levels.page == 1; tells = has.tells } in
    let both = reading_join p c.args.pages.now c.levels.pages c.read_node.new.pages before.reading c.in-Ok.ensures.reading (p.follows_on) in
    let sought = c.in-Err-seek.ensures.sought has.node (page_again _ _ _ _ _ c.in-Ok.ensures.reading.edits.usable whole) in
    let told = sought in
    let at = at_page p c.args.pages.now c.levels.pages c.read_node.new.pages c.seek.new.pages c.args.root c.args.entry.now way c.levels.page c.read_node.new.buf c.in-Ok.node (Err c.in-Err-seek.why)
    before.reading c.in-Ok.ensures.reading both c.in-Err-seek.ensures.reading before.so_far.1.0 has told in
    is_broken p c.args.pages.now c.seek.new.pages c.args.root c.args.entry.now way c.levels.page has.node c.in-Err-seek.why at

pub returns-in-Err-seek-clause-reading : goal.returns-in-Err-seek-clause-reading
returns-in-Err-seek-clause-reading g c =
    let p = g.P.PagesTells in
    let both = reading_join p c.args.pages.now c.levels.pages c.read_node.new.pages c.levels.invariant.reading c.in-Ok.ensures.reading (p.follows_on) in
    reading_join p c.args.pages.now c.read_node.new.pages c.seek.new.pages both c.in-Err-seek.ensures.reading (p.follows_on)

pub returns-then-is_leaf-clause-searched : goal.returns-then-is_leaf-clause-searched
returns-then-is_leaf-clause-searched g c =
    let p = g.P.PagesTells in
    let before = c.levels.invariant in
    let way = before.so_far.0 in
    let has : HasNode p c.levels.pages false c.levels.page (length way) c.read_node.new.buf c.in-Ok.node c.read_node.new.pages =
    subst (λ (l : ℕ). HasNode p c.levels.pages false c.levels.page l c.read_node.new.buf c.in-Ok.node c.read_node.new.pages) before.so_far.1.1 c.in-Ok.ensures.node in
    let whole : IsReadPage (p.usable c.levels.pages) c.read_node.new.buf c.in-Ok.node has.node = record { first = c.levels.page == 1; tells = has.tells } in
    let both = reading_join p c.args.pages.now c.levels.pages c.read_node.new.pages before.reading c.in-Ok.ensures.reading (p.follows_on) in
    let sought = c.in-Ok-Before.ensures.sought has.node (page_again _ _ _ _ _ c.in-Ok.ensures.reading.edits.usable whole) in
    let told = subst (λ (s : Spot). HasSought p c.read_node.new.pages has.node c.levels.page c.args.entry.now (Ok s) c.seek.new.pages) c.in-Ok-Before.field-0-is sought in
    let at = at_page p c.args.pages.now c.levels.pages c.read_node.new.pages c.seek.new.pages c.args.root c.args.entry.now way c.levels.page c.read_node.new.buf c.in-Ok.node (Ok (Before c.in-Ok-Before.place))
    before.reading c.in-Ok.ensures.reading both c.in-Ok-Before.ensures.reading before.so_far.1.0 has told in
    is_missing p c.args.pages.now c.seek.new.pages c.args.root c.args.entry.now way c.levels.page has.node c.in-Ok-Before.place (ap is_leaf (sym has.tells.kind) ∙ sym c.is_leaf.ensures ∙ c.if-is_leaf.true) at

pub returns-then-is_leaf-clause-reading : goal.returns-then-is_leaf-clause-reading
returns-then-is_leaf-clause-reading g c =
    let p = g.P.PagesTells in
    let both = reading_join p c.args.pages.now c.levels.pages c.read_node.new.pages c.levels.invariant.reading c.in-Ok.ensures.reading (p.follows_on) in
    reading_join p c.args.pages.now c.read_node.new.pages c.seek.new.pages both c.in-Ok-Before.ensures.reading (p.follows_on)

pub returns-then-is_outside-clause-searched : goal.returns-then-is_outside-clause-searched
returns-then-is_outside-clause-searched g c =
    let p = g.P.PagesTells in
    let before = c.levels.invariant in
    let way = before.so_far.0 in
    let has : HasNode p c.levels.pages false c.levels.page (length way) c.read_node.new.buf c.in-Ok.node c.read_node.new.pages =
    subst (λ (l : ℕ). HasNode p c.levels.pages false c.levels.page l c.read_node.new.buf c.in-Ok.node c.read_node.new.pages) before.so_far.1.1 c.in-Ok.ensures.node in
    let whole : IsReadPage (p.usable c.levels.pages) c.read_node.new.buf c.in-Ok.node has.node = record { first = c.levels.page == 1; tells = has.tells } in
    let both = reading_join p c.args.pages.now c.levels.pages c.read_node.new.pages before.reading c.in-Ok.ensures.reading (p.follows_on) in
    let sought = c.in-Ok-Before.ensures.sought has.node (page_again _ _ _ _ _ c.in-Ok.ensures.reading.edits.usable whole) in
    let told = subst (λ (s : Spot). HasSought p c.read_node.new.pages has.node c.levels.page c.args.entry.now (Ok s) c.seek.new.pages) c.in-Ok-Before.field-0-is sought in
    let at = at_page p c.args.pages.now c.levels.pages c.read_node.new.pages c.seek.new.pages c.args.root c.args.entry.now way c.levels.page c.read_node.new.buf c.in-Ok.node (Ok (Before c.in-Ok-Before.place))
    before.reading c.in-Ok.ensures.reading both c.in-Ok-Before.ensures.reading before.so_far.1.0 has told in
    let child = c.child_before-child.result in
    let inner = ap is_leaf (sym has.tells.kind) ∙ sym c.is_leaf.ensures ∙ c.if-is_leaf.false in
    let is = c.child_before-child.ensures has.node (page_again _ _ _ _ _ (c.usable_of-usable.ensures.value ∙ sym before.reading.edits.usable) whole) in
    entry_child_outside p c.args.pages.now c.seek.new.pages c.args.root c.args.entry.now way c.levels.page has.node c.in-Ok-Before.place child inner is
    (subst (λ (n : ℕ). (child < 2) ⊎ (n < child)) c.last-last.ensures (c.is_outside.ensures.outside c.if-is_outside.true)) at

pub returns-then-is_outside-clause-reading : goal.returns-then-is_outside-clause-reading
returns-then-is_outside-clause-reading g c =
    let p = g.P.PagesTells in
    let both = reading_join p c.args.pages.now c.levels.pages c.read_node.new.pages c.levels.invariant.reading c.in-Ok.ensures.reading (p.follows_on) in
    reading_join p c.args.pages.now c.read_node.new.pages c.seek.new.pages both c.in-Ok-Before.ensures.reading (p.follows_on)

pub levels-preserved : goal.levels-preserved
levels-preserved g c =
    let p = g.P.PagesTells in
    let before = c.levels.invariant in
    let way = before.so_far.0 in
    let has : HasNode p c.levels.pages false c.levels.page (length way) c.read_node.new.buf c.in-Ok.node c.read_node.new.pages =
    subst (λ (l : ℕ). HasNode p c.levels.pages false c.levels.page l c.read_node.new.buf c.in-Ok.node c.read_node.new.pages) before.so_far.1.1 c.in-Ok.ensures.node in
    let whole : IsReadPage (p.usable c.levels.pages) c.read_node.new.buf c.in-Ok.node has.node = record { first = c.levels.page == 1; tells = has.tells } in
    let both = reading_join p c.args.pages.now c.levels.pages c.read_node.new.pages before.reading c.in-Ok.ensures.reading (p.follows_on) in
    let sought = c.in-Ok-Before.ensures.sought has.node (page_again _ _ _ _ _ c.in-Ok.ensures.reading.edits.usable whole) in
    let told = subst (λ (s : Spot). HasSought p c.read_node.new.pages has.node c.levels.page c.args.entry.now (Ok s) c.seek.new.pages) c.in-Ok-Before.field-0-is sought in
    let at = at_page p c.args.pages.now c.levels.pages c.read_node.new.pages c.seek.new.pages c.args.root c.args.entry.now way c.levels.page c.read_node.new.buf c.in-Ok.node (Ok (Before c.in-Ok-Before.place))
    before.reading c.in-Ok.ensures.reading both c.in-Ok-Before.ensures.reading before.so_far.1.0 has told in
    let child = c.child_before-child.result in
    let inner = ap is_leaf (sym has.tells.kind) ∙ sym c.is_leaf.ensures ∙ c.if-is_leaf.false in
    let is = c.child_before-child.ensures has.node (page_again _ _ _ _ _ (c.usable_of-usable.ensures.value ∙ sym before.reading.edits.usable) whole) in
    let inside = c.is_outside.ensures.inside c.if-is_outside.false in
    let most : child ≤ p.last_page c.args.pages.now = omega (arith, inside.1, c.last-last.ensures) in
    record {
      reading = reading_join p c.args.pages.now c.read_node.new.pages c.seek.new.pages both c.in-Ok-Before.ensures.reading (p.follows_on);
      buf = c.in-Ok.ensures.room ∙ before.buf;
      room = c.in-Ok-Before.ensures.room ∙ before.room;
      page = (omega (arith, inside.0), most);
      so_far = (
        way ++ c.levels.page ∷ [],
        (
          entry_more p c.args.pages.now c.seek.new.pages c.args.root c.args.entry.now way c.levels.page has.node c.in-Ok-Before.place child inner is inside.0 most at,
          omega (arith, before.so_far.1.1, length-append way (c.levels.page ∷ [])),
        ),
      );
      level = omega (arith, has.may.depth, before.so_far.1.1);
    }
