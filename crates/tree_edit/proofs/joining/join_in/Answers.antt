use Rattle.std.proofs.Common.{◌≡◌, ◌==◌, ℕ, sym, subst, ◌∙◌, arith, Bool, Some}
use Rattle.std.specs.Prelude.{false}
use Rattle.std.proofs.lemmas.Bool.{ne_eqb}
use Rattle.node_spec.specs.declared.kinds.Kind.{Kind}
use Rattle.node_spec.specs.Cells.{IsOneCell, cell_in}
use Rattle.node_spec.specs.Nodes.{node_of}
use Rattle.overflow.specs.Following.{shown_over}
use Rattle.node_edit.specs.Keys.{kind_above}
use Rattle.tree_edit.specs.Roots.{inner_kind}
use Rattle.tree_edit.proofs.Joined.{one_node, above_held, joins_on, lacks_on, joined_put, outside_bars}
use Rattle.tree_edit.proofs.joining.join_in.Goals as goal

pub bring_over-requires-clause-nodes : goal.bring_over-requires-clause-nodes
bring_over-requires-clause-nodes g c =
    let have = c.in-Ok.ensures.nodes in
    let same = c.usable_of.ensures.value ∙ c.fetch_beside.ensures.reading.edits.usable in (
      have.one,
      have.two,
      subst (λ (u : ℕ). node_of u false c.fetch_beside.new.one ≡ Some have.one) (sym same) have.left_is,
      subst (λ (u : ℕ). node_of u false c.fetch_beside.new.two ≡ Some have.two) (sym same) have.right_is,
      have.same_kind,
      have.kind,
      have.child,
    )

pub bring_over-requires-clause-cell : goal.bring_over-requires-clause-cell
bring_over-requires-clause-cell g c =
    let have = c.in-Ok.ensures.nodes in
    let same = c.usable_of.ensures.value ∙ c.fetch_beside.ensures.reading.edits.usable in
    let above = above_held g.P.PagesTells c.args.pages.now c.fetch_beside.new.pages c.args.table c.args.left c.args.right c.fetch_beside.new.one c.fetch_beside.new.two c.in-Ok.told have in
    subst (λ (k : Kind). IsOneCell k c.usable_of.result c.args.cell.now) (sym above) (subst (λ (u : ℕ). IsOneCell (inner_kind c.args.table) u c.args.cell.now) (sym same) c.requires.cell)

pub returns-then-not-fits-clause-joined : goal.returns-then-not-fits-clause-joined
returns-then-not-fits-clause-joined g c =
    let p = g.P.PagesTells in
    let old = c.args.pages.now in
    let have = c.in-Ok.ensures.nodes in
    let same = c.usable_of.ensures.value ∙ c.fetch_beside.ensures.reading.edits.usable in
    let above = above_held p old c.fetch_beside.new.pages c.args.table c.args.left c.args.right c.fetch_beside.new.one c.fetch_beside.new.two c.in-Ok.told have in (
      c.fetch_beside.ensures.reading,
      λ world told one two left_shows right_shows.
          lacks_on c.usable_of.result (p.usable old) (kind_above c.in-Ok.told.kind) (inner_kind c.args.table) c.args.cell.now have.one have.two one two same above
          (one_node have.one one ((shown_over p old world).node c.args.left) (have.left_shows world told) left_shows)
          (one_node have.two two ((shown_over p old world).node c.args.right) (have.right_shows world told) right_shows)
          (c.in-Ok-bring_over.ensures.lacks c.if-not-fits.true have.one have.two
          (subst (λ (u : ℕ). node_of u false c.fetch_beside.new.one ≡ Some have.one) (sym same) have.left_is)
          (subst (λ (u : ℕ). node_of u false c.fetch_beside.new.two ≡ Some have.two) (sym same) have.right_is)),
    )

pub returns-in-Ok-store-clause-joined : goal.returns-in-Ok-store-clause-joined
returns-in-Ok-store-clause-joined g c = λ world told neat used_left used_right.
    let p = g.P.PagesTells in
    let old = c.args.pages.now in
    let mid = c.fetch_beside.new.pages in
    let new = c.store.new.pages in
    let have = c.in-Ok.ensures.nodes in
    let same = c.usable_of.ensures.value ∙ c.fetch_beside.ensures.reading.edits.usable in
    let above = above_held p old mid c.args.table c.args.left c.args.right c.fetch_beside.new.one c.fetch_beside.new.two c.in-Ok.told have in
    let shows = c.in-Ok-bring_over.ensures.joined c.if-not-fits.false have.one have.two
    (subst (λ (u : ℕ). node_of u false c.fetch_beside.new.one ≡ Some have.one) (sym same) have.left_is)
    (subst (λ (u : ℕ). node_of u false c.fetch_beside.new.two ≡ Some have.two) (sym same) have.right_is) in
    let other : (c.args.right == 1) ≡ false = ne_eqb c.args.right 1 (λ is. omega (arith, is, c.requires.right.0)) in
    joined_put p old mid new world c.args.table c.args.left c.args.right c.fetch_beside.new.one c.fetch_beside.new.two c.in-Ok.told
    (cell_in (inner_kind c.args.table) (p.usable old) c.args.cell.now) shows.whole c.fetch_beside.ensures.reading c.fetch_beside.ensures.read have (c.store.ensures.edits.narrows world told) neat used_right
    (joins_on c.usable_of.result (p.usable old) (kind_above c.in-Ok.told.kind) (inner_kind c.args.table) c.args.cell.now have.one have.two shows.whole same above shows.joins)
    (c.in-Ok-store.ensures.shows world told shows.whole
    (subst (λ (b : Bool). node_of (p.usable mid) b c.bring_over.new.right ≡ Some shows.whole) (sym other)
    (subst (λ (u : ℕ). node_of u false c.bring_over.new.right ≡ Some shows.whole) c.usable_of.ensures.value shows.shown)))
    (c.in-Ok-store.ensures.stored world told)

pub returns-in-Err-store-clause-cause : goal.returns-in-Err-store-clause-cause
returns-in-Err-store-clause-cause g c =
    outside_bars g.P.PagesTells c.args.pages.now c.store.new.pages c.args.table c.args.left c.args.right _ c.in-Err-store.why c.fetch_beside.ensures.reading.edits.faults c.in-Err-store.ensures.cause
