use Rattle.std.proofs.Common.{◌≡◌, ◌==◌, ◌∷◌, [], ℕ, List, length, sym, subst, refl, arith, Some}
use Rattle.std.specs.Prelude.{◌&&◌}
use Rattle.node_spec.specs.Kinds.{is_leaf, is_table}
use Rattle.node_spec.specs.Nodes.{node_of}
use Rattle.tree_edit.specs.Settling.{SettlesNode, AreSiblings}
use Rattle.tree_edit.proofs.Settled.{siblings_none, siblings_more, settled_more, few_one}
use Rattle.tree_edit.specs.Editing.{making}
use Rattle.tree_edit.proofs.Edits.{was_free}
use Rattle.tree_edit.proofs.Storing.{outside_barred}
use Rattle.tree_edit.proofs.settling.settle_two.Goals as goal

pub returns-in-Ok-store-clause-settled : goal.returns-in-Ok-store-clause-settled
returns-in-Ok-store-clause-settled g c = λ whole two world told neat used.
    let p = g.P.PagesTells in
    let old = c.args.pages.now in
    let mid = c.make_page.new.pages in
    let new = c.store.new.pages in
    let text = c.in-Ok-one_above.ensures.one in
    let mid_told = c.store.ensures.edits.narrows world told in
    let made = c.in-Ok.ensures in
    let one = made.made world mid_told neat in
    subst (λ (l : List (List ℕ)). SettlesNode p old c.args.page whole l new world) (sym text.1.1)
    (settled_more p old mid new world c.args.page c.in-Ok.made c.args.key.now text.0 [] whole two.left_part two.rest made.edits.usable c.store.ensures.edits.usable made.range.0 text.1.0 two.divides used one
    (made.shows world mid_told two.left_part two.left_shows)
    (record {
      shows = c.in-Ok-store.ensures.shows world told two.rest (subst (λ (u : ℕ). node_of u (c.args.page == 1) c.args.bytes.now ≡ Some two.rest) (sym made.edits.usable) two.rest_shows);
      edits = c.in-Ok-store.ensures.stored world told one.neat (λ free. used (was_free p (making (c.in-Ok.made ∷ [])) old mid world one c.args.page refl free));
    }))

pub returns-in-Ok-store-clause-siblings : goal.returns-in-Ok-store-clause-siblings
returns-in-Ok-store-clause-siblings g c = λ whole two.
    let p = g.P.PagesTells in
    let text = c.in-Ok-one_above.ensures.one in
    let last = p.last_page c.store.new.pages in
    let made = c.in-Ok.ensures in
    subst (λ (l : List (List ℕ)). AreSiblings (p.usable c.args.pages.now) last whole l × (length l ≡ 1)) (sym text.1.1) (
      siblings_more (p.usable c.args.pages.now) c.in-Ok.made last c.args.key.now text.0 [] whole two.left_part two.rest text.1.0 two.divides made.range.0
          (omega (arith, made.range.1, c.store.ensures.edits.last)) (few_one (is_leaf whole.kind && is_table whole.kind)) (siblings_none (p.usable c.args.pages.now) last two.rest),
      refl,
    )

pub returns-in-Err-store-clause-stopped : goal.returns-in-Err-store-clause-stopped
returns-in-Err-store-clause-stopped g c =
    outside_barred g.P.PagesTells c.args.pages.now c.store.new.pages _ c.in-Err-store.why c.in-Ok.ensures.edits.faults c.in-Err-store.ensures.cause
