use Rattle.std.proofs.Common.{◌==◌, ◌∷◌, ◌++◌, [], ℕ, List, length, sym, subst, ap, refl, ◌∙◌, arith}
use Rattle.std.specs.Prelude.{◌&&◌}
use Rattle.node_spec.specs.Kinds.{is_leaf, is_table}
use Rattle.tree_edit.specs.Editing.{making}
use Rattle.node_edit.specs.Dividing.{ShowTwo}
use Rattle.tree_edit.specs.Settling.{SettlesNode, AreSiblings}
use Rattle.tree_edit.proofs.Edits.{was_free}
use Rattle.tree_edit.proofs.Settled.{siblings_more, settled_more, few_two}
use Rattle.tree_edit.proofs.Storing.{barred_since}
use Rattle.tree_edit.proofs.settling.settle_three.Goals as goal

pub returns-in-Ok-append-clause-settled : goal.returns-in-Ok-append-clause-settled
returns-in-Ok-append-clause-settled g c = λ whole three world told neat used.
    let p = g.P.PagesTells in
    let old = c.args.pages.now in
    let mid = c.make_page.new.pages in
    let new = c.settle_two.new.pages in
    let text = c.in-Ok-one_above.ensures.one in
    let then = c.in-Ok-settle_two in
    let made = c.in-Ok.ensures in
    let one = made.made world (c.settle_two.ensures.edits.narrows world told) neat in
    subst (λ (l : List (List ℕ)). SettlesNode p old c.args.page whole l new world) (sym (c.in-Ok-append.ensures.items ∙ ap (λ (l : List (List ℕ)). l ++ then.rest.items) text.1.1))
    (settled_more p old mid new world c.args.page c.in-Ok.made c.args.low.now text.0 then.rest.items whole three.left_part three.rest made.edits.usable c.settle_two.ensures.edits.usable made.range.0
    text.1.0 three.low_divides used one (made.shows world (c.settle_two.ensures.edits.narrows world told) three.left_part three.left_shows)
    (then.ensures.settled three.rest (subst (λ (u : ℕ). ShowTwo u (c.args.page == 1) three.rest c.args.high.now c.args.middle.now c.args.bytes.now) (sym made.edits.usable) three.others)
    world told one.neat (λ free. used (was_free p (making (c.in-Ok.made ∷ [])) old mid world one c.args.page refl free))))

pub returns-in-Ok-append-clause-siblings : goal.returns-in-Ok-append-clause-siblings
returns-in-Ok-append-clause-siblings g c = λ whole three rows.
    let p = g.P.PagesTells in
    let u = p.usable c.args.pages.now in
    let last = p.last_page c.settle_two.new.pages in
    let text = c.in-Ok-one_above.ensures.one in
    let rest = c.in-Ok-settle_two in
    let made = c.in-Ok.ensures in
    let are = rest.ensures.siblings three.rest (subst (λ (k : ℕ). ShowTwo k (c.args.page == 1) three.rest c.args.high.now c.args.middle.now c.args.bytes.now) (sym made.edits.usable) three.others) in
    subst (λ (l : List (List ℕ)). AreSiblings u last whole l) (sym (c.in-Ok-append.ensures.items ∙ ap (λ (l : List (List ℕ)). l ++ rest.rest.items) text.1.1))
    (siblings_more u c.in-Ok.made last c.args.low.now text.0 rest.rest.items whole three.left_part three.rest text.1.0 three.low_divides made.range.0
    (omega (arith, made.range.1, c.settle_two.ensures.edits.last)) (few_two (is_leaf whole.kind && is_table whole.kind) (length (text.0 ∷ rest.rest.items)) rows (omega (arith, are.1))) (subst (λ (k : ℕ). AreSiblings k last three.rest rest.rest.items) made.edits.usable are.0))

pub returns-in-Err-settle_two-clause-stopped : goal.returns-in-Err-settle_two-clause-stopped
returns-in-Err-settle_two-clause-stopped g c =
    barred_since g.P.PagesTells c.args.pages.now c.make_page.new.pages c.settle_two.new.pages c.in-Err-settle_two.why c.in-Ok.ensures.edits
    (λ world told neat. (c.in-Ok.ensures.made world (c.settle_two.ensures.edits.narrows world told) neat).neat) c.in-Err-settle_two.ensures.stopped
