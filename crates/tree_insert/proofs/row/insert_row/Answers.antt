use Rattle.std.proofs.Common.{◌≡◌, ◌∙◌, ◌++◌, ℤ, ℕ, List, ap, subst, arith, w64}
use Rattle.std.proofs.lemmas.Int.{to_z-of_z, ints}
use Rattle.std.specs.Prelude.{OnOk, IfErr}
use Rattle.value_form.specs.Written.{record_text}
use Rattle.tree_keys.specs.Keys.{OfRow}
use Rattle.tree_insert.specs.Inserting.{PutsTreeEach, RefusesInsert}
use Rattle.tree_insert.proofs.Placed.{each_placed}
use Rattle.tree_insert.proofs.row.insert_row.Goals as goal

pub returns-clause-inserted : goal.returns-clause-inserted
returns-clause-inserted g c =
    let p = g.P.PagesTells in
    let old = c.args.pages.now in
    let new = c.insert_in_tree.new.pages in
    let two = c.insert_in_tree.ensures in
    let text = record_text c.args.row.now in
    let payload : c.as_slice.result.now ≡ text = c.as_slice.ensures.value ∙ (c.in-Ok.ensures.ok ∙ ap (λ (front : List ℕ). front ++ text) c.new-payload.ensures.items) in
    each_placed p old new (OfRow c.args.rowid) c.as_slice.result.now text c.args.root c.insert_in_tree.result two.edits.usable payload
    (subst (λ (n : ℤ). OnOk c.insert_in_tree.result (PutsTreeEach p old (OfRow n) c.as_slice.result.now c.args.root new)) (to_z-of_z w64 c.args.rowid (omega (arith, ints, c.ranges.rowid.sfits)))
    two.inserted)

pub returns-clause-refused : goal.returns-clause-refused
returns-clause-refused g c =
    subst (λ (n : ℤ). IfErr c.insert_in_tree.result (RefusesInsert g.P.PagesTells c.args.pages.now (OfRow n) 0 c.args.root c.insert_in_tree.new.pages))
    (to_z-of_z w64 c.args.rowid (omega (arith, ints, c.ranges.rowid.sfits))) c.insert_in_tree.ensures.refused
