use Rattle.std.proofs.Common.{◌≡◌, ◌∙◌, ◌++◌, ℕ, List, ap}
use Rattle.value_form.specs.Written.{record_text}
use Rattle.tree_keys.specs.Keys.{OfEntry}
use Rattle.tree_insert.proofs.Placed.{each_placed}
use Rattle.tree_insert.proofs.entry.insert_entry.Goals as goal

pub returns-clause-inserted : goal.returns-clause-inserted
returns-clause-inserted g c =
    let two = c.insert_in_tree.ensures in
    let text = record_text c.args.entry.now in
    let payload : c.as_slice.result.now ≡ text = c.as_slice.ensures.value ∙ (c.in-Ok.ensures.ok ∙ ap (λ (front : List ℕ). front ++ text) c.new-payload.ensures.items) in
    each_placed g.P.PagesTells c.args.pages.now c.insert_in_tree.new.pages (OfEntry c.args.entry.now) c.as_slice.result.now text c.args.root c.insert_in_tree.result two.edits.usable payload
    two.inserted
