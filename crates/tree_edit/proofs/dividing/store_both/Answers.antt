use Rattle.tree_edit.proofs.Divided.{both_stored}
use Rattle.tree_edit.proofs.dividing.store_both.Goals as goal

pub returns-in-Ok-store-clause-stored : goal.returns-in-Ok-store-clause-stored
returns-in-Ok-store-clause-stored g c = λ world told neat used_left used_right.
    let p = g.P.PagesTells in
    let old = c.args.pages.now in
    let mid = c.store.new.pages in
    let told_mid = c.store-2.ensures.edits.narrows world told in
    both_stored p old mid c.store-2.new.pages world c.args.left c.args.right c.args.one.now c.args.two.now c.store.ensures.edits.usable c.store-2.ensures.edits.usable
    c.requires.left.0 c.requires.right.0 c.requires.apart used_left used_right (c.in-Ok.ensures.stored world told_mid neat used_left) (c.in-Ok-store.ensures.stored world told)
    (c.in-Ok.ensures.shows world told_mid) (c.in-Ok-store.ensures.shows world told)
