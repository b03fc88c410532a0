use Rattle.std.proofs.Common.{◌∙◌}
use Rattle.tree_read.proofs.Descents.{looked_last, page_again}
use Rattle.tree_read.proofs.last.last_with.Goals as goal

pub returns-in-Ok-clause-looked : goal.returns-in-Ok-clause-looked
returns-in-Ok-clause-looked g c =
    let done = c.in-Ok.ensures.leaf in
    looked_last g.P.PagesTells c.args.pages.now c.descend.new.pages c.args.root c.descend.new.buf c.in-Ok.leaf c.last_rowid.result done
    (c.last_rowid.ensures done.node (page_again _ _ _ _ _ (c.usable_of.ensures.value ∙ c.in-Ok.ensures.reading.edits.usable) done.tells))
