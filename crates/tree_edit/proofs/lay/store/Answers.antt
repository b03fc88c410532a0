use Rattle.std.proofs.Common.{◌∙◌}
use Rattle.tree_edit.proofs.Storing.{stored, put_shows, fault_since}
use Rattle.tree_edit.proofs.lay.store.Goals as goal

pub returns-in-Ok-put-clause-stored : goal.returns-in-Ok-put-clause-stored
returns-in-Ok-put-clause-stored g c = λ world told neat used.
    stored g.P.PagesTells c.args.page c.keep_header.new.bytes c.args.pages.now c.keep_header.new.pages c.put.new.self world c.keep_header.ensures.reading c.keep_header.ensures.read
    c.in-Ok-put.ensures c.in-Ok.ensures.leaves told neat used

pub returns-in-Ok-put-clause-shows : goal.returns-in-Ok-put-clause-shows
returns-in-Ok-put-clause-shows g c = λ world told node shown.
    put_shows g.P.PagesTells c.args.page c.keep_header.new.bytes c.keep_header.new.pages c.put.new.self world (g.P.PagesTells.usable c.args.pages.now) node c.in-Ok-put.ensures told
    (c.in-Ok-put.ensures.edits.usable ∙ c.keep_header.ensures.reading.edits.usable) (c.keep_header.ensures.shown _ node shown)

pub returns-in-Err-put-clause-cause : goal.returns-in-Err-put-clause-cause
returns-in-Err-put-clause-cause g c =
    fault_since _ _ _ c.in-Err-put.why c.keep_header.ensures.reading.edits.faults c.in-Err-put.ensures.cause
