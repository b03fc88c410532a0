use Rattle.std.proofs.Common.{◌∙◌, sym}
use Rattle.tree_keys.specs.Keys.{sought_by}
use Rattle.tree_keys.proofs.Found.{no_room}
use Rattle.tree_keys.proofs.place.place_in.Goals as goal

pub returns-in-Err-clause-spot : goal.returns-in-Err-clause-spot
returns-in-Err-clause-spot g c = λ shown read.
    no_room g.P.PagesTells c.args.pages.now (sought_by c.args.key) shown c.args.page c.in-Err.why (sym c.is_rowid.ensures ∙ c.if-is_rowid.false) c.in-Err.ensures.cause
