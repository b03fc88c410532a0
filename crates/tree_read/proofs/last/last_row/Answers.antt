use Rattle.tree_read.proofs.Trees.{if_last, if_no_last}
use Rattle.tree_read.proofs.last.last_row.Goals as goal

pub returns-clause-found : goal.returns-clause-found
returns-clause-found g c = if_last g.P.PagesTells c.args.pages.now c.args.root c.look_last.result c.look_last.new.pages c.look_last.ensures.looked

pub returns-clause-sound : goal.returns-clause-sound
returns-clause-sound g c = if_no_last g.P.PagesTells c.args.pages.now c.args.root c.look_last.result c.look_last.new.pages c.look_last.ensures.looked
