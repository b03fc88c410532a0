use Rattle.tree_read.proofs.IndexTrees.{if_entry, if_no_entry}
use Rattle.tree_read.proofs.entry.find_entry.Goals as goal

pub returns-clause-found : goal.returns-clause-found
returns-clause-found g c = if_entry g.P.PagesTells c.args.pages.now c.args.root c.args.entry.now c.search.result c.search.new.pages c.search.ensures.searched

pub returns-clause-sound : goal.returns-clause-sound
returns-clause-sound g c = if_no_entry g.P.PagesTells c.args.pages.now c.args.root c.args.entry.now c.search.result c.search.new.pages c.search.ensures.searched
