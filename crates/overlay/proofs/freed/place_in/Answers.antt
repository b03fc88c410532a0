use Rattle.overlay.proofs.FreedLaws.{is_place_in}
use Rattle.overlay.proofs.freed.place_in.Goals as goal

pub returns : goal.returns
returns c = is_place_in c.args.pages.now c.args.page c.binary_search.result c.requires c.binary_search.ensures.position
