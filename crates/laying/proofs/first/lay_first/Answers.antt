use Rattle.laying.proofs.Pages.{laid_in_place}
use Rattle.laying.proofs.first.lay_first.Goals as goal

pub returns-clause-laid : goal.returns-clause-laid
returns-clause-laid c =
    laid_in_place c.args.mode c.args.tail c.args.changed.now c.args.size c.args.first.now c.put_image.new.first c.stamp.new.first
    c.requires.room c.requires.different c.requires.least c.put_image.ensures.put c.stamp.ensures.stamped
