use Rattle.overflow.proofs.Freed.{frees_on, sound_on}
use Rattle.overflow.proofs.free.free_chain_with.Goals as goal

pub returns-clause-freed : goal.returns-clause-freed
returns-clause-freed g c =
    frees_on g.P.PagesTells c.args.pages.now c.args.first c.args.size c.free_pages.result c.free_pages.new.pages c.free_pages.ensures.followed

pub returns-clause-sound : goal.returns-clause-sound
returns-clause-sound g c =
    sound_on g.P.PagesTells c.args.pages.now c.args.first c.args.size c.free_pages.result c.free_pages.new.pages c.free_pages.ensures.followed
