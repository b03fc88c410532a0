use Rattle.freelist.proofs.PutIn.{extends_list, sound_give}
use Rattle.freelist.proofs.gives.give_with.Goals as goal

pub returns-clause-list : goal.returns-clause-list
returns-clause-list g c =
    extends_list g.P.PagesTells c.args.pages.now c.args.free.now c.args.page c.give_one.result c.give_one.new.pages c.give_one.new.free c.requires.page.0 c.give_one.ensures.given

pub returns-clause-sound : goal.returns-clause-sound
returns-clause-sound g c =
    sound_give g.P.PagesTells c.args.pages.now c.args.free.now c.args.page c.give_one.result c.give_one.new.pages c.give_one.new.free c.give_one.ensures.given
