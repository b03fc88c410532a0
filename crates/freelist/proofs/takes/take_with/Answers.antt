use Rattle.freelist.proofs.Changed.{leaves_list, sound_take}
use Rattle.freelist.proofs.takes.take_with.Goals as goal

pub returns-clause-list : goal.returns-clause-list
returns-clause-list g c = leaves_list g.P.PagesTells c.args.pages.now c.args.free.now c.take_one.result c.take_one.new.pages c.take_one.new.free c.take_one.ensures.taken

pub returns-clause-sound : goal.returns-clause-sound
returns-clause-sound g c = sound_take g.P.PagesTells c.args.pages.now c.args.free.now c.take_one.result c.take_one.new.pages c.take_one.new.free c.take_one.ensures.taken
