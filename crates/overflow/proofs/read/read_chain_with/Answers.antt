use Rattle.overflow.proofs.Links.{gives_chain, bars_none}
use Rattle.overflow.proofs.read.read_chain_with.Goals as goal

pub returns-in-Ok-clause-bytes : goal.returns-in-Ok-clause-bytes
returns-in-Ok-clause-bytes g c = gives_chain g.P.PagesTells c.args.pages.now c.args.first c.args.size c.args.to.now.items _ c.follow.new.pages c.in-Ok.ensures.followed

pub returns-in-Err-clause-sound : goal.returns-in-Err-clause-sound
returns-in-Err-clause-sound g c =
    bars_none g.P.PagesTells c.args.pages.now c.args.first c.args.size c.args.to.now.items _ c.follow.new.pages c.in-Err.why c.in-Err.ensures.followed
