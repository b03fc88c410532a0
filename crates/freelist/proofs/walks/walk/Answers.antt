use Rattle.std.proofs.Common.{refl}
use Rattle.freelist.proofs.Walked.{nothing_yet, stops, gives_freelist, bars_none}
use Rattle.freelist.proofs.walks.walk.Goals as goal

pub returns-in-Err-clause-walked : goal.returns-in-Err-clause-walked
returns-in-Err-clause-walked g c =
    stops g.P.PagesTells c.args.pages.now c.args.pages.now c.args.pages.now c.args.free.now.trunk c.args.free.now.count _ _ _ _ c.args.to.now.items _ c.args.to.now.items c.in-Err.why
    (λ world told. told) refl (nothing_yet g.P.PagesTells c.args.pages.now c.args.free.now.trunk c.args.free.now.count c.args.to.now.items) (rw (c.in-Err.ensures.cause) tt)

pub returns-in-Ok-follow-clause-list : goal.returns-in-Ok-follow-clause-list
returns-in-Ok-follow-clause-list g c =
    gives_freelist g.P.PagesTells c.args.pages.now c.args.free.now.trunk c.args.free.now.count c.args.to.now.items c.follow.ensures.grown.0 c.follow.new.to.items c.follow.new.pages
    c.follow.ensures.grown.1 c.in-Ok-follow.ensures.walked

pub returns-clause-sound : goal.returns-clause-sound
returns-clause-sound g c = λ there.
    bars_none g.P.PagesTells c.args.pages.now c.args.free.now.trunk c.args.free.now.count c.args.to.now.items c.follow.new.to.items c.follow.new.pages c.in-Err-follow.why
    c.in-Err-follow.ensures.walked there
