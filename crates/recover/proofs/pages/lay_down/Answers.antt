use Rattle.opening_spec.proofs.Settling.{bare_passes}
use Rattle.recover.proofs.Laying.{laid_resetting}
use Rattle.recover.proofs.Placing.{only_still}
use Rattle.recover.proofs.pages.lay_down.Goals as goal

pub returns-then-not-some_frames-clause-moments : goal.returns-then-not-some_frames-clause-moments
returns-then-not-some_frames-clause-moments g c view one two first h sized none seen log is =
    let bare = none c.if-not-some_frames.true in
    bare_passes view first one two (g.D.DiskTells.told c.args.disk.now) log bare.0 bare.1 h

pub returns-in-Ok-clause-moments : goal.returns-in-Ok-clause-moments
returns-in-Ok-clause-moments g c view one two first h sized none seen log is =
    let saw = seen c.if-not-some_frames.false in
    laid_resetting view one two first c.args.places.now (g.D.DiskTells.told c.args.disk.now) _ saw is c.in-Ok.ensures.only (c.in-Ok.ensures.moments view one two h sized saw)

pub returns-in-Err-clause-moments : goal.returns-in-Err-clause-moments
returns-in-Err-clause-moments g c view one two first h sized none seen log is =
    c.in-Err.ensures.moments view one two h sized (seen c.if-not-some_frames.false)

pub returns-then-not-some_frames-clause-only : goal.returns-then-not-some_frames-clause-only
returns-then-not-some_frames-clause-only g c = only_still (g.D.DiskTells.told c.args.disk.now)
