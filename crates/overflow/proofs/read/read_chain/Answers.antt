use Rattle.std.proofs.Common.{arith}
use Rattle.overflow.proofs.Links.{nothing_yet, stops, ends, gives_chain}
use Rattle.overflow.proofs.read.read_chain.Goals as goal

pub returns-then-length-eq0-clause-bytes : goal.returns-then-length-eq0-clause-bytes
returns-then-length-eq0-clause-bytes g c =
    gives_chain g.P.PagesTells c.args.pages.now c.args.first c.args.length c.args.to.now.items c.args.to.now.items c.args.pages.now
    (ends g.P.PagesTells c.args.pages.now c.args.pages.now c.args.first c.args.length _ _ _ _ c.args.to.now.items _ (omega (arith, c.if-length-eq0.true))
    (nothing_yet g.P.PagesTells c.args.pages.now c.args.first c.args.length c.args.to.now.items))

pub returns-then-length-eq0-clause-followed : goal.returns-then-length-eq0-clause-followed
returns-then-length-eq0-clause-followed g c =
    ends g.P.PagesTells c.args.pages.now c.args.pages.now c.args.first c.args.length _ _ _ _ c.args.to.now.items _ (omega (arith, c.if-length-eq0.true))
    (nothing_yet g.P.PagesTells c.args.pages.now c.args.first c.args.length c.args.to.now.items)

pub returns-in-Err-clause-followed : goal.returns-in-Err-clause-followed
returns-in-Err-clause-followed g c =
    stops g.P.PagesTells c.args.pages.now c.args.pages.now c.args.first c.args.length _ _ _ _ c.args.to.now.items _ c.args.to.now.items c.in-Err.why
    (nothing_yet g.P.PagesTells c.args.pages.now c.args.first c.args.length c.args.to.now.items) (rw (c.in-Err.ensures.cause) tt)
