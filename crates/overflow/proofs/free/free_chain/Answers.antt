use Rattle.std.proofs.Common.{[], arith}
use Rattle.overflow.proofs.Freed.{freed_none, freed_bars, freed_all, frees_chain}
use Rattle.overflow.proofs.free.free_chain.Goals as goal

pub returns-then-length-eq0-clause-freed : goal.returns-then-length-eq0-clause-freed
returns-then-length-eq0-clause-freed g c =
    frees_chain g.P.PagesTells c.args.pages.now c.args.first c.args.length tt c.args.pages.now
    (freed_all g.P.PagesTells c.args.pages.now c.args.pages.now c.args.first c.args.length [] c.args.first c.args.first c.args.length (omega (arith, c.if-length-eq0.true))
    (freed_none g.P.PagesTells c.args.pages.now c.args.first c.args.length c.requires.ready (g.P.PagesTells.follows_itself _)))

pub returns-then-length-eq0-clause-followed : goal.returns-then-length-eq0-clause-followed
returns-then-length-eq0-clause-followed g c =
    freed_all g.P.PagesTells c.args.pages.now c.args.pages.now c.args.first c.args.length [] c.args.first c.args.first c.args.length (omega (arith, c.if-length-eq0.true))
    (freed_none g.P.PagesTells c.args.pages.now c.args.first c.args.length c.requires.ready (g.P.PagesTells.follows_itself _))

pub returns-in-Err-clause-followed : goal.returns-in-Err-clause-followed
returns-in-Err-clause-followed g c =
    freed_bars g.P.PagesTells c.args.pages.now c.args.pages.now c.args.first c.args.length [] c.args.first c.args.first c.args.length c.in-Err.why (rw (c.in-Err.ensures.cause) tt)
    (freed_none g.P.PagesTells c.args.pages.now c.args.first c.args.length c.requires.ready (g.P.PagesTells.follows_itself _))
