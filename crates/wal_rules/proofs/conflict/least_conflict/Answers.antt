use Rattle.std.proofs.Common.{arith}
use Rattle.wal_rules.proofs.Search.{at_end, not_here, found_here, found_all}
use Rattle.wal_rules.proofs.conflict.least_conflict.Goals as goal

pub loop-left-init : goal.loop-left-init
loop-left-init c = at_end c.args.whole c.args.index.now c.args.n c.pages-pages.result.now

pub bounds-pages-left : goal.bounds-pages-left
bounds-pages-left c = omega (arith, c.loop-left.invariant.inside, c.loop-left-test.true)

pub loop-left-preserved-in-Some : goal.loop-left-preserved-in-Some
loop-left-preserved-in-Some c =
    found_here c.args.whole c.args.index.now c.args.n c.pages-pages.result.now c.loop-left.left c.loop-left.found c.written_since.result
    c.in-Some.commit c.lesser.result (omega (arith, c.loop-left-test.true)) c.in-Some.is c.written_since.ensures c.lesser.ensures c.loop-left.invariant

pub loop-left-preserved : goal.loop-left-preserved
loop-left-preserved c =
    not_here c.args.whole c.args.index.now c.args.n c.pages-pages.result.now c.loop-left.left c.loop-left.found c.written_since.result
    (omega (arith, c.loop-left-test.true)) c.in_default.is c.written_since.ensures c.loop-left.invariant

pub returns : goal.returns
returns c =
    found_all c.args.whole c.args.index.now c.args.n c.pages-pages.result.now c.args.reads.now c.loop-left.left c.loop-left.found
    c.pages-pages.ensures (omega (arith, c.loop-left-test.false)) c.loop-left.invariant
