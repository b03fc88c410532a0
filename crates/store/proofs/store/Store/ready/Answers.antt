use Rattle.std.proofs.Common.{◌∙◌, sym}
use Rattle.store.proofs.store.Store.ready.Goals as goal
use Rattle.store.specs.Kept.{kept_of}
use Rattle.store.proofs.Going.{not_halted, over_ok, over_failed}
use Rattle.store.proofs.Readying.{ready_still}

pub returns-then-goes_over-clause-ready : goal.returns-then-goes_over-clause-ready
returns-then-goes_over-clause-ready g c =
    over_ok g.D.DiskTells g.W.Salts.loans g.M.Means c.args.readers.now c.args.self.now c.go_over.new.self c.args.plan.now c.args.prepared.now
    (not_halted (kept_of c.args.self.now) (g.D.DiskTells.told c.args.self.now.disk) c.args.self.now.page_size c.args.self.now.spare c.args.self.now.stop c.requires.clear.1.running)
    (sym c.goes_over.ensures ∙ c.if-goes_over.true) c.go_over.ensures.stays c.go_over.ensures.salts c.requires.live.0 c.requires.live.2 c.go_over.result c.go_over.ensures.switched c.go_over.ensures.becomes
    c.go_over.ensures.cleared c.go_over.ensures.faults

pub returns-then-goes_over-clause-failed : goal.returns-then-goes_over-clause-failed
returns-then-goes_over-clause-failed g c =
    over_failed g.D.DiskTells g.W.Salts.loans g.M.Means c.args.readers.now c.args.self.now c.go_over.new.self c.args.plan.now c.args.prepared.now
    (not_halted (kept_of c.args.self.now) (g.D.DiskTells.told c.args.self.now.disk) c.args.self.now.page_size c.args.self.now.spare c.args.self.now.stop c.requires.clear.1.running)
    (sym c.goes_over.ensures ∙ c.if-goes_over.true) c.go_over.ensures.stays c.go_over.ensures.salts c.go_over.result c.as_slice.result.now c.as_slice.ensures c.go_over.ensures.switched c.go_over.ensures.stops
    c.go_over.ensures.faults c.go_over.ensures.able c.requires.plan c.requires.laid

pub returns-else-goes_over-clause-ready : goal.returns-else-goes_over-clause-ready
returns-else-goes_over-clause-ready g c =
    ready_still g.D.DiskTells g.W.Salts.loans g.M.Means c.args.readers.now c.args.self.now
    (not_halted (kept_of c.args.self.now) (g.D.DiskTells.told c.args.self.now.disk) c.args.self.now.page_size c.args.self.now.spare c.args.self.now.stop c.requires.clear.1.running)
    (sym c.goes_over.ensures ∙ c.if-goes_over.false)
