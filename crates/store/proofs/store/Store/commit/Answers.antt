use Rattle.store.proofs.store.Store.commit.Goals as goal
use Rattle.store.proofs.Calls.{has_committed, reads_only, barred, few_changed}

pub returns-then-not-prepared : goal.returns-then-not-prepared
returns-then-not-prepared g c =
    reads_only g.D.DiskTells g.W.Salts.loans g.M.Means c.args.readers.now c.args.pin.now c.args.prepared c.args.who c.args.self.now c.if-not-prepared.true

pub bar-requires-clause-few : goal.bar-requires-clause-few
bar-requires-clause-few g c =
    few_changed g.D.DiskTells g.W.Salts.loans g.M.Means c.args.readers.now c.args.pin.now c.args.prepared c.args.who c.args.self.now c.requires.live.0 c.requires.live.1 c.requires.live.2 c.requires.fit

pub returns-in-Some : goal.returns-in-Some
returns-in-Some g c =
    barred g.D.DiskTells g.W.Salts.loans g.M.Means c.args.readers.now c.args.pin.now c.args.prepared c.args.who c.args.self.now c.in-Some.fault c.if-not-prepared.false (c.in-Some.ensures c.args.who)

pub returns-in-None : goal.returns-in-None
returns-in-None g c =
    has_committed g.D.DiskTells g.W.Salts.loans g.M.Means c.args.readers.now c.args.pin.now c.args.prepared c.args.who c.args.self.now c.add.new.self c.add.result (c.add.ensures c.requires.live.0 c.args.pin.now c.requires.live.1 c.requires.live.2 c.requires.fit)
