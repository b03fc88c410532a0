use Rattle.std.proofs.Common.{sym, subst}
use Rattle.store.proofs.store.Store.conflict.Goals as goal
use Rattle.engine_spec.specs.declared.commits.Mode.{Mode}
use Rattle.store_spec.specs.Store.{two_logs}
use Rattle.store.specs.Barring.{FindsFor}
use Rattle.store.specs.Kept.{kept_of}
use Rattle.store.proofs.Bare.{index_bare}

pub returns-in-Plain : goal.returns-in-Plain
returns-in-Plain g c =
    subst (λ (mode : Mode). FindsFor mode c.args.prepared.now.reads c.args.prepared.now.snap c.args.self.now.commits.commits c.least_conflict.result) (sym c.in-Plain.is)
    (c.least_conflict.ensures (two_logs (kept_of c.args.self.now)) c.args.self.now.commits.commits
    (index_bare c.args.self.now.index (two_logs (kept_of c.args.self.now)) c.args.self.now.commits.commits c.requires.whole.index) c.requires.least c.requires.most)

pub returns-in-Concurrent : goal.returns-in-Concurrent
returns-in-Concurrent g c =
    subst (λ (mode : Mode). FindsFor mode c.args.prepared.now.reads c.args.prepared.now.snap c.args.self.now.commits.commits c.least_conflict-in-Concurrent.result) (sym c.in-Concurrent.is)
    (c.least_conflict-in-Concurrent.ensures (two_logs (kept_of c.args.self.now)) c.args.self.now.commits.commits
    (index_bare c.args.self.now.index (two_logs (kept_of c.args.self.now)) c.args.self.now.commits.commits c.requires.whole.index) c.requires.least c.requires.most)
