use Rattle.store.proofs.SoloCalls.{tells_logs}
use Rattle.store.proofs.solo.SoloEngine.logs.Goals as goal

pub returns : goal.returns
returns g c = tells_logs g.D.DiskTells g.W.Salts.loans g.M.Means c.args.self.now.store c.args.self.now.readers c.logs.result c.logs.ensures
