use Rattle.store.proofs.SoloPins.{ends_so}
use Rattle.store.proofs.solo.SoloEngine.end.Goals as goal

pub returns : goal.returns
returns g c = ends_so g.D.DiskTells g.W.Salts.loans g.M.Means c.args.self.now.store c.args.self.now.readers c.without_reader-self.result c.args.pin c.without_reader-self.ensures
