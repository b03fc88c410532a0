use Rattle.store.proofs.SoloCalls.{commits_so}
use Rattle.store.proofs.solo.SoloEngine.commit.Goals as goal

pub returns : goal.returns
returns g c =
    commits_so g.D.DiskTells g.W.Salts.loans g.M.Means c.args.self.now.store c.commit.new.self c.args.self.now.readers c.args.pin.now c.args.prepared c.args.who c.commit.result c.commit.ensures
