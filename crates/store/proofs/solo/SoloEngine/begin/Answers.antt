use Rattle.store.proofs.SoloPins.{begins_so}
use Rattle.store.proofs.solo.SoloEngine.begin.Goals as goal

pub returns : goal.returns
returns g c =
    begins_so g.D.DiskTells g.W.Salts.loans g.M.Means c.args.self.now.store c.begin-pin.new.self c.args.self.now.readers c.with_reader-self.result c.begin-pin.result
    c.requires.whole.1.live.whole c.begin-pin.ensures.pin c.begin-pin.ensures.same c.with_reader-self.ensures
