use Rattle.store.proofs.SoloCalls.{fetches_so}
use Rattle.store.proofs.solo.SoloEngine.fetch.Goals as goal

pub returns : goal.returns
returns g c =
    fetches_so g.D.DiskTells g.W.Salts.loans g.M.Means c.fetch.result c.args.self.now.store c.fetch.new.self c.args.self.now.readers c.args.pin.now c.args.page c.fetch.new.buf
    c.fetch.ensures.page_is c.fetch.ensures.cause c.fetch.ensures.same c.fetch.ensures.stays c.fetch.ensures.faults
