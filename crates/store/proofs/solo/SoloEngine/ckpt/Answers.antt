use Rattle.store.proofs.SoloSteps.{steps_so}
use Rattle.store.proofs.solo.SoloEngine.ckpt.Goals as goal

pub returns : goal.returns
returns g c =
    let did = c.ckpt.ensures in
    steps_so g.D.DiskTells g.W.Salts.loans g.M.Means c.args.self.now.store c.ckpt.new.self c.args.self.now.readers c.ckpt.result c.requires.0 c.requires.1
    did.taken did.becomes did.logs did.able did.stays did.salts did.faults
