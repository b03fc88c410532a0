use Rattle.witnesses.proofs.SharedMoves.{log_anew}
use Rattle.witnesses.proofs.shared.Shared.meanwhile.Goals as goal

pub returns : goal.returns
returns g c = log_anew g.M.Means c.args.self.now c.admit.new.self c.from-self.result c.admit.ensures
