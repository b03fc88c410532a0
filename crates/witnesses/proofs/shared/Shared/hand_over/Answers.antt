use Rattle.witnesses.proofs.SharedPins.{handed_over}
use Rattle.witnesses.proofs.shared.Shared.hand_over.Goals as goal

pub returns-clause-live : goal.returns-clause-live
returns-clause-live g c = λ before after live.
    handed_over c.args.self.now c.args.pin c.args.prepared c.args.who before after c.requires.fit live
