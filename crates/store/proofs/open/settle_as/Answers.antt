use Rattle.store.proofs.Settled.{nothing_settled}
use Rattle.store.proofs.open.settle_as.Goals as goal

pub returns-clause-moments : goal.returns-clause-moments
returns-clause-moments g c view one two h of = nothing_settled c.args.setup.kind c.args.seen view one two _ h
