use Rattle.recover.proofs.Resets.{header_passes}
use Rattle.recover.proofs.header.reset_log.Goals as goal

pub returns-clause-moments : goal.returns-clause-moments
returns-clause-moments g c view one two beside h next owns =
    header_passes _ view c.args.log one two beside c.args.header.now.bytes next owns _ _ h c.write.ensures.steps
