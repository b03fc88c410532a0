use Rattle.std.proofs.Common.{true, false}
use Rattle.recover.proofs.Beginnings.{begins_log}
use Rattle.recover.proofs.founding.begin_log.Goals as goal

pub returns-in-Ok-clause-moments : goal.returns-in-Ok-clause-moments
returns-in-Ok-clause-moments g c = begins_log true c.args.header.now.header c.args.other c.args.header.now.bytes _ _ c.requires.fields c.in-Ok.ensures.steps

pub returns-in-Err-clause-moments : goal.returns-in-Err-clause-moments
returns-in-Err-clause-moments g c = begins_log false c.args.header.now.header c.args.other c.args.header.now.bytes _ _ c.requires.fields c.in-Err.ensures.steps
