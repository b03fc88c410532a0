use Rattle.disk_runs.proofs.Why.{says_reason}
use Rattle.disk_runs.proofs.on_disk.say_why.Goals as goal

pub returns-in-Look-clause-says : goal.returns-in-Look-clause-says
returns-in-Look-clause-says g c = says_reason g.K.Sink c.args.why.now c.say_reason.result c.args.out.now c.say_reason.new.out c.in-Look.is c.say_reason.ensures.says
