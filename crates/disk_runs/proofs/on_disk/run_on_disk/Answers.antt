use Rattle.std.proofs.Common.{inr, rules}
use Rattle.disk_runs.proofs.on_disk.run_on_disk.Goals as goal

pub returns-in-Ok-clause-run : goal.returns-in-Ok-clause-run
returns-in-Ok-clause-run g c = inr (record {
  attached = c.attach.new.self;
  named = c.in-Ok.ensures.named;
  stays = c.in-Ok.ensures.stays;
  faults = search rules;
  runs = search rules;
})
