use Rattle.std.proofs.Common.{inr, rules}
use Rattle.disk_checks.proofs.check.check_on_disk.Goals as goal

pub returns-in-Ok-clause-checks : goal.returns-in-Ok-clause-checks
returns-in-Ok-clause-checks g c = inr (record {
  attached = c.attach.new.self;
  named = c.in-Ok.ensures.named;
  stays = c.in-Ok.ensures.stays;
  faults = search rules;
  checks = search rules;
})
