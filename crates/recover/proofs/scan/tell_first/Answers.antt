use Rattle.std.proofs.Common.{refl}
use Rattle.recover.proofs.Page1.{database_is_long}
use Rattle.recover.proofs.scan.tell_first.Goals as goal

pub size_counts-requires : goal.size_counts-requires
size_counts-requires c = database_is_long c.args.first.now (c.in-Ok.ensures.accepted.0 refl).0.database
