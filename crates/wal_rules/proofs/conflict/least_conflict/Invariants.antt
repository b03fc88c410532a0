use Rattle.wal_rules.proofs.Search.{HasFound}
use Rattle.wal_rules.proofs.conflict.least_conflict.Given as goal

abbrev pub invariant-loop-left : goal.invariant-loop-left
invariant-loop-left l = HasFound l.fn.whole l.fn.index l.fn.n l.pages l.left l.found

abbrev pub decreases-loop-left : goal.decreases-loop-left
decreases-loop-left l = l.left
