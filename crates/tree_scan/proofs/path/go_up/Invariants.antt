use Rattle.std.proofs.Common.{◌≡◌, List, ◌++◌, length}
use Rattle.tree_spec.specs.Layout.{Each}
use Rattle.tree_scan.specs.Coming.{IsSpent}
use Rattle.tree_scan.specs.declared.level.Level.{Level}
use Rattle.tree_scan.proofs.path.go_up.Given as goal

abbrev pub invariant-ups : goal.invariant-ups
invariant-ups l = record {
  passed : (passed : List Level) × ((l.fn.levels.items ≡ l.levels.items ++ passed) × Each IsSpent passed);
}

abbrev pub decreases-ups : goal.decreases-ups
decreases-ups l = length l.levels.items
