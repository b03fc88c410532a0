use Rattle.std.proofs.Common.{◌≡◌, ◌+◌, ◌≤◌, ◌++◌, length, reverse, vec_capacity}
use Rattle.overlay.proofs.run.moved.Given as goal

abbrev pub invariant-loop-item : goal.invariant-loop-item
invariant-loop-item g l = (l.items ++ reverse l.all.items ≡ l.initial.items) × (length l.items + length l.all.items ≤ vec_capacity l.all)

abbrev pub decreases-loop-item : goal.decreases-loop-item
decreases-loop-item g l = length l.items
