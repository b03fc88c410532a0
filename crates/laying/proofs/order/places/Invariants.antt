use Rattle.std.proofs.Common.{◌≡◌, ◌≤◌, ◌-◌, ◌++◌, length, drop}
use Rattle.laying.specs.Order.{places_from}
use Rattle.laying.proofs.order.places.Given as goal

-- the places so far, and those of the images that are left
abbrev pub invariant-loop-place : goal.invariant-loop-place
invariant-loop-place l = record {
  within : l.place ≤ length l.changed;
  same : l.places.items ++ places_from l.place (drop l.place l.changed) ≡ places_from 0 l.changed;
}

abbrev pub decreases-loop-place : goal.decreases-loop-place
decreases-loop-place l = length l.changed - l.place
