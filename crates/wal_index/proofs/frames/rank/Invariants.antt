-- The answer lies between `low` and `high`: what is below the one comes before, and from the other on nothing does.
use Rattle.std.proofs.Common.{◌-◌, ℕ, ◌<◌, ◌≤◌}
use Rattle.wal_index.specs.Order.{IsBefore, named}
use Rattle.wal_index.proofs.frames.rank.Given as goal

abbrev pub invariant-loop-low : goal.invariant-loop-low
invariant-loop-low l = (l.start ≤ l.low) × (l.low ≤ l.high) × (l.high ≤ l.end)
    × ((other : ℕ) → l.start ≤ other → other < l.low → IsBefore l.pages (named l.order other) l.page l.place)
    × ((other : ℕ) → l.high ≤ other → other < l.end → IsBefore l.pages (named l.order other) l.page l.place → ⊥)

abbrev pub decreases-loop-low : goal.decreases-loop-low
decreases-loop-low l = l.high - l.low
