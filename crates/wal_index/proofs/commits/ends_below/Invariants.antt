-- The answer lies between `low` and `high`.
use Rattle.std.proofs.Common.{◌-◌, ℕ, ◌<◌, ◌≤◌, length, slice_index}
use Rattle.wal_index.proofs.commits.ends_below.Given as goal

abbrev pub invariant-loop-low : goal.invariant-loop-low
invariant-loop-low l = (l.low ≤ l.high) × (l.high ≤ length l.ends)
    × ((place : ℕ) → place < l.low → slice_index l.ends place ≤ l.frame - 1)
    × ((place : ℕ) → l.high ≤ place → place < length l.ends → l.frame - 1 < slice_index l.ends place)

abbrev pub decreases-loop-low : goal.decreases-loop-low
decreases-loop-low l = l.high - l.low
