-- The answer lies between `low` and `high`.
use Rattle.std.proofs.Common.{◌-◌, ℕ, ◌<◌, ◌≤◌, length, slice_index}
use Rattle.wal_index.proofs.commits.count_up_to.Given as goal

abbrev pub invariant-loop-low : goal.invariant-loop-low
invariant-loop-low l = (l.low ≤ l.high) × (l.high ≤ length l.numbers)
    × ((place : ℕ) → place < l.low → slice_index l.numbers place ≤ l.most)
    × ((place : ℕ) → l.high ≤ place → place < length l.numbers → l.most < slice_index l.numbers place)

abbrev pub decreases-loop-low : goal.decreases-loop-low
decreases-loop-low l = l.high - l.low
