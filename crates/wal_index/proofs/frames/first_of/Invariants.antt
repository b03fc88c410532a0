-- `start` begins a part, and none of the places before it, behind the first ones, is of the page.
use Rattle.std.proofs.Common.{◌≡◌, ◌-◌, ℕ, ◌<◌, ◌≤◌, length, slice_index}
use Rattle.wal_index.specs.Order.{part_start}
use Rattle.wal_index.proofs.frames.first_of.Given as goal

abbrev pub invariant-loop-start : goal.invariant-loop-start
invariant-loop-start l = (part_start l.start ≡ l.start) × (l.start < 8589934592)
    × ((place : ℕ) → l.after ≤ place → place < l.start → place < length l.pages → slice_index l.pages place ≡ l.page → ⊥)

abbrev pub decreases-loop-start : goal.decreases-loop-start
decreases-loop-start l = length l.pages - l.start
