-- None of the places from `end` on, below the limit, is of the page, and a part ends at `end`, or it is the limit.
use Rattle.std.proofs.Common.{◌≡◌, ℕ, ◌<◌, ◌≤◌, slice_index}
use Rattle.wal_index.proofs.frames.last_of.Given as goal

abbrev pub invariant-loop-end : goal.invariant-loop-end
invariant-loop-end l = (l.end ≤ l.limit) × ((place : ℕ) → l.end ≤ place → place < l.limit → slice_index l.pages place ≡ l.page → ⊥)

abbrev pub decreases-loop-end : goal.decreases-loop-end
decreases-loop-end l = l.end
