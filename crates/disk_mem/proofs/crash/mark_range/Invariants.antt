use Rattle.std.proofs.Common.{◌≡◌, ℕ, ◌≤◌, ◌<◌, Bool, true, false, List, slice_index_or}
use Rattle.disk_mem.proofs.crash.mark_range.Given as goal

-- the marks from the start of the range on, and before this place, are set, and the others are as they were
pub record MarkedTo (from place : ℕ) (before now : List Bool) : Type 0 where
  pub inside : (p : ℕ) → from ≤ p → p < place → slice_index_or now p false ≡ true
  pub ahead : (p : ℕ) → p < from → slice_index_or now p false ≡ slice_index_or before p false
  pub behind : (p : ℕ) → place ≤ p → slice_index_or now p false ≡ slice_index_or before p false

abbrev pub invariant-loop-place : goal.invariant-loop-place
invariant-loop-place l = MarkedTo l.from l.place l.initial.marks l.marks
