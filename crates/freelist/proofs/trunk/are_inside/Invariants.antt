use Rattle.std.proofs.Common.{ℕ, ◌+◌, ◌*◌, ◌<◌, ◌≤◌}
use Rattle.page_spec.specs.Bytes.{u32_at}
use Rattle.freelist.proofs.trunk.are_inside.Given as goal

abbrev pub invariant-loop-i : goal.invariant-loop-i
invariant-loop-i l = (k : ℕ) → k < l.i → (2 ≤ u32_at l.page (8 + 4 * k)) × (u32_at l.page (8 + 4 * k) ≤ l.last)
