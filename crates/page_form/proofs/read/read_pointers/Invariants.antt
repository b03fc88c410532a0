use Rattle.std.proofs.Common.{◌≡◌, ℕ, ◌+◌, ◌*◌, ◌<◌, length, get_or}
use Rattle.page_spec.specs.Bytes.{u16_at}
use Rattle.page_form.proofs.read.read_pointers.Given as goal

-- the pointers before the next one were read
abbrev pub invariant-loop-i : goal.invariant-loop-i
invariant-loop-i l = record {
  count : length l.cells.items ≡ l.i;
  same : (j : ℕ) → j < l.i → get_or l.cells.items j 0 ≡ u16_at l.bytes (l.pointers + 2 * j);
}
