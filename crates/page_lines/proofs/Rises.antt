-- Counts of faults over two moves: what rose in one of them rose.
use Rattle.std.proofs.Common.{◌≡◌, ℕ, ◌<◌, ◌≤◌, inl, inr, arith}
use Rattle.std.specs.Prelude.{◌⊎◌}
use Rattle.std.proofs.lemmas.Bool.{cases_lt}
use Rattle.disk_face.specs.Faults.{Rose, last_count}

-- a count that rose in the first move and didn't fall in the second rose
pub rose_first : (old mid new : ℕ) → mid ≤ new → Rose old mid → Rose old new
rose_first old mid new more rose = record { later = omega (arith, rose.later); counted = by_count rose.counted (cases_lt mid new) }
  where
    by_count : (old < mid) ⊎ (mid ≡ last_count) → (mid < new) ⊎ (new ≤ mid) → (old < new) ⊎ (new ≡ last_count)
    by_count (inl less) other = (let sure = rose.later in inl (omega arith))
    by_count (inr last) (inl less) = (let sure = rose.later in inl (omega arith))
    by_count (inr last) (inr same) = inr (omega arith)

-- and one that didn't fall in the first and rose in the second
pub rose_then : (old mid new : ℕ) → old ≤ mid → Rose mid new → Rose old new
rose_then old mid new more rose = record {
  later = omega (arith, rose.later);
  counted = elim (rose.counted) [ inl less ↦ inl (omega arith) | inr last ↦ inr last ];
}
