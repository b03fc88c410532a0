-- Whether a read failed, as it is remembered beside the count of faults.
use Rattle.std.specs.Prelude.{ℕ, Bool, true, false}
use Rattle.std.proofs.Common.{◌≡◌, ◌⊎◌, inl, inr, ◌<◌, ◌≤◌, refl, ◌∙◌, arith}
use Rattle.std.proofs.lemmas.Bool.{cases_lt}
use Rattle.disk_face.specs.Faults.{Rose, last_count}

-- A read that failed stays remembered. As long as none is, the count is as it was; where one is that wasn't before, the count rose.
pub record Remembers (old new : Bool) (before after : ℕ) : Type 0 where
  pub later : before ≤ after
  pub none : new ≡ false → (old ≡ false) × (after ≡ before)
  pub some : new ≡ true → (old ≡ true) ⊎ Rose before after

-- so it is where nothing happened
pub remembers_itself : (failed : Bool) (count : ℕ) → Remembers failed failed count count
remembers_itself failed count = record { later = omega arith; none = λ is. (is, refl); some = λ is. inl is }

-- a count that rose in one of two moves rose
rose_first : (old mid new : ℕ) → mid ≤ new → Rose old mid → Rose old new
rose_first old mid new more rose = record { later = omega (arith, rose.later); counted = by_count rose.counted (cases_lt mid new) }
  where
    by_count : (old < mid) ⊎ (mid ≡ last_count) → (mid < new) ⊎ (new ≤ mid) → (old < new) ⊎ (new ≡ last_count)
    by_count (inl less) other = (let sure = rose.later in inl (omega arith))
    by_count (inr last) (inl less) = (let sure = rose.later in inl (omega arith))
    by_count (inr last) (inr same) = inr (omega arith)

rose_then : (old mid new : ℕ) → old ≤ mid → Rose mid new → Rose old new
rose_then old mid new more rose = record {
  later = omega (arith, rose.later);
  counted = elim (rose.counted) [ inl less ↦ inl (omega arith) | inr last ↦ inr last ];
}

-- and over two calls
pub remembers_on : (one two three : Bool) (first second third : ℕ) → Remembers one two first second → Remembers two three second third → Remembers one three first third
remembers_on one two three first second third before behind = record {
  later = omega (arith, before.later, behind.later);
  none = λ is. (let b = behind.none is in let a = before.none b.0 in (a.0, b.1 ∙ a.1));
  some = λ is. elim (behind.some is) [
    | inl was ↦ elim (before.some was) [ inl old ↦ inl old | inr rose ↦ inr (rose_first first second third behind.later rose) ]
    | inr rose ↦ inr (rose_then first second third before.later rose)
  ];
}
