use Rattle.std.proofs.Common.{◌≡◌, ℕ, ◌+◌, ◌<◌, ◌≤◌, min, get_or, ◌⊎◌}
use Rattle.page_form.proofs.content.mark.Given as goal

-- the bytes before k are marked
abbrev pub invariant-loop-k : goal.invariant-loop-k
invariant-loop-k l = record {
  inside : (j : ℕ) → l.start ≤ j → j < l.k → get_or l.marks j 0 ≡ min 2 (get_or l.initial.marks j 0 + 1);
  outside : (j : ℕ) → (j < l.start) ⊎ (l.k ≤ j) → get_or l.marks j 0 ≡ get_or l.initial.marks j 0;
}
