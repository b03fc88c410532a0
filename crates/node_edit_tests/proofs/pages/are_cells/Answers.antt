use Rattle.std.proofs.Common.{◌≡◌, inl, inr, arith}
use Rattle.std.proofs.lemmas.Bool.{cases_lt}
use Rattle.node_edit_tests.proofs.pages.are_cells.Goals as goal

pub loop-i-preserved : goal.loop-i-preserved
loop-i-preserved c = λ k other less. elim (cases_lt k c.loop-i.i) [
  | inl below ↦ c.loop-i.invariant k other below
  | inr here ↦
      let same : k ≡ c.loop-i.i = omega (arith, less, here) in
      rw same (c.is_cell_at.ensures c.if-not-is_cell_at.false other)
]
