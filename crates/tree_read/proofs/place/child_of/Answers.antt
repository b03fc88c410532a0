use Rattle.std.proofs.Common.{ℤ, subst, arith, w64}
use Rattle.std.proofs.lemmas.Int.{to_z-of_z, ints}
use Rattle.tree_read.specs.Ways.{StandsAt}
use Rattle.tree_read.proofs.place.child_of.Goals as goal

pub returns : goal.returns
returns c = λ node read. (
  c.place_of.result,
  subst (λ (z : ℤ). StandsAt node.cells z c.place_of.result) (to_z-of_z w64 c.args.rowid (omega (arith, ints, c.ranges.rowid.sfits))) (c.place_of.ensures node read),
  c.child_before.ensures node read,
)
