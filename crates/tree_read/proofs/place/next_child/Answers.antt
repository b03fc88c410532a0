use Rattle.std.proofs.Common.{ℤ, sym, subst, arith, w64}
use Rattle.std.proofs.lemmas.Int.{to_z-of_z, ints}
use Rattle.tree_read.specs.declared.place.Aim.{Aim}
use Rattle.tree_read.specs.Ways.{IsAimed, IsNext}
use Rattle.tree_read.proofs.place.next_child.Goals as goal

pub returns-in-Rowid : goal.returns-in-Rowid
returns-in-Rowid c = λ node read. subst (λ (a : Aim). IsAimed node a c.child_of.result) (sym c.in-Rowid.is)
    (subst (λ (z : ℤ). IsNext node z c.child_of.result) (to_z-of_z w64 c.in-Rowid.rowid (omega (arith, ints))) (c.child_of.ensures node read))
