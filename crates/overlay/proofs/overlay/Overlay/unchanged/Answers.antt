use Rattle.std.proofs.Common.{◌<◌, ◌^◌, ℕ, List, refl, sym, subst, arith}
use Rattle.std.specs.Prelude.{Contains}
use Rattle.overlay.proofs.Numbers.{first_there}
use Rattle.overlay.proofs.InOrder.{nothing_in_order}
use Rattle.overlay.proofs.overlay.Overlay.unchanged.Goals as goal

pub invariant_of-result : goal.invariant_of-result
invariant_of-result g c =
    let few : c.args.base < 2 ^ 32 = omega arith in
    rw (c.new.ensures, c.new-2.ensures, c.new-3.ensures) (record {
      now = nothing_in_order c.args.mode c.args.base few;
      at_mark = tt;
      count = refl;
      first = λ plain. subst (λ (reads : List ℕ). Contains reads 1) (sym c.requires) (first_there c.args.mode plain);
    })
