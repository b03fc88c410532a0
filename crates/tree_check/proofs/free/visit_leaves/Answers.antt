use Rattle.std.proofs.Common.{◌≡◌, ℕ, ◌<◌, subst, ap, arith}
use Rattle.page_spec.specs.Bytes.{u32_at}
use Rattle.tree_check.specs.declared.walk.Walk.{Walk}
use Rattle.tree_check.proofs.Freeing.{LeavesMet, leaf_more, leaves_met, leaf_twice, few_leaves, leaf_inside}
use Rattle.tree_check.proofs.free.visit_leaves.Goals as goal

pub get_u32-requires : goal.get_u32-requires
get_u32-requires c =
    let usable = c.requires.usable in
    let few = few_leaves c.args.walk.now.usable c.args.walk.now.last c.args.trunk.now usable.0 usable.1 c.requires.whole in
    omega (arith, few.0, usable.2, c.leaves-test.true, c.get_u32-count.ensures)

pub meet-requires-clause-page : goal.meet-requires-clause-page
meet-requires-clause-page c =
    let less : c.leaves.i < u32_at c.args.trunk.now 4 = omega (arith, c.leaves-test.true, c.get_u32-count.ensures) in
    let range = leaf_inside c.args.walk.now.usable c.args.walk.now.last c.args.trunk.now c.leaves.i c.requires.whole less in
    let last : c.leaves.walk.last ≡ c.args.walk.now.last = ap (λ (w : Walk). w.last) c.leaves.invariant.same in
    (omega (arith, range.0, c.get_u32.ensures), omega (arith, range.1, c.get_u32.ensures, last))

pub returns-in-Err-clause-cause : goal.returns-in-Err-clause-cause
returns-in-Err-clause-cause c =
    leaf_twice c.args.walk.now c.leaves.walk c.args.trunk.now c.leaves.i c.get_u32.result c.in-Err.why
    (omega (arith, c.leaves-test.true, c.get_u32-count.ensures)) c.get_u32.ensures c.leaves.invariant c.in-Err.ensures.twice

pub leaves-preserved : goal.leaves-preserved
leaves-preserved c =
    leaf_more c.args.walk.now c.leaves.walk c.meet.new.self c.args.trunk.now c.leaves.i c.get_u32.result
    (omega (arith, c.leaves-test.true, c.get_u32-count.ensures)) c.get_u32.ensures c.leaves.invariant c.in-Ok.ensures.met

pub returns-clause-leaves : goal.returns-clause-leaves
returns-clause-leaves c =
    let is : c.leaves.i ≡ c.get_u32-count.result = omega (arith, c.leaves-test.false, c.leaves.auto.i-end) in
    leaves_met c.args.walk.now c.leaves.walk c.args.trunk.now c.get_u32-count.result c.get_u32-count.ensures
    (subst (λ (n : ℕ). LeavesMet c.args.walk.now c.args.trunk.now n c.leaves.walk) is c.leaves.invariant)

pub returns-clause-small : goal.returns-clause-small
returns-clause-small c =
    let usable = c.requires.usable in
    let few = few_leaves c.args.walk.now.usable c.args.walk.now.last c.args.trunk.now usable.0 usable.1 c.requires.whole in
    omega (arith, few.1, c.get_u32-count.ensures)
