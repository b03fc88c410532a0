use Rattle.std.proofs.Common.{◌≡◌, ℕ, ◌+◌, ◌*◌, Some, None, sym, subst, ap, ◌∙◌, arith}
use Rattle.page_spec.specs.Bytes.{u32_at}
use Rattle.node_spec.specs.Faults.{unless}
use Rattle.node_spec.proofs.FaultLaws.{none_first, first_some, first_more}
use Rattle.check_spec.specs.Forms.{is_inside}
use Rattle.tree_check.proofs.forms.leaves_fault.Goals as goal

pub loop-i-init : goal.loop-i-init
loop-i-init c = none_first 0 (λ i. unless (is_inside c.args.last (u32_at c.args.page.now (8 + 4 * i))) (8 + 4 * i)) (λ i l. absurd (omega (arith, l)))

pub loop-i-preserved : goal.loop-i-preserved
loop-i-preserved c =
    let here = sym c.is_inside.ensures ∙ c.if-not-is_inside.false in
    first_more c.loop-i.i (λ i. unless (is_inside c.args.last (u32_at c.args.page.now (8 + 4 * i))) (8 + 4 * i)) c.loop-i.invariant
    (subst (λ (n : ℕ). unless (is_inside c.args.last n) (8 + 4 * c.loop-i.i) ≡ None) c.get_u32.ensures (ap (λ b. unless b (8 + 4 * c.loop-i.i)) here))

pub returns-then-not-is_inside : goal.returns-then-not-is_inside
returns-then-not-is_inside c =
    let here = sym c.is_inside.ensures ∙ c.if-not-is_inside.true in
    sym (first_some c.args.count (λ i. unless (is_inside c.args.last (u32_at c.args.page.now (8 + 4 * i))) (8 + 4 * i)) c.loop-i.i (8 + 4 * c.loop-i.i)
    c.loop-i-test.true c.loop-i.invariant
    (subst (λ (n : ℕ). unless (is_inside c.args.last n) (8 + 4 * c.loop-i.i) ≡ Some (8 + 4 * c.loop-i.i)) c.get_u32.ensures (ap (λ b. unless b (8 + 4 * c.loop-i.i)) here)))
