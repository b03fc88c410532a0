use Rattle.std.proofs.Common.{◌≡◌, ◌+◌, ◌*◌, None}
use Rattle.page_spec.specs.Bytes.{u32_at}
use Rattle.node_spec.specs.Faults.{unless, first_fault}
use Rattle.check_spec.specs.Forms.{is_inside}
use Rattle.tree_check.proofs.forms.leaves_fault.Given as goal

-- each leaf before the next one is in range
abbrev pub invariant-loop-i : goal.invariant-loop-i
invariant-loop-i l = first_fault l.i (λ i. unless (is_inside l.last (u32_at l.page (8 + 4 * i))) (8 + 4 * i)) ≡ None
