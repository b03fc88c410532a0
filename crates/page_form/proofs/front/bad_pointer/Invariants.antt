use Rattle.std.proofs.Common.{◌≡◌, None}
use Rattle.node_spec.specs.Faults.{first_fault, pointer_fault}
use Rattle.page_form.proofs.front.bad_pointer.Given as goal

-- no pointer before the next one leads before the content
abbrev pub invariant-loop-i : goal.invariant-loop-i
invariant-loop-i l = first_fault l.i (pointer_fault l.content l.bytes l.pointers) ≡ None
