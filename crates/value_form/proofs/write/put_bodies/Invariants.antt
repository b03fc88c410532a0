use Rattle.std.proofs.Common.{◌≡◌, ◌++◌, take}
use Rattle.value_form.specs.Written.{bodies_text}
use Rattle.value_form.proofs.write.put_bodies.Given as goal

abbrev pub invariant-loop-value : goal.invariant-loop-value
invariant-loop-value l = l.to.items ≡ l.initial.to.items ++ bodies_text (take l.value-index l.values)
