use Rattle.std.proofs.Common.{◌≡◌, ◌++◌, take}
use Rattle.value_form.specs.Written.{types_text}
use Rattle.value_form.proofs.write.put_types.Given as goal

abbrev pub invariant-loop-value : goal.invariant-loop-value
invariant-loop-value l = l.to.items ≡ l.initial.to.items ++ types_text (take l.value-index l.values)
