use Rattle.std.proofs.Common.{◌≡◌, length, take}
use Rattle.std.specs.Prelude.{All}
use Rattle.value_form.specs.Written.{types_text, bodies_text}
use Rattle.value_form.specs.Writing.{IsWritable}
use Rattle.value_form.proofs.write.Sizes.of.Given as goal

-- the sizes of the values so far
abbrev pub invariant-loop-value : goal.invariant-loop-value
invariant-loop-value l = record {
  types : l.types ≡ length (types_text (take l.value-index l.values));
  bodies : l.bodies ≡ length (bodies_text (take l.value-index l.values));
  writable : All IsWritable (take l.value-index l.values);
}
