use Rattle.std.proofs.Common.{◌≡◌, drop}
use Rattle.engine_spec.specs.Change.{image_of}
use Rattle.acts.proofs.transaction.own_byte.Given as goal

abbrev pub invariant-loop-image : goal.invariant-loop-image
invariant-loop-image l = image_of l.changed l.page ≡ image_of (drop l.image-index l.changed) l.page
