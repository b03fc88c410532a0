use Rattle.std.proofs.Common.{◌≡◌, drop}
use Rattle.engine_spec.specs.Change.{image_of}
use Rattle.laying.proofs.first.first_image.Given as goal

-- the image of page 1 is among those that are left
abbrev pub invariant-loop-image : goal.invariant-loop-image
invariant-loop-image l = image_of (drop l.image-index l.changed) 1 ≡ image_of l.changed 1
