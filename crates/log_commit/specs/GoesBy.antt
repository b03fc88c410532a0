-- By which steps a disk has gone on.
use Rattle.std.specs.Prelude.{◌≡◌, List, All, Option, Some, None}
use Rattle.disk_face.specs.declared.step.Step.{Step}
use Rattle.disk_face.specs.Steps.{History}
use Rattle.crash_spec.specs.Opening.{grown}

-- where the disk tells it, it has gone on by steps that all are so, or by none
abbrev pub GoesBy : (Step → Type 0) → Option History → Option History → Type 0
GoesBy P None new = new ≡ None
GoesBy P (Some old) new = (more : List Step) × All P more × (new ≡ Some (grown more old))
