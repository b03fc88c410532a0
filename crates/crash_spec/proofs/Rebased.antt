-- A disk's history since an opening, as a history of its own.
use Rattle.std.proofs.Common.{◌≡◌, List, ◌++◌, subst}
use Rattle.disk_face.specs.declared.step.Step.{Step}
use Rattle.disk_face.specs.Files.{Files}
use Rattle.disk_face.specs.Steps.{History, reads}
use Rattle.disk_face.specs.Image.{Range, unsure, MayLeave, IsImage}
use Rattle.disk_face.proofs.Images.{now-append, unsure-append}
use Rattle.crash_spec.specs.Opening.{grown, rebased}

pub rebased_reads : (start : History) (since : List Step) → reads (grown since start) ≡ reads (rebased start since)
rebased_reads start since = now-append start.first since start.steps

-- what a crash may leave is the same
pub rebased_leaves : (before : List Range) (start : History) (since : List Step) (image : Files) → MayLeave before (grown since start) image → MayLeave (unsure before start.steps) (rebased start since) image
rebased_leaves before start since image left =
    subst (λ (ranges : List Range). IsImage ranges (reads (rebased start since)) image) (unsure-append before since start.steps)
    (subst (λ (files : Files). IsImage (unsure before (since ++ start.steps)) files image) (rebased_reads start since) left)
