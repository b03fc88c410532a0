use Rattle.std.proofs.Common.{take, All}
use Rattle.std.specs.Prelude.{◌≢◌}
use Rattle.laying_tests.proofs.images.is_new.Given as goal

-- none so far is of the page
abbrev pub invariant-loop-image : goal.invariant-loop-image
invariant-loop-image l = All (λ image. image.page ≢ l.page) (take l.image-index l.images)
