use Rattle.laying_tests.specs.Fit.{AreFit}
use Rattle.laying_tests.proofs.images.images_of.Given as goal

abbrev pub invariant-loop-page : goal.invariant-loop-page
invariant-loop-page l = AreFit l.images
