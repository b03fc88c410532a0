use Rattle.std.proofs.Common.{◌≡◌, drop}
use Rattle.recover.specs.Looking.{place_after}
use Rattle.recover.proofs.places.place_after.Given as goal

abbrev pub invariant-loop-frame : goal.invariant-loop-frame
invariant-loop-frame l = place_after l.log l.size l.frame (drop l.frame l.pages) l.number l.place ≡ place_after l.log l.size 0 l.pages l.number l.fn.below
