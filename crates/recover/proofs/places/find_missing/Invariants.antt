use Rattle.std.proofs.Common.{◌≡◌, ◌+◌, ◌-◌, length}
use Rattle.recover.specs.Seeing.{first_missing}
use Rattle.recover.specs.Looking.{is_whole_in}
use Rattle.recover.proofs.places.find_missing.Given as goal

abbrev pub invariant-loop-index : goal.invariant-loop-index
invariant-loop-index l =
    first_missing (is_whole_in l.places l.size l.main) (l.index + 1) (length l.places - l.index) ≡ first_missing (is_whole_in l.places l.size l.main) 1 (length l.places)
