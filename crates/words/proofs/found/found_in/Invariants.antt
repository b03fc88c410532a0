use Rattle.std.proofs.Common.{◌≡◌, length}
use Rattle.words.specs.Seen.{given_in}
use Rattle.words.specs.Words.{given_by}
use Rattle.words.proofs.found.found_in.Given as goal

-- the words that are left give what all of them give
abbrev pub invariant-loop-word : goal.invariant-loop-word
invariant-loop-word l = given_by l.left (given_in l.found) ≡ given_by l.initial.left (given_in l.initial.found)

abbrev pub decreases-loop-word : goal.decreases-loop-word
decreases-loop-word l = length l.left
