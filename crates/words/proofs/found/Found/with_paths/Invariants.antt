use Rattle.std.proofs.Common.{◌≡◌, drop}
use Rattle.words.specs.Seen.{given_in}
use Rattle.words.specs.Words.{given_as_paths}
use Rattle.words.proofs.found.Found.with_paths.Given as goal

-- the words that are left give what all of them give
abbrev pub invariant-loop-word : goal.invariant-loop-word
invariant-loop-word l = given_as_paths (drop l.word-index l.words) (given_in l.found) ≡ given_as_paths l.words (given_in l.initial.found)
