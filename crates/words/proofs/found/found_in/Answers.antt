use Rattle.std.proofs.Common.{◌∙◌, sym}
use Rattle.words.specs.Seen.{given_in}
use Rattle.words.proofs.Fronts.{dashes_on, none_left}
use Rattle.words.proofs.found.found_in.Goals as goal

pub returns-then-is : goal.returns-then-is
returns-then-is c =
    c.with_paths.ensures
    ∙ dashes_on c.loop-word.left.now c.in-Some.word.now c.in-Some.behind.now (given_in c.loop-word.found) c.in-Some.ensures.cases.0 (sym c.is.ensures ∙ c.if-is.true)
    ∙ c.loop-word.invariant

pub returns : goal.returns
returns c = none_left c.loop-word.left.now (given_in c.loop-word.found) c.in_default.ensures.cases ∙ c.loop-word.invariant
