use Rattle.std.proofs.Common.{[], ◌∷◌, arith}
use Rattle.std.proofs.lemmas.List.Elements.{All-nil, All-cons}
use Rattle.page_lines.specs.declared.lines.Act.{Act}
use Rattle.page_lines.specs.declared.lines.Act.TheVariants as act
use Rattle.page_lines.specs.Range.{IsInRange}
use Rattle.engine_tests.proofs.first_page.commit_one.Goals as goal

pub play-requires-clause-range : goal.play-requires-clause-range
play-requires-clause-range c =
    let begins : Act = act.Begin 1 in
    let writes : Act = act.Write 1 2 7 in
    let commits : Act = act.Commit 1 in
    let range : IsInRange writes = (omega arith, omega arith) in
    All-cons IsInRange begins (writes ∷ commits ∷ []) tt (All-cons IsInRange writes (commits ∷ []) range (All-cons IsInRange commits [] tt (All-nil IsInRange)))

pub returns-in_err-answers-clause-live : goal.returns-in_err-answers-clause-live
returns-in_err-answers-clause-live c = c.play.ensures.live [] c.requires.live

pub returns-clause-live : goal.returns-clause-live
returns-clause-live c = c.play.ensures.live [] c.requires.live
