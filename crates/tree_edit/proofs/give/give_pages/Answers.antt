use Rattle.std.proofs.Common.{ℕ, List, ◌∙◌, arith, sym, subst, take, get_or}
use Rattle.std.proofs.lemmas.List.{take_more}
use Rattle.page_face.proofs.PageLaws.{editing_join}
use Rattle.tree_edit.proofs.Given.{GaveSoFar, gave_none, gave_more}
use Rattle.tree_edit.proofs.Storing.{fault_since}
use Rattle.tree_edit.proofs.give.give_pages.Goals as goal

pub pages-init : goal.pages-init
pages-init g c = gave_none g.P.PagesTells c.args.pages.now c.requires.ready (g.P.PagesTells.follows_itself _)

pub give_up-requires-clause-ready : goal.give_up-requires-clause-ready
give_up-requires-clause-ready g c = c.pages.invariant.edits.ready

pub pages-preserved : goal.pages-preserved
pages-preserved g c = subst (λ (l : List ℕ). GaveSoFar g.P.PagesTells c.args.pages.now c.give_up.new.self l) (sym (take_more c.args.gone.now c.pages.i 0 (omega (arith, c.pages-test.true))))
    (gave_more g.P.PagesTells c.args.pages.now c.pages.pages c.give_up.new.self (take c.pages.i c.args.gone.now) (get_or c.args.gone.now c.pages.i 0) g.P.PagesTells.follows_on c.in-Ok.ensures c.pages.invariant)

pub returns-in-Err-clause-cause : goal.returns-in-Err-clause-cause
returns-in-Err-clause-cause g c = fault_since _ _ _ c.in-Err.why c.pages.invariant.edits.faults c.in-Err.ensures.cause

pub returns-in-Err-clause-last : goal.returns-in-Err-clause-last
returns-in-Err-clause-last g c = c.in-Err.ensures.last ∙ c.pages.invariant.last

pub returns-in-Err-clause-edits : goal.returns-in-Err-clause-edits
returns-in-Err-clause-edits g c = editing_join g.P.PagesTells c.args.pages.now c.pages.pages c.give_up.new.self c.pages.invariant.edits c.in-Err.ensures.edits g.P.PagesTells.follows_on
