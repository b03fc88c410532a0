use Rattle.check_spec.specs.Walk.{root_spot}
use Rattle.tree_check.proofs.Entered.{enter_bars}
use Rattle.tree_check.proofs.TreeMet.{tree_visits, tree_bars}
use Rattle.tree_check.proofs.check.visit_root.Goals as goal

pub returns-in-Err-clause-cause : goal.returns-in-Err-clause-cause
returns-in-Err-clause-cause g c =
    enter_bars g.P.PagesTells c.args.pages.now c.enter.new.pages c.args.walk.now root_spot c.args.root c.in-Err.why c.in-Err.ensures.cause

pub returns-in-Ok-visit-clause-visited : goal.returns-in-Ok-visit-clause-visited
returns-in-Ok-visit-clause-visited g c =
    tree_visits g.P.PagesTells c.args.pages.now c.enter.new.pages c.visit.new.pages c.args.walk.now c.enter.new.walk c.visit.new.walk root_spot c.root_spot.result c.args.root
    c.enter.new.bufs c.root_spot.ensures c.in-Ok.ensures.reading c.in-Ok-visit.ensures.reading c.in-Ok.ensures.entered c.in-Ok-visit.ensures.visited

pub returns-in-Err-visit-clause-cause : goal.returns-in-Err-visit-clause-cause
returns-in-Err-visit-clause-cause g c =
    tree_bars g.P.PagesTells c.args.pages.now c.enter.new.pages c.visit.new.pages c.args.walk.now c.enter.new.walk root_spot c.root_spot.result c.args.root
    c.enter.new.bufs c.in-Err-visit.why c.root_spot.ensures c.in-Ok.ensures.reading c.in-Err-visit.ensures.reading c.in-Ok.ensures.entered c.in-Err-visit.ensures.cause
