use Rattle.std.proofs.Common.{inl}
use Rattle.check_spec.specs.Walk.{schema_spot}
use Rattle.tree_check.proofs.Entered.{enter_bars}
use Rattle.tree_check.proofs.TreeMet.{first_visits_tree, first_bars_tree}
use Rattle.tree_check.proofs.check.visit_first.Goals as goal

pub returns-in-Err-clause-cause : goal.returns-in-Err-clause-cause
returns-in-Err-clause-cause g c =
    enter_bars g.P.PagesTells c.args.pages.now c.args.pages.now c.args.walk.now schema_spot 1 c.in-Err.why (inl c.in-Err.ensures.twice)

pub returns-in-Ok-visit-clause-visited : goal.returns-in-Ok-visit-clause-visited
returns-in-Ok-visit-clause-visited g c =
    first_visits_tree g.P.PagesTells c.args.pages.now c.visit.new.pages c.args.walk.now c.meet.new.self c.visit.new.walk schema_spot c.schema_spot.result
    c.args.bufs.now c.schema_spot.ensures c.requires.suits c.in-Ok.ensures.met c.requires.bytes c.in-Ok-visit.ensures.reading c.in-Ok-visit.ensures.visited

pub returns-in-Err-visit-clause-cause : goal.returns-in-Err-visit-clause-cause
returns-in-Err-visit-clause-cause g c =
    first_bars_tree g.P.PagesTells c.args.pages.now c.visit.new.pages c.args.walk.now c.meet.new.self schema_spot c.schema_spot.result
    c.args.bufs.now c.in-Err-visit.why c.schema_spot.ensures c.requires.suits c.in-Ok.ensures.met c.requires.bytes c.in-Err-visit.ensures.reading c.in-Err-visit.ensures.cause
