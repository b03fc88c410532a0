use Rattle.std.proofs.Common.{Bool, false, sym, subst}
use Rattle.std.proofs.lemmas.Result.{on_ok_weaker, IfErr-weaker}
use Rattle.check_spec.specs.Walk.{payload_places}
use Rattle.tree_check.specs.Walking.{HasVisited, BarsVisit}
use Rattle.tree_check.proofs.Paying.{content_visited}
use Rattle.tree_check.proofs.tree.visit_payload.Goals as goal

pub returns-then-schema-clause-visited : goal.returns-then-schema-clause-visited
returns-then-schema-clause-visited g c =
    on_ok_weaker c.visit_row.result
    (λ visited told shows.
    subst (λ (b : Bool). HasVisited g.P.PagesTells c.args.pages.now c.args.walk.now (payload_places b told) c.visit_row.new.pages c.visit_row.new.walk) (sym c.if-schema.true)
    (visited told shows))
    c.visit_row.ensures.visited

pub returns-then-schema-clause-cause : goal.returns-then-schema-clause-cause
returns-then-schema-clause-cause g c =
    IfErr-weaker c.visit_row.result _ _
    (λ why bars told shows.
    subst (λ (b : Bool). BarsVisit g.P.PagesTells c.args.pages.now c.visit_row.new.pages c.args.walk.now (payload_places b told) why) (sym c.if-schema.true) (bars told shows))
    c.visit_row.ensures.cause

pub returns-else-schema-clause-visited : goal.returns-else-schema-clause-visited
returns-else-schema-clause-visited g c =
    on_ok_weaker c.visit_content.result
    (λ content told shows.
    subst (λ (b : Bool). HasVisited g.P.PagesTells c.args.pages.now c.args.walk.now (payload_places b told) c.visit_content.new.pages c.visit_content.new.walk)
    (sym c.if-schema.false)
    (content_visited g.P.PagesTells c.args.pages.now c.visit_content.new.pages c.args.walk.now c.visit_content.new.walk false told (content told shows)))
    c.visit_content.ensures.content

pub returns-else-schema-clause-cause : goal.returns-else-schema-clause-cause
returns-else-schema-clause-cause g c =
    IfErr-weaker c.visit_content.result _ _
    (λ why bars told shows.
    subst (λ (b : Bool). BarsVisit g.P.PagesTells c.args.pages.now c.visit_content.new.pages c.args.walk.now (payload_places b told) why) (sym c.if-schema.false) (bars told shows))
    c.visit_content.ensures.cause
