-- A round of the loop is a round of the grammar's.
use Rattle.std.proofs.Common.{◌∙◌}
use Rattle.std.proofs.lemmas.Result.{err_from_is_err_and}
use Rattle.sql_select.proofs.Loops.{sources_over, sources_on, sources_fail, sources_shorter}
use Rattle.sql_select.proofs.query.more_sources.Goals as goal

pub loop-found-preserved : goal.loop-found-preserved
loop-found-preserved c =
    c.loop-found.invariant
    ∙ sources_on c.loop-found.sources c.loop-found.rest.now c.in-Some.found c.in-Some.more.now c.in_ok-sources.field-0-0 c.in_ok-sources.field-0-1.now c.in-Some.ensures c.in_ok-sources.ensures

pub loop-found-smaller : goal.loop-found-smaller
loop-found-smaller c =
    sources_shorter c.loop-found.sources c.loop-found.rest.now c.in-Some.found c.in-Some.more.now c.in_ok-sources.field-0-0 c.in_ok-sources.field-0-1.now c.in-Some.ensures c.in_ok-sources.ensures

pub returns-in_err-sources : goal.returns-in_err-sources
returns-in_err-sources c =
    let p = err_from_is_err_and c.from_residual.result c.from_residual.ensures.1 in
    rw (p.1, p.2, c.loop-found.invariant)
    (sources_fail c.loop-found.sources c.loop-found.rest.now c.in-Some.found c.in-Some.more.now c.in_err-sources.field-0.0 c.in-Some.ensures c.in_err-sources.ensures)

pub returns : goal.returns
returns c = c.loop-found.invariant ∙ sources_over c.loop-found.sources c.loop-found.rest.now c.in_default.ensures
