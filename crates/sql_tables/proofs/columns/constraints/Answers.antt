-- A round of the loop is a round of the grammar's.
use Rattle.std.proofs.Common.{◌∙◌}
use Rattle.std.proofs.lemmas.Result.{err_from_is_err_and}
use Rattle.sql_tables.proofs.Loops.{constraints_over, constraints_on, constraints_fail, constraints_shorter}
use Rattle.sql_tables.proofs.columns.constraints.Goals as goal

pub loop-found-preserved : goal.loop-found-preserved
loop-found-preserved c =
    c.loop-found.invariant
    ∙ constraints_on c.args.wide c.args.keyed c.loop-found.one c.loop-found.rest.now c.in-Some.found c.in-Some.more.now c.in_ok-one.field-0-0 c.in_ok-one.field-0-1.now
    c.in-Some.ensures c.in_ok-one.ensures

pub loop-found-smaller : goal.loop-found-smaller
loop-found-smaller c =
    constraints_shorter c.args.wide c.args.keyed c.loop-found.one c.loop-found.rest.now c.in-Some.found c.in-Some.more.now c.in_ok-one.field-0-0 c.in_ok-one.field-0-1.now
    c.in-Some.ensures c.in_ok-one.ensures

pub returns-in_err-one : goal.returns-in_err-one
returns-in_err-one c =
    let p = err_from_is_err_and c.from_residual.result c.from_residual.ensures.1 in
    rw (p.1, p.2, c.loop-found.invariant)
    (constraints_fail c.args.wide c.args.keyed c.loop-found.one c.loop-found.rest.now c.in-Some.found c.in-Some.more.now c.in_err-one.field-0.0 c.in-Some.ensures c.in_err-one.ensures)

pub returns : goal.returns
returns c = c.loop-found.invariant ∙ constraints_over c.args.wide c.args.keyed c.loop-found.one c.loop-found.rest.now c.in_default.ensures
