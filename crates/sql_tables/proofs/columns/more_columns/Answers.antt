-- A round of the loop is a round of the grammar's.
use Rattle.std.proofs.Common.{◌∙◌}
use Rattle.std.proofs.lemmas.Result.{err_from_is_err_and}
use Rattle.sql_tables.proofs.Loops.{columns_over, columns_on, columns_fail, columns_shorter}
use Rattle.sql_tables.proofs.columns.more_columns.Goals as goal

pub loop-more-preserved : goal.loop-more-preserved
loop-more-preserved c =
    c.loop-more.invariant
    ∙ columns_on c.args.wide c.loop-more.table c.loop-more.rest.now c.in-Some.more.now c.in_ok-table.field-0-0 c.in_ok-table.field-0-1.now c.in-Some.ensures c.in_ok-table.ensures

pub loop-more-smaller : goal.loop-more-smaller
loop-more-smaller c =
    columns_shorter c.args.wide c.loop-more.table c.loop-more.rest.now c.in-Some.more.now c.in_ok-table.field-0-0 c.in_ok-table.field-0-1.now c.in-Some.ensures c.in_ok-table.ensures

pub returns-in_err-table : goal.returns-in_err-table
returns-in_err-table c =
    let p = err_from_is_err_and c.from_residual.result c.from_residual.ensures.1 in
    rw (p.1, p.2, c.loop-more.invariant)
    (columns_fail c.args.wide c.loop-more.table c.loop-more.rest.now c.in-Some.more.now c.in_err-table.field-0.0 c.in-Some.ensures c.in_err-table.ensures)

pub returns : goal.returns
returns c = c.loop-more.invariant ∙ columns_over c.args.wide c.loop-more.table c.loop-more.rest.now c.in_default.ensures
