use Rattle.std.proofs.Common.{arith}
use Rattle.node_edit.proofs.RowCuts.{first_cut, second_cut, third_cut}
use Rattle.node_edit.proofs.leaves.cut_rows.Goals as goal

pub returns-then-rest_fits : goal.returns-then-rest_fits
returns-then-rest_fits c = λ cells cuts.
    let is = cuts.is_crowd in
    let fit = c.reach.ensures.fit cells is.is_run (omega (arith, is.count)) in
    first_cut cuts c.reach.result c.max-cut.result (omega (arith, c.max-cut.ensures)) (omega (arith, c.reach.ensures.range, is.count)) fit
    (c.rest_fits.ensures.fits c.if-rest_fits.true cells is)

pub returns-then-rest_fits-2 : goal.returns-then-rest_fits-2
returns-then-rest_fits-2 c = λ cells cuts.
    let is = cuts.is_crowd in
    second_cut cuts c.reach-low.result (omega (arith, c.reach-low.ensures.range, is.count)) (c.reach-low.ensures.fit cells is.is_run (omega (arith, is.count))) is.is_run.least
    (λ less. c.reach-low.ensures.next cells is.is_run (omega (arith, is.count)) (omega (arith, less, is.count)))
    (c.rest_fits-2.ensures.fits c.if-rest_fits-2.true cells is)

pub returns : goal.returns
returns c = λ cells cuts.
    let is = cuts.is_crowd in
    third_cut cuts c.reach-low.result c.reach-2.result (omega (arith, c.reach-low.ensures.range, is.count)) (c.reach-low.ensures.fit cells is.is_run (omega (arith, is.count))) is.is_run.least
    (λ less. c.reach-low.ensures.next cells is.is_run (omega (arith, is.count)) (omega (arith, less, is.count)))
    (c.rest_fits-2.ensures.lacks c.if-rest_fits-2.false cells is)
    c.reach-2.ensures.range.0 (omega (arith, c.reach-2.ensures.range, is.count)) (c.reach-2.ensures.fit cells is.is_run (omega (arith, is.count)))
    (λ less. c.reach-2.ensures.next cells is.is_run (omega (arith, is.count)) (omega (arith, less, is.count)))
