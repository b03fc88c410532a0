use Rattle.std.proofs.Common.{arith}
use Rattle.node_edit.proofs.Dividing.{two_between, cut_some, rest_room}
use Rattle.node_edit.proofs.between.divide_between.Goals as goal

pub fill-requires-2-clause-part : goal.fill-requires-2-clause-part
fill-requires-2-clause-part c =
    let r = c.requires.cuts in
    let is = r.1.is_crowd in
    record {
      cells = r.0;
      is_run = is.is_run;
      order = omega (arith, c.reach-cut.ensures.range, is.count, r.1.three);
      within = omega (arith, is.count);
      fits = rest_room r.1 c.reach-cut.result c.args.crowd.count is.count (omega (arith, c.reach-cut.ensures.range, is.count, r.1.three))
          (λ less. c.reach-cut.ensures.next r.0 is.is_run (omega (arith, is.count)) (omega (arith, less, is.count)));
    }

pub returns-clause-parts : goal.returns-clause-parts
returns-clause-parts c = λ cells cuts.
    let is = cuts.is_crowd in
    two_between c.args.crowd cells c.reach-cut.result cuts
    (cut_some cuts c.reach-cut.result (λ less. c.reach-cut.ensures.next cells is.is_run (omega (arith, is.count)) (omega (arith, less, is.count))))
    (omega (arith, c.reach-cut.ensures.range, is.count, cuts.three)) (c.in_ok-key.ensures.key cells is.is_run) (c.child_of.ensures cells is.is_run)
    (c.fill.ensures.shows cells is.is_run (omega (arith, c.reach-cut.ensures.range, is.count)))
    (c.fill-2.ensures.shows cells is.is_run (omega (arith, is.count)))
