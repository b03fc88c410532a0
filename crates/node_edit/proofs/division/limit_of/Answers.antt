use Rattle.std.proofs.Common.{ap, ◌∙◌, arith}
use Rattle.node_edit.specs.Runs.{weight_of}
use Rattle.node_edit.proofs.Rows.{part_whole}
use Rattle.node_edit.proofs.division.limit_of.Goals as goal

pub returns-clause-half : goal.returns-clause-half
returns-clause-half c = λ no cells is.
    let whole = c.weigh.ensures cells is.is_run (omega (arith, is.count)) ∙ ap weight_of (part_whole cells c.args.crowd.count is.count) in
    (omega (arith, whole), omega (arith, whole))
