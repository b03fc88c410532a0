use Rattle.std.proofs.Common.{Some, ap, ◌∙◌}
use Rattle.page_edit.specs.Forms.{empty_node}
use Rattle.node_edit.specs.Runs.{part_of}
use Rattle.node_edit.proofs.Rows.{begun_with}
use Rattle.node_edit.proofs.crowd.fill.Goals as goal

pub returns-clause-shows : goal.returns-clause-shows
returns-clause-shows c = λ cells is within.
    c.put_all.ensures.put cells (empty_node c.args.crowd.run.kind c.args.right) is within c.start_page.ensures.shows
    ∙ ap Some (begun_with c.args.crowd.run.kind c.args.right (part_of cells c.args.from c.args.end))
