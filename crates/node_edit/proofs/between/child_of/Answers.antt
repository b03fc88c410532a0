use Rattle.std.proofs.Common.{◌∙◌}
use Rattle.node_edit.proofs.UpKeys.{left_told}
use Rattle.node_edit.proofs.between.child_of.Goals as goal

pub child_in-requires : goal.child_in-requires
child_in-requires c = let r = c.requires.run in (c.args.run.u, (c.text_of.ensures r.0 r.1).one)

pub returns : goal.returns
returns c = λ cells is. c.child_in.ensures ∙ left_told (c.text_of.ensures cells is)
