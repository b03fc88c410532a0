use Rattle.std.proofs.Common.{sym, ◌∙◌, arith}
use Rattle.node_edit.proofs.UpKeys.{inner_long}
use Rattle.node_edit.proofs.between.child_in.Goals as goal

pub get_u32-requires : goal.get_u32-requires
get_u32-requires c = omega (arith, inner_long c.args.kind c.requires.0 c.args.text.now (sym c.is_leaf.ensures ∙ c.if-is_leaf.false) c.requires.1)
