use Rattle.std.proofs.Common.{ℕ, List, false, subst, ap, ◌∙◌}
use Rattle.std.specs.Prelude.{Option, unwrap_or}
use Rattle.node_spec.specs.Cells.{cell_in}
use Rattle.node_spec.specs.Nodes.{Node, node_of}
use Rattle.node_edit.specs.Keys.{kind_above}
use Rattle.tree_edit.specs.Dividing.{ShowUnder}
use Rattle.tree_edit.proofs.Joined.{one_node}
use Rattle.tree_edit.proofs.Divided.{under_key}
use Rattle.tree_edit.proofs.dividing.divide_under.Goals as goal

pub returns-in-Ok-None-clause-none : goal.returns-in-Ok-None-clause-none
returns-in-Ok-None-clause-none c = λ none. c.in-Ok-None.ensures.none c.in-Ok-None.field-0-is

pub returns-in-Ok-clause-divided : goal.returns-in-Ok-clause-divided
returns-in-Ok-clause-divided c = λ text is one two left_is right_is.
    let r = c.requires.nodes in
    let u = c.args.u in
    let k = c.args.told.kind in
    let up = cell_in (kind_above k) u c.args.cell.now in
    let kind = r.5 ∙ ap (λ (n : Node). n.kind) (one_node r.0 one (node_of u false c.args.left.now) r.2 left_is) in
    subst (λ (l : List ℕ). ShowUnder u (kind_above k) one up two c.args.page l c.divide_bytes.new.left c.divide_bytes.new.right) (ap (λ (found : Option (List ℕ)). unwrap_or found text) is)
    (under_key u k one up two c.args.page c.in-Ok-Some.key c.in-Ok.text c.divide_bytes.new.left c.divide_bytes.new.right kind c.in-Ok.ensures.leads
    (c.in-Ok-Some.ensures.divided c.in-Ok-Some.key c.in-Ok-Some.field-0-is one two left_is right_is))
