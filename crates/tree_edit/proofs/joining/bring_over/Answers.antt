use Rattle.std.proofs.Common.{ℕ, List, ◌++◌, false, sym, subst, ap, ◌∙◌}
use Rattle.std.specs.Prelude.{◌&&◌}
use Rattle.node_spec.specs.Kinds.{is_leaf, is_table}
use Rattle.node_spec.specs.Nodes.{Node, node_of}
use Rattle.edit_spec.specs.Nodes.{node_taking}
use Rattle.node_edit.specs.Runs.{spelled_by}
use Rattle.tree_edit.specs.Joining.{SpellBetween}
use Rattle.tree_edit.proofs.Joined.{joins_of, lacks_of, leaf_right, one_node}
use Rattle.tree_edit.proofs.joining.bring_over.Goals as goal

pub returns-clause-joined : goal.returns-clause-joined
returns-clause-joined c = λ fits one two left_is right_is.
    let r = c.requires.nodes in
    let u = c.args.u in
    let k = c.args.told.kind in
    let first = one_node r.0 one (node_of u false c.args.left.now) r.2 left_is in
    let second = one_node r.1 two (node_of u false c.args.right.now) r.3 right_is in
    let kind = r.5 ∙ ap (λ (n : Node). n.kind) first in
    let spells = subst (λ (l : List (List ℕ)). SpellBetween (is_leaf k && is_table k) k u c.args.cell.now c.args.told.right l) (sym c.as_slice.ensures.value) (c.in-Ok.ensures.between u c.requires.cell) in
    record {
      whole = node_taking two 0 (one.cells ++ spelled_by one.kind u c.as_slice.result.now);
      shown = c.take_over-fits.ensures.put fits one two left_is right_is;
      joins = joins_of u k one two c.args.cell.now c.args.told.right c.as_slice.result.now kind (ap (λ (n : Node). n.kind) (sym second) ∙ (r.4 ∙ ap (λ (n : Node). n.kind) first))
          (r.6 ∙ ap (λ (n : Node). n.right) first) (λ leaf. leaf_right u false c.args.left.now one left_is (ap is_leaf (sym kind) ∙ leaf)) spells;
    }

pub returns-clause-lacks : goal.returns-clause-lacks
returns-clause-lacks c = λ lacks one two left_is right_is.
    let r = c.requires.nodes in
    let u = c.args.u in
    let k = c.args.told.kind in
    let first = one_node r.0 one (node_of u false c.args.left.now) r.2 left_is in
    let second = one_node r.1 two (node_of u false c.args.right.now) r.3 right_is in
    let kind = r.5 ∙ ap (λ (n : Node). n.kind) first in
    let spells = subst (λ (l : List (List ℕ)). SpellBetween (is_leaf k && is_table k) k u c.args.cell.now c.args.told.right l) (sym c.as_slice.ensures.value) (c.in-Ok.ensures.between u c.requires.cell) in
    lacks_of u k one two c.args.cell.now c.args.told.right c.as_slice.result.now kind (ap (λ (n : Node). n.kind) (sym second) ∙ (r.4 ∙ ap (λ (n : Node). n.kind) first))
    (r.6 ∙ ap (λ (n : Node). n.right) first) (λ leaf. leaf_right u false c.args.left.now one left_is (ap is_leaf (sym kind) ∙ leaf)) spells
    (c.take_over-fits.ensures.lacks lacks one two left_is right_is)
