use Rattle.std.proofs.Common.{ℕ, List, ◌++◌, false, sym, subst, ap, ◌∙◌}
use Rattle.std.specs.Prelude.{◌&&◌, Option, unwrap_or}
use Rattle.node_spec.specs.Kinds.{is_leaf, is_table}
use Rattle.node_spec.specs.Nodes.{Node, node_of}
use Rattle.edit_spec.specs.Nodes.{node_taking}
use Rattle.node_spec.specs.Cells.{cell_in}
use Rattle.node_edit.specs.Keys.{kind_above}
use Rattle.node_edit.specs.Runs.{spelled_by}
use Rattle.tree_edit.specs.Joining.{SpellBetween}
use Rattle.tree_edit.specs.Dividing.{ShowAnew}
use Rattle.tree_edit.proofs.Joined.{joins_of, leaf_right, one_node}
use Rattle.tree_edit.proofs.Divided.{has_room}
use Rattle.tree_edit.proofs.dividing.divide_bytes.Goals as goal

pub returns-then-take_over-clause-none : goal.returns-then-take_over-clause-none
returns-then-take_over-clause-none c = λ none one two left_is right_is have.
    let r = c.requires.nodes in
    let u = c.args.u in
    let k = c.args.told.kind in
    let first = one_node r.0 one (node_of u false c.args.left.now) r.2 left_is in
    let spells = subst (λ (l : List (List ℕ)). SpellBetween (is_leaf k && is_table k) k u c.args.cell.now c.args.told.right l) (sym c.as_slice.ensures.value) (c.in-Ok.ensures.between u c.requires.cell) in
    has_room u k one two c.args.cell.now c.args.told.right c.as_slice.result.now (r.5 ∙ ap (λ (n : Node). n.kind) first) have.kind spells
    (c.take_over.ensures.room c.if-take_over.true one two left_is right_is) have.lacks

pub returns-in-Ok-divide_apart-clause-divided : goal.returns-in-Ok-divide_apart-clause-divided
returns-in-Ok-divide_apart-clause-divided c = λ key is one two left_is right_is.
    let r = c.requires.nodes in
    let u = c.args.u in
    let k = c.args.told.kind in
    let texts = c.as_slice-2.result.now in
    let up = cell_in (kind_above k) u c.args.cell.now in
    let first = one_node r.0 one (node_of u false c.args.left.now) r.2 left_is in
    let second = one_node r.1 two (node_of u false c.args.right.now) r.3 right_is in
    let kind = r.5 ∙ ap (λ (n : Node). n.kind) first in
    let both = ap (λ (n : Node). n.kind) (sym second) ∙ (r.4 ∙ ap (λ (n : Node). n.kind) first) in
    let spells = subst (λ (l : List (List ℕ)). SpellBetween (is_leaf k && is_table k) k u c.args.cell.now c.args.told.right l) (sym c.as_slice-2.ensures.value) (c.in-Ok.ensures.between u c.requires.cell) in
    let still = ap (node_of u false) (c.take_over.ensures.same c.if-take_over.false) ∙ right_is in
    let anew : ShowAnew u one up two c.in-Ok-divide_apart.key c.divide_apart.new.left c.divide_apart.new.right =
    record {
      whole = node_taking two 0 (one.cells ++ spelled_by one.kind u texts);
      kind = both;
      joins = joins_of u k one two c.args.cell.now c.args.told.right texts kind both (r.6 ∙ ap (λ (n : Node). n.right) first)
          (λ leaf. leaf_right u false c.args.left.now one left_is (ap is_leaf (sym kind) ∙ leaf)) spells;
      parts = c.in-Ok-divide_apart.ensures.parts one two left_is still;
    } in
    subst (λ (l : List ℕ). ShowAnew u one up two l c.divide_apart.new.left c.divide_apart.new.right) (ap (λ (found : Option (List ℕ)). unwrap_or found key) is) anew
