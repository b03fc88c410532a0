use Rattle.std.proofs.Common.{◌≡◌, ℕ, sym, subst, Some, true, false}
use Rattle.node_spec.specs.Nodes.{node_of}
use Rattle.tree_edit.proofs.rooting.store_first.Goals as goal

pub returns-in-Ok-clause-shows : goal.returns-in-Ok-clause-shows
returns-in-Ok-clause-shows g c = λ fits world told node shown.
    c.in-Ok.ensures.shows world told node (subst (λ (u : ℕ). node_of u true c.copy_node.new.to ≡ Some node) c.usable_of.ensures.value
    (c.copy_node.ensures.copied c.if-not-copy_node.false node (subst (λ (u : ℕ). node_of u false c.args.bytes.now ≡ Some node) (sym c.usable_of.ensures.value) shown)))
