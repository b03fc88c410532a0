use Rattle.std.proofs.Common.{◌≡◌, arith, subst, sym, Some, ℕ, true}
use Rattle.node_spec.specs.Nodes.{node_of}
use Rattle.node_spec.proofs.NodeLaws.{node_shows, shown_fits}
use Rattle.tree_edit.proofs.rooting.make_copy.Goals as goal

pub unreachable-requires : goal.unreachable-requires
unreachable-requires g c =
    let shown = c.requires.shown.1 in
    let same = subst (λ (u : ℕ). node_of u true c.args.bytes.now ≡ Some c.requires.shown.0) (sym c.usable_of.ensures.value) shown in
    let lacks = c.copy_node.ensures.lacks c.if-not-copy_node.true c.requires.shown.0 same in
    let fits = shown_fits (node_shows _ true c.args.bytes.now c.requires.shown.0 same) in
    omega (arith, lacks, fits)
