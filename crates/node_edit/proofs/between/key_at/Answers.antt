use Rattle.std.proofs.Common.{ℕ, List, subst}
use Rattle.node_spec.specs.declared.kinds.Kind.{Kind}
use Rattle.node_spec.specs.Cells.{NodeCell}
use Rattle.node_spec.specs.Nodes.{cell_at}
use Rattle.node_edit.specs.Runs.{IsRun}
use Rattle.node_edit.specs.Dividing.{IsUpKey}
use Rattle.node_edit.proofs.Rows.{taking_none}
use Rattle.node_edit.proofs.Crowding.{ok_on}
use Rattle.node_edit.proofs.between.key_at.Goals as goal

pub up_key-requires-clause-run : goal.up_key-requires-clause-run
up_key-requires-clause-run c =
    let r = c.requires.shown in
    (r.0.cells, subst (λ (cells : List NodeCell). IsRun c.taking.result cells) (taking_none r.0.cells 0) (c.taking.ensures.run r.0 r.1), r.2)

pub returns : goal.returns
returns c = record {
  key = ok_on _ _ c.up_key.result (λ key is node shown.
      let run = subst (λ (cells : List NodeCell). IsRun c.taking.result cells) (taking_none node.cells 0) (c.taking.ensures.run node shown) in
      subst (λ (kind : Kind). IsUpKey kind c.args.u (cell_at node c.args.k) key) (c.taking.ensures.kind node shown)
      (subst (λ (usable : ℕ). IsUpKey c.taking.result.kind usable (cell_at node c.args.k) key) c.taking.ensures.usable (is node.cells run))) c.up_key.ensures.key;
}
