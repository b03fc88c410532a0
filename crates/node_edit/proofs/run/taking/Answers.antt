use Rattle.std.proofs.Common.{◌≡◌, ◌≤◌, length, All, refl, subst}
use Rattle.node_spec.specs.Cells.{IsOneCell}
use Rattle.node_spec.specs.Nodes.{Node}
use Rattle.node_edit.proofs.Rows.{taking_is}
use Rattle.node_edit.proofs.run.taking.Goals as goal

pub returns-clause-run : goal.returns-clause-run
returns-clause-run c = λ node shown.
    let r = c.requires.shown in
    let was = r.1 in
    let same : r.0 ≡ node = cc (was, shown) in
    let h = c.head_of-head.ensures.head node shown in
    taking_is _ c.args.first node c.args.at shown shown h.kind (subst (λ (n : Node). c.args.at ≤ length n.cells) same r.2)
    (subst (λ (n : Node). All (IsOneCell n.kind c.args.u) c.args.news.now) same r.3) h.pointers refl refl h.pointers refl h.count
