use Rattle.std.proofs.Common.{◌≡◌, All, refl, subst}
use Rattle.node_spec.specs.Cells.{IsOneCell}
use Rattle.node_spec.specs.Nodes.{Node}
use Rattle.node_edit.proofs.Rows.{joined_is}
use Rattle.node_edit.proofs.run.joined.Goals as goal

pub returns-clause-run : goal.returns-clause-run
returns-clause-run c = λ node other shown beside.
    let r = c.requires.left in
    let was = r.1 in
    let was_beside = r.3.1 in
    let same : r.0 ≡ node = cc (was, shown) in
    let same_other : r.3.0 ≡ other = cc (was_beside, beside) in
    let h = c.head_of-head.ensures.head node shown in
    let g = c.head_of-other.ensures.head other beside in
    joined_is _ node other shown beside h.kind (subst (λ (n : Node). other.kind ≡ n.kind) same (subst (λ (n : Node). n.kind ≡ r.0.kind) same_other r.3.2))
    (subst (λ (n : Node). All (IsOneCell n.kind c.args.u) c.args.news.now) same r.2) h.pointers refl h.count g.pointers refl g.count

pub returns-clause-kind : goal.returns-clause-kind
returns-clause-kind c = λ node shown. (c.head_of-head.ensures.head node shown).kind
