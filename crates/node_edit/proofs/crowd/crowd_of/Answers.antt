use Rattle.std.proofs.Common.{◌≡◌, ◌≤◌, length, subst, arith}
use Rattle.node_spec.specs.Nodes.{Node}
use Rattle.node_edit.specs.Runs.{spelled_by}
use Rattle.node_edit.proofs.Rows.{node_fits, header_most, length_spelled, length_taking, whole_like}
use Rattle.node_edit.proofs.crowd.crowd_of.Goals as goal

pub right_of-requires : goal.right_of-requires
right_of-requires c =
    let f = node_fits {page = c.args.bytes.now} c.requires.shown.1 in omega (arith, f.least, f.long, header_most c.args.first)

pub returns-clause-crowd : goal.returns-clause-crowd
returns-clause-crowd c = λ node shown.
    let r = c.requires.shown in
    let was = r.1 in
    let same : r.0 ≡ node = cc (was, shown) in
    let place : c.args.at ≤ length node.cells = subst (λ (n : Node). c.args.at ≤ length n.cells) same r.2 in
    let h = c.head_of-head.ensures.head node shown in
    let news = spelled_by node.kind c.args.u c.args.news.now in
    record {
      is_run = c.taking.ensures.run node shown;
      count = omega (arith, h.count, length_spelled node.kind c.args.u c.args.news.now, length_taking node.cells c.args.at news place);
    }

pub returns-clause-whole : goal.returns-clause-whole
returns-clause-whole c = λ node shown.
    let h = c.head_of-head.ensures.head node shown in
    whole_like c.args.u c.args.first c.args.bytes.now node c.args.at (spelled_by node.kind c.args.u c.args.news.now) (c.taking.ensures.kind node shown) h.kind c.right_of.ensures shown
