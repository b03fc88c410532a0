use Rattle.std.proofs.Common.{◌≡◌, ◌+◌, ◌≤◌, length, ap, subst, arith}
use Rattle.node_spec.specs.Nodes.{Node}
use Rattle.edit_spec.specs.Nodes.{cells_with}
use Rattle.node_edit.specs.Runs.{spelled_by, weight_of}
use Rattle.node_edit.proofs.Rows.{part_whole, part_most, length_spelled, length_taking, weight_taking, node_fits, nat_eq_is, nat_eq_not}
use Rattle.node_edit.proofs.put.has_room.Goals as goal

pub reach-requires : goal.reach-requires
reach-requires c =
    let r = c.requires.shown in
    let h = c.head_of-head.ensures.head r.0 r.1 in
    let news = spelled_by r.0.kind c.args.u c.args.news.now in
    let len = length_spelled r.0.kind c.args.u c.args.news.now in
    let all = length_taking r.0.cells c.args.at news r.2 in
    record { run = (cells_with r.0.cells c.args.at news, c.taking-run.ensures.run r.0 r.1, omega arith, omega (arith, h.count, all, len)) }

pub returns-clause-fits : goal.returns-clause-fits
returns-clause-fits c = λ same node shown.
    let r = c.requires.shown in
    let was = r.1 in
    let same_node : r.0 ≡ node = cc (was, shown) in
    let place : c.args.at ≤ length node.cells = subst (λ (n : Node). c.args.at ≤ length n.cells) same_node r.2 in
    let h = c.head_of-head.ensures.head node shown in
    let f = node_fits {page = c.args.bytes.now} shown in
    let news = spelled_by node.kind c.args.u c.args.news.now in
    let len = length_spelled node.kind c.args.u c.args.news.now in
    let cells = cells_with node.cells c.args.at news in
    let all = length_taking node.cells c.args.at news place in
    let end = nat_eq_is _ _ same in
    let fit = c.reach.ensures.fit cells (c.taking-run.ensures.run node shown) (omega (arith, h.count, all, len)) in
    let whole = ap weight_of (part_whole cells c.reach.result (omega (arith, end, h.count, all, len))) in
    omega (arith, fit, whole, weight_taking node.cells c.args.at news, h.pointers, f.fits)

pub returns-clause-lacks : goal.returns-clause-lacks
returns-clause-lacks c = λ same node shown.
    let r = c.requires.shown in
    let was = r.1 in
    let same_node : r.0 ≡ node = cc (was, shown) in
    let place : c.args.at ≤ length node.cells = subst (λ (n : Node). c.args.at ≤ length n.cells) same_node r.2 in
    let h = c.head_of-head.ensures.head node shown in
    let f = node_fits {page = c.args.bytes.now} shown in
    let news = spelled_by node.kind c.args.u c.args.news.now in
    let len = length_spelled node.kind c.args.u c.args.news.now in
    let cells = cells_with node.cells c.args.at news in
    let all = length_taking node.cells c.args.at news place in
    let less = nat_eq_not _ _ same c.reach.ensures.range.1 in
    let next = c.reach.ensures.next cells (c.taking-run.ensures.run node shown) (omega (arith, h.count, all, len)) less in
    let most = part_most cells (c.reach.result + 1) (omega (arith, less, h.count, all, len)) in
    omega (arith, next, most, weight_taking node.cells c.args.at news, h.pointers, f.fits)
