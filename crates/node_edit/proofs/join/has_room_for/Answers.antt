use Rattle.std.proofs.Common.{◌+◌, ◌++◌, ap, arith, length-append}
use Rattle.edit_spec.specs.Nodes.{cells_with}
use Rattle.node_edit.specs.Runs.{spelled_by, weight_of}
use Rattle.node_edit.proofs.Rows.{part_whole, part_most, length_spelled, length_taking, weight_taking, node_fits, nat_eq_is, nat_eq_not}
use Rattle.node_edit.proofs.join.has_room_for.Goals as goal

pub overflow_add-all : goal.overflow_add-all
overflow_add-all c =
    let r = c.requires.left in
    let h = c.head_of.ensures.head r.0 r.1 in
    let f = node_fits {page = c.args.left.now} r.1 in
    omega (arith, h.most, f.most, c.requires.few)

pub overflow_add-all-2 : goal.overflow_add-all-2
overflow_add-all-2 c =
    let r = c.requires.left in
    let h = c.head_of.ensures.head r.0 r.1 in
    let f = node_fits {page = c.args.left.now} r.1 in
    let g = c.head_of-other.ensures.head r.3.0 r.3.1 in
    omega (arith, h.most, f.most, g.most, c.requires.few)

pub overflow_sub-u : goal.overflow_sub-u
overflow_sub-u c = let r = c.requires.left in let g = c.head_of-other.ensures.head r.3.0 r.3.1 in omega (arith, g.most)

pub reach-requires : goal.reach-requires
reach-requires c =
    let r = c.requires.left in
    let h = c.head_of.ensures.head r.0 r.1 in
    let g = c.head_of-other.ensures.head r.3.0 r.3.1 in
    let spelled = spelled_by r.0.kind c.args.u c.args.between.now in
    let news = r.0.cells ++ spelled in
    let len = length_spelled r.0.kind c.args.u c.args.between.now in
    let both = length-append r.0.cells spelled in
    let all = length_taking r.3.0.cells 0 news (omega arith) in
    record { run = (cells_with r.3.0.cells 0 news, c.joined-run.ensures.run r.0 r.3.0 r.1 r.3.1, omega arith, omega (arith, h.count, g.count, all, both, len)) }

pub returns-clause-fits : goal.returns-clause-fits
returns-clause-fits c = λ same node other shown beside.
    let h = c.head_of.ensures.head node shown in
    let g = c.head_of-other.ensures.head other beside in
    let f = node_fits {page = c.args.bytes.now} beside in
    let spelled = spelled_by node.kind c.args.u c.args.between.now in
    let news = node.cells ++ spelled in
    let len = length_spelled node.kind c.args.u c.args.between.now in
    let both = length-append node.cells spelled in
    let cells = cells_with other.cells 0 news in
    let all = length_taking other.cells 0 news (omega arith) in
    let end = nat_eq_is _ _ same in
    let fit = c.reach.ensures.fit cells (c.joined-run.ensures.run node other shown beside) (omega (arith, h.count, g.count, all, both, len)) in
    let whole = ap weight_of (part_whole cells c.reach.result (omega (arith, end, h.count, g.count, all, both, len))) in
    omega (arith, fit, whole, weight_taking other.cells 0 news, g.pointers, f.fits)

pub returns-clause-lacks : goal.returns-clause-lacks
returns-clause-lacks c = λ same node other shown beside.
    let h = c.head_of.ensures.head node shown in
    let g = c.head_of-other.ensures.head other beside in
    let f = node_fits {page = c.args.bytes.now} beside in
    let spelled = spelled_by node.kind c.args.u c.args.between.now in
    let news = node.cells ++ spelled in
    let len = length_spelled node.kind c.args.u c.args.between.now in
    let both = length-append node.cells spelled in
    let cells = cells_with other.cells 0 news in
    let all = length_taking other.cells 0 news (omega arith) in
    let less = nat_eq_not _ _ same c.reach.ensures.range.1 in
    let next = c.reach.ensures.next cells (c.joined-run.ensures.run node other shown beside) (omega (arith, h.count, g.count, all, both, len)) less in
    let most = part_most cells (c.reach.result + 1) (omega (arith, less, h.count, g.count, all, both, len)) in
    omega (arith, next, most, weight_taking other.cells 0 news, g.pointers, f.fits)
