use Rattle.std.proofs.Common.{◌++◌, arith, length-append, sym, ◌∙◌, false}
use Rattle.node_edit.specs.Runs.{spelled_by}
use Rattle.node_edit.proofs.Rows.{node_fits, header_most, length_spelled, length_taking, whole_like}
use Rattle.node_edit.proofs.crowd.crowd_joined.Goals as goal

pub overflow_add-count : goal.overflow_add-count
overflow_add-count c =
    let r = c.requires.pages in
    let h = c.head_of.ensures.head r.0 r.1 in
    let f = node_fits {page = c.args.left.now} r.1 in
    omega (arith, h.most, f.most, c.requires.few)

pub overflow_add-count-2 : goal.overflow_add-count-2
overflow_add-count-2 c =
    let r = c.requires.pages in
    let h = c.head_of.ensures.head r.0 r.1 in
    let f = node_fits {page = c.args.left.now} r.1 in
    let g = c.head_of-other.ensures.head r.3.0 r.3.1 in
    omega (arith, h.most, f.most, g.most, c.requires.few)

pub right_of-requires : goal.right_of-requires
right_of-requires c =
    let f = node_fits {page = c.args.right.now} c.requires.pages.3.1 in omega (arith, f.least, f.long, header_most false)

pub returns-clause-crowd : goal.returns-clause-crowd
returns-clause-crowd c = λ node other shown beside.
    let h = c.head_of.ensures.head node shown in
    let g = c.head_of-other.ensures.head other beside in
    let spelled = spelled_by node.kind c.args.u c.args.between.now in
    record {
      is_run = c.joined.ensures.run node other shown beside;
      count = omega (
        arith,
        h.count,
        g.count,
        length_spelled node.kind c.args.u c.args.between.now,
        length-append node.cells spelled,
        length_taking other.cells 0 (node.cells ++ spelled) (omega arith),
      );
    }

pub returns-clause-whole : goal.returns-clause-whole
returns-clause-whole c = λ node other shown beside same.
    let g = c.head_of-other.ensures.head other beside in
    whole_like c.args.u false c.args.right.now other 0 (node.cells ++ spelled_by node.kind c.args.u c.args.between.now) (c.joined.ensures.kind node shown ∙ sym same) g.kind c.right_of.ensures beside
