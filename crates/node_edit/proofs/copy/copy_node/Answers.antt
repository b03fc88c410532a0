use Rattle.std.proofs.Common.{◌+◌, ◌≡◌, Some, ap, sym, ◌∙◌, arith}
use Rattle.node_spec.specs.Kinds.{pointers_at}
use Rattle.page_edit.specs.Forms.{empty_node}
use Rattle.node_edit.specs.Runs.{weight_of, part_of}
use Rattle.node_edit.proofs.Rows.{room_for, took_all, node_fits, header_most, begun_like, only_first, part_most}
use Rattle.node_edit.proofs.copy.copy_node.Goals as goal

pub overflow_sub-u : goal.overflow_sub-u
overflow_sub-u c = let f = node_fits {page = c.args.from.now} c.requires.shown.1 in omega (arith, f.least, c.pointers_at.ensures.most)

pub reach-requires : goal.reach-requires
reach-requires c =
    let r = c.requires.shown in
    let h = c.head_of-head.ensures.head r.0 r.1 in
    record { run = (r.0.cells, c.taking-run.ensures.run r.0 r.1, omega arith, omega (arith, h.count)) }

pub right_of-requires : goal.right_of-requires
right_of-requires c =
    let f = node_fits {page = c.args.from.now} c.requires.shown.1 in omega (arith, f.least, f.long, header_most c.args.from_first)

pub put_all-requires : goal.put_all-requires
put_all-requires c =
    let r = c.requires.shown in
    let h = c.head_of-head.ensures.head r.0 r.1 in
    let e = c.taking-run.ensures in
    let is = e.run r.0 r.1 in
    let all : c.reach.result ≡ c.head_of-head.result.count = omega (arith, c.reach.ensures.range, c.if-reach-head.false) in
    let fit = c.reach.ensures.fit r.0.cells is (omega (arith, h.count)) in
    let same = ap (λ n. weight_of (part_of r.0.cells 0 n)) all in
    let f = node_fits {page = c.args.from.now} r.1 in
    record {
      room = room_for r.0.cells (empty_node c.head_of-head.result.kind c.right_of.result) e.usable (h.kind ∙ sym (e.kind r.0 r.1)) is
          (omega arith) (omega (arith, h.count)) c.start_page.ensures.shows (omega arith) (omega (arith, fit, same, c.pointers_at.ensures.at, c.pointers_at.ensures.most, f.least));
    }

pub returns-clause-copied : goal.returns-clause-copied
returns-clause-copied c = λ done node shown.
    let h = c.head_of-head.ensures.head node shown in
    let e = c.taking-run.ensures in
    took_all c.args.to_first c.start_page.new.bytes c.put_all.new.bytes 0 node.cells (empty_node c.head_of-head.result.kind c.right_of.result) e.usable (e.run node shown) h.count c.start_page.ensures.shows c.put_all.ensures.put
    ∙ ap Some (begun_like c.args.u c.args.from_first c.args.from.now node c.head_of-head.result.kind c.right_of.result shown h.kind c.right_of.ensures)

pub returns-then-reach-head-clause-only : goal.returns-then-reach-head-clause-only
returns-then-reach-head-clause-only c = λ no.
    let r = c.requires.shown in
    let h = c.head_of-head.ensures.head r.0 r.1 in
    let next = c.reach.ensures.next r.0.cells (c.taking-run.ensures.run r.0 r.1) (omega (arith, h.count)) c.if-reach-head.true in
    let most = part_most r.0.cells (c.reach.result + 1) (omega (arith, h.count, c.if-reach-head.true)) in
    let pointers = c.pointers_at.ensures.at ∙ ap (pointers_at c.args.to_first) h.kind in
    only_first c.args.u c.args.from_first c.args.to_first c.args.from.now r.0 r.1 (omega (arith, next, most, pointers))
