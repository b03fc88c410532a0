use Rattle.std.proofs.Common.{◌≡◌, ◌+◌, ◌++◌, false, length, ap, sym, subst, ◌∙◌, arith, length-append}
use Rattle.node_edit.specs.Runs.{spelled_by, weight_of, IsRun}
use Rattle.node_edit.proofs.Rows.{room_for, part_whole, length_spelled, took_all, node_fits, taken_behind}
use Rattle.node_edit.proofs.join.take_over.Goals as goal

pub overflow_add-count : goal.overflow_add-count
overflow_add-count c =
    let r = c.requires.left in
    let h = c.head_of-count.ensures.head r.0 r.1 in
    let f = node_fits {page = c.args.left.now} r.1 in
    omega (arith, h.most, f.most, c.requires.few)

pub put_all-requires : goal.put_all-requires
put_all-requires c =
    let r = c.requires.left in
    let h = c.head_of-count.ensures.head r.0 r.1 in
    let f = node_fits {page = c.args.bytes.now} r.3.1 in
    let e = c.taking-run.ensures in
    let spelled = spelled_by r.0.kind c.args.u c.args.between.now in
    let cells = r.0.cells ++ spelled in
    let len = length_spelled r.0.kind c.args.u c.args.between.now in
    let both = length-append r.0.cells spelled in
    let is = subst (λ xs. IsRun c.taking-run.result xs) (taken_behind r.0.cells spelled c.head_of-count.result.count h.count) (e.run r.0 r.1) in
    let all : c.head_of-count.result.count + length c.args.between.now ≡ length cells = omega (arith, h.count, len, both) in
    let whole = ap weight_of (part_whole cells (c.head_of-count.result.count + length c.args.between.now) all) in
    let fits = c.has_room_for.ensures.fits c.if-not-has_room_for.false r.0 r.3.0 r.1 r.3.1 in
    record { room = room_for cells r.3.0 e.usable (r.3.2 ∙ sym (e.kind r.0 r.1)) is (omega arith) (omega (arith, all)) r.3.1 (omega arith) (omega (arith, whole, fits, f.fits)) }

pub returns-clause-put : goal.returns-clause-put
returns-clause-put c = λ taken node other shown beside.
    let h = c.head_of-count.ensures.head node shown in
    let e = c.taking-run.ensures in
    let spelled = spelled_by node.kind c.args.u c.args.between.now in
    let cells = node.cells ++ spelled in
    let len = length_spelled node.kind c.args.u c.args.between.now in
    let both = length-append node.cells spelled in
    let is = subst (λ xs. IsRun c.taking-run.result xs) (taken_behind node.cells spelled c.head_of-count.result.count h.count) (e.run node shown) in
    took_all false c.args.bytes.now c.put_all.new.bytes 0 cells other e.usable is (omega (arith, h.count, len, both)) beside c.put_all.ensures.put
