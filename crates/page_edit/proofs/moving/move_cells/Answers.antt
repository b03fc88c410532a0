use Rattle.std.proofs.Common.{◌≡◌, ◌<◌, length, ◌∙◌, subst, arith}
use Rattle.node_spec.specs.Layout.{nowhere}
use Rattle.page_edit.specs.Packing.{Moved}
use Rattle.page_edit.proofs.Packs.{room_left, read_at, moved_more}
use Rattle.page_edit.proofs.moving.move_cells.Goals as goal

pub unreachable-requires : goal.unreachable-requires
unreachable-requires c =
    let h = c.requires.holds.1 in
    let less : c.loop-i.i < length h.pieces = omega (arith, c.loop-i-test.true, c.from-count.ensures, c.get_u16.ensures, h.has.count) in
    let r = read_at h.has c.loop-i.i less c.get_u16-start.result c.get_u16-start.ensures in
    omega (arith, r.2, c.in_default.ensures)

pub move_cell-requires-clause-to : goal.move_cell-requires-clause-to
move_cell-requires-clause-to c =
    let h = c.requires.holds.1 in
    let less : c.loop-i.i < length h.pieces = omega (arith, c.loop-i-test.true, c.from-count.ensures, c.get_u16.ensures, h.has.count) in
    let m = c.loop-i.invariant.moved h.content h.pieces h.has in
    let r = read_at h.has c.loop-i.i less c.get_u16-start.result c.get_u16-start.ensures in
    let len = c.in-Some.ensures.0 in
    let left = room_left h.has m less in
    let s = h.has.stand c.loop-i.i nowhere less in
    (omega (arith, left, len, r.1, h.has.room), omega (arith, m.down_to, c.requires.room, c.loop-i.invariant.size), omega (arith, m.down_to, h.has.most), omega (arith, len, r.1, s.some))

pub overflow_sub-end : goal.overflow_sub-end
overflow_sub-end c =
    let h = c.requires.holds.1 in
    let less : c.loop-i.i < length h.pieces = omega (arith, c.loop-i-test.true, c.from-count.ensures, c.get_u16.ensures, h.has.count) in
    let m = c.loop-i.invariant.moved h.content h.pieces h.has in
    let r = read_at h.has c.loop-i.i less c.get_u16-start.result c.get_u16-start.ensures in
    omega (arith, room_left h.has m less, r.1, c.in-Some.ensures.0)

pub loop-i-preserved : goal.loop-i-preserved
loop-i-preserved c = record {
  size = c.move_cell.ensures.size ∙ c.loop-i.invariant.size;
  moved = λ content cells h.
      let less : c.loop-i.i < length cells = omega (arith, c.loop-i-test.true, c.from-count.ensures, c.get_u16.ensures, h.count) in
      let r = read_at h c.loop-i.i less c.get_u16-start.result c.get_u16-start.ensures in
      let e = c.move_cell.ensures in
      moved_more c.args.form.u c.args.form.at c.args.form.pointers content c.args.form.kind c.args.from.now cells h c.args.bytes.now c.loop-i.bytes c.move_cell.new.bytes
      c.loop-i.end c.loop-i.i c.from.result c.in-Some.len (c.loop-i.invariant.moved content cells h) less (c.from.ensures ∙ r.0) (c.in-Some.ensures.0 ∙ r.1) e.size e.pointer e.same e.others;
}

pub returns-clause-moved : goal.returns-clause-moved
returns-clause-moved c = λ content cells h.
    let all : c.loop-i.i ≡ length cells = omega (arith, c.loop-i-test.false, c.loop-i.auto.i-end, c.from-count.ensures, c.get_u16.ensures, h.count) in
    subst (λ n. Moved c.args.form.u c.args.form.pointers c.args.bytes.now c.loop-i.bytes cells c.loop-i.end n) all (c.loop-i.invariant.moved content cells h)
