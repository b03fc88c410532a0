use Rattle.std.proofs.Common.{sym, arith}
use Rattle.node_spec.specs.Faults.{cell_fault}
use Rattle.node_spec.proofs.FaultLaws.{none_first, first_some, first_more}
use Rattle.page_form.proofs.Checks.{cell_good, cell_bad}
use Rattle.page_form.proofs.Marking.{cells_none, cells_more}
use Rattle.page_form.proofs.content.mark_cells.Goals as goal

pub loop-i-init : goal.loop-i-init
loop-i-init c = record {
  none = none_first 0 (cell_fault c.args.u c.args.kind c.args.bytes.now c.args.pointers) (λ i l. absurd (omega arith));
  sum = (cells_none c.args.u c.args.kind c.args.bytes.now c.args.pointers c.args.marks.now c.requires.marks.1).0;
  most = omega arith;
  marks = (cells_none c.args.u c.args.kind c.args.bytes.now c.args.pointers c.args.marks.now c.requires.marks.1).1;
}

pub returns-in_default : goal.returns-in_default
returns-in_default c =
    first_some c.args.count (cell_fault c.args.u c.args.kind c.args.bytes.now c.args.pointers) c.loop-i.i c.from.result c.loop-i-test.true c.loop-i.invariant.none
    (rw (sym c.from.ensures) at (cell_bad c.args.u c.args.kind c.args.bytes.now c.args.pointers c.loop-i.i c.get_u16-start.result c.get_u16-start.ensures c.in_default.ensures))

pub loop-i-preserved : goal.loop-i-preserved
loop-i-preserved c =
    let is = c.in-Some.ensures in
    let more = cells_more c.args.u c.args.kind c.args.bytes.now c.args.pointers c.loop-i.i c.get_u16-start.result c.from-in-loop-i.result c.in-Some.len
    c.loop-i.marks c.mark.new.marks (omega (arith, c.requires.usable)) c.get_u16-start.ensures c.from-in-loop-i.ensures is.0 is.1 c.mark.ensures.inside c.mark.ensures.outside in
    record {
      none = first_more c.loop-i.i (cell_fault c.args.u c.args.kind c.args.bytes.now c.args.pointers) c.loop-i.invariant.none
          (cell_good c.args.u c.args.kind c.args.bytes.now c.args.pointers c.loop-i.i c.get_u16-start.result c.get_u16-start.ensures (omega (arith, is.0, is.1)));
      sum = omega (arith, c.loop-i.invariant.sum, more.sum);
      most = omega (arith, c.loop-i.invariant.most, is.1, c.requires.usable);
      marks = more.marks c.loop-i.invariant.marks;
    }
