use Rattle.std.proofs.Common.{◌≡◌, ◌*◌, ◌≤◌, [], None}
use Rattle.node_spec.specs.Layout.{taken}
use Rattle.node_spec.specs.Faults.{first_fault, cell_fault, cells_in}
use Rattle.page_form.specs.Marks.{AreMarks}
use Rattle.page_form.proofs.content.mark_cells.Given as goal

-- the cells before the next pointer are whole and marked
abbrev pub invariant-loop-i : goal.invariant-loop-i
invariant-loop-i l = record {
  none : first_fault l.i (cell_fault l.u l.kind l.bytes l.pointers) ≡ None;
  sum : l.sum ≡ taken (cells_in l.u l.kind l.bytes l.pointers l.i);
  most : l.sum ≤ 65536 * l.i;
  marks : AreMarks l.marks (cells_in l.u l.kind l.bytes l.pointers l.i) [];
}
