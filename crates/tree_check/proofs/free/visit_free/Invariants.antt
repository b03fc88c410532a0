use Rattle.std.proofs.Common.{◌≡◌, ◌-◌, length}
use Rattle.tree_check.specs.Met.{met_up_to}
use Rattle.tree_check.proofs.Trunks.{FreeMet}
use Rattle.tree_check.proofs.free.visit_free.Given as goal

abbrev pub invariant-trunks : goal.invariant-trunks
invariant-trunks g l = record {
  so_far : FreeMet g.P.PagesTells l.fn.pages l.pages l.fn.walk l.fn.first l.next l.count l.walk;
  room : length l.buf ≡ length l.fn.buf;
}

-- each trunk is met for the first time
abbrev pub decreases-trunks : goal.decreases-trunks
decreases-trunks g l = l.fn.walk.last - met_up_to l.walk.marks.bits.items l.fn.walk.last
