use Rattle.std.proofs.Common.{◌≡◌, ℕ, List, length}
use Rattle.overflow.proofs.Freed.{FreedSoFar}
use Rattle.overflow.proofs.free.free_pages.Given as goal

abbrev pub invariant-links : goal.invariant-links
invariant-links g l = record {
  room : length l.buf ≡ g.P.PagesTells.page_size l.fn.pages;
  so_far : (done : List ℕ) × FreedSoFar g.P.PagesTells l.fn.pages l.pages l.fn.first l.fn.size done l.met l.next l.left;
}

abbrev pub decreases-links : goal.decreases-links
decreases-links g l = l.left
