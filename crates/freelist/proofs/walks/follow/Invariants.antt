use Rattle.std.proofs.Common.{◌≡◌, ◌++◌, List, ℕ, length}
use Rattle.page_face.specs.Pages.{ReadsAtMost}
use Rattle.freelist.proofs.Walked.{SoFar}
use Rattle.freelist.proofs.walks.follow.Given as goal

abbrev pub invariant-trunks : goal.invariant-trunks
invariant-trunks g l = record {
  reading : ReadsAtMost g.P.PagesTells l.fn.pages l.pages;
  room : length l.buf ≡ g.P.PagesTells.page_size l.fn.pages;
  grown : (more : List ℕ) × (l.to.items ≡ l.fn.to.items ++ more);
  so_far : (done : List ℕ) × SoFar g.P.PagesTells l.fn.pages l.pages l.fn.first l.fn.count done l.met l.next l.left l.fn.to.items l.to.items;
}

abbrev pub decreases-trunks : goal.decreases-trunks
decreases-trunks g l = l.left
