use Rattle.std.proofs.Common.{◌≡◌, ℕ, ◌+◌, ◌++◌, List, length}
use Rattle.page_face.specs.Pages.{ReadsAtMost}
use Rattle.overflow.proofs.Links.{SoFar}
use Rattle.overflow.proofs.read.follow.Given as goal

abbrev pub invariant-links : goal.invariant-links
invariant-links g l = record {
  reading : ReadsAtMost g.P.PagesTells l.fn.pages l.pages;
  room : length l.buf ≡ g.P.PagesTells.page_size l.fn.pages;
  count : length l.to.items + l.left ≡ length l.fn.to.items + l.fn.size;
  grown : (more : List ℕ) × (l.to.items ≡ l.fn.to.items ++ more);
  so_far : (done : List ℕ) × SoFar g.P.PagesTells l.fn.pages l.pages l.fn.first l.fn.size done l.met l.next l.left l.fn.to.items l.to.items;
}

abbrev pub decreases-links : goal.decreases-links
decreases-links g l = l.left
