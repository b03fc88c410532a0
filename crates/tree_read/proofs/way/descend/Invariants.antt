use Rattle.std.proofs.Common.{◌≡◌, ℕ, ◌-◌, ◌≤◌, List, length}
use Rattle.page_face.specs.Pages.{ReadsAtMost}
use Rattle.tree_read.specs.Ways.{NamesChild}
use Rattle.tree_read.proofs.Descents.{SoFar}
use Rattle.tree_read.proofs.way.descend.Given as goal

abbrev pub invariant-levels : goal.invariant-levels
invariant-levels g l = record {
  reading : ReadsAtMost g.P.PagesTells l.fn.pages l.pages;
  room : length l.buf ≡ g.P.PagesTells.page_size l.fn.pages;
  page : (1 ≤ l.page) × (l.page ≤ g.P.PagesTells.last_page l.fn.pages);
  so_far : (way : List ℕ) × (SoFar g.P.PagesTells l.fn.pages l.pages (λ shown. NamesChild shown l.fn.aim) l.fn.root way l.page × (l.level ≡ length way));
  level : l.level ≤ 41;
}

abbrev pub decreases-levels : goal.decreases-levels
decreases-levels g l = 41 - l.level
