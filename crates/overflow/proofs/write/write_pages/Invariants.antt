use Rattle.std.proofs.Common.{◌≡◌, ℕ, ◌<◌, List, [], ◌∷◌, ◌++◌, length}
use Rattle.overflow.proofs.Written.{PutSoFar}
use Rattle.overflow.proofs.write.write_pages.Given as goal

abbrev pub invariant-pages : goal.invariant-pages
invariant-pages g l = record {
  some : 0 < length l.rest;
  room : length l.buf ≡ g.P.PagesTells.page_size l.fn.pages;
  so_far : (done : List ℕ) × PutSoFar g.P.PagesTells l.fn.pages l.pages l.fn.bytes l.first (done ++ l.page ∷ []) done l.page l.rest;
}

abbrev pub decreases-pages : goal.decreases-pages
decreases-pages g l = length l.rest
