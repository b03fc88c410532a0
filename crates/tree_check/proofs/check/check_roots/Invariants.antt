use Rattle.std.proofs.Common.{◌≡◌, length}
use Rattle.tree_check.proofs.Walked.{RootsMet}
use Rattle.tree_check.proofs.check.check_roots.Given as goal

abbrev pub invariant-roots : goal.invariant-roots
invariant-roots g l = record {
  so_far : RootsMet g.P.PagesTells l.fn.pages l.pages l.fn.walk l.roots l.k l.walk;
  room : length l.bufs ≡ length l.fn.bufs;
}
