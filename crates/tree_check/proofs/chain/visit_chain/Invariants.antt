use Rattle.std.proofs.Common.{◌≡◌, ◌+◌, true, length}
use Rattle.tree_check.proofs.Chaining.{ChainMet}
use Rattle.tree_check.proofs.chain.visit_chain.Given as goal

abbrev pub invariant-links : goal.invariant-links
invariant-links g l = record {
  so_far : ChainMet g.P.PagesTells l.fn.pages l.pages l.fn.walk l.fn.first l.fn.size l.next l.left l.keep l.walk;
  room : length l.buf ≡ length l.fn.buf;
  grown : l.keep ≡ true → length l.walk.payload.items + l.left ≡ length l.fn.walk.payload.items + l.fn.size;
}

abbrev pub decreases-links : goal.decreases-links
decreases-links g l = l.left
