use Rattle.tree_scan.specs.Scanning.{Fits}
use Rattle.tree_insert_tests.proofs.trees.lists.Given as goal

abbrev pub invariant-numbers : goal.invariant-numbers
invariant-numbers g l = g.P.PagesTells.ready l.pages × Fits g.P.PagesTells l.pages l.cursor
