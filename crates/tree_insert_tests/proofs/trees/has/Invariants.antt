use Rattle.tree_insert_tests.proofs.trees.has.Given as goal

abbrev pub invariant-numbers : goal.invariant-numbers
invariant-numbers g l = g.P.PagesTells.ready l.pages
