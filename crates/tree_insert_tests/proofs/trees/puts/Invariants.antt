use Rattle.tree_insert_tests.proofs.trees.puts.Given as goal

abbrev pub invariant-numbers : goal.invariant-numbers
invariant-numbers g l = g.P.PagesTells.ready l.pages
