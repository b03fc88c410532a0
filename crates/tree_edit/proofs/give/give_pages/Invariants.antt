use Rattle.std.proofs.Common.{take}
use Rattle.tree_edit.proofs.Given.{GaveSoFar}
use Rattle.tree_edit.proofs.give.give_pages.Given as goal

-- the pages before were given up
abbrev pub invariant-pages : goal.invariant-pages
invariant-pages g l = GaveSoFar g.P.PagesTells l.initial.pages l.pages (take l.i l.gone)
