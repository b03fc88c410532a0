use Rattle.std.proofs.Common.{◌≡◌, length}
use Rattle.overlay.specs.Places.{RisesFrom}
use Rattle.overlay.specs.FreedPages.{taken_back}
use Rattle.overlay.specs.Runs.{items_in}
use Rattle.overlay.proofs.freed.FreedPages.undo.Given as goal

abbrev pub invariant-loop-page : goal.invariant-loop-page
invariant-loop-page l =
    (taken_back (items_in l.self-inside.all) l.self-inside.since.items ≡ taken_back (items_in l.initial.self-inside.all) l.initial.self-inside.since.items)
    × RisesFrom 0 (items_in l.self-inside.all)

abbrev pub decreases-loop-page : goal.decreases-loop-page
decreases-loop-page l = length l.self-inside.since.items
