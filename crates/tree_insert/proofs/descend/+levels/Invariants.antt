-- A child stands one level further down, and no page below level 40 is gone on from.
use Rattle.std.proofs.Common.{◌+◌, ◌-◌, ◌*◌}
use Rattle.tree_insert.proofs.descend.+levels.Given as goal

abbrev pub decreases-insert_at : goal.decreases-insert_at
decreases-insert_at g l = 4 * (42 - l.level) + 3

abbrev pub decreases-insert_with : goal.decreases-insert_with
decreases-insert_with g l = 4 * (42 - l.level) + 2

abbrev pub decreases-insert_from : goal.decreases-insert_from
decreases-insert_from g l = 4 * (42 - l.level) + 1

abbrev pub decreases-insert_below : goal.decreases-insert_below
decreases-insert_below g l = 4 * (42 - l.level)
