-- A child stands one level further down.
use Rattle.std.proofs.Common.{◌≡◌, ◌+◌, ◌-◌, ◌*◌, Bool, length}
use Rattle.node_spec.specs.Nodes.{Node}
use Rattle.page_face.specs.Pages.{ReadsAtMost}
use Rattle.tree_check.specs.Walking.{SuitsPages, WalksTo}
use Rattle.tree_check.specs.Visiting.{ShowsNode}
use Rattle.tree_check.proofs.Treeing.{places_from}
use Rattle.tree_check.proofs.tree.+trees.Given as goal

abbrev pub decreases-visit_child : goal.decreases-visit_child
decreases-visit_child g l = 5 * (42 - l.spot.level) + 4

abbrev pub decreases-visit : goal.decreases-visit
decreases-visit g l = 5 * (42 - l.spot.level) + 3

abbrev pub decreases-visit_inner : goal.decreases-visit_inner
decreases-visit_inner g l = 5 * (42 - l.spot.now.level) + 2

abbrev pub decreases-visit_children : goal.decreases-visit_children
decreases-visit_children g l = 5 * (42 - l.spot.now.level) + 1

abbrev pub decreases-visit_cell : goal.decreases-visit_cell
decreases-visit_cell g l = 5 * (42 - l.spot.now.level)

-- the children of the cells before the next one were visited
abbrev pub invariant-visit_children-loop-k : goal.invariant-visit_children-loop-k
invariant-visit_children-loop-k g l = record {
  reading : ReadsAtMost g.P.PagesTells l.fn.pages l.pages;
  suits : SuitsPages g.P.PagesTells l.pages l.walk;
  room : length l.below ≡ length l.fn.below;
  walks : (first : Bool) (told : Node) → ShowsNode l.fn.walk.usable l.fn.walk.last first l.bytes l.node told
      → WalksTo g.P.PagesTells l.fn.pages l.pages l.fn.walk l.walk (places_from l.spot told 0 l.spot.before) (places_from l.spot told l.k l.before);
}
