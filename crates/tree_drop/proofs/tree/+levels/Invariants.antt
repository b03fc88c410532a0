-- A child stands one level further down, and no page below level 40 is gone on from.
use Rattle.std.proofs.Common.{◌≡◌, ℕ, ◌+◌, ◌-◌, ◌*◌, length, drop}
use Rattle.page_face.specs.Pages.{Editing}
use Rattle.node_spec.specs.Nodes.{Node}
use Rattle.page_form.specs.Reading.{IsReadPage}
use Rattle.tree_drop.specs.Parts.{AreUnderCells}
use Rattle.tree_drop.proofs.Steps.{GoneSoFar}
use Rattle.tree_drop.proofs.tree.+levels.Given as goal

abbrev pub decreases-drop_at : goal.decreases-drop_at
decreases-drop_at g l = 6 * (42 - l.place.level) + 4

abbrev pub decreases-drop_below : goal.decreases-drop_below
decreases-drop_below g l = 6 * (42 - l.place.level) + 3

abbrev pub decreases-drop_inner : goal.decreases-drop_inner
decreases-drop_inner g l = 6 * (42 - l.place.level) + 2

abbrev pub decreases-drop_children : goal.decreases-drop_children
decreases-drop_children g l = 6 * (42 - l.place.level) + 1

abbrev pub decreases-drop_under : goal.decreases-drop_under
decreases-drop_under g l = 6 * (42 - l.place.level)

abbrev pub decreases-drop_child : goal.decreases-drop_child
decreases-drop_child g l = 6 * (41 - l.above.level) + 5

-- what the cells before the next one lead to was given up
abbrev pub invariant-drop_children-loop-k : goal.invariant-drop_children-loop-k
invariant-drop_children-loop-k g l = record {
  so_far : (shown : Node) → IsReadPage (g.P.PagesTells.usable l.fn.pages) l.bytes l.node shown → (most : ℕ)
      → GoneSoFar g.P.PagesTells l.fn.pages l.pages (AreUnderCells l.place.table most l.place.level shown.cells shown.right) (AreUnderCells l.place.table most l.place.level (drop l.k shown.cells) shown.right);
  last : g.P.PagesTells.last_page l.pages ≡ g.P.PagesTells.last_page l.fn.pages;
  edits : Editing g.P.PagesTells l.fn.pages l.pages;
  buf : length l.buf ≡ length l.fn.buf;
  room : length l.room ≡ length l.fn.room;
}
