use Rattle.std.proofs.Common.{◌-◌, ◌≤◌}
use Rattle.page_face.specs.Pages.{ReadsAtMost}
use Rattle.node_spec.specs.Nodes.{Node}
use Rattle.page_form.specs.Reading.{IsReadPage}
use Rattle.tree_scan.proofs.Places.{SoFarAt}
use Rattle.tree_scan.proofs.seek.values_place.Given as goal

abbrev pub invariant-halves : goal.invariant-halves
invariant-halves g l = record {
  reading : ReadsAtMost g.P.PagesTells l.fn.pages l.pages;
  order : l.low ≤ l.high;
  so_far : (shown : Node) → IsReadPage (g.P.PagesTells.usable l.fn.pages) l.level.bytes.items l.level.node shown
      → SoFarAt g.P.PagesTells l.fn.pages l.pages shown l.values l.low l.high;
}

abbrev pub decreases-halves : goal.decreases-halves
decreases-halves g l = l.high - l.low
