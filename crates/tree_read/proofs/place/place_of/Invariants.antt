use Rattle.std.proofs.Common.{◌≡◌, ℕ, suc, ◌-◌, ◌<◌, ◌≤◌, ◌<ℤ◌, ◌≤ℤ◌, length}
use Rattle.std.specs.Prelude.{slice_index_or}
use Rattle.node_spec.specs.Nodes.{Node, no_cell}
use Rattle.page_form.specs.Reading.{IsReadPage}
use Rattle.tree_read.proofs.place.place_of.Given as goal

abbrev pub invariant-halves : goal.invariant-halves
invariant-halves l = record {
  order : l.low ≤ l.high;
  above : (node : Node) → IsReadPage l.u l.bytes l.page node → (k : ℕ) → l.low ≡ suc k → (slice_index_or node.cells k no_cell).rowid <ℤ l.rowid;
  below : (node : Node) → IsReadPage l.u l.bytes l.page node → (l.high ≤ length node.cells) × (l.high < length node.cells → l.rowid ≤ℤ (slice_index_or node.cells l.high no_cell).rowid);
}

abbrev pub decreases-halves : goal.decreases-halves
decreases-halves l = l.high - l.low
