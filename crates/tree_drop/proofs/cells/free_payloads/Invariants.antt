use Rattle.std.proofs.Common.{Bool, ◌≡◌, length, drop}
use Rattle.page_face.specs.Pages.{Editing}
use Rattle.node_spec.specs.Nodes.{Node}
use Rattle.page_form.specs.Reading.{IsReadPage}
use Rattle.tree_drop.specs.Parts.{HaveChains}
use Rattle.tree_drop.proofs.Steps.{GoneSoFar}
use Rattle.tree_drop.proofs.cells.free_payloads.Given as goal

-- the chains of the cells before the next one were given up
abbrev pub invariant-loop-k : goal.invariant-loop-k
invariant-loop-k g l = record {
  so_far : (shown : Node) → IsReadPage (g.P.PagesTells.usable l.initial.pages) l.bytes l.node shown → (table : Bool)
      → GoneSoFar g.P.PagesTells l.initial.pages l.pages (HaveChains table shown.cells) (HaveChains table (drop l.k shown.cells));
  last : g.P.PagesTells.last_page l.pages ≡ g.P.PagesTells.last_page l.initial.pages;
  edits : Editing g.P.PagesTells l.initial.pages l.pages;
  room : length l.room ≡ length l.initial.room;
}
