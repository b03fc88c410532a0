use Rattle.std.proofs.Common.{◌≡◌, Bool, length, drop}
use Rattle.node_spec.specs.Nodes.{Node}
use Rattle.page_face.specs.Pages.{ReadsAtMost}
use Rattle.check_spec.specs.Walk.{leaf_places}
use Rattle.tree_check.specs.Walking.{SuitsPages, WalksTo}
use Rattle.tree_check.specs.Visiting.{ShowsNode}
use Rattle.tree_check.proofs.tree.visit_payloads.Given as goal

-- the payloads of the cells before the next one were visited
abbrev pub invariant-loop-k : goal.invariant-loop-k
invariant-loop-k g l = record {
  reading : ReadsAtMost g.P.PagesTells l.fn.pages l.pages;
  suits : SuitsPages g.P.PagesTells l.pages l.walk;
  room : length l.room ≡ length l.fn.room;
  walks : (first : Bool) (told : Node) → ShowsNode l.fn.walk.usable l.fn.walk.last first l.bytes l.node told
      → WalksTo g.P.PagesTells l.fn.pages l.pages l.fn.walk l.walk (leaf_places l.schema told.cells) (leaf_places l.schema (drop l.k told.cells));
}
