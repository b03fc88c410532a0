-- Roots that grow by a level, and that lose one.
use Rattle.std.specs.Prelude.{◌≡◌, ℕ, ◌+◌, ◌<◌, Bool, true, false, List, [], ◌∷◌, Some}
use Rattle.page_spec.specs.View.{View}
use Rattle.engine_spec.specs.declared.commits.FetchFault.{FetchFault}
use Rattle.engine_spec.specs.declared.commits.FetchFault.TheVariants as fault
use Rattle.page_face.specs.declared.pages_tells.PagesTells.{Ghosts}
use Rattle.page_face.specs.Pages.{ReadsAtMost}
use Rattle.node_spec.specs.declared.kinds.Kind.{Kind}
use Rattle.node_spec.specs.declared.kinds.Kind.TheVariants.{IndexInner, TableInner}
use Rattle.node_spec.specs.Kinds.{pointers_at}
use Rattle.node_spec.specs.Nodes.{Node}
use Rattle.overflow.specs.Following.{shown_over}
use Rattle.tree_read.specs.Ways.{ShowsNode}
use Rattle.edit_spec.specs.Edits.{IsRaised}
use Rattle.node_edit.specs.Runs.{weight_of, spelled_by}
use Rattle.tree_edit.specs.Editing.{EditsPages, storing}

-- the kind of the interior pages of a table's tree, and of an index's
abbrev pub inner_kind : (table : Bool) → Kind
inner_kind true = TableInner
inner_kind false = IndexInner

-- A root's node was copied to a page that was made, and the root leads to that one and to new siblings. Nothing else was changed.
pub record RaisesRoot {P : Type 0} (pages : Ghosts P) (old : P) (table : Bool) (root child : ℕ) (texts : List (List ℕ)) (new : P) (world : View) : Type 0 where
  pub raised : IsRaised table (shown_over pages old world) (shown_over pages new world) root child (spelled_by (inner_kind table) (pages.usable old) texts)
  pub edits : EditsPages pages (storing root (child ∷ [])) old new world

-- the fault names the root, which shows no root of such a tree
abbrev pub ShowsNoRoot : {P : Type 0} → Ghosts P → P → (table : Bool) → (root : ℕ) → FetchFault → P → Type 0
ShowsNoRoot pages old table root why new = (why ≡ fault.Corrupt root)
    × ((world : View) → pages.tells new world → (node : Node) → ShowsNode table (shown_over pages old world) 0 root node → ⊥)

-- a node has no room on page 1
abbrev pub LacksRoom : (usable : ℕ) → Node → Type 0
LacksRoom usable node = usable < pointers_at true node.kind + weight_of node.cells

-- A root shows what its child showed. Nothing else was changed.
pub record MovesUp {P : Type 0} (pages : Ghosts P) (old : P) (root child : ℕ) (new : P) (world : View) : Type 0 where
  pub same : (shown_over pages new world).node root ≡ (shown_over pages old world).node child
  pub edits : EditsPages pages (record { read = child ∷ (root ∷ []); put = root ∷ []; made = []; gone = [] }) old new world

-- it does so over each world that is still told, or has no room, which page 1 alone may lack
abbrev pub LowersRoot : {P : Type 0} → Ghosts P → P → (root child : ℕ) → P → Bool → Type 0
LowersRoot pages old root child new true = (world : View) → pages.tells new world → pages.neat old world → (pages.free old world root → ⊥) → MovesUp pages old root child new world
LowersRoot pages old root child new false = (root ≡ 1) × ReadsAtMost pages old new
    × ((world : View) → pages.tells new world → (node : Node) → (shown_over pages old world).node child ≡ Some node → LacksRoom (pages.usable old) node)
