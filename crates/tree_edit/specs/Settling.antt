-- What pages show after calls: one node, a node divided among several pages, a root raised or lowered, neighbours joined.
use Rattle.std.specs.Prelude.{◌≡◌, ℕ, ◌≤◌, ◌==◌, ◌&&◌, Bool, false, List, All, length, Some}
use Rattle.disk_face.specs.Faults.{Rose}
use Rattle.page_spec.specs.View.{View}
use Rattle.engine_spec.specs.declared.commits.FetchFault.{FetchFault}
use Rattle.engine_spec.specs.declared.commits.FetchFault.TheVariants as fault
use Rattle.page_face.specs.declared.pages_tells.PagesTells.{Ghosts}
use Rattle.page_face.specs.Pages.{pages_read}
use Rattle.node_spec.specs.Kinds.{is_leaf, is_table}
use Rattle.node_spec.specs.Cells.{NodeCell, IsOneCell}
use Rattle.node_spec.specs.Nodes.{Node, node_of}
use Rattle.page_form.specs.declared.page.Page.{Page}
use Rattle.page_form.specs.Reading.{Tells}
use Rattle.overflow.specs.Following.{shown_over}
use Rattle.edit_spec.specs.Nodes.{ShowTogether, ByLeafOfTable}
use Rattle.edit_spec.specs.Edits.{lefts, LeadInRange}
use Rattle.node_edit.specs.Keys.{kind_above}
use Rattle.node_edit.specs.Runs.{spelled_by}
use Rattle.tree_edit.specs.Editing.{EditsPages, storing}

-- What was decoded is the node that the page shows over each world that is still told.
pub record HoldsNode {P : Type 0} (pages : Ghosts P) (old : P) (page : ℕ) (bytes : List ℕ) (told : Page) (new : P) : Type 0 where
  pub node : Node
  pub tells : Tells (pages.usable old) (page == 1) bytes told node
  pub shown : (world : View) → pages.tells new world → (shown_over pages old world).node page ≡ Some node
  pub read : pages.reads new ≡ pages_read pages old page

-- why a page gave no node: a fault from outside, or it was read and shows none over any world that is still told
abbrev pub HoldsNone : {P : Type 0} → Ghosts P → P → (page : ℕ) → P → FetchFault → Type 0
HoldsNone pages old page new fault.Disk = Rose (pages.faults old) (pages.faults new)
HoldsNone pages old page new (fault.Corrupt named) = (named ≡ page) × (pages.reads new ≡ pages_read pages old page)
    × ((world : View) → pages.tells new world → (node : Node) → (shown_over pages old world).node page ≡ Some node → ⊥)
HoldsNone pages old page new (fault.Size count) = ⊥
HoldsNone pages old page new fault.Memory = Unit {0}

-- why bytes gave no node: they show none
abbrev pub AreNoNode : (usable : ℕ) (page : ℕ) → List ℕ → FetchFault → Type 0
AreNoNode usable page bytes fault.Disk = ⊥
AreNoNode usable page bytes (fault.Corrupt named) = (named ≡ page) × ((node : Node) → node_of usable (page == 1) bytes ≡ Some node → ⊥)
AreNoNode usable page bytes (fault.Size count) = ⊥
AreNoNode usable page bytes fault.Memory = Unit {0}

-- the cells of the page above that texts spell
abbrev pub cells_above : (usable : ℕ) → Node → List (List ℕ) → List NodeCell
cells_above usable node texts = spelled_by (kind_above node.kind) usable texts

-- A page and new siblings to its left show this node now, and nothing else was changed. Each sibling is told by the text of its cell in the page above.
pub record SettlesNode {P : Type 0} (pages : Ghosts P) (old : P) (page : ℕ) (whole : Node) (texts : List (List ℕ)) (new : P) (world : View) : Type 0 where
  pub shows : ShowTogether (shown_over pages new world).node (cells_above (pages.usable old) whole texts) page whole
  pub edits : EditsPages pages (storing page (lefts (cells_above (pages.usable old) whole texts))) old new world

-- Cells that a page may be asked to take before the one at a place: one by a leaf of a table, which isn't page 1, and one or two by another page.
pub record MayTake (usable : ℕ) (first : Bool) (node : Node) (at : ℕ) (news : List (List ℕ)) : Type 0 where
  pub place : at ≤ length node.cells
  pub cells : All (IsOneCell node.kind usable) news
  pub few : ByLeafOfTable (is_leaf node.kind && is_table node.kind) ((first ≡ false) × (length news ≡ 1)) (length news ≤ 2)

-- The texts are cells of the page above, which lead to pages from 2 to the last one. A leaf of a table gets two siblings at most, another page one.
pub record AreSiblings (usable last : ℕ) (node : Node) (texts : List (List ℕ)) : Type 0 where
  pub few : ByLeafOfTable (is_leaf node.kind && is_table node.kind) (length texts ≤ 2) (length texts ≤ 1)
  pub cells : All (IsOneCell (kind_above node.kind) usable) texts
  pub range : LeadInRange last (cells_above usable node texts)
