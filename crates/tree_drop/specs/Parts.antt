-- Parts of a tree, each with the pages that are its own, and what giving up a part makes of pages.
use Rattle.std.specs.Prelude.{◌≡◌, ℕ, zero, suc, ◌+◌, ◌-◌, ◌≤◌, Bool, List, ◌++◌, length}
use Rattle.disk_face.specs.Faults.{Rose}
use Rattle.page_spec.specs.View.{View}
use Rattle.engine_spec.specs.declared.commits.FetchFault.{FetchFault}
use Rattle.engine_spec.specs.declared.commits.FetchFault.TheVariants as fault
use Rattle.page_face.specs.declared.pages_tells.PagesTells.{Ghosts}
use Rattle.node_spec.specs.Cells.{NodeCell}
use Rattle.node_spec.specs.Nodes.{Node}
use Rattle.page_form.specs.declared.cells.Cell.{Cell}
use Rattle.tree_spec.specs.Layout.{times, Item, chains}
use Rattle.tree_spec.specs.Shown.{Shown}
use Rattle.tree_spec.specs.Chains.{IsChain}
use Rattle.tree_spec.specs.Trees.{IsOwn, AreItems, AreUnder, Holds, Content, root_least}
use Rattle.overflow.specs.Following.{shown_over}
use Rattle.edit_spec.specs.Edits.{IsSubtree}
use Rattle.tree_edit.specs.Editing.{EditsPages, giving}

-- something that is made of pages: how many bytes of a page are in use, the last page, what pages show, and the pages that are its own
abbrev pub OnPages : Type 1
OnPages = (usable last : ℕ) → Shown → List ℕ → Type 0

-- each of these is a page, in use, and stands in the list once
abbrev pub AreHeldOnce : {P : Type 0} → Ghosts P → P → View → List ℕ → Type 0
AreHeldOnce pages at world own = (number : ℕ) → 1 ≤ times own number → (1 ≤ number) × (times own number ≤ 1) × (pages.free at world number → ⊥)

-- Over each world that is still told in which there was such a thing, on pages in use, and the freelist in order: just its pages were given up.
abbrev pub DropsOn : {P : Type 0} → Ghosts P → P → OnPages → P → Type 0
DropsOn pages old Is new = (world : View) → pages.tells new world → (own : List ℕ) → pages.neat old world
    → Is (pages.usable old) (pages.last_page old) (shown_over pages old world) own → AreHeldOnce pages old world own → EditsPages pages (giving own) old new world

-- no world that is still told has such a thing
abbrev pub NoneOn : {P : Type 0} → Ghosts P → P → OnPages → P → Type 0
NoneOn pages old Is new = (world : View) → pages.tells new world → (own : List ℕ) → pages.neat old world
    → Is (pages.usable old) (pages.last_page old) (shown_over pages old world) own → AreHeldOnce pages old world own → ⊥

-- Why it wasn't given up: the disk failed, memory ran out, or there is none.
abbrev pub BarsOn : {P : Type 0} → Ghosts P → P → OnPages → P → FetchFault → Type 0
BarsOn pages old Is new fault.Disk = Rose (pages.faults old) (pages.faults new)
BarsOn pages old Is new (fault.Corrupt named) = NoneOn pages old Is new
BarsOn pages old Is new (fault.Size count) = ⊥
BarsOn pages old Is new fault.Memory = Unit {0}

-- The parts. Each says that it goes down so many levels at most, counted from the root.

-- how many cells a page has at least, so many levels below the root, with so many levels under it
abbrev pub least_at : (level height : ℕ) → ℕ
least_at zero height = root_least height
least_at (suc level) height = 1

-- a page, so many levels below the root, with all that it leads to
pub record IsTreePart (table : Bool) (most level page usable last : ℕ) (shown : Shown) (own : List ℕ) : Type 0 where
  pub height : ℕ
  pub low : level + height ≤ most
  pub items : List Item
  pub holds : Holds shown (least_at level height) (Content table usable last shown height) page own items

-- a child of a page that stands so many levels below the root
pub record IsChildPart (table : Bool) (most level page usable last : ℕ) (shown : Shown) (own : List ℕ) : Type 0 where
  pub height : ℕ
  pub low : suc level + height ≤ most
  pub items : List Item
  pub child : IsSubtree table usable last shown height page own items

-- what a page leads to, so many levels below the root
pub record IsBelow (table : Bool) (most level : ℕ) (node : Node) (usable last : ℕ) (shown : Shown) (own : List ℕ) : Type 0 where
  pub height : ℕ
  pub low : level + height ≤ most
  pub items : List Item
  pub content : Content table usable last shown height node own items

-- what cells and a right child of an interior page lead to
pub record AreUnderCells (table : Bool) (most level : ℕ) (cells : List NodeCell) (right usable last : ℕ) (shown : Shown) (own : List ℕ) : Type 0 where
  pub height : ℕ
  pub low : suc level + height ≤ most
  pub items : List Item
  pub under : AreUnder table usable last shown (IsSubtree table usable last shown height) cells right own items

-- what one cell of an interior page leads to: its child, and in an index its entry's chain
pub record IsUnderCell (table : Bool) (most level : ℕ) (cell : NodeCell) (usable last : ℕ) (shown : Shown) (own : List ℕ) : Type 0 where
  pub height : ℕ
  pub low : suc level + height ≤ most
  pub under_own : List ℕ
  pub under : List Item
  pub middle : List Item
  pub own_is : own ≡ under_own ++ chains middle
  pub sub : IsSubtree table usable last shown height cell.left under_own under
  pub middle_is : IsOwn table usable last shown cell middle

-- what an interior cell's own entry leads to; in a table there is none
pub record IsOwnChain (table : Bool) (cell : NodeCell) (usable last : ℕ) (shown : Shown) (own : List ℕ) : Type 0 where
  pub middle : List Item
  pub own_is : own ≡ chains middle
  pub middle_is : IsOwn table usable last shown cell middle

-- the chain of a cell
abbrev pub HasChain : NodeCell → OnPages
HasChain cell usable last shown own = IsChain usable last shown cell.overflow (cell.payload - length cell.local) own

-- the chains of a leaf's cells
pub record HaveChains (table : Bool) (cells : List NodeCell) (usable last : ℕ) (shown : Shown) (own : List ℕ) : Type 0 where
  pub items : List Item
  pub items_are : AreItems table usable last shown cells items
  pub own_is : own ≡ chains items

-- What is told of a cell, as far as it leads to pages.
pub record SaysCell (told : Cell) (cell : NodeCell) : Type 0 where
  pub left : told.left ≡ cell.left
  pub payload : told.payload ≡ cell.payload
  pub local : told.local ≡ length cell.local
  pub overflow : told.overflow ≡ cell.overflow
