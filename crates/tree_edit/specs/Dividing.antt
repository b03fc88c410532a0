-- Neighbours under one page, divided anew between their two pages.
use Rattle.std.specs.Prelude.{◌≡◌, ◌⊎◌, ℕ, Bool, false, List, [], ◌∷◌, length, Some}
use Rattle.disk_face.specs.Faults.{Rose}
use Rattle.page_spec.specs.View.{View}
use Rattle.engine_spec.specs.declared.commits.FetchFault.{FetchFault}
use Rattle.engine_spec.specs.declared.commits.FetchFault.TheVariants as fault
use Rattle.page_face.specs.declared.pages_tells.PagesTells.{Ghosts}
use Rattle.node_spec.specs.declared.kinds.Kind.{Kind}
use Rattle.node_spec.specs.Kinds.{is_table}
use Rattle.node_spec.specs.Cells.{NodeCell, cell_in}
use Rattle.node_spec.specs.Nodes.{Node, node_of}
use Rattle.overflow.specs.Following.{shown_over}
use Rattle.edit_spec.specs.Nodes.{Divides, ShowTogether}
use Rattle.edit_spec.specs.Joins.{Joins}
use Rattle.node_edit.specs.Keys.{IsCellAbove}
use Rattle.node_edit.specs.Dividing.{ShowTwo}
use Rattle.tree_edit.specs.Editing.{PageLists, EditsPages}
use Rattle.tree_edit.specs.Roots.{inner_kind}
use Rattle.tree_edit.specs.Joining.{LacksRoomFor}

-- two neighbours have to be divided anew: they are of one kind, one of them has no cell, and one page has no room for both
pub record HaveToDivide (usable : ℕ) (one two : Node) (cell : NodeCell) : Type 0 where
  pub kind : two.kind ≡ one.kind
  pub thin : (length one.cells ≡ 0) ⊎ (length two.cells ≡ 0)
  pub lacks : LacksRoomFor usable one two cell

-- two pages show such neighbours, with this cell above that leads to the left one
pub record AreCrowded {P : Type 0} (pages : Ghosts P) (old : P) (left right : ℕ) (cell : NodeCell) (world : View) : Type 0 where
  pub one : Node
  pub two : Node
  pub left_shows : (shown_over pages old world).node left ≡ Some one
  pub right_shows : (shown_over pages old world).node right ≡ Some two
  pub crowded : HaveToDivide (pages.usable old) one two cell

-- two pages were read and put
abbrev pub putting_both : (left right : ℕ) → PageLists
putting_both left right = record { read = left ∷ (right ∷ []); put = left ∷ (right ∷ []); made = []; gone = [] }

-- Two neighbours under a cell are divided anew: joined they are one node, and their pages show that node together now, where this text is the cell above that
-- leads to the left one. Nothing else was changed.
pub record DividesPages {P : Type 0} (pages : Ghosts P) (old : P) (table : Bool) (left right : ℕ) (cell : NodeCell) (text : List ℕ) (new : P) (world : View) : Type 0 where
  pub one : Node
  pub two : Node
  pub whole : Node
  pub left_shows : (shown_over pages old world).node left ≡ Some one
  pub right_shows : (shown_over pages old world).node right ≡ Some two
  pub joins : Joins one cell two whole
  pub shows : ShowTogether (shown_over pages new world).node (cell_in (inner_kind table) (pages.usable old) text ∷ []) right whole
  pub edits : EditsPages pages (putting_both left right) old new world

-- Why neighbours weren't divided: a fault from outside, or the left page is named, which shows no node of such a tree, or the right one, since they don't have to be.
abbrev pub BarsDividing : {P : Type 0} → Ghosts P → P → (table : Bool) → (left right : ℕ) → NodeCell → P → FetchFault → Type 0
BarsDividing pages old table left right cell new fault.Disk = Rose (pages.faults old) (pages.faults new)
BarsDividing pages old table left right cell new (fault.Corrupt named) =
    ((named ≡ left) × ((world : View) → pages.tells new world → (one : Node) → (shown_over pages old world).node left ≡ Some one → is_table one.kind ≡ table → ⊥))
    ⊎ ((named ≡ right) × ((world : View) → pages.tells new world → AreCrowded pages old left right cell world → ⊥))
BarsDividing pages old table left right cell new (fault.Size count) = ⊥
BarsDividing pages old table left right cell new fault.Memory = Unit {0}

-- bytes show two neighbours divided anew, and this key stands between the parts
pub record ShowAnew (usable : ℕ) (one : Node) (cell : NodeCell) (two : Node) (key left right : List ℕ) : Type 0 where
  pub whole : Node
  pub kind : whole.kind ≡ one.kind
  pub joins : Joins one cell two whole
  pub parts : ShowTwo usable false whole key left right

-- the same, and this text is the cell of a page above that leads to the page on the left
pub record ShowUnder (usable : ℕ) (above : Kind) (one : Node) (cell : NodeCell) (two : Node) (page : ℕ) (text left right : List ℕ) : Type 0 where
  pub whole : Node
  pub joins : Joins one cell two whole
  pub left_part : Node
  pub rest : Node
  pub left_shows : node_of usable false left ≡ Some left_part
  pub rest_shows : node_of usable false right ≡ Some rest
  pub is_above : IsCellAbove above usable page text
  pub divides : Divides whole (cell_in above usable text) left_part rest

-- bytes were put in the place of two pages, which show their nodes now
pub record StoresBoth {P : Type 0} (pages : Ghosts P) (old : P) (left right : ℕ) (left_bytes right_bytes : List ℕ) (new : P) (world : View) : Type 0 where
  pub left_shows : (node : Node) → node_of (pages.usable old) false left_bytes ≡ Some node → (shown_over pages new world).node left ≡ Some node
  pub right_shows : (node : Node) → node_of (pages.usable old) false right_bytes ≡ Some node → (shown_over pages new world).node right ≡ Some node
  pub edits : EditsPages pages (putting_both left right) old new world
