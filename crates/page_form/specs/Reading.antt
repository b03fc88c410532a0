-- What is told of a page and of a cell, by the node that the page shows.
use Rattle.std.specs.Prelude.{◌≡◌, ℕ, ◌+◌, ◌*◌, ◌<◌, ◌≤◌, Bool, List, length, slice_index, slice_range, Some, vec_len}
use Rattle.page_spec.specs.Bytes.{u16_at}
use Rattle.node_spec.specs.declared.kinds.Kind.{Kind}
use Rattle.node_spec.specs.Kinds.{pointers_at}
use Rattle.node_spec.specs.Cells.{NodeCell, IsCell, cell_in}
use Rattle.node_spec.specs.Layout.{IsPageText}
use Rattle.node_spec.specs.Faults.{page_fault}
use Rattle.node_spec.specs.Nodes.{Node, node_of, free_of, cell_at}
use Rattle.page_form.specs.declared.page.Page.{Page}
use Rattle.page_form.specs.declared.page.PageFault.{PageFault}
use Rattle.page_form.specs.declared.page.PageFault.TheVariants.{Bad, Memory}
use Rattle.page_form.specs.declared.cells.Cell.{Cell}

-- what is told of a page whose first so many bytes show a node
pub record Tells (usable : ℕ) (first : Bool) (bytes : List ℕ) (page : Page) (node : Node) : Type 0 where
  pub shown : node_of usable first bytes ≡ Some node
  pub kind : page.kind ≡ node.kind
  pub count : vec_len page.cells ≡ length node.cells
  pub pointers : (i : ℕ) → i < length node.cells → slice_index page.cells.items i ≡ u16_at bytes (pointers_at first node.kind + 2 * i)
  pub right : page.right ≡ node.right
  pub free : page.free ≡ free_of usable first node

-- the same of page 1 or of another page
pub record IsReadPage (usable : ℕ) (bytes : List ℕ) (page : Page) (node : Node) : Type 0 where
  pub first : Bool
  pub tells : Tells usable first bytes page node

-- why bytes are refused
abbrev pub IsFault : (usable : ℕ) (first : Bool) (bytes : List ℕ) → PageFault → Type 0
IsFault usable first bytes (Bad at) = (page_fault usable first bytes ≡ Some at) × (IsPageText usable first bytes → ⊥)
IsFault usable first bytes Memory = Unit {0}

-- the usable bytes have a cell's text at a place
pub record CellStands (usable : ℕ) (kind : Kind) (bytes text : List ℕ) (start : ℕ) : Type 0 where
  pub least : 480 ≤ usable
  pub most : usable ≤ 65536
  pub long : usable ≤ length bytes
  pub whole : IsCell kind usable text
  pub some : 4 ≤ length text
  pub high : start + length text ≤ usable
  pub same : (j : ℕ) → j < length text → slice_index bytes (start + j) ≡ slice_index text j

-- What is told of a cell: each field, and where its text stands, from which it can be copied.
pub record TellsCell (usable : ℕ) (kind : Kind) (bytes : List ℕ) (told : Cell) (cell : NodeCell) : Type 0 where
  pub inside : told.start + told.len ≤ usable
  pub long : usable ≤ length bytes
  pub whole : IsCell kind usable (slice_range bytes told.start (told.start + told.len))
  pub spells : cell_in kind usable (slice_range bytes told.start (told.start + told.len)) ≡ cell
  pub size : told.len ≡ cell.size
  pub left : told.left ≡ cell.left
  pub rowid : told.rowid ≡ cell.rowid
  pub payload : told.payload ≡ cell.payload
  pub local : told.local ≡ length cell.local
  pub overflow : told.overflow ≡ cell.overflow

-- the same of the cell of a node at a place
abbrev pub IsCellOf : (usable : ℕ) (bytes : List ℕ) → Cell → Node → ℕ → Type 0
IsCellOf usable bytes told node k = TellsCell usable node.kind bytes told (cell_at node k)
