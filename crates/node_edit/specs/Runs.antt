-- Cells in a row that stand in pages and in a list of texts.
use Rattle.std.specs.Prelude.{◌≡◌, ℕ, ◌+◌, ◌-◌, ◌*◌, ◌<◌, ◌≤◌, Bool, List, ◌++◌, length, map, take, drop, slice_index_or, All, Some}
use Rattle.page_spec.specs.Bytes.{u16_at}
use Rattle.node_spec.specs.declared.kinds.Kind.{Kind}
use Rattle.node_spec.specs.Kinds.{pointers_at}
use Rattle.node_spec.specs.Cells.{NodeCell, IsOneCell, cell_in}
use Rattle.node_spec.specs.Nodes.{Node, node_of, no_cell, cell_bytes}
use Rattle.page_form.specs.Reading.{CellStands}
use Rattle.node_edit.specs.declared.run.Lent.{Lent}
use Rattle.node_edit.specs.declared.run.Run.{Run}
use Rattle.node_edit.specs.declared.head.Head.{Head}

-- the cell at a place of a row
abbrev pub cell_of : List NodeCell → ℕ → NodeCell
cell_of cells k = slice_index_or cells k no_cell

-- the cells of a row from one place up to another
abbrev pub part_of : List NodeCell → (from to : ℕ) → List NodeCell
part_of cells from to = take (to - from) (drop from cells)

-- how many bytes of a page some cells take, with their pointers
abbrev pub weight_of : List NodeCell → ℕ
weight_of cells = cell_bytes cells + 2 * length cells

-- the cells that texts spell
abbrev pub spelled_by : Kind → (usable : ℕ) → List (List ℕ) → List NodeCell
spelled_by kind usable texts = map (cell_in kind usable) texts

-- the bytes are just one cell of a kind, and it is this one
pub record Spells (kind : Kind) (usable : ℕ) (text : List ℕ) (cell : NodeCell) : Type 0 where
  pub one : IsOneCell kind usable text
  pub is : cell_in kind usable text ≡ cell

-- a cell's text stands at a place of the usable bytes
pub record Lies (kind : Kind) (usable : ℕ) (bytes : List ℕ) (start : ℕ) (cell : NodeCell) : Type 0 where
  pub text : List ℕ
  pub stands : CellStands usable kind bytes text start
  pub is : cell_in kind usable text ≡ cell

-- the cells of a page from one place up to another are these
pub record CellsLie (kind : Kind) (usable : ℕ) (lent : Lent) (cells : List NodeCell) : Type 0 where
  pub count : lent.from + length cells ≡ lent.to
  pub room : lent.pointers + 2 * lent.to ≤ length lent.bytes.now
  pub most : lent.pointers + 2 * lent.to ≤ 65536
  pub each : (i : ℕ) → i < length cells → Lies kind usable lent.bytes.now (u16_at lent.bytes.now (lent.pointers + 2 * (lent.from + i))) (cell_of cells i)

-- a row is made of these cells
pub record IsRun (run : Run) (cells : List NodeCell) : Type 0 where
  pub least : 480 ≤ run.u
  pub most : run.u ≤ 65536
  pub front : List NodeCell
  pub back : List NodeCell
  pub cells_are : cells ≡ front ++ (spelled_by run.kind run.u run.news.now ++ back)
  pub front_lie : CellsLie run.kind run.u run.front front
  pub news_are : All (IsOneCell run.kind run.u) run.news.now
  pub back_lie : CellsLie run.kind run.u run.back back

-- what a page that shows a node tells at its front
pub record IsHead (usable : ℕ) (first : Bool) (node : Node) (head : Head) : Type 0 where
  pub kind : head.kind ≡ node.kind
  pub pointers : head.pointers ≡ pointers_at first node.kind
  pub count : head.count ≡ length node.cells
  pub most : head.pointers + 2 * head.count ≤ usable

-- a page has room for cells of a row, before the cell at a place
pub record HasRoom (run : Run) (from end : ℕ) (first : Bool) (bytes : List ℕ) (at : ℕ) : Type 0 where
  pub cells : List NodeCell
  pub node : Node
  pub is_run : IsRun run cells
  pub order : from ≤ end
  pub within : end ≤ length cells
  pub shown : node_of run.u first bytes ≡ Some node
  pub kind : node.kind ≡ run.kind
  pub place : at ≤ length node.cells
  pub fits : pointers_at first node.kind + weight_of node.cells + weight_of (part_of cells from end) ≤ run.u
