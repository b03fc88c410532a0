-- How pages that have no room for some cells are divided, and the keys between their parts.
use Rattle.std.specs.Prelude.{◌≡◌, ℕ, ◌+◌, ◌<◌, ◌≤◌, ◌&&◌, Bool, true, false, List, [], ◌++◌, ◌⊎◌, length, take, drop, All, Some}
use Rattle.node_spec.specs.declared.kinds.Kind.{Kind}
use Rattle.node_spec.specs.declared.kinds.Kind.TheVariants.{TableInner}
use Rattle.node_spec.specs.Kinds.{is_leaf, is_table, pointers_at}
use Rattle.node_spec.specs.Cells.{NodeCell, IsOneCell, cell_in, body_size, left_size}
use Rattle.node_spec.specs.Nodes.{Node, node_of, free_of}
use Rattle.edit_spec.specs.Nodes.{SaysSame, Divides, ByLeafOfTable}
use Rattle.node_edit.specs.declared.crowd.Crowd.{Crowd}
use Rattle.node_edit.specs.declared.leaves.Cuts.{Cuts}
use Rattle.node_edit.specs.declared.leaves.Cuts.TheVariants.{One, Both}
use Rattle.node_edit.specs.declared.division.Divided.{Divided}
use Rattle.node_edit.specs.declared.division.Divided.TheVariants.{Two, Three}
use Rattle.node_edit.specs.Editing.{inner_node}
use Rattle.node_edit.specs.Keys.{IsKey, LeadsTo, IsCellAbove, kind_above}
use Rattle.node_edit.specs.Runs.{IsRun, cell_of, part_of, weight_of, spelled_by}

-- a key stands between two parts of a node: with the number of the left part's page before it, it is the cell above
pub record KeyDivides (usable : ℕ) (whole left rest : Node) (key : List ℕ) : Type 0 where
  pub is_key : IsKey (kind_above whole.kind) usable key
  pub one : (page : ℕ) (text : List ℕ) → LeadsTo page key text → IsCellAbove (kind_above whole.kind) usable page text
  pub divides : (page : ℕ) (text : List ℕ) → LeadsTo page key text → Divides whole (cell_in (kind_above whole.kind) usable text) left rest

-- two pages show the parts of a node, of which the second may be page 1
pub record ShowTwo (usable : ℕ) (first : Bool) (whole : Node) (key : List ℕ) (left bytes : List ℕ) : Type 0 where
  pub left_part : Node
  pub rest : Node
  pub left_shows : node_of usable false left ≡ Some left_part
  pub rest_shows : node_of usable first bytes ≡ Some rest
  pub divides : KeyDivides usable whole left_part rest key

-- three pages show the parts of a node
pub record ShowThree (usable : ℕ) (first : Bool) (whole : Node) (low high : List ℕ) (left middle bytes : List ℕ) : Type 0 where
  pub left_part : Node
  pub rest : Node
  pub left_shows : node_of usable false left ≡ Some left_part
  pub low_divides : KeyDivides usable whole left_part rest low
  pub others : ShowTwo usable first rest high middle bytes

-- pages show the parts of a node, as many as there are keys and one more
abbrev pub ShowParts : (usable : ℕ) (first : Bool) (whole : Node) (left middle bytes : List ℕ) → Divided → Type 0
ShowParts usable first whole left middle bytes (Two key) = ShowTwo usable first whole key left bytes
ShowParts usable first whole left middle bytes (Three low high) = ShowThree usable first whole low high left middle bytes

-- there are two parts
abbrev pub AreTwo : Divided → Type 0
AreTwo (Two key) = Unit {0}
AreTwo (Three low high) = ⊥

-- A page that has no room for cells at a place. A leaf of a table is asked to take one cell, and isn't page 1; another page is asked to take one or two.
pub record IsCrowded (usable : ℕ) (first : Bool) (node : Node) (at : ℕ) (news : List (List ℕ)) : Type 0 where
  pub place : at ≤ length node.cells
  pub cells : All (IsOneCell node.kind usable) news
  pub lacks : free_of usable first node < weight_of (spelled_by node.kind usable news)
  pub few : ByLeafOfTable (is_leaf node.kind && is_table node.kind) ((first ≡ false) × (length news ≡ 1)) (length news ≤ 2)

-- Two neighbours of a kind, one of which has no cell, have no room in the right one's page with the cells between them. Between leaves of a table is none.
pub record LackRoom (usable : ℕ) (left right : Node) (between : List (List ℕ)) : Type 0 where
  pub kind : right.kind ≡ left.kind
  pub cells : All (IsOneCell left.kind usable) between
  pub few : length between ≤ 2
  pub rows : is_leaf left.kind && is_table left.kind ≡ true → between ≡ []
  pub thin : (length left.cells ≡ 0) ⊎ (length right.cells ≡ 0)
  pub lacks : free_of usable false right < weight_of (left.cells ++ spelled_by left.kind usable between)

-- the node that the cells of a crowd make
abbrev pub whole_of : Crowd → List NodeCell → Node
whole_of crowd cells = inner_node crowd.run.kind cells crowd.right

-- the cells of a crowd
pub record IsCrowd (crowd : Crowd) (cells : List NodeCell) : Type 0 where
  pub is_run : IsRun crowd.run cells
  pub count : crowd.count ≡ length cells

-- a part of a row fits in a page
pub record PartFits (crowd : Crowd) (from end : ℕ) (first : Bool) : Type 0 where
  pub cells : List NodeCell
  pub is_run : IsRun crowd.run cells
  pub order : from ≤ end
  pub within : end ≤ length cells
  pub fits : pointers_at first crowd.run.kind + weight_of (part_of cells from end) ≤ crowd.run.u

-- Cells of pages other than leaves of tables can be divided at the cell behind those that take at most the limit: what is behind this cell fits.
pub record CutsBetween (crowd : Crowd) (cells : List NodeCell) (limit : ℕ) : Type 0 where
  pub is_crowd : IsCrowd crowd cells
  pub kind : is_leaf crowd.run.kind && is_table crowd.run.kind ≡ false
  pub three : 3 ≤ length cells
  pub room : pointers_at false crowd.run.kind + limit ≤ crowd.run.u
  pub each : (k : ℕ) → k < length cells → (cell_of cells k).size + 2 ≤ limit
  pub alone : (k : ℕ) → k < length cells → pointers_at crowd.first crowd.run.kind + ((cell_of cells k).size + 2) ≤ crowd.run.u
  pub rest : (k : ℕ) → k + 2 < length cells → limit < weight_of (part_of cells 0 (k + 1))
      → pointers_at crowd.first crowd.run.kind + weight_of (part_of cells (k + 1) (length cells)) ≤ crowd.run.u

-- Cells of a leaf of a table, of which one is put in: those before it fit in a page, and so do those behind it, and each alone.
pub record CutsRows (crowd : Crowd) (cells : List NodeCell) (at limit : ℕ) : Type 0 where
  pub is_crowd : IsCrowd crowd cells
  pub leaf : is_leaf crowd.run.kind ≡ true
  pub table : is_table crowd.run.kind ≡ true
  pub page : crowd.first ≡ false
  pub two : 2 ≤ length cells
  pub place : at < length cells
  pub room : limit + 8 ≤ crowd.run.u
  pub alone : (k : ℕ) → k < length cells → (cell_of cells k).size + 10 ≤ crowd.run.u
  pub before : weight_of (part_of cells 0 at) + 8 ≤ crowd.run.u
  pub behind : weight_of (part_of cells (at + 1) (length cells)) + 8 ≤ crowd.run.u

-- a part of cells of a leaf of a table fits in a page, and has a cell
pub record RowsFit (usable : ℕ) (cells : List NodeCell) (from end : ℕ) : Type 0 where
  pub some : from < end
  pub within : end ≤ length cells
  pub fits : weight_of (part_of cells from end) + 8 ≤ usable

-- where they are cut so that each part fits
abbrev pub AreCuts : (usable : ℕ) (cells : List NodeCell) → Cuts → Type 0
AreCuts usable cells (One cut) = RowsFit usable cells 0 cut × RowsFit usable cells cut (length cells)
AreCuts usable cells (Both low high) = RowsFit usable cells 0 low × RowsFit usable cells low high × RowsFit usable cells high (length cells)

-- a key of a rowid: with a page number before it, it is a cell of that rowid
pub record IsRowKey (usable : ℕ) (cell : NodeCell) (key : List ℕ) : Type 0 where
  pub is_key : IsKey TableInner usable key
  pub rowid : (page : ℕ) (text : List ℕ) → LeadsTo page key text → (cell_in TableInner usable text).rowid ≡ cell.rowid
  pub no_payload : (page : ℕ) (text : List ℕ) → LeadsTo page key text
      → ((cell_in TableInner usable text).payload ≡ 0) × ((cell_in TableInner usable text).local ≡ []) × ((cell_in TableInner usable text).overflow ≡ 0)

-- a key of a cell that goes up: with a page number before it, it is a cell that says the same
pub record IsUpKey (kind : Kind) (usable : ℕ) (cell : NodeCell) (key : List ℕ) : Type 0 where
  pub is_key : IsKey (kind_above kind) usable key
  pub says : (page : ℕ) (text : List ℕ) → LeadsTo page key text → SaysSame cell (cell_in (kind_above kind) usable text)

-- what stands in a text behind the left child, without what fills it up
abbrev pub body_in : Kind → (usable : ℕ) → List ℕ → List ℕ
body_in kind usable text = take (body_size kind usable (drop (left_size kind) text)) (drop (left_size kind) text)
