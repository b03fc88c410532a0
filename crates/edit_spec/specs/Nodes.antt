-- Nodes that take cells, are divided, or are joined with a neighbour.
--
-- An edited page keeps its number and the upper part of its cells. Where a page is divided the lower parts go to new pages, its siblings to the left, and
-- the page above gets an interior cell for each of them.
use Rattle.std.specs.Prelude.{◌≡◌, ℕ, ◌+◌, ◌≤◌, ◌&&◌, Bool, true, false, List, [], ◌∷◌, ◌++◌, length, take, drop, Option, Some}
use Rattle.node_spec.specs.Kinds.{is_leaf, is_table}
use Rattle.node_spec.specs.Cells.{NodeCell}
use Rattle.node_spec.specs.Nodes.{Node, cell_at}

-- the cells with others put in before the one at a place
abbrev pub cells_with : List NodeCell → ℕ → List NodeCell → List NodeCell
cells_with cells at news = take at cells ++ (news ++ drop at cells)

-- the node with cells put in, and with other cells
abbrev pub node_taking : Node → ℕ → List NodeCell → Node
node_taking node at news = record node { cells = cells_with node.cells at news }

abbrev pub node_of_cells : Node → List NodeCell → Node
node_of_cells node cells = record node { cells = cells }

-- Two cells say the same but for the child that they lead to and the bytes that they take: the same rowid and the same payload.
pub record SaysSame (cell other : NodeCell) : Type 0 where
  pub rowid : other.rowid ≡ cell.rowid
  pub payload : other.payload ≡ cell.payload
  pub local : other.local ≡ cell.local
  pub overflow : other.overflow ≡ cell.overflow

-- A leaf of a table is divided: each cell goes to one of two leaves, and the cell above has the last rowid of the left one.
pub record DividesRows (whole : Node) (up : NodeCell) (left rest : Node) : Type 0 where
  pub left_kind : left.kind ≡ whole.kind
  pub rest_kind : rest.kind ≡ whole.kind
  pub cells : whole.cells ≡ left.cells ++ rest.cells
  pub left_some : 1 ≤ length left.cells
  pub rest_some : 1 ≤ length rest.cells
  pub last : ℕ
  pub last_is : last + 1 ≡ length left.cells
  pub rowid : up.rowid ≡ (cell_at left last).rowid
  pub no_payload : (up.payload ≡ 0) × (up.local ≡ []) × (up.overflow ≡ 0)

-- Another page is divided: the cell between the two parts goes up, and what it led to becomes the left one's right child. A page of an index's leaf
-- leads nowhere, so its parts have none.
pub record DividesBetween (whole : Node) (up : NodeCell) (left rest : Node) : Type 0 where
  pub left_kind : left.kind ≡ whole.kind
  pub rest_kind : rest.kind ≡ whole.kind
  pub between : NodeCell
  pub cells : whole.cells ≡ left.cells ++ (between ∷ rest.cells)
  pub left_some : 1 ≤ length left.cells
  pub rest_some : 1 ≤ length rest.cells
  pub up_is : SaysSame between up
  pub left_right : left.right ≡ between.left
  pub rest_right : rest.right ≡ whole.right

abbrev pub ByLeafOfTable : Bool → Type 0 → Type 0 → Type 0
ByLeafOfTable true OfRows OfOthers = OfRows
ByLeafOfTable false OfRows OfOthers = OfOthers

-- a node is divided in two, with this cell above
abbrev pub Divides : (whole : Node) (up : NodeCell) (left rest : Node) → Type 0
Divides whole up left rest = ByLeafOfTable (is_leaf whole.kind && is_table whole.kind) (DividesRows whole up left rest) (DividesBetween whole up left rest)

-- The first of new siblings shows the left part of a node, and the others with the page show the rest.
pub record ShowsLeft (node_at : ℕ → Option Node) (Rest : Node → Type 0) (cell : NodeCell) (whole : Node) : Type 0 where
  pub left : Node
  pub rest : Node
  pub holds : node_at cell.left ≡ Some left
  pub divides : Divides whole cell left rest
  pub others : Rest rest

-- New siblings and a page, from left to right, show a node together. Each sibling is told by its cell in the page above.
abbrev pub ShowTogether : (node_at : ℕ → Option Node) → (news : List NodeCell) → (page : ℕ) → Node → Type 0
ShowTogether node_at [] page node = node_at page ≡ Some node
ShowTogether node_at (cell ∷ news) page node = ShowsLeft node_at (ShowTogether node_at news page) cell node
