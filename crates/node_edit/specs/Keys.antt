-- Keys: what stands in the cells of interior pages behind the left child.
use Rattle.std.specs.Prelude.{◌≡◌, ℕ, ◌+◌, ◌-◌, max, if◌then◌else◌, List, length, drop}
use Rattle.page_spec.specs.Bytes.{u32_at}
use Rattle.node_spec.specs.declared.kinds.Kind.{Kind}
use Rattle.node_spec.specs.declared.kinds.Kind.TheVariants.{IndexInner, TableInner, IndexLeaf, TableLeaf}
use Rattle.node_spec.specs.Kinds.{is_leaf}
use Rattle.node_spec.specs.Cells.{NodeCell, IsOneCell, body_size, cell_in}
use Rattle.edit_spec.specs.Nodes.{SaysSame}

-- the kind of the pages above those of a kind
abbrev pub kind_above : Kind → Kind
kind_above IndexInner = IndexInner
kind_above TableInner = TableInner
kind_above IndexLeaf = IndexInner
kind_above TableLeaf = TableInner

-- the bytes are just what stands behind the left child of a cell of a kind
abbrev pub IsKey : Kind → (usable : ℕ) → List ℕ → Type 0
IsKey kind usable key = body_size kind usable key ≡ length key

-- a text is a page number and a key behind it
pub record LeadsTo (page : ℕ) (key text : List ℕ) : Type 0 where
  pub long : length text ≡ 4 + length key
  pub page_is : u32_at text 0 ≡ page
  pub key_is : drop 4 text ≡ key

-- such a text is a cell of an interior page, whose left child is the page
pub record IsCellAbove (kind : Kind) (usable page : ℕ) (text : List ℕ) : Type 0 where
  pub one : IsOneCell kind usable text
  pub left : (cell_in kind usable text).left ≡ page

-- How many bytes a cell of the page above takes on a page of a kind. On a leaf it has no left child, and at least 4 bytes.
abbrev pub size_down : Kind → ℕ → ℕ
size_down kind size = if is_leaf kind then max 4 (size - 4) else size

-- A text is a cell of the page above that came down to a page of a kind: it says the same, and leads to this child, on a leaf nowhere.
pub record ComesDown (kind : Kind) (usable : ℕ) (cell : NodeCell) (right : ℕ) (text : List ℕ) : Type 0 where
  pub one : IsOneCell kind usable text
  pub says : SaysSame cell (cell_in kind usable text)
  pub leads : (cell_in kind usable text).left ≡ (if is_leaf kind then 0 else right)
  pub size_is : (cell_in kind usable text).size ≡ size_down kind cell.size
