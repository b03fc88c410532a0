-- Two neighbours joined in the right one's node, under the cell between them: what dividing does, backwards. Either may be without a cell.
use Rattle.std.specs.Prelude.{◌≡◌, ◌&&◌, ◌∷◌, ◌++◌}
use Rattle.node_spec.specs.Kinds.{is_leaf, is_table}
use Rattle.node_spec.specs.Cells.{NodeCell}
use Rattle.node_spec.specs.Nodes.{Node}
use Rattle.edit_spec.specs.Nodes.{SaysSame, ByLeafOfTable}

-- Leaves of a table: the cell between says nothing of its own, and goes.
pub record JoinsRows (left right whole : Node) : Type 0 where
  pub kind : whole.kind ≡ right.kind
  pub cells : whole.cells ≡ left.cells ++ right.cells

-- Other pages: the cell between comes down and stands between the two parts, and leads to the left one's right child.
pub record JoinsBetween (left : Node) (between : NodeCell) (right whole : Node) : Type 0 where
  pub kind : whole.kind ≡ right.kind
  pub right_is : whole.right ≡ right.right
  pub down : NodeCell
  pub says : SaysSame between down
  pub leads : down.left ≡ left.right
  pub cells : whole.cells ≡ left.cells ++ (down ∷ right.cells)

-- a node is two neighbours joined, with this cell between them
abbrev pub Joins : (left : Node) (between : NodeCell) (right whole : Node) → Type 0
Joins left between right whole = ByLeafOfTable (is_leaf right.kind && is_table right.kind) (JoinsRows left right whole) (JoinsBetween left between right whole)
