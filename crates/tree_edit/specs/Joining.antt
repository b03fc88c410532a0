-- Neighbours under one page, joined in the right one's page.
use Rattle.std.specs.Prelude.{◌≡◌, ◌⊎◌, ℕ, ◌<◌, ◌&&◌, Bool, true, false, List, [], ◌∷◌, ◌++◌, Some}
use Rattle.disk_face.specs.Faults.{Rose}
use Rattle.page_spec.specs.View.{View}
use Rattle.engine_spec.specs.declared.commits.FetchFault.{FetchFault}
use Rattle.engine_spec.specs.declared.commits.FetchFault.TheVariants as fault
use Rattle.page_face.specs.declared.pages_tells.PagesTells.{Ghosts}
use Rattle.page_face.specs.Pages.{ReadsAtMost}
use Rattle.node_spec.specs.declared.kinds.Kind.{Kind}
use Rattle.node_spec.specs.Kinds.{is_leaf, is_table}
use Rattle.node_spec.specs.Cells.{NodeCell, cell_in}
use Rattle.node_spec.specs.Nodes.{Node, node_of, free_of}
use Rattle.overflow.specs.Following.{shown_over}
use Rattle.edit_spec.specs.Nodes.{SaysSame}
use Rattle.edit_spec.specs.Joins.{Joins}
use Rattle.node_edit.specs.Keys.{kind_above, ComesDown, size_down}
use Rattle.node_edit.specs.Runs.{weight_of}
use Rattle.tree_edit.specs.declared.joining.Left.{Left}
use Rattle.tree_edit.specs.Editing.{EditsPages}

-- the cell above two neighbours, come down between them
pub record IsDown (one : Node) (cell down : NodeCell) : Type 0 where
  pub says : SaysSame cell down
  pub leads : down.left ≡ one.right
  pub size_is : down.size ≡ size_down one.kind cell.size

-- the cells that come between two neighbours: none in leaves of tables, else the one above
abbrev pub AreBetween : (rows : Bool) (one : Node) (cell : NodeCell) → List NodeCell → Type 0
AreBetween true one cell between = between ≡ []
AreBetween false one cell between = (down : NodeCell) × (between ≡ down ∷ []) × IsDown one cell down

-- two neighbours don't fit into one page
pub record LacksRoomFor (usable : ℕ) (one two : Node) (cell : NodeCell) : Type 0 where
  pub between : List NodeCell
  pub are : AreBetween (is_leaf two.kind && is_table two.kind) one cell between
  pub lacks : free_of usable false two < weight_of (one.cells ++ between)

-- The right one of two neighbours shows both, joined under the cell above. Nothing else was changed, and these pages were given up.
pub record JoinsPages {P : Type 0} (pages : Ghosts P) (old : P) (left right : ℕ) (gone : List ℕ) (cell : NodeCell) (new : P) (world : View) : Type 0 where
  pub one : Node
  pub two : Node
  pub whole : Node
  pub left_shows : (shown_over pages old world).node left ≡ Some one
  pub right_shows : (shown_over pages old world).node right ≡ Some two
  pub shows : (shown_over pages new world).node right ≡ Some whole
  pub joins : Joins one cell two whole
  pub edits : EditsPages pages (record { read = left ∷ (right ∷ []); put = right ∷ []; made = []; gone = gone }) old new world

-- it does so over each world that is still told, or they have no room in one page, and nothing was changed
abbrev pub JoinsOrLacks : {P : Type 0} → Ghosts P → P → (left right : ℕ) → (gone : List ℕ) → NodeCell → P → Bool → Type 0
JoinsOrLacks pages old left right gone cell new true =
    (world : View) → pages.tells new world → pages.neat old world → (pages.free old world left → ⊥) → (pages.free old world right → ⊥) → JoinsPages pages old left right gone cell new world
JoinsOrLacks pages old left right gone cell new false = ReadsAtMost pages old new × ((world : View) → pages.tells new world → (one two : Node)
    → (shown_over pages old world).node left ≡ Some one → (shown_over pages old world).node right ≡ Some two → LacksRoomFor (pages.usable old) one two cell)

-- Why neighbours weren't joined: a fault from outside, or a page is named that shows no node of such a tree, or, to the right, none of the left one's kind.
abbrev pub BarsJoining : {P : Type 0} → Ghosts P → P → (table : Bool) → (left right : ℕ) → P → FetchFault → Type 0
BarsJoining pages old table left right new fault.Disk = Rose (pages.faults old) (pages.faults new)
BarsJoining pages old table left right new (fault.Corrupt named) =
    ((named ≡ left) × ((world : View) → pages.tells new world → (one : Node) → (shown_over pages old world).node left ≡ Some one → is_table one.kind ≡ table → ⊥))
    ⊎ ((named ≡ right) × ((world : View) → pages.tells new world → (one two : Node) → (shown_over pages old world).node left ≡ Some one
    → (shown_over pages old world).node right ≡ Some two → two.kind ≡ one.kind → ⊥))
BarsJoining pages old table left right new (fault.Size count) = ⊥
BarsJoining pages old table left right new fault.Memory = Unit {0}

-- A page other than page 1 was read, and this is told of the node that it shows.
pub record HoldsHead {P : Type 0} (pages : Ghosts P) (old : P) (page : ℕ) (bytes : List ℕ) (told : Left) (new : P) : Type 0 where
  pub node : Node
  pub is : node_of (pages.usable old) false bytes ≡ Some node
  pub kind : told.kind ≡ node.kind
  pub child : told.right ≡ node.right
  pub shown : (world : View) → pages.tells new world → (shown_over pages old world).node page ≡ Some node

-- Bytes that were read are those of two neighbours of one kind, of which this is told.
pub record HaveNodes {P : Type 0} (pages : Ghosts P) (old : P) (table : Bool) (left right : ℕ) (left_bytes right_bytes : List ℕ) (told : Left) (new : P) : Type 0 where
  pub one : Node
  pub two : Node
  pub left_is : node_of (pages.usable old) false left_bytes ≡ Some one
  pub right_is : node_of (pages.usable old) false right_bytes ≡ Some two
  pub same_kind : two.kind ≡ one.kind
  pub table_is : is_table one.kind ≡ table
  pub kind : told.kind ≡ one.kind
  pub child : told.right ≡ one.right
  pub left_shows : (world : View) → pages.tells new world → (shown_over pages old world).node left ≡ Some one
  pub right_shows : (world : View) → pages.tells new world → (shown_over pages old world).node right ≡ Some two

-- the texts of the cells that come between two neighbours of a kind
abbrev pub SpellBetween : (rows : Bool) → Kind → (usable : ℕ) → (cell : List ℕ) → (right : ℕ) → List (List ℕ) → Type 0
SpellBetween true kind usable cell right texts = texts ≡ []
SpellBetween false kind usable cell right texts = (text : List ℕ) × (texts ≡ text ∷ []) × ComesDown kind usable (cell_in (kind_above kind) usable cell) right text

-- bytes show both
pub record ShowsJoined (usable : ℕ) (bytes : List ℕ) (one : Node) (cell : NodeCell) (two : Node) : Type 0 where
  pub whole : Node
  pub shown : node_of usable false bytes ≡ Some whole
  pub joins : Joins one cell two whole
