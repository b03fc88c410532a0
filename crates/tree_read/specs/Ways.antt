-- Where a page may stand in a tree, where a rowid stands among a page's cells, and ways down a tree.
use Rattle.std.specs.Prelude.{◌≡◌, ◌⊎◌, ℕ, ℤ, zero, suc, ◌<◌, ◌≤◌, ◌<ℤ◌, ◌≤ℤ◌, Bool, true, false, List, [], ◌∷◌, ◌++◌, length, slice_index_or, Some, Result, IfErr}
use Rattle.node_spec.specs.Kinds.{is_leaf, is_table}
use Rattle.node_spec.specs.Cells.{NodeCell}
use Rattle.node_spec.specs.Nodes.{Node, no_cell, cell_at}
use Rattle.tree_spec.specs.Layout.{Each, Item}
use Rattle.tree_spec.specs.Shown.{Shown}
use Rattle.page_spec.specs.View.{View}
use Rattle.engine_spec.specs.declared.commits.FetchFault.{FetchFault}
use Rattle.page_face.specs.declared.pages_tells.PagesTells.{Ghosts}
use Rattle.overflow.specs.Following.{shown_over, all_read}
use Rattle.tree_read.specs.declared.place.Aim.{Aim}
use Rattle.tree_read.specs.declared.place.Aim.TheVariants.{Rowid, Last}
use Rattle.tree_read.specs.Payloads.{IsCause}

-- A page may stand so many levels below the root of a table's tree or an index's: at most 40, and with a cell. Page 1 and a root that is
-- a leaf may have none.
pub record MayStand (table : Bool) (page level : ℕ) (node : Node) : Type 0 where
  pub table_is : is_table node.kind ≡ table
  pub depth : level ≤ 40
  pub enough : (page ≡ 1) ⊎ (((level ≡ 0) × (is_leaf node.kind ≡ true)) ⊎ (1 ≤ length node.cells))

-- A page shows a node that may stand so many levels below the root.
pub record ShowsNode (table : Bool) (shown : Shown) (level page : ℕ) (node : Node) : Type 0 where
  pub holds : shown.node page ≡ Some node
  pub may : MayStand table page level node

-- A rowid's place among cells: the cell before it has a smaller one, and the cell at it, if there is one, hasn't.
pub record StandsAt (cells : List NodeCell) (rowid : ℤ) (place : ℕ) : Type 0 where
  pub most : place ≤ length cells
  pub above : (k : ℕ) → place ≡ suc k → (slice_index_or cells k no_cell).rowid <ℤ rowid
  pub below : place < length cells → rowid ≤ℤ (slice_index_or cells place no_cell).rowid

-- the child at a place; past all cells the right one
abbrev pub child_at : List NodeCell → (right place : ℕ) → ℕ
child_at [] right place = right
child_at (cell ∷ cells) right zero = cell.left
child_at (cell ∷ cells) right (suc place) = child_at cells right place

-- whoever looks for a rowid goes on from a node to this child
abbrev pub IsNext : Node → ℤ → ℕ → Type 0
IsNext node rowid child = (place : ℕ) × StandsAt node.cells rowid place × (child ≡ child_at node.cells node.right place)

-- at the rowid's place is a cell with that rowid
pub record HasRowid (node : Node) (rowid : ℤ) (cell : NodeCell) : Type 0 where
  pub place : ℕ
  pub stands : StandsAt node.cells rowid place
  pub inside : place < length node.cells
  pub cell_is : cell ≡ cell_at node place
  pub same : cell.rowid ≡ rowid

-- there is none
pub record LacksRowid (node : Node) (rowid : ℤ) : Type 0 where
  pub place : ℕ
  pub stands : StandsAt node.cells rowid place
  pub greater : place < length node.cells → rowid <ℤ (cell_at node place).rowid

-- whoever goes down towards the aim goes on from a node to this child: that at the rowid's place, or the right one
abbrev pub IsAimed : Node → Aim → ℕ → Type 0
IsAimed node (Rowid rowid) child = IsNext node rowid child
IsAimed node Last child = child ≡ node.right

-- An interior page of a table, so many levels below the root, names this child towards the aim.
pub record NamesChild (shown : Shown) (aim : Aim) (level page child : ℕ) : Type 0 where
  pub node : Node
  pub shows : ShowsNode true shown level page node
  pub inner : is_leaf node.kind ≡ false
  pub next : IsAimed node aim child

-- a page names a child in range, so that the way goes on there
abbrev pub GoesOn : (last : ℕ) → (Names : (level page child : ℕ) → Type 0) → (level page child : ℕ) → Type 0
GoesOn last Names level page child = Names level page child × (2 ≤ child) × (child ≤ last)

-- The way from a page, so many levels below the root, down to another one, each page of which goes on to the next.
abbrev pub IsWay : (Goes : (level page child : ℕ) → Type 0) → (level page : ℕ) → List ℕ → (below : ℕ) → Type 0
IsWay Goes level page [] below = below ≡ page
IsWay Goes level page (p ∷ ps) below = (p ≡ page) × ((child : ℕ) × Goes level page child × IsWay Goes (suc level) child ps below)

-- Of these items some stand together, with smaller keys than the rowid before them and greater ones behind them.
pub record IsAround (rowid : ℤ) (items some : List Item) : Type 0 where
  pub front : List Item
  pub back : List Item
  pub items_are : items ≡ front ++ (some ++ back)
  pub less : Each (λ (item : Item). item.key <ℤ rowid) front
  pub more : Each (λ (item : Item). rowid <ℤ item.key) back

-- Why a page is corrupt on a way down: the root is out of range; the page that the way comes to breaks its form or may not stand there;
-- or it names a child out of range.
pub data BreaksWay (table : Bool) (last : ℕ) (shown : Shown) (Names : (level page child : ℕ) → Type 0) (root : ℕ) (way : List ℕ) (below : ℕ) (after : List ℕ) (page : ℕ) : Type 0 where
  RootOutside : way ≡ [] → after ≡ [] → page ≡ root → (root < 1) ⊎ (last < root) → BreaksWay table last shown Names root way below after page
  ShowsNone : after ≡ below ∷ [] → page ≡ below → ((node : Node) → ShowsNode table shown (length way) below node → ⊥)
      → BreaksWay table last shown Names root way below after page
  ChildOutside : (child : ℕ) → after ≡ below ∷ [] → page ≡ below → Names (length way) below child → (child < 2) ⊎ (last < child)
      → BreaksWay table last shown Names root way below after page

-- A way was gone down: its pages were read, and these from where it comes to, and no others. Over each world that is still told it is a
-- way, and ended so.
pub record HasGone {P T : Type 0} (pages : Ghosts P) (old : P) (Names : Shown → (level page child : ℕ) → Type 0) (root : ℕ)
    (Ends : Shown → (way : List ℕ) → (below : ℕ) → (after : List ℕ) → Result T FetchFault → Type 0) (result : Result T FetchFault) (new : P) : Type 0 where
  pub way : List ℕ
  pub below : ℕ
  pub after : List ℕ
  pub read : pages.reads new ≡ all_read (pages.has old) (pages.reads old) (way ++ after)
  pub leads : (world : View) → pages.tells new world → IsWay (GoesOn (pages.last_page old) (Names (shown_over pages old world))) 0 root way below
  pub ends : (world : View) → pages.tells new world → Ends (shown_over pages old world) way below after result
  pub cause : IfErr result (IsCause (pages.faults old) (pages.faults new))
