-- Where a key stands among the cells of a page, and the path down to its leaf.
use Rattle.std.specs.Prelude.{◌≡◌, ◌⊎◌, ℕ, ℤ, ◌<◌, ◌≤◌, ◌<ℤ◌, ◌==◌, true, false, List, [], ◌∷◌, ◌++◌, length, Some, Result, Ok, Err}
use Rattle.page_spec.specs.View.{View}
use Rattle.engine_spec.specs.declared.commits.FetchFault.{FetchFault}
use Rattle.page_face.specs.declared.pages_tells.PagesTells.{Ghosts}
use Rattle.node_spec.specs.Kinds.{is_leaf}
use Rattle.node_spec.specs.Cells.{NodeCell}
use Rattle.node_spec.specs.Nodes.{Node, node_of, cell_at}
use Rattle.tree_spec.specs.Shown.{Shown}
use Rattle.tree_spec.specs.Layout.{times}
use Rattle.overflow.specs.Following.{shown_over}
use Rattle.tree_read.specs.declared.entry.Spot.{Spot}
use Rattle.tree_read.specs.declared.entry.Spot.TheVariants.{At, Before}
use Rattle.tree_read.specs.Ways.{MayStand, ShowsNode, StandsAt, HasRowid, IsNext, GoesOn, IsWay}
use Rattle.tree_read.specs.Entries.{EntryStandsAt, HasSought, NamesEntryChild, IsChainPage}
use Rattle.tree_keys.specs.Keys.{Sought, OfRow, OfEntry, is_row}

-- A rowid's spot: a leaf has a cell with it, or it stands at this place; then the leaf's cell there has a greater one.
abbrev pub IsRowSpot : Node → ℤ → Spot → Type 0
IsRowSpot node rowid At = (is_leaf node.kind ≡ true) × ((cell : NodeCell) × HasRowid node rowid cell)
IsRowSpot node rowid (Before place) =
    StandsAt node.cells rowid place × (is_leaf node.kind ≡ true → place < length node.cells → rowid <ℤ (cell_at node place).rowid)

-- A rowid's spot was looked for.
abbrev pub HasRowSpot : Node → ℤ → Result Spot FetchFault → Type 0
HasRowSpot node rowid (Ok spot) = IsRowSpot node rowid spot
HasRowSpot node rowid (Err why) = ⊥

-- A key's spot among the cells of a page was looked for. For a rowid nothing was read.
abbrev pub HasSpot : {P : Type 0} → Ghosts P → P → Sought → Node → (below : ℕ) → Result Spot FetchFault → P → Type 0
HasSpot pages old (OfRow rowid) node below result new = (new ≡ old) × HasRowSpot node rowid result
HasSpot pages old (OfEntry entry) node below result new = HasSought pages old node below entry result new

-- a key that no cell has stands at this place among the cells of a page
abbrev pub IsPlace : Sought → (usable last : ℕ) → Shown → Node → ℕ → Type 0
IsPlace (OfRow rowid) usable last shown node place = IsRowSpot node rowid (Before place)
IsPlace (OfEntry entry) usable last shown node place = EntryStandsAt usable last shown node entry place

-- Bytes are those of a page that may stand so many levels below the root, and the key's place among its cells was found: so it is over each world.
pub record HoldsPlace {P : Type 0} (pages : Ghosts P) (at : P) (sought : Sought) (page level : ℕ) (bytes : List ℕ) (node : Node) (place : ℕ) : Type 0 where
  pub of : node_of (pages.usable at) (page == 1) bytes ≡ Some node
  pub may : MayStand (is_row sought) page level node
  pub within : place ≤ length node.cells
  pub shown : (world : View) → pages.tells at world → (shown_over pages at world).node page ≡ Some node
  pub stands : (world : View) → pages.tells at world → IsPlace sought (pages.usable at) (pages.last_page at) (shown_over pages at world) node place

-- An interior page of a table, so many levels below the root, names this child at the rowid's place.
pub record NamesRowChild (shown : Shown) (rowid : ℤ) (level page child : ℕ) : Type 0 where
  pub node : Node
  pub shows : ShowsNode true shown level page node
  pub inner : is_leaf node.kind ≡ false
  pub next : IsNext node rowid child

-- an interior page, so many levels below the root, names this child at the key's place
abbrev pub NamesNext : Sought → (usable last : ℕ) → Shown → (level page child : ℕ) → Type 0
NamesNext (OfRow rowid) usable last shown = NamesRowChild shown rowid
NamesNext (OfEntry entry) usable last shown = NamesEntryChild usable last shown entry

-- The pages from one page, so many levels below the root, down to the key's leaf.
pub record IsPath (sought : Sought) (usable last : ℕ) (shown : Shown) (level page : ℕ) (path : List ℕ) : Type 0 where
  pub way : List ℕ
  pub end : ℕ
  pub are : path ≡ way ++ (end ∷ [])
  pub leads : IsWay (GoesOn last (NamesNext sought usable last shown)) level page way end
  pub node : Node
  pub holds : shown.node end ≡ Some node
  pub leaf : is_leaf node.kind ≡ true

-- a page that may be read on a path: one of the path, in an index also one of the chain of a cell there
abbrev pub IsOfPath : Sought → (usable last : ℕ) → Shown → List ℕ → ℕ → Type 0
IsOfPath (OfRow rowid) usable last shown path page = 1 ≤ times path page
IsOfPath (OfEntry entry) usable last shown path page = (1 ≤ times path page) ⊎ IsChainPage usable last shown path page

-- Pages were read and put on the path to a key's leaf.
pub record StaysOnPath (sought : Sought) (usable last : ℕ) (shown : Shown) (level page : ℕ) (path read put : List ℕ) : Type 0 where
  pub is_path : IsPath sought usable last shown level page path
  pub reads : (number : ℕ) → 1 ≤ times read number → IsOfPath sought usable last shown path number
  pub puts : (number : ℕ) → 1 ≤ times put number → 1 ≤ times path number
