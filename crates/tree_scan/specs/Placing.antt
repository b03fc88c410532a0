-- Where a cursor begins on a page, and what it has read of the page then.
use Rattle.std.specs.Prelude.{◌≡◌, ℕ, ◌<◌, ◌≤◌, ◌==◌, suc, Bool, true, false, List, [], ◌∷◌, length, None, Some, Result, Ok, Err, IfOk, IfErr}
use Rattle.std.specs.declared.cmp.Ordering.TheVariants.{Less}
use Rattle.page_spec.specs.View.{View}
use Rattle.engine_spec.specs.declared.commits.FetchFault.{FetchFault}
use Rattle.engine_spec.specs.declared.commits.FetchFault.TheVariants as fault
use Rattle.page_face.specs.declared.pages_tells.PagesTells.{Ghosts}
use Rattle.node_spec.specs.Kinds.{is_leaf}
use Rattle.node_spec.specs.Cells.{NodeCell}
use Rattle.node_spec.specs.Nodes.{Node, cell_at}
use Rattle.page_form.specs.Reading.{Tells}
use Rattle.tree_spec.specs.Shown.{Shown}
use Rattle.tree_spec.specs.Layout.{Each}
use Rattle.overflow.specs.Following.{shown_over, all_read}
use Rattle.value_form.specs.declared.value.Value.{Value}
use Rattle.value_form.specs.Record.{IsRecord}
use Rattle.tree_read.specs.Ways.{StandsAt, MayStand, ShowsNode}
use Rattle.tree_read.specs.Payloads.{IsFollowed, EndsWithRow, IsCause, payload_bytes}
use Rattle.tree_read.specs.Entries.{IsOfCells, BreaksCell}
use Rattle.tree_scan.specs.declared.bounds.Bounds.{Bounds}
use Rattle.tree_scan.specs.declared.bounds.Bounds.TheVariants.{Rows, Entries}
use Rattle.tree_scan.specs.declared.level.Level.{Level}
use Rattle.tree_scan.specs.Bounded.{of_table, may_look, leading_order}

-- One page.

-- a cell of a node has a row of which something holds
pub record CellRow (usable last : ℕ) (shown : Shown) (node : Node) (k : ℕ) (Of : List Value → Type 0) : Type 0 where
  pub inside : k < length node.cells
  pub chain : List ℕ
  pub next : ℕ
  pub row : List Value
  pub followed : IsFollowed usable last shown (cell_at node k) chain next 0
  pub is_record : IsRecord (payload_bytes usable shown (cell_at node k) chain) row
  pub of : Of row

-- the place of leading values among cells: the row before it is under them, and the row at it, if there is one, isn't
pub record ValuesStandAt (usable last : ℕ) (shown : Shown) (node : Node) (values : List Value) (place : ℕ) : Type 0 where
  pub most : place ≤ length node.cells
  pub above : (k : ℕ) → place ≡ suc k → CellRow usable last shown node k (λ row. leading_order row values ≡ Less)
  pub below : place < length node.cells → CellRow usable last shown node place (λ row. leading_order row values ≡ Less → ⊥)

-- the place where a cursor begins on a page: that of the low bound if it is sought, else the first
abbrev pub IsPlaced : (seek : Bool) (usable last : ℕ) → Shown → Bounds → Node → (place : ℕ) → Type 0
IsPlaced false usable last shown bounds node place = place ≡ 0
IsPlaced true usable last shown (Rows None high) node place = place ≡ 0
IsPlaced true usable last shown (Rows (Some low) high) node place = StandsAt node.cells low place
IsPlaced true usable last shown (Entries None high) node place = place ≡ 0
IsPlaced true usable last shown (Entries (Some low) high) node place = ValuesStandAt usable last shown node low place

-- how looking for it ended
abbrev pub EndsPlace : (seek : Bool) (usable last : ℕ) → Shown → Bounds → Node → (below : ℕ) → Result ℕ FetchFault → Type 0
EndsPlace seek usable last shown bounds node below (Ok place) = IsPlaced seek usable last shown bounds node place
EndsPlace seek usable last shown bounds node below (Err fault.Disk) = Unit {0}
EndsPlace seek usable last shown bounds node below (Err (fault.Corrupt page)) = BreaksCell usable last shown node below page
EndsPlace seek usable last shown bounds node below (Err (fault.Size pages)) = ⊥
EndsPlace seek usable last shown bounds node below (Err fault.Memory) = Unit {0}

-- The place was looked for: pages of the cells' chains were read and no others, none where no entry is compared.
pub record HasPlaced {P : Type 0} (pages : Ghosts P) (old : P) (seek : Bool) (bounds : Bounds) (node : Node) (below : ℕ) (result : Result ℕ FetchFault) (new : P) : Type 0 where
  pub list : List ℕ
  pub read : pages.reads new ≡ all_read (pages.has old) (pages.reads old) list
  pub none : may_look seek bounds ≡ false → list ≡ []
  pub well : may_look seek bounds ≡ false → IfErr result (λ why. ⊥)
  pub inside : IfOk result (λ place. place ≤ length node.cells)
  pub front : seek ≡ false → IfOk result (λ place. place ≡ 0)
  pub are : (world : View) → pages.tells new world → Each (IsOfCells (pages.usable old) (pages.last_page old) (shown_over pages old world) node) list
  pub ends : (world : View) → pages.tells new world → EndsPlace seek (pages.usable old) (pages.last_page old) (shown_over pages old world) bounds node below result
  pub cause : IfErr result (IsCause (pages.faults old) (pages.faults new))

-- How comparing one cell's row ended.
abbrev pub EndsTest : (usable last : ℕ) → Shown → NodeCell → (below : ℕ) → (values : List Value) → List ℕ → Result Bool FetchFault → Type 0
EndsTest usable last shown cell below values chain (Ok under) =
    (row : List Value) × (EndsWithRow usable last shown cell below chain (Ok row)
    × ((under ≡ true → leading_order row values ≡ Less) × (under ≡ false → leading_order row values ≡ Less → ⊥)))
EndsTest usable last shown cell below values chain (Err why) = EndsWithRow usable last shown cell below chain (Err why)

pub record HasTested {P : Type 0} (pages : Ghosts P) (old : P) (cell : NodeCell) (below : ℕ) (values : List Value) (result : Result Bool FetchFault) (new : P) : Type 0 where
  pub chain : List ℕ
  pub read : pages.reads new ≡ all_read (pages.has old) (pages.reads old) chain
  pub ends : (world : View) → pages.tells new world → EndsTest (pages.usable old) (pages.last_page old) (shown_over pages old world) cell below values chain result
  pub cause : IfErr result (IsCause (pages.faults old) (pages.faults new))

-- A page's level.

-- A level is of a page that was read, so many levels below the root, which shows a node that may stand there; besides pages of the cells' chains were read.
pub record HasLevel {P : Type 0} (pages : Ghosts P) (old : P) (seek : Bool) (bounds : Bounds) (page depth : ℕ) (level : Level) (new : P) : Type 0 where
  pub page_is : level.page ≡ page
  pub at_cell : level.at_cell ≡ is_leaf level.node.kind
  pub node : Node
  pub tells : Tells (pages.usable old) (page == 1) level.bytes.items level.node node
  pub may : MayStand (of_table bounds) page depth node
  pub inside : level.place ≤ length node.cells
  pub front : seek ≡ false → level.place ≡ 0
  pub shown : (world : View) → pages.tells new world → (shown_over pages old world).node page ≡ Some node
  pub placed : (world : View) → pages.tells new world → IsPlaced seek (pages.usable old) (pages.last_page old) (shown_over pages old world) bounds node level.place
  pub list : List ℕ
  pub read : pages.reads new ≡ all_read (pages.has old) (pages.reads old) (page ∷ list)
  pub none : may_look seek bounds ≡ false → list ≡ []
  pub are : (world : View) → pages.tells new world → Each (IsOfCells (pages.usable old) (pages.last_page old) (shown_over pages old world) node) list

-- Why there is none: the page shows no node that may stand there, or in an index the payload of a cell that was compared is broken.
pub data BreaksLevel (usable last : ℕ) (shown : Shown) (seek : Bool) (bounds : Bounds) (depth below page : ℕ) : Type 0 where
  ShowsNone : page ≡ below → ((node : Node) → ShowsNode (of_table bounds) shown depth below node → ⊥) → BreaksLevel usable last shown seek bounds depth below page
  InCell : (node : Node) → ShowsNode (of_table bounds) shown depth below node → may_look seek bounds ≡ true → BreaksCell usable last shown node below page
      → BreaksLevel usable last shown seek bounds depth below page

abbrev pub EndsLevel : (usable last : ℕ) → Shown → (seek : Bool) → Bounds → (depth below : ℕ) → FetchFault → Type 0
EndsLevel usable last shown seek bounds depth below fault.Disk = Unit {0}
EndsLevel usable last shown seek bounds depth below (fault.Corrupt page) = BreaksLevel usable last shown seek bounds depth below page
EndsLevel usable last shown seek bounds depth below (fault.Size pages) = ⊥
EndsLevel usable last shown seek bounds depth below fault.Memory = Unit {0}

-- what was read of a page that gave no level: nothing, the page, or the page with pages of its cells' chains
pub data AreReadOf (usable last : ℕ) (shown : Shown) (looks : Bool) (page : ℕ) (list : List ℕ) : Type 0 where
  Nothing : list ≡ [] → AreReadOf usable last shown looks page list
  Alone : list ≡ page ∷ [] → AreReadOf usable last shown looks page list
  WithCells : (node : Node) (others : List ℕ) → looks ≡ true → shown.node page ≡ Some node → list ≡ page ∷ others → Each (IsOfCells usable last shown node) others
      → AreReadOf usable last shown looks page list

pub record BarsLevel {P : Type 0} (pages : Ghosts P) (old : P) (seek : Bool) (bounds : Bounds) (page depth : ℕ) (why : FetchFault) (new : P) : Type 0 where
  pub list : List ℕ
  pub read : pages.reads new ≡ all_read (pages.has old) (pages.reads old) list
  pub are : (world : View) → pages.tells new world → AreReadOf (pages.usable old) (pages.last_page old) (shown_over pages old world) (may_look seek bounds) page list
  pub ends : (world : View) → pages.tells new world → EndsLevel (pages.usable old) (pages.last_page old) (shown_over pages old world) seek bounds depth page why
  pub cause : IsCause (pages.faults old) (pages.faults new) why
