-- What walking a tree promises, page by page and cell by cell.
use Rattle.std.specs.Prelude.{◌≡◌, ℕ, ℤ, ◌-◌, ◌≤◌, ◌⊎◌, Bool, true, false, List, [], ◌∷◌, ◌++◌, length, Option, Some, None}
use Rattle.disk_face.specs.Faults.{Rose}
use Rattle.page_spec.specs.View.{View}
use Rattle.node_spec.specs.declared.kinds.Kind.{Kind}
use Rattle.node_spec.specs.Kinds.{is_leaf}
use Rattle.node_spec.specs.Cells.{NodeCell}
use Rattle.node_spec.specs.Nodes.{Node}
use Rattle.tree_spec.specs.Layout.{times, Each, Item}
use Rattle.tree_spec.specs.Shown.{shown_by}
use Rattle.tree_spec.specs.Trees.{IsItem}
use Rattle.sound_spec.specs.Schema.{with_root}
use Rattle.page_form.specs.Reading.{Tells, TellsCell}
use Rattle.page_form.specs.declared.page.Page.{Page}
use Rattle.page_form.specs.declared.cells.Cell.{Cell}
use Rattle.page_face.specs.declared.pages_tells.PagesTells.{Ghosts}
use Rattle.check_spec.specs.declared.fault.CheckFault.{CheckFault}
use Rattle.check_spec.specs.declared.fault.CheckFault.TheVariants as fault
use Rattle.check_spec.specs.declared.spot.Spot.{Spot}
use Rattle.check_spec.specs.Walk.{Place, Past, Meets, with_met, child_spot, link_places, payload_places}
use Rattle.tree_check.specs.Checking.{database_over}
use Rattle.tree_check.specs.declared.walk.Walk.{Walk}
use Rattle.tree_check.specs.Walking.{KeepsPast, HasMet, HasMetBefore, SuitsPages, ComesTo, WalksTo, ComesFromOutside}
use Rattle.tree_check.specs.Chained.{BeginsChain}
use Rattle.tree_check.specs.Rows.{TellsRoot}

-- the page of a tree
abbrev pub node_place : Spot → ℕ → List Place
node_place spot page = Place.AtNode spot page ∷ []

-- A page was met and read into a buffer.
pub record HasEntered {P : Type 0} (pages : Ghosts P) (old : P) (before : Walk) (page : ℕ) (buf : List ℕ) (new : P) (walk : Walk) : Type 0 where
  pub met : HasMet before page walk
  pub bytes : (world : View) → pages.tells new world → buf ≡ pages.over old world page
  pub suits : SuitsPages pages new walk

-- a page was met before, or this comes from outside
abbrev pub BarsEnter : {P : Type 0} → Ghosts P → (old new : P) → (before : Walk) → (page : ℕ) → CheckFault → Type 0
BarsEnter pages old new before page why = HasMetBefore before page why ⊎ ComesFromOutside (pages.faults old) (pages.faults new) why

-- Over each world that is still told where the buffer has the page's bytes, a page that was met just now is visited with all that is under it.
abbrev pub WalksEntered : {P : Type 0} → Ghosts P → (old now : P) → (before walk : Walk) → Spot → (page : ℕ) → (buf : List ℕ) → Type 0
WalksEntered pages old now before walk spot page buf = (world : View) → pages.tells now world → buf ≡ pages.over old world page → (past : Past)
    → times past.met page ≡ 0 → KeepsPast before (with_met past page)
    → ComesTo (database_over pages old world) walk before.roots.items past (node_place spot page) []

-- A page that was met just now was visited with all that is under it.
pub record HasVisitedNode {P : Type 0} (pages : Ghosts P) (old : P) (before : Walk) (spot : Spot) (page : ℕ) (buf : List ℕ) (new : P) (walk : Walk) : Type 0 where
  pub walks : WalksEntered pages old new before walk spot page buf
  pub suits : SuitsPages pages new walk

-- this fault is the first that is met there, over each such world
abbrev pub MeetsEntered : {P : Type 0} → Ghosts P → (old new : P) → Walk → Spot → (page : ℕ) → (buf : List ℕ) → CheckFault → Type 0
MeetsEntered pages old new before spot page buf why = (world : View) → pages.tells new world → buf ≡ pages.over old world page → (past : Past)
    → times past.met page ≡ 0 → KeepsPast before (with_met past page) → Meets (database_over pages old world) why past (node_place spot page)

-- why it wasn't: the pages show it, or it comes from outside
abbrev pub BarsEntered : {P : Type 0} → Ghosts P → (old new : P) → Walk → Spot → (page : ℕ) → (buf : List ℕ) → CheckFault → Type 0
BarsEntered pages old new before spot page buf (fault.Page number at) = MeetsEntered pages old new before spot page buf (fault.Page number at)
BarsEntered pages old new before spot page buf (fault.Schema rowid) = MeetsEntered pages old new before spot page buf (fault.Schema rowid)
BarsEntered pages old new before spot page buf (fault.Order number cell) = MeetsEntered pages old new before spot page buf (fault.Order number cell)
BarsEntered pages old new before spot page buf (fault.Twice number) = MeetsEntered pages old new before spot page buf (fault.Twice number)
BarsEntered pages old new before spot page buf (fault.Lost number) = ⊥
BarsEntered pages old new before spot page buf fault.Disk = Rose (pages.faults old) (pages.faults new)
BarsEntered pages old new before spot page buf fault.Memory = Unit {0}

-- the numbers that a cell names are in range: its child's, and that of its chain's first page
pub record CellNames (last : ℕ) (leaf : Bool) (cell : NodeCell) : Type 0 where
  pub child : leaf ≡ false → (2 ≤ cell.left) × (cell.left ≤ last)
  pub chain : BeginsChain last cell.overflow (cell.payload - length cell.local)

-- A page was read as this node, whose numbers are in range.
pub record ShowsNode (usable last : ℕ) (first : Bool) (bytes : List ℕ) (read : Page) (told : Node) : Type 0 where
  pub tells : Tells usable first bytes read told
  pub cells : Each (CellNames last (is_leaf told.kind)) told.cells
  pub right : is_leaf told.kind ≡ false → (2 ≤ told.right) × (told.right ≤ last)

-- A cell was read as this one from a page of this kind, and its numbers are in range.
pub record ShowsCell (last : ℕ) (kind : Kind) (bytes : List ℕ) (read : Cell) (told : NodeCell) : Type 0 where
  pub usable : ℕ
  pub tells : TellsCell usable kind bytes read told
  pub names : CellNames last (is_leaf kind) told

-- the rowid above which those are that come behind a cell
abbrev pub rowid_then : (table : Bool) (before : Option ℤ) (rowid : ℤ) → Option ℤ
rowid_then true before rowid = Some rowid
rowid_then false before rowid = before

-- a cell's child, and in an index the cell's own payload behind it
abbrev pub cell_places : Spot → (table : Bool) → (before : Option ℤ) → NodeCell → List Place
cell_places spot true before cell = node_place (child_spot spot true before (Some cell.rowid)) cell.left
cell_places spot false before cell = node_place (child_spot spot false before before) cell.left ++ payload_places false cell

-- A cell's chain was walked, which has the end of its item, and the item's bytes were kept where they are to be.
pub record HasContent {P : Type 0} (pages : Ghosts P) (old : P) (before : Walk) (keep : Bool) (cell : NodeCell) (new : P) (walk : Walk) : Type 0 where
  pub walks : WalksTo pages old new before walk (link_places cell.overflow (cell.payload - length cell.local)) []
  pub suits : SuitsPages pages new walk
  pub kept : keep ≡ true → length walk.payload.items ≡ cell.payload
  pub item : (world : View) → pages.tells new world → (item : Item)
      × IsItem (pages.usable old) (pages.last_page old) (shown_by (pages.usable old) (pages.over old world)) cell item
      × (length item.bytes ≡ cell.payload) × (keep ≡ true → walk.payload.items ≡ item.bytes)

-- what is told of a payload that was kept; of another one nothing is
abbrev pub TellsKept : (keep : Bool) (last : ℕ) → List ℕ → Option ℕ → Type 0
TellsKept true last bytes root = TellsRoot last bytes root
TellsKept false last bytes root = root ≡ None

-- The root that a schema row names was kept, if it is one.
pub record HasNamed (before : Walk) (root : Option ℕ) (walk : Walk) : Type 0 where
  pub named : ℕ
  pub is : root ≡ Some named
  pub roots : walk.roots.items ≡ before.roots.items ++ with_root named []
  pub same : walk ≡ record before { roots = walk.roots }

-- the row is no schema row, or memory ran out
abbrev pub BarsName : Option ℕ → (rowid : ℤ) → CheckFault → Type 0
BarsName root rowid (fault.Page page at) = ⊥
BarsName root rowid (fault.Schema row) = (row ≡ rowid) × (root ≡ None)
BarsName root rowid (fault.Order page cell) = ⊥
BarsName root rowid (fault.Twice page) = ⊥
BarsName root rowid (fault.Lost page) = ⊥
BarsName root rowid fault.Disk = ⊥
BarsName root rowid fault.Memory = Unit {0}
