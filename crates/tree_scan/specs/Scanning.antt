-- What a cursor's calls say.
use Rattle.std.specs.Prelude.{◌≡◌, ◌⊎◌, ℕ, ℤ, suc, ◌≤◌, ◌<◌, Bool, true, false, List, [], ◌∷◌, ◌++◌, length, Option, None, Some, MatchOption}
use Rattle.disk_face.specs.Faults.{Rose}
use Rattle.page_spec.specs.View.{View}
use Rattle.engine_spec.specs.declared.commits.FetchFault.{FetchFault}
use Rattle.engine_spec.specs.declared.commits.FetchFault.TheVariants as fault
use Rattle.page_face.specs.declared.pages_tells.PagesTells.{Ghosts}
use Rattle.node_spec.specs.Kinds.{is_leaf}
use Rattle.node_spec.specs.Nodes.{Node, cell_at}
use Rattle.page_form.specs.Reading.{IsReadPage}
use Rattle.tree_spec.specs.Shown.{Shown}
use Rattle.tree_spec.specs.Layout.{Each, Item}
use Rattle.tree_spec.specs.Trees.{IsTree}
use Rattle.overflow.specs.Following.{shown_over}
use Rattle.value_form.specs.declared.value.Value.{Value}
use Rattle.value_form.specs.Record.{IsRecord}
use Rattle.tree_read.specs.Ways.{ShowsNode, child_at}
use Rattle.tree_read.specs.Payloads.{BreaksPayload}
use Rattle.tree_read.specs.Looking.{IsNoRow, ThereIsTree}
use Rattle.tree_read.specs.Entries.{BreaksCell, IsAmong}
use Rattle.tree_scan.specs.declared.bounds.Bounds.{Bounds}
use Rattle.tree_scan.specs.declared.bounds.Bounds.TheVariants.{Rows, Entries}
use Rattle.tree_scan.specs.declared.level.Level.{Level}
use Rattle.tree_scan.specs.declared.cursor.Cursor.{Cursor}
use Rattle.tree_scan.specs.Bounded.{of_table, may_look, number_of_row, IsOver, IsKeyOver, AreFrom}
use Rattle.tree_scan.specs.Coming.{Comes, AreToCome, gone_past}

-- A level has what stands over each world that is told: its bytes show the node that its page shows there. On a leaf a cell comes next, and on
-- an interior page of a table a child.
pub record IsLevel {P : Type 0} (table : Bool) (pages : Ghosts P) (now : P) (level : Level) : Type 0 where
  pub node : Node
  pub read : IsReadPage (pages.usable now) level.bytes.items level.node node
  pub shown : (world : View) → pages.tells now world → (shown_over pages now world).node level.page ≡ Some node
  pub inside : level.place ≤ suc (length node.cells)
  pub leaf : is_leaf node.kind ≡ true → level.at_cell ≡ true
  pub inner : table ≡ true → is_leaf node.kind ≡ false → level.at_cell ≡ false

-- levels of a path, at most 41
abbrev pub AreLevels : {P : Type 0} → Bool → Ghosts P → P → List Level → Type 0
AreLevels table pages now levels = Each (IsLevel table pages now) levels × (length levels ≤ 41)

-- What the cursor has of pages is what stands over each world that is told: its pages were those of these worlds.
abbrev pub Fits : {P : Type 0} → Ghosts P → P → Cursor → Type 0
Fits pages now cursor = AreLevels (of_table cursor.bounds) pages now cursor.levels.items

-- Over each world that is still told, what came from these levels comes from those.
abbrev pub KeepsComing : {P : Type 0} → Bool → Ghosts P → P → (levels levels_then : List Level) → P → Type 0
KeepsComing table pages old levels levels_then new = (world : View) → pages.tells new world → (bound height : ℕ) (own : List ℕ) (items : List Item)
    → Comes table (pages.usable old) bound (shown_over pages old world) height levels own items
    → (own_then : List ℕ) × Comes table (pages.usable old) bound (shown_over pages old world) height levels_then own_then items

-- the last level
pub record IsLast (levels : List Level) (top : Level) : Type 0 where
  pub above : List Level
  pub levels_are : levels ≡ above ++ top ∷ []

-- The first of the items to come was given, with its number, and those behind it are left.
pub record GivesItem (usable last : ℕ) (shown : Shown) (height : ℕ) (cursor : Cursor) (ahead some : List Item) (pair : ℤ × List Value) : Type 0 where
  pub item : Item
  pub behind : List Item
  pub rest : List Item
  pub ahead_are : ahead ≡ item ∷ behind
  pub some_are : some ≡ item ∷ rest
  pub row : IsRecord item.bytes pair.1
  pub number : pair.0 ≡ number_of_row cursor.bounds item.key pair.1
  pub coming : AreToCome usable last shown height cursor behind rest

-- none was given, and there is none
pub record GivesNone (usable last : ℕ) (shown : Shown) (height : ℕ) (cursor : Cursor) (some : List Item) : Type 0 where
  pub none : some ≡ []
  pub coming : AreToCome usable last shown height cursor [] []

abbrev pub GivesNext : {P : Type 0} → Ghosts P → P → Cursor → Option (ℤ × List Value) → Cursor → P → Type 0
GivesNext pages old cursor found cursor_then new = (world : View) → pages.tells new world → (bound height : ℕ) (ahead some : List Item)
    → AreToCome (pages.usable old) bound (shown_over pages old world) height cursor ahead some
    → MatchOption found (GivesNone (pages.usable old) bound (shown_over pages old world) height cursor_then some)
    (GivesItem (pages.usable old) bound (shown_over pages old world) height cursor_then ahead some)

-- the same items are still to come
abbrev pub StaysThere : {P : Type 0} → Ghosts P → P → Cursor → Cursor → P → Type 0
StaysThere pages old cursor cursor_then new = (world : View) → pages.tells new world → (bound height : ℕ) (ahead some : List Item)
    → AreToCome (pages.usable old) bound (shown_over pages old world) height cursor ahead some
    → AreToCome (pages.usable old) bound (shown_over pages old world) height cursor_then ahead some

-- There is a tree over some world that is still told, at most 40 levels deep below its root, of which these items are still to come. The root is
-- in range where the cursor hasn't read it yet.
pub record ThereIsScan {P : Type 0} (pages : Ghosts P) (old : P) (cursor : Cursor) (ahead some : List Item) (new : P) : Type 0 where
  pub world : View
  pub told : pages.tells new world
  pub height : ℕ
  pub low : height ≤ 40
  pub in_range : cursor.begun ≡ false → (1 ≤ cursor.root) × (cursor.root ≤ pages.last_page old)
  pub coming : AreToCome (pages.usable old) (pages.last_page old) (shown_over pages old world) height cursor ahead some

-- the first of these items is no row
pub record BeginsWithNoRow (usable last : ℕ) (shown : Shown) (items : List Item) : Type 0 where
  pub item : Item
  pub rest : List Item
  pub items_are : items ≡ item ∷ rest
  pub none : IsNoRow usable last shown item

-- some item of the index's tree at a root is no row
pub record HasNoRow (usable last : ℕ) (shown : Shown) (height root : ℕ) : Type 0 where
  pub own : List ℕ
  pub items : List Item
  pub tree : IsTree false usable last shown height root own items
  pub item : Item
  pub among : IsAmong items item
  pub none : IsNoRow usable last shown item

-- The item that a fault over such a tree is about: of a table the first row to come; of an index the first entry ahead, which may be over the bound, or,
-- while a low bound's place is looked for, any.
abbrev pub MeetsNoRow : (begun : Bool) → Bounds → (usable last : ℕ) → Shown → (height root : ℕ) → (ahead some : List Item) → Type 0
MeetsNoRow begun (Rows low high) usable last shown height root ahead some = BeginsWithNoRow usable last shown some
MeetsNoRow true (Entries low high) usable last shown height root ahead some = BeginsWithNoRow usable last shown ahead
MeetsNoRow false (Entries None high) usable last shown height root ahead some = BeginsWithNoRow usable last shown ahead
MeetsNoRow false (Entries (Some low) high) usable last shown height root ahead some = HasNoRow usable last shown height root

-- A fault over such a tree: from outside, or such an item is no row.
abbrev pub IsOfNext : (usable last : ℕ) → Shown → (height : ℕ) → Cursor → (before after : ℕ) → (ahead some : List Item) → FetchFault → Type 0
IsOfNext usable last shown height cursor before after ahead some fault.Disk = Rose before after
IsOfNext usable last shown height cursor before after ahead some (fault.Corrupt page) =
    MeetsNoRow cursor.begun cursor.bounds usable last shown height cursor.root ahead some
IsOfNext usable last shown height cursor before after ahead some (fault.Size count) = ⊥
IsOfNext usable last shown height cursor before after ahead some fault.Memory = Unit {0}

abbrev pub FailsNext : {P : Type 0} → Ghosts P → P → Cursor → FetchFault → P → Type 0
FailsNext pages old cursor why new = (ahead some : List Item) (there : ThereIsScan pages old cursor ahead some new)
    → IsOfNext (pages.usable old) (pages.last_page old) (shown_over pages old there.world) there.height cursor (pages.faults old) (pages.faults new) ahead some why

-- The same before the first item was come to.
abbrev pub IsOfStart : (usable last : ℕ) → Shown → (before after : ℕ) → Bounds → List Item → FetchFault → Type 0
IsOfStart usable last shown before after bounds items fault.Disk = Rose before after
IsOfStart usable last shown before after bounds items (fault.Corrupt page) =
    (may_look true bounds ≡ true) × ((item : Item) × (IsAmong items item × IsNoRow usable last shown item))
IsOfStart usable last shown before after bounds items (fault.Size count) = ⊥
IsOfStart usable last shown before after bounds items fault.Memory = Unit {0}

abbrev pub FailsStart : {P : Type 0} → Ghosts P → P → Bounds → (root : ℕ) → FetchFault → P → Type 0
FailsStart pages old bounds root why new = (items ahead : List Item) (there : ThereIsTree (of_table bounds) pages old root items new) → AreFrom bounds items ahead
    → IsOfStart (pages.usable old) (pages.last_page old) (shown_over pages old there.world) (pages.faults old) (pages.faults new) bounds items why

-- Why a page is corrupt on the way on, by the levels as they are then. The root is out of range or shows no node that may root a tree; the
-- last level's page names a child out of range, or one that shows no node that may stand there; the payload of a cell of such a child, or of the
-- root, is broken with which a low bound was to be compared; or the payload of the cell at the last level's place, which isn't over the bound by
-- its rowid, is broken.
pub data BreaksRoot (table : Bool) (last : ℕ) (shown : Shown) (root page : ℕ) : Type 0 where
  Outside : page ≡ root → (root < 1) ⊎ (last < root) → BreaksRoot table last shown root page
  ShowsNone : page ≡ root → ((node : Node) → ShowsNode table shown 0 root node → ⊥) → BreaksRoot table last shown root page

pub record NamesNext (shown : Shown) (levels : List Level) (top : Level) (child : ℕ) : Type 0 where
  pub is_last : IsLast levels top
  pub node : Node
  pub holds : shown.node top.page ≡ Some node
  pub inner : is_leaf node.kind ≡ false
  pub under : top.at_cell ≡ false
  pub inside : top.place ≤ length node.cells
  pub child_is : child ≡ child_at node.cells node.right top.place

pub data BreaksChild (table : Bool) (last : ℕ) (shown : Shown) (levels : List Level) (page : ℕ) : Type 0 where
  Outside : (top : Level) (child : ℕ) → NamesNext shown levels top child → page ≡ top.page → (child < 2) ⊎ (last < child)
      → BreaksChild table last shown levels page
  ShowsNone : (top : Level) → NamesNext shown levels top page → ((node : Node) → ShowsNode table shown (length levels) page node → ⊥)
      → BreaksChild table last shown levels page

pub data BreaksDown (usable last : ℕ) (shown : Shown) (seek : Bool) (bounds : Bounds) (levels : List Level) (page : ℕ) : Type 0 where
  AtChild : BreaksChild (of_table bounds) last shown levels page → BreaksDown usable last shown seek bounds levels page
  InChild : (top : Level) (below : ℕ) (node : Node) → NamesNext shown levels top below → shown.node below ≡ Some node → may_look seek bounds ≡ true
      → BreaksCell usable last shown node below page → BreaksDown usable last shown seek bounds levels page

pub data BreaksStart (usable last : ℕ) (shown : Shown) (bounds : Bounds) (root : ℕ) (levels : List Level) (page : ℕ) : Type 0 where
  AtRoot : BreaksRoot (of_table bounds) last shown root page → BreaksStart usable last shown bounds root levels page
  InRoot : (node : Node) → shown.node root ≡ Some node → may_look true bounds ≡ true → BreaksCell usable last shown node root page
      → BreaksStart usable last shown bounds root levels page
  BelowRoot : BreaksDown usable last shown true bounds levels page → BreaksStart usable last shown bounds root levels page

pub record BreaksNextRow (usable last : ℕ) (shown : Shown) (bounds : Bounds) (levels : List Level) (page : ℕ) : Type 0 where
  pub top : Level
  pub is_last : IsLast levels top
  pub node : Node
  pub holds : shown.node top.page ≡ Some node
  pub has : (is_leaf node.kind ≡ true) ⊎ (of_table bounds ≡ false)
  pub at : top.at_cell ≡ true
  pub inside : top.place < length node.cells
  pub up_to : IsKeyOver bounds (cell_at node top.place).rowid → ⊥
  pub chain : List ℕ
  pub breaks : BreaksPayload usable last shown (cell_at node top.place) top.page chain page

pub data BreaksOn (usable last : ℕ) (shown : Shown) (bounds : Bounds) (levels : List Level) (page : ℕ) : Type 0 where
  AtChild : BreaksChild (of_table bounds) last shown levels page → BreaksOn usable last shown bounds levels page
  AtRow : BreaksNextRow usable last shown bounds levels page → BreaksOn usable last shown bounds levels page

pub data BreaksNext (usable last : ℕ) (shown : Shown) (cursor : Cursor) (page : ℕ) : Type 0 where
  AtStart : cursor.begun ≡ false → BreaksStart usable last shown cursor.bounds cursor.root cursor.levels.items page → BreaksNext usable last shown cursor page
  Behind : cursor.begun ≡ true → BreaksOn usable last shown cursor.bounds cursor.levels.items page → BreaksNext usable last shown cursor page

abbrev pub IsBarred : {P : Type 0} → Ghosts P → P → P → (Shown → (page : ℕ) → Type 0) → FetchFault → Type 0
IsBarred pages old new Breaks fault.Disk = Rose (pages.faults old) (pages.faults new)
IsBarred pages old new Breaks (fault.Corrupt page) = (world : View) → pages.tells new world → Breaks (shown_over pages old world) page
IsBarred pages old new Breaks (fault.Size count) = ⊥
IsBarred pages old new Breaks fault.Memory = Unit {0}

-- The row of the cell that comes next was read, and is in the bound.
pub record TakesRow (usable last : ℕ) (shown : Shown) (height : ℕ) (bounds : Bounds) (levels : List Level) (items : List Item) (pair : ℤ × List Value) : Type 0 where
  pub item : Item
  pub rest : List Item
  pub items_are : items ≡ item ∷ rest
  pub row : IsRecord item.bytes pair.1
  pub number : pair.0 ≡ number_of_row bounds item.key pair.1
  pub inside : IsOver bounds item → ⊥
  pub comes : (levels_then : List Level) → ((above : List Level) (top : Level) → levels ≡ above ++ top ∷ [] → levels_then ≡ above ++ gone_past top ∷ [])
      → (own : List ℕ) × Comes (of_table bounds) usable last shown height levels_then own rest

-- the first item to come is over the bound, or there is none
pub data NoneInside (bounds : Bounds) (items : List Item) : Type 0 where
  NoItem : items ≡ [] → NoneInside bounds items
  FirstOver : (item : Item) (rest : List Item) → items ≡ item ∷ rest → IsOver bounds item → NoneInside bounds items

abbrev pub TakesNext : {P : Type 0} → Ghosts P → P → Bounds → List Level → Option (ℤ × List Value) → P → Type 0
TakesNext pages old bounds levels found new = (world : View) → pages.tells new world → (bound height : ℕ) (own : List ℕ) (items : List Item)
    → Comes (of_table bounds) (pages.usable old) bound (shown_over pages old world) height levels own items
    → MatchOption found (NoneInside bounds items) (TakesRow (pages.usable old) bound (shown_over pages old world) height bounds levels items)
