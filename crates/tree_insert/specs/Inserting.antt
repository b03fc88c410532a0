-- What an insert makes of a tree and of pages.
use Rattle.std.specs.Prelude.{◌≡◌, ◌⊎◌, ℕ, ◌≤◌, true, List, [], ◌∷◌, length, All, Some}
use Rattle.page_spec.specs.View.{View}
use Rattle.page_face.specs.declared.pages_tells.PagesTells.{Ghosts}
use Rattle.page_face.specs.Pages.{ReadsAtMost}
use Rattle.node_spec.specs.Cells.{NodeCell, IsOneCell, cell_in}
use Rattle.node_spec.specs.Nodes.{Node}
use Rattle.tree_spec.specs.Layout.{Item}
use Rattle.tree_spec.specs.Trees.{IsItem, IsTree}
use Rattle.overflow.specs.Following.{shown_over}
use Rattle.edit_spec.specs.Places.{TakesItem}
use Rattle.edit_spec.specs.Nodes.{ShowTogether, node_taking}
use Rattle.edit_spec.specs.Edits.{lefts, LeadInRange, MovesPages, IsEdited, IsEditedTree}
use Rattle.node_edit.specs.Payloads.{key_of, leaf_kind}
use Rattle.node_edit.specs.Runs.{spelled_by}
use Rattle.tree_edit.specs.Editing.{PageLists, EditsPages, making, storing}
use Rattle.tree_edit.specs.Settling.{SettlesNode}
use Rattle.tree_edit.specs.Roots.{inner_kind}
use Rattle.tree_insert.specs.declared.fault.InsertFault.{InsertFault}
use Rattle.tree_insert.specs.declared.fault.InsertFault.TheVariants as fault
use Rattle.tree_keys.specs.Keys.{Sought, is_row, rowid_of, place_of, gap_of, AreOrdered, HasKey}
use Rattle.tree_keys.specs.Standing.{Stands, BarsEdit}
use Rattle.tree_keys.specs.Spots.{StaysOnPath}

-- the pages of an insert: those that it reads, puts and makes
abbrev pub inserting : (read put made : List ℕ) → PageLists
inserting read put made = record { read = read; put = put; made = made; gone = [] }

-- An item is what was put in: the rowid, an entry's being 0, with the payload.
pub record IsPut (sought : Sought) (payload : List ℕ) (item : Item) : Type 0 where
  pub key : item.key ≡ key_of (rowid_of sought)
  pub bytes : item.bytes ≡ payload

-- A key was put into the tree of a root, over a world: the tree stands still and lists one item more, in its place, and has the pages that were made besides.
-- Pages were read and put on the path to the key's leaf alone, and nothing else was changed.
pub record PutsIn {P : Type 0} (pages : Ghosts P) (old : P) (sought : Sought) (payload : List ℕ) (root : ℕ) (own : List ℕ) (items : List Item) (new : P) (world : View) : Type 0 where
  pub item : Item
  pub is_put : IsPut sought payload item
  pub height : ℕ
  pub own_then : List ℕ
  pub items_then : List Item
  pub path : List ℕ
  pub read : List ℕ
  pub put : List ℕ
  pub made : List ℕ
  pub stands : Stands pages new world (is_row sought) height root own_then items_then
  pub takes : TakesItem (place_of sought) items item items_then
  pub absent : HasKey sought items → ⊥
  pub moved : MovesPages (record { fresh = made; lost = []; put = put }) own own_then []
  pub on_path : StaysOnPath sought (pages.usable old) (pages.last_page old) (shown_over pages old world) 0 root path read put
  pub edits : EditsPages pages (inserting read put made) old new world

-- it was so over each world that is still told, for each tree that stood there
abbrev pub PutsInEach : {P : Type 0} → Ghosts P → P → Sought → (payload : List ℕ) → (root : ℕ) → P → Type 0
PutsInEach pages old sought payload root new = (world : View) → pages.tells new world → (height : ℕ) (own : List ℕ) (items : List Item)
    → Stands pages old world (is_row sought) height root own items → AreOrdered sought items → PutsIn pages old sought payload root own items new world

-- The key is there, and nothing was changed.
pub record HadKey {P : Type 0} (pages : Ghosts P) (old : P) (sought : Sought) (page : ℕ) (new : P) : Type 0 where
  pub reading : ReadsAtMost pages old new
  pub there : (world : View) → pages.tells new world → (bound height : ℕ) (own : List ℕ) (items : List Item)
      → IsTree (is_row sought) (pages.usable old) bound (shown_over pages old world) height page own items → HasKey sought items

abbrev pub RefusesInsert : {P : Type 0} → Ghosts P → P → Sought → (level page : ℕ) → P → InsertFault → Type 0
RefusesInsert pages old sought level page new fault.Exists = HadKey pages old sought page new
RefusesInsert pages old sought level page new (fault.Fetch why) = BarsEdit pages old sought level page new why

-- the cells of the page above that texts spell
abbrev pub cells_up : Sought → (usable : ℕ) → List (List ℕ) → List NodeCell
cells_up sought usable texts = spelled_by (inner_kind (is_row sought)) usable texts

-- The texts are cells of the page above, at most two, which lead to pages from 2 to the last one.
pub record AreNews (sought : Sought) (usable last : ℕ) (texts : List (List ℕ)) : Type 0 where
  pub few : length texts ≤ 2
  pub cells : All (IsOneCell (inner_kind (is_row sought)) usable) texts
  pub range : LeadInRange last (cells_up sought usable texts)

-- A key was put in under a page, so many levels below the root, over a world: the page and new siblings to its left have the tree's part with one item more.
pub record PutsUnder {P : Type 0} (pages : Ghosts P) (old : P) (sought : Sought) (payload : List ℕ) (level page height : ℕ) (own : List ℕ) (items : List Item) (texts : List (List ℕ)) (new : P)
    (world : View) : Type 0 where
  pub item : Item
  pub is_put : IsPut sought payload item
  pub whole : Node
  pub path : List ℕ
  pub read : List ℕ
  pub put : List ℕ
  pub made : List ℕ
  pub edited : IsEdited (is_row sought) (pages.usable old) (pages.last_page new) (shown_over pages new world) height page whole (cells_up sought (pages.usable old) texts) (gap_of sought) [] (item ∷ [])
      (record { fresh = made; lost = []; put = put }) own items
  pub some : (page ≡ 1) ⊎ (1 ≤ length whole.cells)
  pub on_path : StaysOnPath sought (pages.usable old) (pages.last_page old) (shown_over pages old world) level page path read put
  pub edits : EditsPages pages (inserting read put made) old new world

abbrev pub PutsUnderEach : {P : Type 0} → Ghosts P → P → Sought → (payload : List ℕ) → (level page : ℕ) → P → List (List ℕ) → Type 0
PutsUnderEach pages old sought payload level page new texts = (world : View) → pages.tells new world → (height : ℕ) (own : List ℕ) (items : List Item)
    → Stands pages old world (is_row sought) height page own items → PutsUnder pages old sought payload level page height own items texts new world

-- A page took the cells of its child's new siblings, and has siblings now itself; or there were none, and it is as it was.
abbrev pub PassesUp : {P : Type 0} → Ghosts P → P → (page : ℕ) → Node → (place : ℕ) → (news siblings : List (List ℕ)) → P → Type 0
PassesUp pages old page node place news siblings new = ((news ≡ []) × (siblings ≡ []) × (new ≡ old))
    ⊎ ((1 ≤ length news) × ((world : View) → pages.tells new world → pages.neat old world → (pages.free old world page → ⊥)
    → SettlesNode pages old page (node_taking node place (spelled_by node.kind (pages.usable old) news)) siblings new world))

-- An insert left the tree of a root, over a world, as one that was edited.
pub record PutsTree {P : Type 0} (pages : Ghosts P) (old : P) (sought : Sought) (payload : List ℕ) (root : ℕ) (own : List ℕ) (items : List Item) (new : P) (world : View) : Type 0 where
  pub item : Item
  pub is_put : IsPut sought payload item
  pub height : ℕ
  pub path : List ℕ
  pub read : List ℕ
  pub put : List ℕ
  pub made : List ℕ
  pub edited : IsEditedTree (is_row sought) (pages.usable old) (pages.last_page new) (shown_over pages new world) height root (gap_of sought) [] (item ∷ [])
      (record { fresh = made; lost = []; put = put }) own items
  pub on_path : StaysOnPath sought (pages.usable old) (pages.last_page old) (shown_over pages old world) 0 root path read put
  pub edits : EditsPages pages (inserting read put made) old new world

abbrev pub PutsTreeEach : {P : Type 0} → Ghosts P → P → Sought → (payload : List ℕ) → (root : ℕ) → P → Type 0
PutsTreeEach pages old sought payload root new = (world : View) → pages.tells new world → (height : ℕ) (own : List ℕ) (items : List Item)
    → Stands pages old world (is_row sought) height root own items → PutsTree pages old sought payload root own items new world

-- Page 1 took a cell, or what it had is in a page of its own and new siblings then, to which it leads.
pub record MovesFirst {P : Type 0} (pages : Ghosts P) (old : P) (whole : Node) (new : P) (world : View) : Type 0 where
  pub child : ℕ
  pub news : List NodeCell
  pub range : LeadInRange (pages.last_page new) news
  pub least : 2 ≤ child
  pub most : child ≤ pages.last_page new
  pub shows : ShowTogether (shown_over pages new world).node news child whole
  pub leads : (shown_over pages new world).node 1 ≡ Some (record { kind = inner_kind true; cells = news; right = child })
  pub edits : EditsPages pages (storing 1 (child ∷ lefts news)) old new world

abbrev pub TakesFirst : {P : Type 0} → Ghosts P → P → Node → P → View → Type 0
TakesFirst pages old whole new world = (((shown_over pages new world).node 1 ≡ Some whole) × EditsPages pages (storing 1 []) old new world) ⊎ MovesFirst pages old whole new world

-- A text is the cell of a payload, whose chain was made, over each world whose freelist was in order.
pub record MakesCell {P : Type 0} (pages : Ghosts P) (old : P) (sought : Sought) (payload text : List ℕ) (new : P) : Type 0 where
  pub one : IsOneCell (leaf_kind (rowid_of sought)) (pages.usable old) text
  pub rowid : (cell_in (leaf_kind (rowid_of sought)) (pages.usable old) text).rowid ≡ key_of (rowid_of sought)
  pub chain : List ℕ
  pub holds : (world : View) → pages.tells new world → pages.neat old world → IsItem (pages.usable old) (pages.last_page new) (shown_over pages new world)
      (cell_in (leaf_kind (rowid_of sought)) (pages.usable old) text) (record { key = key_of (rowid_of sought); bytes = payload; chain = chain })
  pub edits : (world : View) → pages.tells new world → pages.neat old world → EditsPages pages (making chain) old new world
