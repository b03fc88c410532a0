-- What looking an entry of an index up says of pages.
use Rattle.std.specs.Prelude.{◌≡◌, ◌⊎◌, ℕ, suc, ◌<◌, ◌≤◌, Bool, true, false, List, [], ◌∷◌, ◌++◌, length, Some, Result, Ok, Err, IfErr}
use Rattle.std.specs.declared.cmp.Ordering.{Ordering}
use Rattle.std.specs.declared.cmp.Ordering.TheVariants.{Less, Equal, Greater}
use Rattle.disk_face.specs.Faults.{Rose}
use Rattle.page_spec.specs.View.{View}
use Rattle.engine_spec.specs.declared.commits.FetchFault.{FetchFault}
use Rattle.engine_spec.specs.declared.commits.FetchFault.TheVariants as fault
use Rattle.page_face.specs.declared.pages_tells.PagesTells.{Ghosts}
use Rattle.node_spec.specs.Kinds.{is_leaf}
use Rattle.node_spec.specs.Cells.{NodeCell}
use Rattle.node_spec.specs.Nodes.{Node, cell_at}
use Rattle.tree_spec.specs.Shown.{Shown}
use Rattle.tree_spec.specs.Layout.{Each, Item}
use Rattle.tree_spec.specs.Trees.{IsTree}
use Rattle.value_form.specs.declared.value.Value.{Value}
use Rattle.value_form.specs.Order.{row_order}
use Rattle.value_form.specs.Record.{IsRecord}
use Rattle.overflow.specs.Following.{shown_over, all_read}
use Rattle.tree_read.specs.declared.entry.Spot.{Spot}
use Rattle.tree_read.specs.declared.entry.Spot.TheVariants.{At, Before}
use Rattle.tree_read.specs.Ways.{ShowsNode, child_at, GoesOn, IsWay, BreaksWay}
use Rattle.tree_read.specs.Payloads.{IsFollowed, AreOfChain, BreaksPayload, EndsWithRow, IsCause, payload_bytes}
use Rattle.tree_read.specs.Looking.{ThereIsTree, IsNoRow}

-- One page.

-- the pages have a page
abbrev pub IsOneOf : List ℕ → ℕ → Type 0
IsOneOf [] page = ⊥
IsOneOf (p ∷ ps) page = (page ≡ p) ⊎ IsOneOf ps page

-- a cell of a node has a row, which compares so with the entry
pub record Compares (usable last : ℕ) (shown : Shown) (node : Node) (k : ℕ) (entry : List Value) (order : Ordering) : Type 0 where
  pub inside : k < length node.cells
  pub chain : List ℕ
  pub next : ℕ
  pub row : List Value
  pub followed : IsFollowed usable last shown (cell_at node k) chain next 0
  pub is_record : IsRecord (payload_bytes usable shown (cell_at node k) chain) row
  pub order_is : order ≡ row_order row entry

-- an entry's place among cells: that before it has a smaller row, and the cell at it, if there is one, a greater one
pub record EntryStandsAt (usable last : ℕ) (shown : Shown) (node : Node) (entry : List Value) (place : ℕ) : Type 0 where
  pub most : place ≤ length node.cells
  pub above : (k : ℕ) → place ≡ suc k → Compares usable last shown node k entry Less
  pub below : place < length node.cells → Compares usable last shown node place entry Greater

-- a page of the chain of a cell
pub record IsOfCells (usable last : ℕ) (shown : Shown) (node : Node) (page : ℕ) : Type 0 where
  pub k : ℕ
  pub inside : k < length node.cells
  pub front : List ℕ
  pub rest : List ℕ
  pub are : AreOfChain usable last shown (cell_at node k) (front ++ page ∷ rest)

-- the payload of some cell is broken
pub record BreaksCell (usable last : ℕ) (shown : Shown) (node : Node) (below page : ℕ) : Type 0 where
  pub k : ℕ
  pub inside : k < length node.cells
  pub chain : List ℕ
  pub breaks : BreaksPayload usable last shown (cell_at node k) below chain page

-- How looking for an entry among the cells of a page ended, where these pages of chains were read. The page that is named is the cells' own or
-- one of them.
abbrev pub EndsSeek : (usable last : ℕ) → Shown → Node → (below : ℕ) → List Value → List ℕ → Result Spot FetchFault → Type 0
EndsSeek usable last shown node below entry list (Ok At) = (k : ℕ) × Compares usable last shown node k entry Equal
EndsSeek usable last shown node below entry list (Ok (Before place)) = EntryStandsAt usable last shown node entry place
EndsSeek usable last shown node below entry list (Err fault.Disk) = Unit {0}
EndsSeek usable last shown node below entry list (Err (fault.Corrupt page)) =
    BreaksCell usable last shown node below page × ((page ≡ below) ⊎ IsOneOf list page)
EndsSeek usable last shown node below entry list (Err (fault.Size pages)) = ⊥
EndsSeek usable last shown node below entry list (Err fault.Memory) = Unit {0}

-- An entry was looked for among the cells of a page: pages of their chains were read and no others.
pub record HasSought {P : Type 0} (pages : Ghosts P) (old : P) (node : Node) (below : ℕ) (entry : List Value) (result : Result Spot FetchFault) (new : P) : Type 0 where
  pub list : List ℕ
  pub read : pages.reads new ≡ all_read (pages.has old) (pages.reads old) list
  pub are : (world : View) → pages.tells new world → Each (IsOfCells (pages.usable old) (pages.last_page old) (shown_over pages old world) node) list
  pub ends : (world : View) → pages.tells new world → EndsSeek (pages.usable old) (pages.last_page old) (shown_over pages old world) node below entry list result
  pub cause : IfErr result (IsCause (pages.faults old) (pages.faults new))

-- a spot is a place among so many cells, or behind them
abbrev pub IsSpotWithin : (count : ℕ) → Result Spot FetchFault → Type 0
IsSpotWithin count (Ok At) = Unit {0}
IsSpotWithin count (Ok (Before place)) = place ≤ count
IsSpotWithin count (Err why) = Unit {0}

-- How comparing one cell's row ended.
abbrev pub EndsCompare : (usable last : ℕ) → Shown → NodeCell → (below : ℕ) → List Value → List ℕ → Result Ordering FetchFault → Type 0
EndsCompare usable last shown cell below entry chain (Ok order) =
    (row : List Value) × (EndsWithRow usable last shown cell below chain (Ok row) × (order ≡ row_order row entry))
EndsCompare usable last shown cell below entry chain (Err why) = EndsWithRow usable last shown cell below chain (Err why)

pub record HasCompared {P : Type 0} (pages : Ghosts P) (old : P) (cell : NodeCell) (below : ℕ) (entry : List Value) (result : Result Ordering FetchFault) (new : P) : Type 0 where
  pub chain : List ℕ
  pub read : pages.reads new ≡ all_read (pages.has old) (pages.reads old) chain
  pub ends : (world : View) → pages.tells new world → EndsCompare (pages.usable old) (pages.last_page old) (shown_over pages old world) cell below entry chain result
  pub cause : IfErr result (IsCause (pages.faults old) (pages.faults new))

-- A whole look-up.

-- An interior page of an index, so many levels below the root, names this child at the entry's place.
pub record NamesEntryChild (usable last : ℕ) (shown : Shown) (entry : List Value) (level page child : ℕ) : Type 0 where
  pub node : Node
  pub shows : ShowsNode false shown level page node
  pub inner : is_leaf node.kind ≡ false
  pub place : ℕ
  pub stands : EntryStandsAt usable last shown node entry place
  pub child_is : child ≡ child_at node.cells node.right place

-- a page of the chain of a cell of one of the pages
pub record IsChainPage (usable last : ℕ) (shown : Shown) (pages : List ℕ) (page : ℕ) : Type 0 where
  pub owner : ℕ
  pub among : IsOneOf pages owner
  pub node : Node
  pub holds : shown.node owner ≡ Some node
  pub of : IsOfCells usable last shown node page

-- A page has the entry in one of its cells.
pub record HasEntry (usable last : ℕ) (shown : Shown) (level page : ℕ) (entry : List Value) : Type 0 where
  pub node : Node
  pub shows : ShowsNode false shown level page node
  pub k : ℕ
  pub compares : Compares usable last shown node k entry Equal

-- A leaf hasn't, where the entry would stand.
pub record LacksEntry (usable last : ℕ) (shown : Shown) (level page : ℕ) (entry : List Value) : Type 0 where
  pub node : Node
  pub shows : ShowsNode false shown level page node
  pub leaf : is_leaf node.kind ≡ true
  pub place : ℕ
  pub stands : EntryStandsAt usable last shown node entry place

-- the payload of a cell of the page that the way comes to is broken
pub record BreaksEntry (usable last : ℕ) (shown : Shown) (level below page : ℕ) : Type 0 where
  pub node : Node
  pub shows : ShowsNode false shown level below node
  pub cell : BreaksCell usable last shown node below page

-- How a look-up ended, where these pages were read. The page that is named is one of them, but a root out of range.
abbrev pub EndsSearch : (usable last : ℕ) → Shown → (root : ℕ) → List Value → (way : List ℕ) → (below : ℕ) → (list : List ℕ) → Result Bool FetchFault → Type 0
EndsSearch usable last shown root entry way below list (Ok true) = HasEntry usable last shown (length way) below entry
EndsSearch usable last shown root entry way below list (Ok false) = LacksEntry usable last shown (length way) below entry
EndsSearch usable last shown root entry way below list (Err fault.Disk) = Unit {0}
EndsSearch usable last shown root entry way below list (Err (fault.Corrupt page)) =
    ((list ≡ []) × BreaksWay false last shown (NamesEntryChild usable last shown entry) root way below [] page)
    ⊎ (IsOneOf list page × (BreaksWay false last shown (NamesEntryChild usable last shown entry) root way below (below ∷ []) page
    ⊎ BreaksEntry usable last shown (length way) below page))
EndsSearch usable last shown root entry way below list (Err (fault.Size pages)) = ⊥
EndsSearch usable last shown root entry way below list (Err fault.Memory) = Unit {0}

-- An entry was looked up: the pages that were read are of the way, with where it comes to, and of chains of their cells. Over each world that is
-- still told it is the way towards the entry, and ended so.
pub record HasSearched {P : Type 0} (pages : Ghosts P) (old : P) (root : ℕ) (entry : List Value) (result : Result Bool FetchFault) (new : P) : Type 0 where
  pub way : List ℕ
  pub below : ℕ
  pub list : List ℕ
  pub read : pages.reads new ≡ all_read (pages.has old) (pages.reads old) list
  pub leads : (world : View) → pages.tells new world
      → IsWay (GoesOn (pages.last_page old) (NamesEntryChild (pages.usable old) (pages.last_page old) (shown_over pages old world) entry)) 0 root way below
  pub visits : (world : View) → pages.tells new world
      → Each (λ (page : ℕ). IsOneOf (way ++ below ∷ []) page ⊎ IsChainPage (pages.usable old) (pages.last_page old) (shown_over pages old world) (way ++ below ∷ []) page) list
  pub ends : (world : View) → pages.tells new world → EndsSearch (pages.usable old) (pages.last_page old) (shown_over pages old world) root entry way below list result
  pub cause : IfErr result (IsCause (pages.faults old) (pages.faults new))

-- Said of trees.

-- The items stand in the order of rows: what records the earlier begin with are less than those of the later.
abbrev pub RowsRise : List Item → Type 0
RowsRise [] = Unit {0}
RowsRise (item ∷ items) =
    Each (λ (other : Item). (row next : List Value) → IsRecord item.bytes row → IsRecord other.bytes next → row_order row next ≡ Less) items × RowsRise items

-- an item is one of these
pub record IsAmong (items : List Item) (item : Item) : Type 0 where
  pub front : List Item
  pub back : List Item
  pub items_are : items ≡ front ++ item ∷ back

-- the payload of one of the items begins with the entry's record; or none does, if the items stand in order
abbrev pub AnswersEntry : List Item → List Value → Bool → Type 0
AnswersEntry items entry true = (item : Item) × (IsAmong items item × IsRecord item.bytes entry)
AnswersEntry items entry false = RowsRise items → Each (λ (item : Item). IsRecord item.bytes entry → ⊥) items

-- Over each world in which the root has an index's tree the answer is that of its items.
abbrev pub FindsEntry : {P : Type 0} → Ghosts P → P → (root : ℕ) → List Value → Bool → P → Type 0
FindsEntry pages old root entry found new = (world : View) → pages.tells new world → (bound height : ℕ) (own : List ℕ) (items : List Item)
    → IsTree false (pages.usable old) bound (shown_over pages old world) height root own items → AnswersEntry items entry found

-- A fault over such a tree: from outside, or one of the items is no row.
abbrev pub IsOfEntry : (usable last : ℕ) → Shown → (before after : ℕ) → List Item → FetchFault → Type 0
IsOfEntry usable last shown before after items fault.Disk = Rose before after
IsOfEntry usable last shown before after items (fault.Corrupt page) = (item : Item) × (IsAmong items item × IsNoRow usable last shown item)
IsOfEntry usable last shown before after items (fault.Size pages) = ⊥
IsOfEntry usable last shown before after items fault.Memory = Unit {0}

abbrev pub FailsEntry : {P : Type 0} → Ghosts P → P → (root : ℕ) → FetchFault → P → Type 0
FailsEntry pages old root why new = (items : List Item) (there : ThereIsTree false pages old root items new)
    → IsOfEntry (pages.usable old) (pages.last_page old) (shown_over pages old there.world) (pages.faults old) (pages.faults new) items why
