-- What looking a row up says of pages.
use Rattle.std.specs.Prelude.{◌≡◌, ◌⊎◌, ℕ, ℤ, suc, ◌^◌, ◌≤◌, ◌<ℤ◌, ◌==◌, Bool, true, List, [], ◌∷◌, ◌++◌, length, Option, None, Some, MatchOption, slice_index_or, Result, Ok, Err, IfErr}
use Rattle.disk_face.specs.Faults.{Rose}
use Rattle.page_spec.specs.View.{View}
use Rattle.engine_spec.specs.declared.commits.FetchFault.{FetchFault}
use Rattle.engine_spec.specs.declared.commits.FetchFault.TheVariants as fault
use Rattle.page_face.specs.declared.pages_tells.PagesTells.{Ghosts}
use Rattle.page_face.specs.Pages.{pages_read, IsFromOutside}
use Rattle.node_spec.specs.Kinds.{is_leaf}
use Rattle.node_spec.specs.Cells.{NodeCell}
use Rattle.node_spec.specs.Nodes.{Node, node_of, no_cell}
use Rattle.page_form.specs.declared.page.Page.{Page}
use Rattle.page_form.specs.Reading.{Tells, IsReadPage}
use Rattle.tree_read.specs.declared.way.Leaf.{Leaf}
use Rattle.tree_read.specs.declared.place.Aim.{Aim}
use Rattle.tree_read.specs.declared.place.Aim.TheVariants.{Rowid, Last}
use Rattle.tree_spec.specs.Shown.{Shown}
use Rattle.tree_spec.specs.Layout.{Each, Item}
use Rattle.tree_spec.specs.Trees.{IsTree, IsItem}
use Rattle.value_form.specs.declared.value.Value.{Value}
use Rattle.value_form.specs.Record.{IsRecord}
use Rattle.overflow.specs.Following.{shown_over, all_read}
use Rattle.tree_read.specs.Ways.{ShowsNode, MayStand, HasRowid, LacksRowid, NamesChild, GoesOn, IsWay, IsAround, BreaksWay, HasGone}
use Rattle.tree_read.specs.Payloads.{AreOfChain, BreaksPayload, EndsWithRow}

-- One page.

-- why a page that was handed in gave no node: the disk failed, or it was read and shows none that may stand there
abbrev pub BarsNode : {P : Type 0} → Ghosts P → P → (table : Bool) → (page level : ℕ) → P → FetchFault → Type 0
BarsNode pages old table page level new fault.Disk = Rose (pages.faults old) (pages.faults new)
BarsNode pages old table page level new (fault.Corrupt named) = (named ≡ page) × (pages.reads new ≡ pages_read pages old page)
    × ((world : View) → pages.tells new world → (node : Node) → ShowsNode table (shown_over pages old world) level page node → ⊥)
BarsNode pages old table page level new (fault.Size count) = ⊥
BarsNode pages old table page level new fault.Memory = Unit {0}

-- what was decoded is a node that may stand there, which the page shows over each world that is still told
pub record HasNode {P : Type 0} (pages : Ghosts P) (old : P) (table : Bool) (page level : ℕ) (bytes : List ℕ) (told : Page) (new : P) : Type 0 where
  pub node : Node
  pub tells : Tells (pages.usable old) (page == 1) bytes told node
  pub may : MayStand table page level node
  pub shown : (world : View) → pages.tells new world → (shown_over pages old world).node page ≡ Some node
  pub read : pages.reads new ≡ pages_read pages old page

-- why bytes gave no node: they show none that may stand there
abbrev pub IsNoNode : (usable : ℕ) (table : Bool) (page level : ℕ) → List ℕ → FetchFault → Type 0
IsNoNode usable table page level bytes fault.Disk = ⊥
IsNoNode usable table page level bytes (fault.Corrupt named) =
    (named ≡ page) × ((node : Node) → node_of usable (page == 1) bytes ≡ Some node → MayStand table page level node → ⊥)
IsNoNode usable table page level bytes (fault.Size count) = ⊥
IsNoNode usable table page level bytes fault.Memory = Unit {0}

-- A whole look-up.

-- where the way comes to nothing was read, or that page alone
abbrev pub AreReadAt : (below : ℕ) → List ℕ → Type 0
AreReadAt below after = (after ≡ []) ⊎ (after ≡ below ∷ [])

-- A leaf, so many levels below the root, has a cell with this rowid.
pub record HasCell (shown : Shown) (level page : ℕ) (rowid : ℤ) (cell : NodeCell) : Type 0 where
  pub node : Node
  pub shows : ShowsNode true shown level page node
  pub leaf : is_leaf node.kind ≡ true
  pub has : HasRowid node rowid cell

-- It has none.
pub record LacksCell (shown : Shown) (level page : ℕ) (rowid : ℤ) : Type 0 where
  pub node : Node
  pub shows : ShowsNode true shown level page node
  pub leaf : is_leaf node.kind ≡ true
  pub lacks : LacksRowid node rowid

-- What was read from the page on that the way comes to: nothing, or that page and pages of the chain of the rowid's cell in it.
abbrev pub AreReadBelow : (usable last : ℕ) → Shown → (level below : ℕ) → ℤ → List ℕ → Type 0
AreReadBelow usable last shown level below rowid [] = Unit {0}
AreReadBelow usable last shown level below rowid (page ∷ []) = page ≡ below
AreReadBelow usable last shown level below rowid (page ∷ (p ∷ ps)) =
    (page ≡ below) × ((cell : NodeCell) × (HasCell shown level below rowid cell × AreOfChain usable last shown cell (p ∷ ps)))

-- the payload of the rowid's cell in the page that the way comes to is broken
pub record BreaksRow (usable last : ℕ) (shown : Shown) (rowid : ℤ) (level below : ℕ) (after : List ℕ) (page : ℕ) : Type 0 where
  pub cell : NodeCell
  pub chain : List ℕ
  pub are : after ≡ below ∷ chain
  pub has : HasCell shown level below rowid cell
  pub breaks : BreaksPayload usable last shown cell below chain page

-- How a look-up ended.
abbrev pub EndsLookUp : (usable last : ℕ) → Shown → (root : ℕ) → ℤ → (way : List ℕ) → (below : ℕ) → (after : List ℕ)
    → Result (Option (List Value)) FetchFault → Type 0
EndsLookUp usable last shown root rowid way below after (Ok None) = (after ≡ below ∷ []) × LacksCell shown (length way) below rowid
EndsLookUp usable last shown root rowid way below after (Ok (Some row)) =
    (cell : NodeCell) × ((chain : List ℕ) × ((after ≡ below ∷ chain) × (HasCell shown (length way) below rowid cell
    × EndsWithRow usable last shown cell below chain (Ok row))))
EndsLookUp usable last shown root rowid way below after (Err fault.Disk) = AreReadBelow usable last shown (length way) below rowid after
EndsLookUp usable last shown root rowid way below after (Err (fault.Corrupt page)) =
    BreaksWay true last shown (NamesChild shown (Rowid rowid)) root way below after page ⊎ BreaksRow usable last shown rowid (length way) below after page
EndsLookUp usable last shown root rowid way below after (Err (fault.Size pages)) = ⊥
EndsLookUp usable last shown root rowid way below after (Err fault.Memory) = AreReadBelow usable last shown (length way) below rowid after

-- A row was looked up.
abbrev pub HasLooked : {P : Type 0} → Ghosts P → P → (root : ℕ) (rowid : ℤ) → Result (Option (List Value)) FetchFault → P → Type 0
HasLooked pages old root rowid result new =
    HasGone pages old (λ shown. NamesChild shown (Rowid rowid)) root (λ shown. EndsLookUp (pages.usable old) (pages.last_page old) shown root rowid) result new

-- The way down came to a leaf, whose bytes these are, and it was read.
pub record HasDescended {P : Type 0} (pages : Ghosts P) (old : P) (root : ℕ) (aim : Aim) (bytes : List ℕ) (leaf : Leaf) (new : P) : Type 0 where
  pub way : List ℕ
  pub node : Node
  pub tells : IsReadPage (pages.usable old) bytes leaf.node node
  pub is_leaf : is_leaf node.kind ≡ true
  pub read : pages.reads new ≡ all_read (pages.has old) (pages.reads old) (way ++ leaf.page ∷ [])
  pub leads : (world : View) → pages.tells new world → IsWay (GoesOn (pages.last_page old) (NamesChild (shown_over pages old world) aim)) 0 root way leaf.page
  pub shows : (world : View) → pages.tells new world → ShowsNode true (shown_over pages old world) (length way) leaf.page node

-- Why a way down came to no leaf.
abbrev pub EndsBefore : (last : ℕ) → (root : ℕ) → Aim → Shown → (way : List ℕ) → (below : ℕ) → (after : List ℕ) → FetchFault → Type 0
EndsBefore last root aim shown way below after fault.Disk = AreReadAt below after
EndsBefore last root aim shown way below after (fault.Corrupt page) = BreaksWay true last shown (NamesChild shown aim) root way below after page
EndsBefore last root aim shown way below after (fault.Size pages) = ⊥
EndsBefore last root aim shown way below after fault.Memory = AreReadAt below after

abbrev pub IsBarred : {P : Type 0} → Ghosts P → P → (root : ℕ) → Aim → FetchFault → P → Type 0
IsBarred pages old root aim why new = HasGone {T = Unit {0}} pages old (λ shown. NamesChild shown aim) root
    (λ shown way below after result. IfErr result (EndsBefore (pages.last_page old) root aim shown way below after)) (Err why) new

-- What looking for the last rowid says: the last cell's, none where there is no cell.
abbrev pub IsLastRowid : List NodeCell → Option ℤ → Type 0
IsLastRowid cells found = MatchOption found (cells ≡ []) (λ rowid. (k : ℕ) × ((length cells ≡ suc k) × (rowid ≡ (slice_index_or cells k no_cell).rowid)))

-- A leaf, so many levels below the root, has this last rowid.
pub record HasLast (shown : Shown) (level page : ℕ) (found : Option ℤ) : Type 0 where
  pub node : Node
  pub shows : ShowsNode true shown level page node
  pub leaf : is_leaf node.kind ≡ true
  pub is_last : IsLastRowid node.cells found

-- How looking for the last rowid ended.
abbrev pub EndsLast : (last root : ℕ) → Shown → (way : List ℕ) → (below : ℕ) → (after : List ℕ) → Result (Option ℤ) FetchFault → Type 0
EndsLast last root shown way below after (Ok found) = (after ≡ below ∷ []) × HasLast shown (length way) below found
EndsLast last root shown way below after (Err why) = EndsBefore last root Last shown way below after why

-- The last rowid was looked for.
abbrev pub HasLookedLast : {P : Type 0} → Ghosts P → P → (root : ℕ) → Result (Option ℤ) FetchFault → P → Type 0
HasLookedLast pages old root result new = HasGone pages old (λ shown. NamesChild shown Last) root (EndsLast (pages.last_page old) root) result new

-- Said of trees.

-- the items have no such rowid, or one item has it and its payload begins with the record of the row
abbrev pub Answers : (rowid : ℤ) → List Item → Option (List Value) → Type 0
Answers rowid items found = MatchOption found (IsAround rowid items [])
    (λ row. (item : Item) × ((item.key ≡ rowid) × (IsAround rowid items (item ∷ []) × IsRecord item.bytes row)))

-- Over each world in which the root has a table's tree the answer is that of its items.
abbrev pub FindsRow : {P : Type 0} → Ghosts P → P → (root : ℕ) (rowid : ℤ) → Option (List Value) → P → Type 0
FindsRow pages old root rowid found new = (world : View) → pages.tells new world → (bound height : ℕ) (own : List ℕ) (items : List Item)
    → IsTree true (pages.usable old) bound (shown_over pages old world) height root own items → Answers rowid items found

-- There is a tree at a root in range, at most 40 levels deep below it, over some world that is still told.
pub record ThereIsTree {P : Type 0} (table : Bool) (pages : Ghosts P) (old : P) (root : ℕ) (items : List Item) (new : P) : Type 0 where
  pub world : View
  pub told : pages.tells new world
  pub least : 1 ≤ root
  pub most : root ≤ pages.last_page old
  pub height : ℕ
  pub low : height ≤ 40
  pub own : List ℕ
  pub tree : IsTree table (pages.usable old) (pages.last_page old) (shown_over pages old world) height root own items

-- an item's payload is no record without a float, or is 2^32 bytes or more
abbrev pub IsNoRow : (usable last : ℕ) → Shown → Item → Type 0
IsNoRow usable last shown item = ((row : List Value) → IsRecord item.bytes row → ⊥)
    ⊎ ((cell : NodeCell) × (IsItem usable last shown cell item × (2 ^ 32 ≤ cell.payload)))

-- A fault over such a tree: from outside, or the item of the rowid is no row.
abbrev pub IsOfRow : (usable last : ℕ) → Shown → (before after : ℕ) (rowid : ℤ) → List Item → FetchFault → Type 0
IsOfRow usable last shown before after rowid items fault.Disk = Rose before after
IsOfRow usable last shown before after rowid items (fault.Corrupt page) =
    (item : Item) × ((item.key ≡ rowid) × (IsAround rowid items (item ∷ []) × IsNoRow usable last shown item))
IsOfRow usable last shown before after rowid items (fault.Size pages) = ⊥
IsOfRow usable last shown before after rowid items fault.Memory = Unit {0}

abbrev pub FailsRow : {P : Type 0} → Ghosts P → P → (root : ℕ) (rowid : ℤ) → FetchFault → P → Type 0
FailsRow pages old root rowid why new = (items : List Item) (there : ThereIsTree true pages old root items new)
    → IsOfRow (pages.usable old) (pages.last_page old) (shown_over pages old there.world) (pages.faults old) (pages.faults new) rowid items why

-- the last of the items has this key, which is greater than all others; none where there is no item
abbrev pub IsLastKey : List Item → Option ℤ → Type 0
IsLastKey items found = MatchOption found (items ≡ [])
    (λ rowid. (front : List Item) × ((item : Item) × ((items ≡ front ++ item ∷ []) × ((item.key ≡ rowid) × Each (λ (other : Item). other.key <ℤ rowid) front))))

-- Over each world in which the root has a table's tree the answer is that of its items.
abbrev pub FindsLast : {P : Type 0} → Ghosts P → P → (root : ℕ) → Option ℤ → P → Type 0
FindsLast pages old root found new = (world : View) → pages.tells new world → (bound height : ℕ) (own : List ℕ) (items : List Item)
    → IsTree true (pages.usable old) bound (shown_over pages old world) height root own items → IsLastKey items found

-- over such a tree a fault is from outside
abbrev pub FailsLast : {P : Type 0} → Ghosts P → P → (root : ℕ) → FetchFault → P → Type 0
FailsLast pages old root why new = (items : List Item) → ThereIsTree true pages old root items new → IsFromOutside (pages.faults old) (pages.faults new) why
