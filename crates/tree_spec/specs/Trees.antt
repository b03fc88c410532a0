-- Trees with their pages and what they list, of tables and of indexes.
-- Source: SQLite's "Database File Format", "B-tree Pages".
--
-- A tree's own pages are a list that is only counted: it has the pages of the tree and those of its items' chains. A page that stands in it
-- once belongs to one place of one tree.
use Rattle.std.specs.Prelude.{◌≡◌, ℕ, zero, suc, ◌-◌, ◌≤◌, ◌<ℤ◌, ◌≤ℤ◌, ◌⊎◌, Bool, true, false, List, [], ◌∷◌, ◌++◌, length, Some}
use Rattle.node_spec.specs.Kinds.{is_leaf, is_table}
use Rattle.node_spec.specs.Cells.{NodeCell}
use Rattle.node_spec.specs.Nodes.{Node}
use Rattle.tree_spec.specs.Layout.{Each, Item, chains}
use Rattle.tree_spec.specs.Shown.{Shown}
use Rattle.tree_spec.specs.Chains.{IsChain, chain_bytes}

-- an item is what a cell holds: its key, and its payload, whose end is in a chain
pub record IsItem (usable last : ℕ) (shown : Shown) (cell : NodeCell) (item : Item) : Type 0 where
  pub key : item.key ≡ cell.rowid
  pub chain : IsChain usable last shown cell.overflow (cell.payload - length cell.local) item.chain
  pub bytes : item.bytes ≡ cell.local ++ chain_bytes usable shown item.chain (cell.payload - length cell.local)

-- In a table's tree the keys order the items. In an index it is the list that is in order, by the order of rows, and nothing is asked here.

-- the items behind an item have greater keys
abbrev pub AreBehind : (table : Bool) → Item → List Item → Type 0
AreBehind true item items = Each (λ (other : Item). item.key <ℤ other.key) items
AreBehind false item items = Unit {0}

-- the items under a cell have its key at most, and those behind it greater ones
abbrev pub AreDivided : (table : Bool) → NodeCell → (under behind : List Item) → Type 0
AreDivided true cell under behind = Each (λ (item : Item). item.key ≤ℤ cell.rowid) under × Each (λ (item : Item). cell.rowid <ℤ item.key) behind
AreDivided false cell under behind = Unit {0}

-- what an interior cell lists itself: nothing in a table's tree, its own entry in an index
abbrev pub IsOwn : (table : Bool) (usable last : ℕ) → Shown → NodeCell → List Item → Type 0
IsOwn true usable last shown cell items = items ≡ []
IsOwn false usable last shown cell items = (item : Item) × (items ≡ item ∷ []) × IsItem usable last shown cell item

-- the items of a leaf, in the order of its cells
abbrev pub AreItems : (table : Bool) (usable last : ℕ) → Shown → List NodeCell → List Item → Type 0
AreItems table usable last shown [] [] = Unit {0}
AreItems table usable last shown [] (item ∷ items) = ⊥
AreItems table usable last shown (cell ∷ cells) [] = ⊥
AreItems table usable last shown (cell ∷ cells) (item ∷ items) =
    IsItem usable last shown cell item × AreBehind table item items × AreItems table usable last shown cells items

-- what is under a cell, what the cell lists itself, and what is under the cells behind it
pub record Parts (table : Bool) (usable last : ℕ) (shown : Shown) (IsSub Rest : ℕ → List ℕ → List Item → Type 0) (cell : NodeCell) (right : ℕ)
    (own : List ℕ) (items : List Item) : Type 0 where
  pub under_own : List ℕ
  pub rest_own : List ℕ
  pub under : List Item
  pub middle : List Item
  pub rest : List Item
  pub own_is : own ≡ under_own ++ (chains middle ++ rest_own)
  pub items_are : items ≡ under ++ (middle ++ rest)
  pub sub : IsSub cell.left under_own under
  pub middle_is : IsOwn table usable last shown cell middle
  pub divided : AreDivided table cell under rest
  pub others : Rest right rest_own rest

-- what is under cells and a right child
abbrev pub AreUnder : (table : Bool) (usable last : ℕ) → Shown → (ℕ → List ℕ → List Item → Type 0) → List NodeCell → ℕ → List ℕ → List Item → Type 0
AreUnder table usable last shown IsSub [] right own items = IsSub right own items
AreUnder table usable last shown IsSub (cell ∷ cells) right own items =
    Parts table usable last shown IsSub (AreUnder table usable last shown IsSub cells) cell right own items

-- a leaf's node leads to these pages and lists these items
pub record OfLeaf (table : Bool) (usable last : ℕ) (shown : Shown) (node : Node) (below : List ℕ) (items : List Item) : Type 0 where
  pub leaf : is_leaf node.kind ≡ true
  pub table_is : is_table node.kind ≡ table
  pub items_are : AreItems table usable last shown node.cells items
  pub below_is : below ≡ chains items

-- and an interior node
pub record OfInner (table : Bool) (Under : List NodeCell → ℕ → List ℕ → List Item → Type 0) (node : Node) (below : List ℕ) (items : List Item) : Type 0 where
  pub inner : is_leaf node.kind ≡ false
  pub table_is : is_table node.kind ≡ table
  pub under : Under node.cells node.right below items

-- A page shows a node with this content, and the node has so many cells at least; page 1 alone may have fewer.
pub record Holds (shown : Shown) (least : ℕ) (Content : Node → List ℕ → List Item → Type 0) (page : ℕ) (own : List ℕ) (items : List Item) : Type 0 where
  pub node : Node
  pub holds : shown.node page ≡ Some node
  pub enough : (page ≡ 1) ⊎ (least ≤ length node.cells)
  pub below : List ℕ
  pub content : Content node below items
  pub own_is : own ≡ page ∷ below

-- a child is a page from 2 to the last one, and has a cell
pub record IsChild (last : ℕ) (shown : Shown) (Content : Node → List ℕ → List Item → Type 0) (page : ℕ) (own : List ℕ) (items : List Item) : Type 0 where
  pub least : 2 ≤ page
  pub most : page ≤ last
  pub holds : Holds shown 1 Content page own items

-- A node with so many levels under it leads to these pages and lists these items. Nothing is said of how many cells it has.
abbrev pub Content : (table : Bool) (usable last : ℕ) → Shown → (height : ℕ) → Node → List ℕ → List Item → Type 0
Content table usable last shown zero node below items = OfLeaf table usable last shown node below items
Content table usable last shown (suc height) node below items =
    OfInner table (AreUnder table usable last shown (IsChild last shown (Content table usable last shown height))) node below items

-- how many cells a root has at least: a leaf may have none
abbrev pub root_least : (height : ℕ) → ℕ
root_least zero = 0
root_least (suc height) = 1

-- A page roots a tree with so many levels under it, that is made of these pages and lists these items.
abbrev pub IsTree : (table : Bool) (usable last : ℕ) → Shown → (height page : ℕ) → List ℕ → List Item → Type 0
IsTree table usable last shown height page own items = Holds shown (root_least height) (Content table usable last shown height) page own items
