-- What is still to come of a tree, from the pages on which a cursor stands and its place on each, and the pages that are read for it.
--
-- What comes is told as a tree is: the items in their order, and the pages, which are only counted.
use Rattle.std.specs.Prelude.{◌≡◌, ℕ, zero, suc, ◌≤◌, Bool, true, false, List, [], ◌∷◌, ◌++◌, Some, if◌then◌else◌, vec_len}
use Rattle.node_spec.specs.Kinds.{is_leaf}
use Rattle.node_spec.specs.Cells.{NodeCell}
use Rattle.node_spec.specs.Nodes.{Node}
use Rattle.tree_spec.specs.Shown.{Shown}
use Rattle.tree_spec.specs.Layout.{Item, chains}
use Rattle.tree_spec.specs.Trees.{AreItems, AreUnder, IsOwn, IsChild, Content, IsTree}
use Rattle.tree_scan.specs.declared.level.Level.{Level}
use Rattle.tree_scan.specs.declared.bounds.Bounds.{Bounds}
use Rattle.tree_scan.specs.declared.cursor.Cursor.{Cursor}
use Rattle.tree_scan.specs.Bounded.{of_table, AreFrom, AreUpTo}

-- One page.

-- the items of a leaf's cells from a place on
abbrev pub LeftItems : (table : Bool) (usable last : ℕ) → Shown → (place : ℕ) → List NodeCell → List Item → Type 0
LeftItems table usable last shown zero cells items = AreItems table usable last shown cells items
LeftItems table usable last shown (suc place) [] items = items ≡ []
LeftItems table usable last shown (suc place) (cell ∷ cells) items = LeftItems table usable last shown place cells items

-- what is under the children of an interior page from a place on, with what the cells between list themselves: past all cells the right child
-- is left, and behind it nothing
abbrev pub LeftUnder : (table : Bool) (usable last : ℕ) → Shown → (ℕ → List ℕ → List Item → Type 0) → (place : ℕ) → List NodeCell → (right : ℕ) → List ℕ → List Item → Type 0
LeftUnder table usable last shown IsSub zero cells right own items = AreUnder table usable last shown IsSub cells right own items
LeftUnder table usable last shown IsSub (suc place) [] right own items = (own ≡ []) × (items ≡ [])
LeftUnder table usable last shown IsSub (suc place) (cell ∷ cells) right own items = LeftUnder table usable last shown IsSub place cells right own items

-- what a cell lists itself, and then what is under the children behind it
pub record BehindCell (table : Bool) (usable last : ℕ) (shown : Shown) (IsSub : ℕ → List ℕ → List Item → Type 0) (cell : NodeCell) (cells : List NodeCell) (right : ℕ)
    (own : List ℕ) (items : List Item) : Type 0 where
  pub rest_own : List ℕ
  pub middle : List Item
  pub rest : List Item
  pub own_is : own ≡ chains middle ++ rest_own
  pub items_are : items ≡ middle ++ rest
  pub middle_is : IsOwn table usable last shown cell middle
  pub others : AreUnder table usable last shown IsSub cells right rest_own rest

-- what is behind the child at a place: from the cell there on; behind the right child nothing
abbrev pub LeftBehind : (table : Bool) (usable last : ℕ) → Shown → (ℕ → List ℕ → List Item → Type 0) → (place : ℕ) → List NodeCell → (right : ℕ) → List ℕ → List Item → Type 0
LeftBehind table usable last shown IsSub zero [] right own items = (own ≡ []) × (items ≡ [])
LeftBehind table usable last shown IsSub zero (cell ∷ cells) right own items = BehindCell table usable last shown IsSub cell cells right own items
LeftBehind table usable last shown IsSub (suc place) [] right own items = (own ≡ []) × (items ≡ [])
LeftBehind table usable last shown IsSub (suc place) (cell ∷ cells) right own items = LeftBehind table usable last shown IsSub place cells right own items

-- from the child at a place on, or from the cell there on
abbrev pub LeftFrom : (at_cell table : Bool) (usable last : ℕ) → Shown → (ℕ → List ℕ → List Item → Type 0) → (place : ℕ) → List NodeCell → (right : ℕ) → List ℕ → List Item → Type 0
LeftFrom false table usable last shown IsSub place cells right own items = LeftUnder table usable last shown IsSub place cells right own items
LeftFrom true table usable last shown IsSub place cells right own items = LeftBehind table usable last shown IsSub place cells right own items

-- what is left of a node with so many levels under it
abbrev pub Rests : (table : Bool) (usable last : ℕ) → Shown → (height : ℕ) → Node → (place : ℕ) (at_cell : Bool) → List ℕ → List Item → Type 0
Rests table usable last shown zero node place at_cell own items =
    (is_leaf node.kind ≡ true) × LeftItems table usable last shown place node.cells items × (own ≡ chains items)
Rests table usable last shown (suc height) node place at_cell own items =
    (is_leaf node.kind ≡ false)
    × LeftFrom at_cell table usable last shown (IsChild last shown (Content table usable last shown height)) place node.cells node.right own items

-- What is still to come.

abbrev pub one_less : ℕ → ℕ
one_less zero = zero
one_less (suc n) = n

-- what is left of a page comes behind what is below it
pub record Joined (shown : Shown) (page : ℕ) (Below : List ℕ → List Item → Type 0) (Left : Node → List ℕ → List Item → Type 0) (own : List ℕ) (items : List Item) : Type 0 where
  pub below_own : List ℕ
  pub rest_own : List ℕ
  pub below : List Item
  pub rest : List Item
  pub own_is : own ≡ below_own ++ rest_own
  pub items_are : items ≡ below ++ rest
  pub comes : Below below_own below
  pub node : Node
  pub holds : shown.node page ≡ Some node
  pub left : Left node rest_own rest

-- Of levels from the root down, the first with so many levels under it: what is left of the last comes first.
abbrev pub Comes : (table : Bool) (usable last : ℕ) → Shown → (height : ℕ) → List Level → List ℕ → List Item → Type 0
Comes table usable last shown height [] own items = (own ≡ []) × (items ≡ [])
Comes table usable last shown height (level ∷ levels) own items =
    Joined shown level.page (Comes table usable last shown (one_less height) levels) (λ node. Rests table usable last shown height node level.place level.at_cell) own items

-- A cursor that hasn't begun is before those items of its root's tree that are in the bounds. From the low bound on these are ahead of it.
pub record AreBefore (usable last : ℕ) (shown : Shown) (height : ℕ) (cursor : Cursor) (ahead some : List Item) : Type 0 where
  pub own : List ℕ
  pub items : List Item
  pub tree : IsTree (of_table cursor.bounds) usable last shown height cursor.root own items
  pub from : AreFrom cursor.bounds items ahead
  pub up_to : AreUpTo cursor.bounds ahead some

-- One that has is on its path.
pub record AreBehind (usable last : ℕ) (shown : Shown) (height : ℕ) (cursor : Cursor) (ahead some : List Item) : Type 0 where
  pub own : List ℕ
  pub comes : Comes (of_table cursor.bounds) usable last shown height cursor.levels.items own ahead
  pub up_to : AreUpTo cursor.bounds ahead some

abbrev pub ToCome : Bool → (usable last : ℕ) → Shown → (height : ℕ) → Cursor → (ahead some : List Item) → Type 0
ToCome false usable last shown height cursor ahead some = AreBefore usable last shown height cursor ahead some
ToCome true usable last shown height cursor ahead some = AreBehind usable last shown height cursor ahead some

-- Of the items of the tree, which has so many levels under its root, these are still ahead, and of them those in the bounds are still to come.
abbrev pub AreToCome : (usable last : ℕ) → Shown → (height : ℕ) → Cursor → (ahead some : List Item) → Type 0
AreToCome usable last shown height cursor ahead some = ToCome cursor.begun usable last shown height cursor ahead some

-- A cursor as it is made.
pub record IsNewCursor (root : ℕ) (bounds : Bounds) (cursor : Cursor) : Type 0 where
  pub root_is : cursor.root ≡ root
  pub bounds_are : cursor.bounds ≡ bounds
  pub begun : cursor.begun ≡ false
  pub levels : cursor.levels.items ≡ []

-- nothing is left of a level, by what was decoded of its page: there is a child more than there are cells
abbrev pub IsSpent : Level → Type 0
IsSpent level = (if level.at_cell then vec_len level.node.cells else suc (vec_len level.node.cells)) ≤ level.place

-- a level once its next child was gone to: in an index the cell behind it comes next
abbrev pub gone_below : (table : Bool) → Level → Level
gone_below true level = record level { place = suc level.place }
gone_below false level = record level { at_cell = true }

-- and once its next cell was given: on an interior page the child behind it comes next
abbrev pub gone_past : Level → Level
gone_past level = record level { place = suc level.place; at_cell = is_leaf level.node.kind }
