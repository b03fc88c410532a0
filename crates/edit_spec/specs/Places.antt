-- Places in lists of items, and among the cells of a page.
use Rattle.std.specs.Prelude.{◌≡◌, ℕ, ℤ, ◌<ℤ◌, ◌≤ℤ◌, Bool, true, false, List, [], ◌∷◌, ◌++◌}
use Rattle.node_spec.specs.Cells.{NodeCell}
use Rattle.tree_spec.specs.Layout.{Each, Item}

-- A gap in a list: what is said of the item before it, and of the one behind it.
pub record Gap : Type 1 where
  pub Before : Item → Type 0
  pub Behind : Item → Type 0

-- the last of the items, if there is one, is such
abbrev pub EndsIn : (Item → Type 0) → List Item → Type 0
EndsIn Is [] = Unit {0}
EndsIn Is (item ∷ []) = Is item
EndsIn Is (item ∷ (next ∷ items)) = EndsIn Is (next ∷ items)

-- the first of the items, if there is one, is such
abbrev pub BeginsIn : (Item → Type 0) → List Item → Type 0
BeginsIn Is [] = Unit {0}
BeginsIn Is (item ∷ items) = Is item

-- any gap; the one behind all; a key's place
abbrev pub somewhere : Gap
somewhere = record { Before = λ item. Unit {0}; Behind = λ item. Unit {0} }

abbrev pub past_all : Gap
past_all = record { Before = λ item. Unit {0}; Behind = λ item. ⊥ }

abbrev pub place_of_key : ℤ → Gap
place_of_key key = record { Before = λ item. item.key <ℤ key; Behind = λ item. key <ℤ item.key }

-- The items with one more, in its place: all before it are such, and all behind it.
pub record TakesItem (place : Gap) (items : List Item) (item : Item) (items_then : List Item) : Type 0 where
  pub before : List Item
  pub after : List Item
  pub items_are : items ≡ before ++ after
  pub then_are : items_then ≡ before ++ (item ∷ after)
  pub before_are : Each place.Before before
  pub behind_are : Each place.Behind after

-- Among the cells of a page keys say in a table where items may stand. An index's tree asks for no order: its list is in order.

-- the items have greater keys than this one
abbrev pub AreAbove : (table : Bool) → ℤ → List Item → Type 0
AreAbove true key items = Each (λ (item : Item). key <ℤ item.key) items
AreAbove false key items = Unit {0}

-- the items have this key at most
abbrev pub AreAtMost : (table : Bool) → ℤ → List Item → Type 0
AreAtMost true key items = Each (λ (item : Item). item.key ≤ℤ key) items
AreAtMost false key items = Unit {0}

-- one key is less than another
abbrev pub IsLower : (table : Bool) → (low high : ℤ) → Type 0
IsLower true low high = low <ℤ high
IsLower false low high = Unit {0}

-- the items have at most the key of the first of these cells, if there is one
abbrev pub AreAtMostFirst : (table : Bool) → List NodeCell → List Item → Type 0
AreAtMostFirst table [] items = Unit {0}
AreAtMostFirst table (cell ∷ cells) items = AreAtMost table cell.rowid items

-- The items may stand between these cells: above each one before them, and up to the first one behind them.
pub record MayStandBetween (table : Bool) (before after : List NodeCell) (items : List Item) : Type 0 where
  pub above : Each (λ (cell : NodeCell). AreAbove table cell.rowid items) before
  pub up_to : AreAtMostFirst table after items

-- the key is less than that of the first of these cells, if there is one
abbrev pub IsLowerThanFirst : (table : Bool) → ℤ → List NodeCell → Type 0
IsLowerThanFirst table key [] = Unit {0}
IsLowerThanFirst table key (cell ∷ cells) = IsLower table key cell.rowid

-- the first child of these cells and a right child
abbrev pub first_child : List NodeCell → (right : ℕ) → ℕ
first_child [] right = right
first_child (cell ∷ cells) right = cell.left
