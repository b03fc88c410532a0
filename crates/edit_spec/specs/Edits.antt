-- What an edit makes of a tree, page by page from the leaf up. Own pages are lists that are only counted.
use Rattle.std.specs.Prelude.{◌≡◌, ℕ, ◌+◌, ◌≤◌, Bool, false, List, [], ◌∷◌, ◌++◌, Some}
use Rattle.node_spec.specs.Kinds.{is_leaf, is_table}
use Rattle.node_spec.specs.Cells.{NodeCell}
use Rattle.node_spec.specs.Nodes.{Node}
use Rattle.tree_spec.specs.Layout.{times, Each, Item, chains}
use Rattle.tree_spec.specs.Shown.{Shown, IsAlike}
use Rattle.tree_spec.specs.Trees.{AreUnder, IsChild, Content, IsTree}
use Rattle.edit_spec.specs.Nodes.{ShowTogether}
use Rattle.edit_spec.specs.Places.{Gap, EndsIn, BeginsIn}

-- a child with so many levels under it
abbrev pub IsSubtree : (table : Bool) (usable last : ℕ) → Shown → (height page : ℕ) → List ℕ → List Item → Type 0
IsSubtree table usable last shown height = IsChild last shown (Content table usable last shown height)

-- What an edit makes of a page: new siblings to its left and the page itself, each of them a child. With no sibling it is the child at the page.
abbrev pub IsGrown : (table : Bool) (usable last : ℕ) → Shown → (height : ℕ) → (news : List NodeCell) → (page : ℕ) → List ℕ → List Item → Type 0
IsGrown table usable last shown height news page own items = AreUnder table usable last shown (IsSubtree table usable last shown height) news page own items

-- the pages that cells lead to
abbrev pub lefts : List NodeCell → List ℕ
lefts [] = []
lefts (cell ∷ cells) = cell.left ∷ lefts cells

-- each cell leads to a page from 2 to the last one
abbrev pub LeadInRange : (last : ℕ) → List NodeCell → Type 0
LeadInRange last cells = Each (λ (cell : NodeCell). (2 ≤ cell.left) × (cell.left ≤ last)) cells

-- The items but for some that stand together at a place, where others stand then. With no item out it is an insert, with none in a delete.
pub record Exchanges (place : Gap) (out into items items_then : List Item) : Type 0 where
  pub before : List Item
  pub after : List Item
  pub items_are : items ≡ before ++ (out ++ after)
  pub then_are : items_then ≡ before ++ (into ++ after)
  pub ends : EndsIn place.Before before
  pub begins : BeginsIn place.Behind after

-- The pages of an edit: those that were taken for it, those of the tree that are its own no more, and those of the tree that were put.
pub record EditedPages : Type 0 where
  pub fresh : List ℕ
  pub lost : List ℕ
  pub put : List ℕ

-- A tree's pages before and after an edit by which these items went. Nothing is lost: what the tree had or took, it has then, or it is lost, or is of a
-- chain of the items that went. Pages that were put are the tree's, and these chains' pages are, and weren't put.
pub record MovesPages (pages : EditedPages) (own own_then : List ℕ) (out : List Item) : Type 0 where
  pub counts : (n : ℕ) → times own n + times pages.fresh n ≡ times own_then n + (times pages.lost n + times (chains out) n)
  pub within : (n : ℕ) → 1 ≤ times pages.put n → 1 ≤ times own n
  pub held : (n : ℕ) → 1 ≤ times (chains out) n → 1 ≤ times own n
  pub apart : (n : ℕ) → 1 ≤ times (chains out) n → times pages.put n ≡ 0

-- A page was edited: with new siblings to its left it shows this node now, maybe one without a cell, which leads to pages and lists the items, exchanged.
pub record IsEdited (table : Bool) (usable last : ℕ) (shown : Shown) (height page : ℕ) (whole : Node) (news : List NodeCell) (place : Gap) (out into : List Item)
    (pages : EditedPages) (own : List ℕ) (items : List Item) : Type 0 where
  pub below : List ℕ
  pub items_then : List Item
  pub shows : ShowTogether shown.node news page whole
  pub ranged : LeadInRange last news
  pub content : Content table usable last shown height whole below items_then
  pub exchanged : Exchanges place out into items items_then
  pub moved : MovesPages pages own (lefts news ++ (page ∷ below)) out

-- What was under some cells and a child is under these cells and that child now, with the items exchanged.
pub record IsReplaced (table : Bool) (usable last : ℕ) (shown : Shown) (height : ℕ) (news : List NodeCell) (right : ℕ) (place : Gap) (out into : List Item) (pages : EditedPages)
    (own : List ℕ) (items : List Item) : Type 0 where
  pub own_then : List ℕ
  pub items_then : List Item
  pub grown : IsGrown table usable last shown height news right own_then items_then
  pub exchanged : Exchanges place out into items items_then
  pub moved : MovesPages pages own own_then out

-- A whole tree was edited: the root is that of this tree now, which lists the items, exchanged.
pub record IsEditedTree (table : Bool) (usable last : ℕ) (shown : Shown) (height root : ℕ) (place : Gap) (out into : List Item) (pages : EditedPages) (own : List ℕ) (items : List Item)
    : Type 0 where
  pub own_then : List ℕ
  pub items_then : List Item
  pub tree : IsTree table usable last shown height root own_then items_then
  pub exchanged : Exchanges place out into items items_then
  pub moved : MovesPages pages own own_then out

-- A root that has new siblings is raised: what it shows was copied to another page, and it leads to the siblings and to that one.
pub record IsRaised (table : Bool) (shown shown_then : Shown) (root child : ℕ) (news : List NodeCell) : Type 0 where
  pub copied : shown_then.node child ≡ shown.node root
  pub node : Node
  pub holds : shown_then.node root ≡ Some node
  pub inner : is_leaf node.kind ≡ false
  pub table_is : is_table node.kind ≡ table
  pub cells : node.cells ≡ news
  pub right : node.right ≡ child

-- each page stands once, in one of the two lists
abbrev pub StandOnce : (own fresh : List ℕ) → Type 0
StandOnce own fresh = (n : ℕ) → times own n + times fresh n ≤ 1

-- Each of these pages shows the same in two views, but for those that were put.
abbrev pub KeepAlike : (shown shown_then : Shown) → (own put : List ℕ) → Type 0
KeepAlike shown shown_then own put = (n : ℕ) → 1 ≤ times own n → times put n ≡ 0 → IsAlike shown shown_then n
