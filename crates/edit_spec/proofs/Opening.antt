-- Trees taken apart: what a page that shows a node leads to; and steps from view to view.
use Rattle.std.proofs.Common.{◌≡◌, ℕ, zero, suc, ◌≤◌, ℤ, Bool, true, false, List, [], ◌∷◌, ◌++◌, length, refl, sym, subst, ap, ◌∙◌, arith, inl, inr, Some}
use Rattle.std.specs.Prelude.{◌⊎◌, ◌&&◌}
use Rattle.node_spec.specs.Kinds.{is_leaf, is_table}
use Rattle.node_spec.specs.Cells.{NodeCell}
use Rattle.node_spec.specs.Nodes.{Node}
use Rattle.tree_spec.specs.Layout.{times, Each, Item, chains}
use Rattle.tree_spec.specs.Shown.{Shown}
use Rattle.tree_spec.specs.Trees.{IsItem, AreItems, AreUnder, Content, IsTree, root_least}
use Rattle.tree_spec.proofs.Lists.{times-append, Among}
use Rattle.edit_spec.specs.Nodes.{node_of_cells, SaysSame, ByLeafOfTable}
use Rattle.edit_spec.specs.Joins.{Joins, JoinsRows, JoinsBetween}
use Rattle.edit_spec.specs.Places.{AreAbove, AreAtMostFirst, IsLower, MayStandBetween}
use Rattle.edit_spec.specs.Edits.{IsSubtree, EditedPages, MovesPages, StandOnce, KeepAlike}
use Rattle.edit_spec.proofs.Orders.{lower_both, behind_above}
use Rattle.edit_spec.proofs.Local.{item_moves}
use Rattle.edit_spec.proofs.Under.{child_some, cut_under}
use Rattle.edit_spec.proofs.Levels.{alike_on}

-- what a tree's root shows and leads to
pub record OpenedTree (table : Bool) (usable last : ℕ) (shown : Shown) (height page : ℕ) (node : Node) (own : List ℕ) (items : List Item) : Type 0 where
  pub below : List ℕ
  pub own_is : own ≡ page ∷ below
  pub content : Content table usable last shown height node below items
  pub enough : (page ≡ 1) ⊎ (root_least height ≤ length node.cells)

pub open_tree : (table : Bool) (usable last : ℕ) (shown : Shown) (height page : ℕ) (node : Node) (own : List ℕ) (items : List Item) → shown.node page ≡ Some node
    → IsTree table usable last shown height page own items → OpenedTree table usable last shown height page node own items
open_tree table usable last shown height page node own items holds tree =
    let both : Some tree.node ≡ Some node = sym tree.holds ∙ holds in
    let same : tree.node ≡ node = cc in
    record {
      below = tree.below;
      own_is = tree.own_is;
      content = subst (λ (n : Node). Content table usable last shown height n tree.below items) same tree.content;
      enough = subst (λ (n : Node). (page ≡ 1) ⊎ (root_least height ≤ length n.cells)) same tree.enough;
    }

-- a child is a tree
pub child_tree : (table : Bool) (usable last : ℕ) (shown : Shown) (height page : ℕ) (own : List ℕ) (items : List Item) → IsSubtree table usable last shown height page own items
    → IsTree table usable last shown height page own items
child_tree table usable last shown height page own items child = record {
  node = child.holds.node;
  holds = child.holds.holds;
  enough = enough_less height child.holds.enough;
  below = child.holds.below;
  content = child.holds.content;
  own_is = child.holds.own_is;
}
  where
    enough_less : (height : ℕ) {count : ℕ} → (page ≡ 1) ⊎ (1 ≤ count) → (page ≡ 1) ⊎ (root_least height ≤ count)
    enough_less height (inl first) = inl first
    enough_less zero (inr many) = inr (omega arith)
    enough_less (suc height) (inr many) = inr many

-- a leaf has no levels under it, and an interior node has some
pub leaf_height : (table : Bool) (usable last : ℕ) (shown : Shown) (height : ℕ) (node : Node) (below : List ℕ) (items : List Item) → is_leaf node.kind ≡ true
    → Content table usable last shown height node below items → height ≡ zero
leaf_height table usable last shown zero node below items leaf content = refl
leaf_height table usable last shown (suc height) node below items leaf content = absurd (cc (leaf, content.inner))

pub inner_height : (table : Bool) (usable last : ℕ) (shown : Shown) (height : ℕ) (node : Node) (below : List ℕ) (items : List Item) → is_leaf node.kind ≡ false
    → Content table usable last shown height node below items → (level : ℕ) × (height ≡ suc level)
inner_height table usable last shown zero node below items inner content = absurd (cc (inner, content.leaf))
inner_height table usable last shown (suc height) node below items inner content = (height, refl)

-- a node with its own cells is itself
pub same_whole : (node : Node) (cells : List NodeCell) → node.cells ≡ cells → node_of_cells node cells ≡ node
same_whole node cells is = ap (λ (l : List NodeCell). node_of_cells node l) (sym is)

-- a leaf of a table without a cell brings nothing to its neighbour, which stays as it is
pub joins_nothing : (left right : Node) (cell : NodeCell) → left.cells ≡ [] → is_leaf right.kind ≡ true → is_table right.kind ≡ true → Joins left cell right right
joins_nothing left right cell none leaf table =
    subst (λ (rows : Bool). ByLeafOfTable rows (JoinsRows left right right) (JoinsBetween left cell right right)) (sym (both (is_leaf right.kind) (is_table right.kind) leaf table))
    (record { kind = refl; cells = ap (λ (l : List NodeCell). l ++ right.cells) (sym none) })
  where
    both : (a b : Bool) → a ≡ true → b ≡ true → (a && b) ≡ true
    both true b p q = q
    both false b p q = absurd (cc p)

-- Steps from view to view: those of fewer pages, two in a row, and none.
pub keep_part : (shown then : Shown) (own few put : List ℕ) → Among few own → KeepAlike shown then own put → KeepAlike shown then few put
keep_part shown then own few put among keep n there none = keep n (among n there) none

pub keep_on : (shown mid then : Shown) (own fresh put few : List ℕ) → KeepAlike shown mid own put → KeepAlike mid then (own ++ fresh) few → KeepAlike shown then own (few ++ put)
keep_on shown mid then own fresh put few first second n there none =
    alike_on shown mid then n (first n there (omega (arith, none, times-append few put n)))
    (second n (omega (arith, there, times-append own fresh n)) (omega (arith, none, times-append few put n)))

pub keep_none : (shown : Shown) (own put : List ℕ) → KeepAlike shown shown own put
keep_none shown own put n there none = record { node = refl; link = λ later. refl }

pub once_part : (own few fresh : List ℕ) → ((n : ℕ) → times few n ≤ times own n) → StandOnce own fresh → StandOnce few fresh
once_part own few fresh less once n = omega (arith, less n, once n)

-- In a table the cells before one have lower keys; so where the last cell before a place has one below a key, each has. In an interior page:
pub cells_lower : (table : Bool) (usable last : ℕ) (shown : Shown) (height : ℕ) (front rest : List NodeCell) (cell : NodeCell) (right : ℕ) (own : List ℕ) (items : List Item) (item : Item)
    → AreUnder table usable last shown (IsSubtree table usable last shown height) (front ++ (cell ∷ rest)) right own items → IsLower table cell.rowid item.key
    → Each (λ (other : NodeCell). IsLower table other.rowid item.key) (front ++ (cell ∷ []))
cells_lower table usable last shown height front rest cell right own items item under lower =
    each_lower front (cut_under table usable last shown (IsSubtree table usable last shown height) (child_some table usable last shown height) front rest cell right own items under).rising
  where
    each_lower : (cells : List NodeCell) → Each (λ (other : NodeCell). IsLower table other.rowid cell.rowid) cells
        → Each (λ (other : NodeCell). IsLower table other.rowid item.key) (cells ++ (cell ∷ []))
    each_lower [] rising = (lower, tt)
    each_lower (other ∷ cells) rising = (lower_both table other.rowid cell.rowid item.key rising.0 lower, each_lower cells rising.1)

-- and in a leaf
pub rows_lower : (table : Bool) (usable last : ℕ) (shown : Shown) (front rest : List NodeCell) (cell : NodeCell) (items : List Item) (item : Item)
    → AreItems table usable last shown (front ++ (cell ∷ rest)) items → IsLower table cell.rowid item.key → Each (λ (other : NodeCell). IsLower table other.rowid item.key) (front ++ (cell ∷ []))
rows_lower table usable last shown front rest cell items item are lower = by_items front items are
  where
    first_of : (table : Bool) (cells : List NodeCell) (key : ℤ) (list : List Item) → AreItems table usable last shown (cells ++ (cell ∷ rest)) list → AreAbove table key list → IsLower table key cell.rowid
    first_of true [] key [] never above = absurd never
    first_of true [] key (next ∷ list) here above = subst (λ (k : ℤ). IsLower true key k) here.0.key above.0
    first_of true (other ∷ cells) key [] never above = absurd never
    first_of true (other ∷ cells) key (next ∷ list) here above = first_of true cells key list here.2 above.1
    first_of false cells key list here above = tt

    by_items : (cells : List NodeCell) (list : List Item) → AreItems table usable last shown (cells ++ (cell ∷ rest)) list
        → Each (λ (other : NodeCell). IsLower table other.rowid item.key) (cells ++ (cell ∷ []))
    by_items [] list here = (lower, tt)
    by_items (other ∷ cells) [] never = absurd never
    by_items (other ∷ cells) (next ∷ list) here = (
      subst (λ (k : ℤ). IsLower table k item.key) here.0.key
          (lower_both table next.key cell.rowid item.key (first_of table cells next.key list here.2 (behind_above table next list here.1)) lower),
      by_items cells list here.2,
    )

-- So a new item may stand at such a place.
pub item_between : (table : Bool) (before after : List NodeCell) (item : Item) → Each (λ (other : NodeCell). IsLower table other.rowid item.key) before
    → AreAtMostFirst table after (item ∷ []) → MayStandBetween table before after (item ∷ [])
item_between table before after item lower up_to = record { above = each_above before lower; up_to = up_to }
  where
    one_above : (table : Bool) (key : ℤ) → IsLower table key item.key → AreAbove table key (item ∷ [])
    one_above true key lower = (lower, tt)
    one_above false key lower = tt

    each_above : (cells : List NodeCell) → Each (λ (other : NodeCell). IsLower table other.rowid item.key) cells → Each (λ (cell : NodeCell). AreAbove table cell.rowid (item ∷ [])) cells
    each_above [] lower = tt
    each_above (cell ∷ cells) lower = (one_above table cell.rowid lower.0, each_above cells lower.1)

-- An item that went has its chain still, under its cell and any other that says the same.
pub item_stays : (usable last last_then : ℕ) (shown then : Shown) (cell other : NodeCell) (item : Item) (pages : EditedPages) (own own_then : List ℕ) → last ≤ last_then
    → MovesPages pages own own_then (item ∷ []) → KeepAlike shown then own pages.put → SaysSame cell other → IsItem usable last shown cell item → IsItem usable last_then then other item
item_stays usable last last_then shown then cell other item pages own own_then more moved keep says holds =
    item_moves usable last last_then shown then cell other item more
    (λ n there.
    let here : 1 ≤ times (chains (item ∷ [])) n = omega (arith, there, times-append item.chain [] n) in
    keep n (moved.held n here) (moved.apart n here)) says holds
