-- The pages of a tree: its root, and then pages from 2 to the last one.
use Rattle.std.proofs.Common.{◌≡◌, ℕ, zero, suc, ◌-◌, ◌≤◌, Bool, true, false, List, [], ◌∷◌, ◌++◌, length, sym, subst, ap, arith, inl, inr}
use Rattle.std.proofs.lemmas.Bool.{cases_eq, ne_eqb}
use Rattle.node_spec.specs.Cells.{NodeCell}
use Rattle.node_spec.specs.Nodes.{Node}
use Rattle.tree_spec.specs.Layout.{times, Each, Item, chains}
use Rattle.tree_spec.specs.Shown.{Shown}
use Rattle.tree_spec.specs.Chains.{IsChain}
use Rattle.tree_spec.specs.Trees.{IsItem, IsOwn, AreItems, AreUnder, IsChild, Content, IsTree}
use Rattle.tree_spec.proofs.Lists.{each-append}

-- each of these pages is one from 2 to the last one
abbrev pub AreInRange : (last : ℕ) → List ℕ → Type 0
AreInRange last pages = Each (λ page. (2 ≤ page) × (page ≤ last)) pages

-- what holds of each page holds of one that stands among them
pub of_each : (P : ℕ → Type 0) (pages : List ℕ) (n : ℕ) → Each P pages → 1 ≤ times pages n → P n
of_each P [] n each there = absurd (omega (arith, there))
of_each P (page ∷ pages) n each there =
    elim (cases_eq page n) [
      | inl same ↦ subst P same each.0
      | inr apart ↦ of_each P pages n each.1 (let here : 1 ≤ times (page ∷ pages) n = there in let rest = rw (ne_eqb page n apart) at here in omega (arith, rest))
    ]

range_both : (last : ℕ) (a b : List ℕ) → AreInRange last a → AreInRange last b → AreInRange last (a ++ b)
range_both last a b one two = each-append (λ (page : ℕ). (2 ≤ page) × (page ≤ last)) a b one two

range_is : (last : ℕ) (a b : List ℕ) → a ≡ b → AreInRange last b → AreInRange last a
range_is last a b is range = subst (λ (pages : List ℕ). AreInRange last pages) (sym is) range

chain_range : (usable last : ℕ) (shown : Shown) (first size : ℕ) (pages : List ℕ) → IsChain usable last shown first size pages → AreInRange last pages
chain_range usable last shown first size [] is = tt
chain_range usable last shown first size (page ∷ pages) is =
    ((is.2, is.3), chain_range usable last shown (shown.link page).next (size - (usable - 4)) pages is.4)

item_range : (usable last : ℕ) (shown : Shown) (cell : NodeCell) (item : Item) → IsItem usable last shown cell item → AreInRange last item.chain
item_range usable last shown cell item is = chain_range usable last shown cell.overflow (cell.payload - length cell.local) item.chain is.chain

own_range : (table : Bool) (usable last : ℕ) (shown : Shown) (cell : NodeCell) (items : List Item) → IsOwn table usable last shown cell items → AreInRange last (chains items)
own_range true usable last shown cell items is = range_is last (chains items) [] (ap chains is) tt
own_range false usable last shown cell items is =
    range_is last (chains items) (is.0.chain ++ []) (ap chains is.1) (range_both last is.0.chain [] (item_range usable last shown cell is.0 is.2) tt)

items_range : (table : Bool) (usable last : ℕ) (shown : Shown) (cells : List NodeCell) (items : List Item) → AreItems table usable last shown cells items → AreInRange last (chains items)
items_range table usable last shown [] [] is = tt
items_range table usable last shown [] (item ∷ items) is = absurd is
items_range table usable last shown (cell ∷ cells) [] is = absurd is
items_range table usable last shown (cell ∷ cells) (item ∷ items) is =
    range_both last item.chain (chains items) (item_range usable last shown cell item is.0) (items_range table usable last shown cells items is.2)

under_range : (table : Bool) (usable last : ℕ) (shown : Shown) (Sub : ℕ → List ℕ → List Item → Type 0)
    → ((page : ℕ) (own : List ℕ) (items : List Item) → Sub page own items → AreInRange last own)
    → (cells : List NodeCell) (right : ℕ) (own : List ℕ) (items : List Item) → AreUnder table usable last shown Sub cells right own items → AreInRange last own
under_range table usable last shown Sub each [] right own items is = each right own items is
under_range table usable last shown Sub each (cell ∷ cells) right own items is =
    range_is last own (is.under_own ++ (chains is.middle ++ is.rest_own)) is.own_is
    (range_both last is.under_own (chains is.middle ++ is.rest_own) (each cell.left is.under_own is.under is.sub)
    (range_both last (chains is.middle) is.rest_own (own_range table usable last shown cell is.middle is.middle_is)
    (under_range table usable last shown Sub each cells right is.rest_own is.rest is.others)))

-- what a node leads to
pub content_range : (table : Bool) (usable last : ℕ) (shown : Shown) (height : ℕ) (node : Node) (below : List ℕ) (items : List Item)
    → Content table usable last shown height node below items → AreInRange last below
content_range table usable last shown zero node below items is =
    range_is last below (chains items) is.below_is (items_range table usable last shown node.cells items is.items_are)
content_range table usable last shown (suc height) node below items is =
    under_range table usable last shown (IsChild last shown (Content table usable last shown height))
    (λ page own some child. range_is last own (page ∷ child.holds.below) child.holds.own_is
    ((child.least, child.most), content_range table usable last shown height child.holds.node child.holds.below some child.holds.content))
    node.cells node.right below items is.under

-- a tree's pages are its root and others in range
pub tree_range : (table : Bool) (usable last : ℕ) (shown : Shown) (height root : ℕ) (own : List ℕ) (items : List Item)
    → IsTree table usable last shown height root own items → (below : List ℕ) × (own ≡ root ∷ below) × AreInRange last below
tree_range table usable last shown height root own items is =
    (is.below, is.own_is, content_range table usable last shown height is.node is.below items is.content)
