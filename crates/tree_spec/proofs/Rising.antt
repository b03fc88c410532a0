-- The keys of a table's tree rise.
use Rattle.std.proofs.Common.{◌≡◌, ℕ, ℤ, zero, suc, ◌<ℤ◌, ◌≤ℤ◌, true, List, [], ◌∷◌, ◌++◌, sym, subst, ap, ◌∙◌, arith}
use Rattle.std.proofs.lemmas.Int.{ints}
use Rattle.node_spec.specs.Cells.{NodeCell}
use Rattle.node_spec.specs.Nodes.{Node}
use Rattle.tree_spec.specs.Layout.{Each, Item, KeysRise}
use Rattle.tree_spec.specs.Shown.{Shown}
use Rattle.tree_spec.specs.Trees.{AreItems, AreUnder, IsChild, Content, IsTree}
use Rattle.tree_spec.proofs.Lists.{each-append}

each_weaker : {X : Type 0} (P Q : X → Type 0) (xs : List X) → ((x : X) → P x → Q x) → Each P xs → Each Q xs
each_weaker P Q [] weaker all = tt
each_weaker P Q (x ∷ xs) weaker all = (weaker x all.0, each_weaker P Q xs weaker all.1)

less_by : (low middle high : ℤ) → low ≤ℤ middle → middle <ℤ high → low <ℤ high
less_by low middle high p q = omega (arith, ints)

-- lists whose keys rise, with a key between them
rise-append : (one two : List Item) (key : ℤ) → KeysRise one → KeysRise two → Each (λ (item : Item). item.key ≤ℤ key) one → Each (λ (item : Item). key <ℤ item.key) two
    → KeysRise (one ++ two)
rise-append [] two key p q low high = q
rise-append (item ∷ one) two key p q low high = (
  each-append (λ (other : Item). item.key <ℤ other.key) one two p.0
      (each_weaker (λ (other : Item). key <ℤ other.key) (λ (other : Item). item.key <ℤ other.key) two (λ other above. less_by item.key key other.key low.0 above) high),
  rise-append one two key p.1 q low.1 high,
)

leaf_rises : (usable last : ℕ) (shown : Shown) (cells : List NodeCell) (items : List Item) → AreItems true usable last shown cells items → KeysRise items
leaf_rises usable last shown [] [] are = tt
leaf_rises usable last shown [] (item ∷ items) never = absurd never
leaf_rises usable last shown (cell ∷ cells) [] never = absurd never
leaf_rises usable last shown (cell ∷ cells) (item ∷ items) are = (are.1, leaf_rises usable last shown cells items are.2)

under_rises : (usable last : ℕ) (shown : Shown) (IsSub : ℕ → List ℕ → List Item → Type 0)
    → ((page : ℕ) (own : List ℕ) (items : List Item) → IsSub page own items → KeysRise items)
    → (cells : List NodeCell) (right : ℕ) (own : List ℕ) (items : List Item) → AreUnder true usable last shown IsSub cells right own items → KeysRise items
under_rises usable last shown IsSub rises [] right own items under = rises right own items under
under_rises usable last shown IsSub rises (cell ∷ cells) right own items under =
    let whole : items ≡ under.under ++ under.rest =
    under.items_are ∙ ap (λ (middle : List Item). under.under ++ (middle ++ under.rest)) under.middle_is in
    subst KeysRise (sym whole) (rise-append under.under under.rest cell.rowid (rises cell.left under.under_own under.under under.sub)
    (under_rises usable last shown IsSub rises cells right under.rest_own under.rest under.others) under.divided.0 under.divided.1)

pub content_rises : (usable last : ℕ) (shown : Shown) (height : ℕ) (node : Node) (below : List ℕ) (items : List Item) → Content true usable last shown height node below items → KeysRise items
content_rises usable last shown zero node below items is = leaf_rises usable last shown node.cells items is.items_are
content_rises usable last shown (suc height) node below items is =
    under_rises usable last shown (IsChild last shown (Content true usable last shown height))
    (λ page own some child. content_rises usable last shown height child.holds.node child.holds.below some child.holds.content) node.cells node.right below items is.under

-- The keys of a table's tree rise.
pub tree_rises : (usable last : ℕ) (shown : Shown) (height page : ℕ) (own : List ℕ) (items : List Item) → IsTree true usable last shown height page own items → KeysRise items
tree_rises usable last shown height page own items tree = content_rises usable last shown height tree.node tree.below items tree.content
