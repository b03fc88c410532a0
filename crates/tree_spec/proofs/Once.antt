-- A view shows at a page one tree at most: its height, its pages and its items are determined.
use Rattle.std.proofs.Common.{◌≡◌, ℕ, zero, suc, ◌-◌, Bool, true, false, List, [], ◌∷◌, ◌++◌, length, refl, sym, subst, ap, ap₂, ◌∙◌, arith, Some}
use Rattle.node_spec.specs.Cells.{NodeCell}
use Rattle.node_spec.specs.Nodes.{Node}
use Rattle.tree_spec.specs.Layout.{Item, chains}
use Rattle.tree_spec.specs.Shown.{Shown}
use Rattle.tree_spec.specs.Chains.{IsChain, chain_bytes}
use Rattle.tree_spec.specs.Trees.{IsItem, IsOwn, AreItems, AreUnder, Holds, IsChild, Content, IsTree, root_least}

pub chain_once : (usable last : ℕ) (shown : Shown) (first size : ℕ) (one two : List ℕ) → IsChain usable last shown first size one → IsChain usable last shown first size two → one ≡ two
chain_once usable last shown first size [] [] p q = refl
chain_once usable last shown first size [] (page ∷ pages) p q = absurd (omega (arith, p.0, q.0))
chain_once usable last shown first size (page ∷ pages) [] p q = absurd (omega (arith, p.0, q.0))
chain_once usable last shown first size (page ∷ pages) (other ∷ others) p q =
    let same : page ≡ other = p.1 ∙ sym q.1 in
    let rest = chain_once usable last shown (shown.link other).next (size - (usable - 4)) pages others
    (subst (λ (n : ℕ). IsChain usable last shown (shown.link n).next (size - (usable - 4)) pages) same p.4) q.4 in
    ap₂ ◌∷◌ same rest

item_by_parts : (one two : Item) → one.key ≡ two.key → one.bytes ≡ two.bytes → one.chain ≡ two.chain → one ≡ two
item_by_parts one two key bytes chain = λ i. record { key = key i; bytes = bytes i; chain = chain i }

item_once : (usable last : ℕ) (shown : Shown) (cell : NodeCell) (one two : Item) → IsItem usable last shown cell one → IsItem usable last shown cell two → one ≡ two
item_once usable last shown cell one two p q =
    let chain = chain_once usable last shown cell.overflow (cell.payload - length cell.local) one.chain two.chain p.chain q.chain in
    item_by_parts one two (p.key ∙ sym q.key)
    (p.bytes ∙ ap (λ (pages : List ℕ). cell.local ++ chain_bytes usable shown pages (cell.payload - length cell.local)) chain ∙ sym q.bytes) chain

own_once : (table : Bool) (usable last : ℕ) (shown : Shown) (cell : NodeCell) (one two : List Item) → IsOwn table usable last shown cell one → IsOwn table usable last shown cell two → one ≡ two
own_once true usable last shown cell one two p q = p ∙ sym q
own_once false usable last shown cell one two p q =
    p.1 ∙ ap (λ (item : Item). item ∷ []) (item_once usable last shown cell p.0 q.0 p.2 q.2) ∙ sym q.1

items_once : (table : Bool) (usable last : ℕ) (shown : Shown) (cells : List NodeCell) (one two : List Item)
    → AreItems table usable last shown cells one → AreItems table usable last shown cells two → one ≡ two
items_once table usable last shown [] [] [] p q = refl
items_once table usable last shown [] [] (y ∷ ys) p q = absurd q
items_once table usable last shown [] (x ∷ xs) two p q = absurd p
items_once table usable last shown (cell ∷ cells) [] two p q = absurd p
items_once table usable last shown (cell ∷ cells) (x ∷ xs) [] p q = absurd q
items_once table usable last shown (cell ∷ cells) (x ∷ xs) (y ∷ ys) p q =
    ap₂ ◌∷◌ (item_once usable last shown cell x y p.0 q.0) (items_once table usable last shown cells xs ys p.2 q.2)

-- two answers to what is at a page, with their heights
pub record Same (height level : ℕ) (own other : List ℕ) (items list : List Item) : Type 0 where
  pub height_is : height ≡ level
  pub own_is : own ≡ other
  pub items_are : items ≡ list

-- a property of subtrees
abbrev Subs : Type 1
Subs = ℕ → List ℕ → List Item → Type 0

under_once : (table : Bool) (usable last : ℕ) (shown : Shown) (height level : ℕ) (One Two : Subs)
    → ((page : ℕ) (own other : List ℕ) (items list : List Item) → One page own items → Two page other list → Same height level own other items list)
    → (cells : List NodeCell) (right : ℕ) (own other : List ℕ) (items list : List Item)
    → AreUnder table usable last shown One cells right own items → AreUnder table usable last shown Two cells right other list → Same height level own other items list
under_once table usable last shown height level One Two once [] right own other items list p q = once right own other items list p q
under_once table usable last shown height level One Two once (cell ∷ cells) right own other items list p q =
    let first = once cell.left p.under_own q.under_own p.under q.under p.sub q.sub in
    let middle = own_once table usable last shown cell p.middle q.middle p.middle_is q.middle_is in
    let rest = under_once table usable last shown height level One Two once cells right p.rest_own q.rest_own p.rest q.rest p.others q.others in
    record {
      height_is = first.height_is;
      own_is = p.own_is ∙ ap₂ ◌++◌ first.own_is (ap₂ ◌++◌ (ap chains middle) rest.own_is) ∙ sym q.own_is;
      items_are = p.items_are ∙ ap₂ ◌++◌ first.items_are (ap₂ ◌++◌ middle rest.items_are) ∙ sym q.items_are;
    }

holds_once : (shown : Shown) (height level least enough : ℕ) (One Two : Node → List ℕ → List Item → Type 0) (page : ℕ) (own other : List ℕ) (items list : List Item)
    → ((node : Node) (below under : List ℕ) → One node below items → Two node under list → Same height level below under items list)
    → Holds shown least One page own items → Holds shown enough Two page other list → Same height level own other items list
holds_once shown height level least enough One Two page own other items list once p q =
    let both : Some p.node ≡ Some q.node = sym p.holds ∙ q.holds in
    let node : p.node ≡ q.node = cc in
    let inside = once q.node p.below q.below (subst (λ (n : Node). One n p.below items) node p.content) q.content in
    record {
      height_is = inside.height_is;
      own_is = p.own_is ∙ ap (λ (pages : List ℕ). page ∷ pages) inside.own_is ∙ sym q.own_is;
      items_are = inside.items_are;
    }

pub content_once : (table : Bool) (usable last : ℕ) (shown : Shown) (height level : ℕ) (node : Node) (below under : List ℕ) (items list : List Item)
    → Content table usable last shown height node below items → Content table usable last shown level node under list → Same height level below under items list
content_once table usable last shown zero zero node below under items list p q =
    let same = items_once table usable last shown node.cells items list p.items_are q.items_are in
    record { height_is = refl; own_is = p.below_is ∙ ap chains same ∙ sym q.below_is; items_are = same }
content_once table usable last shown zero (suc level) node below under items list p q = absurd (cc (p.leaf, q.inner))
content_once table usable last shown (suc height) zero node below under items list p q = absurd (cc (p.inner, q.leaf))
content_once table usable last shown (suc height) (suc level) node below under items list p q =
    let inside = under_once table usable last shown height level (IsChild last shown (Content table usable last shown height)) (IsChild last shown (Content table usable last shown level))
    (λ page own other some more one two. holds_once shown height level 1 1 (Content table usable last shown height) (Content table usable last shown level) page own other some more
    (λ inner low high. content_once table usable last shown height level inner low high some more) one.holds two.holds)
    node.cells node.right below under items list p.under q.under in
    record { height_is = ap suc inside.height_is; own_is = inside.own_is; items_are = inside.items_are }

-- A page roots one tree at most.
pub tree_once : (table : Bool) (usable last : ℕ) (shown : Shown) (height level page : ℕ) (own other : List ℕ) (items list : List Item)
    → IsTree table usable last shown height page own items → IsTree table usable last shown level page other list → Same height level own other items list
tree_once table usable last shown height level page own other items list p q =
    holds_once shown height level (root_least height) (root_least level) (Content table usable last shown height) (Content table usable last shown level) page own other items list
    (λ node below under. content_once table usable last shown height level node below under items list) p q
