-- Locality: what stands on some pages stands in another view that shows the same there.
use Rattle.std.proofs.Common.{◌≡◌, ℕ, zero, suc, ◌-◌, ◌≤◌, Bool, true, false, List, [], ◌∷◌, ◌++◌, length, refl, sym, subst, ap, ◌∙◌, arith}
use Rattle.node_spec.specs.Cells.{NodeCell}
use Rattle.node_spec.specs.Nodes.{Node}
use Rattle.tree_spec.specs.Layout.{times, Item, chains}
use Rattle.tree_spec.specs.Shown.{Shown, IsAlike}
use Rattle.tree_spec.specs.Trees.{IsItem, IsOwn, AreItems, AreUnder, Holds, Content}
use Rattle.tree_spec.proofs.Lists.{times-append, Among, among_first, among_last, head_there, tail_there}
use Rattle.tree_spec.proofs.Local.{chain_local}
use Rattle.edit_spec.specs.Nodes.{SaysSame}
use Rattle.edit_spec.specs.Edits.{IsSubtree}

-- each of these pages shows the same
abbrev pub AllAlike : (shown shown_then : Shown) → List ℕ → Type 0
AllAlike shown shown_then own = (n : ℕ) → 1 ≤ times own n → IsAlike shown shown_then n

-- an item stays, also under a cell that says the same
pub item_moves : (usable last last_then : ℕ) (shown shown_then : Shown) (cell other : NodeCell) (item : Item) → last ≤ last_then → AllAlike shown shown_then item.chain
    → SaysSame cell other → IsItem usable last shown cell item → IsItem usable last_then shown_then other item
item_moves usable last last_then shown shown_then cell other item more same says is =
    let size : other.payload - length other.local ≡ cell.payload - length cell.local = ap (λ (n : ℕ). n - length other.local) says.payload ∙ ap (λ (l : List ℕ). cell.payload - length l) says.local in
    let moved = chain_local usable last last_then shown shown_then cell.overflow (cell.payload - length cell.local) item.chain more same is.chain in
    record {
      key = is.key ∙ sym says.rowid;
      chain = rw (says.overflow, size) moved.0;
      bytes = rw (size, says.local) (is.bytes ∙ ap (λ (b : List ℕ). cell.local ++ b) (sym moved.1));
    }

pub says_itself : (cell : NodeCell) → SaysSame cell cell
says_itself cell = record { rowid = refl; payload = refl; local = refl; overflow = refl }

-- what an interior cell lists itself stays, also under a cell that says the same
pub own_moves : (table : Bool) (usable last last_then : ℕ) (shown shown_then : Shown) (cell other : NodeCell) (items : List Item) → last ≤ last_then
    → AllAlike shown shown_then (chains items) → SaysSame cell other → IsOwn table usable last shown cell items → IsOwn table usable last_then shown_then other items
own_moves true usable last last_then shown shown_then cell other items more same says is = is
own_moves false usable last last_then shown shown_then cell other items more same says is = (
  is.0,
  is.1,
  item_moves usable last last_then shown shown_then cell other is.0 more
      (λ n there. same n (subst (λ (l : List Item). 1 ≤ times (chains l) n) (sym is.1) (omega (arith, there, times-append is.0.chain [] n)))) says is.2,
)

pub items_move : (table : Bool) (usable last last_then : ℕ) (shown shown_then : Shown) (cells : List NodeCell) (items : List Item) → last ≤ last_then
    → AllAlike shown shown_then (chains items) → AreItems table usable last shown cells items → AreItems table usable last_then shown_then cells items
items_move table usable last last_then shown shown_then [] [] more same are = tt
items_move table usable last last_then shown shown_then [] (item ∷ items) more same never = absurd never
items_move table usable last last_then shown shown_then (cell ∷ cells) [] more same never = absurd never
items_move table usable last last_then shown shown_then (cell ∷ cells) (item ∷ items) more same are = (
  item_moves usable last last_then shown shown_then cell cell item more (λ n there. same n (omega (arith, there, times-append item.chain (chains items) n))) (says_itself cell) are.0,
  are.1,
  items_move table usable last last_then shown shown_then cells items more (λ n there. same n (omega (arith, there, times-append item.chain (chains items) n))) are.2,
)

-- a property of subtrees
abbrev pub Subtrees : Type 1
Subtrees = ℕ → List ℕ → List Item → Type 0

-- What is under cells stays where the pages do, if the subtrees do.
pub under_moves : (table : Bool) (usable last last_then : ℕ) (shown shown_then : Shown) (IsSub IsSub_then : Subtrees) (cells : List NodeCell) (right : ℕ) (own : List ℕ) (items : List Item)
    → last ≤ last_then → AllAlike shown shown_then own
    → ((page : ℕ) (few : List ℕ) (some : List Item) → Among few own → IsSub page few some → IsSub_then page few some)
    → AreUnder table usable last shown IsSub cells right own items → AreUnder table usable last_then shown_then IsSub_then cells right own items
under_moves table usable last last_then shown shown_then IsSub IsSub_then [] right own items more same moves under = moves right own items (λ n there. there) under
under_moves table usable last last_then shown shown_then IsSub IsSub_then (cell ∷ cells) right own items more same moves under =
    let behind = among_last under.under_own (chains under.middle ++ under.rest_own) own under.own_is in
    let rest_among : Among under.rest_own own = λ n there. behind n (among_last (chains under.middle) under.rest_own (chains under.middle ++ under.rest_own) refl n there) in
    let middle_among : Among (chains under.middle) own = λ n there. behind n (among_first (chains under.middle) under.rest_own (chains under.middle ++ under.rest_own) refl n there) in
    record {
      under_own = under.under_own;
      rest_own = under.rest_own;
      under = under.under;
      middle = under.middle;
      rest = under.rest;
      own_is = under.own_is;
      items_are = under.items_are;
      sub = moves cell.left under.under_own under.under (among_first under.under_own (chains under.middle ++ under.rest_own) own under.own_is) under.sub;
      middle_is = own_moves table usable last last_then shown shown_then cell cell under.middle more (λ n there. same n (middle_among n there)) (says_itself cell) under.middle_is;
      divided = under.divided;
      others = under_moves table usable last last_then shown shown_then IsSub IsSub_then cells right under.rest_own under.rest more (λ n there. same n (rest_among n there))
          (λ page few some among. moves page few some (λ n there. rest_among n (among n there))) under.others;
    }

-- what a page holds stays, if its content does
holds_moves : (shown shown_then : Shown) (Now Then : Node → List ℕ → List Item → Type 0) (least page : ℕ) (own : List ℕ) (items : List Item) → AllAlike shown shown_then own
    → ((node : Node) (below : List ℕ) → Among below own → Now node below items → Then node below items) → Holds shown least Now page own items → Holds shown_then least Then page own items
holds_moves shown shown_then Now Then least page own items same moves is = record {
  node = is.node;
  holds = (same page (head_there page is.below own is.own_is)).node ∙ is.holds;
  enough = is.enough;
  below = is.below;
  content = moves is.node is.below (tail_there page is.below own is.own_is) is.content;
  own_is = is.own_is;
}

-- What a node leads to and lists stays where the pages do.
pub content_moves : (table : Bool) (usable last last_then : ℕ) (shown shown_then : Shown) (height : ℕ) (node : Node) (below : List ℕ) (items : List Item) → last ≤ last_then
    → AllAlike shown shown_then below → Content table usable last shown height node below items → Content table usable last_then shown_then height node below items
content_moves table usable last last_then shown shown_then zero node below items more same is = record {
  leaf = is.leaf;
  table_is = is.table_is;
  items_are = items_move table usable last last_then shown shown_then node.cells items more (subst (AllAlike shown shown_then) is.below_is same) is.items_are;
  below_is = is.below_is;
}
content_moves table usable last last_then shown shown_then (suc height) node below items more same is = record {
  inner = is.inner;
  table_is = is.table_is;
  under = under_moves table usable last last_then shown shown_then (IsSubtree table usable last shown height) (IsSubtree table usable last_then shown_then height)
      node.cells node.right below items more same
      (λ page few some among child. record {
        least = child.least;
        most = omega (arith, child.most, more);
        holds = holds_moves shown shown_then (Content table usable last shown height) (Content table usable last_then shown_then height) 1 page few some (λ n there. same n (among n there))
            (λ inside inside_below inside_among content. content_moves table usable last last_then shown shown_then height inside inside_below some more
            (λ n there. same n (among n (inside_among n there))) content) child.holds;
      }) is.under;
}

-- A child stays where its pages do.
pub child_moves : (table : Bool) (usable last last_then : ℕ) (shown shown_then : Shown) (height page : ℕ) (own : List ℕ) (items : List Item) → last ≤ last_then
    → AllAlike shown shown_then own → IsSubtree table usable last shown height page own items → IsSubtree table usable last_then shown_then height page own items
child_moves table usable last last_then shown shown_then height page own items more same child = record {
  least = child.least;
  most = omega (arith, child.most, more);
  holds = holds_moves shown shown_then (Content table usable last shown height) (Content table usable last_then shown_then height) 1 page own items same
      (λ node below among content. content_moves table usable last last_then shown shown_then height node below items more (λ n there. same n (among n there)) content) child.holds;
}

-- So does what is under cells.
pub grown_moves : (table : Bool) (usable last last_then : ℕ) (shown shown_then : Shown) (height : ℕ) (cells : List NodeCell) (right : ℕ) (own : List ℕ) (items : List Item) → last ≤ last_then
    → AllAlike shown shown_then own → AreUnder table usable last shown (IsSubtree table usable last shown height) cells right own items
    → AreUnder table usable last_then shown_then (IsSubtree table usable last_then shown_then height) cells right own items
grown_moves table usable last last_then shown shown_then height cells right own items more same under =
    under_moves table usable last last_then shown shown_then (IsSubtree table usable last shown height) (IsSubtree table usable last_then shown_then height) cells right own items more same
    (λ page few some among. child_moves table usable last last_then shown shown_then height page few some more (λ n there. same n (among n there))) under
