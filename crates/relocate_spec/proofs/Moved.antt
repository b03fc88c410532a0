-- Renumbering: where one view shows a tree's nodes and the pages of its chains under other numbers, with all pointers renumbered alike, it shows
-- there the same tree.
use Rattle.std.proofs.Common.{◌≡◌, ℕ, zero, suc, ◌-◌, ◌≤◌, Bool, true, false, List, [], ◌∷◌, ◌++◌, length, map, take, refl, sym, subst, ap, ◌∙◌, arith, inl, inr, eq-eqb}
use Rattle.std.specs.Prelude.{◌⊎◌}
use Rattle.std.proofs.lemmas.Bool.{cases_eq, ne_eqb}
use Rattle.std.proofs.lemmas.List.{map-append, length-map}
use Rattle.node_spec.specs.Cells.{NodeCell}
use Rattle.node_spec.specs.Nodes.{Node}
use Rattle.tree_spec.specs.Layout.{times, Item, chains}
use Rattle.tree_spec.specs.Shown.{Link, Shown}
use Rattle.tree_spec.specs.Chains.{IsChain, chain_bytes}
use Rattle.tree_spec.specs.Trees.{IsItem, AreBehind, AreDivided, IsOwn, AreItems, AreUnder, Holds, IsChild, Content, root_least, IsTree}
use Rattle.tree_spec.specs.Renaming.{cell_renamed, node_renamed, shown_renamed, item_renamed, IsNaming}
use Rattle.relocate_spec.specs.Seen.{IsMoved}
use Rattle.tree_spec.proofs.Lists.{times-append, Among, among_first, among_last, head_there, tail_there, each-map, chains-renamed}

-- all these pages are shown under other numbers
abbrev AreMoved : (ℕ → ℕ) → (last : ℕ) → Shown → Shown → List ℕ → Type 0
AreMoved name last shown shown_then pages = (n : ℕ) → 1 ≤ times pages n → IsMoved name last shown shown_then n

-- the number that leads to a chain, or ends one, is at most that of the last page
next_within : (usable last : ℕ) (shown : Shown) (first size : ℕ) (pages : List ℕ) → IsChain usable last shown first size pages → first ≤ last
next_within usable last shown first size [] chain = omega (arith, chain.1)
next_within usable last shown first size (page ∷ pages) chain = omega (arith, chain.1, chain.3)

pub chain_moved : (name : ℕ → ℕ) (usable last last_then : ℕ) (shown shown_then : Shown) (first size : ℕ) (pages : List ℕ) → IsNaming name last last_then
    → AreMoved name last shown shown_then pages → IsChain usable last shown first size pages
    → IsChain usable last_then shown_then (name first) size (map name pages) × (chain_bytes usable shown_then (map name pages) size ≡ chain_bytes usable shown pages size)
chain_moved name usable last last_then shown shown_then first size [] naming same chain = ((chain.0, ap name chain.1 ∙ naming.none), refl)
chain_moved name usable last last_then shown shown_then first size (page ∷ pages) naming same chain =
    let link = (same page (head_there page pages (page ∷ pages) refl)).link chain.2 (next_within usable last shown (shown.link page).next (size - (usable - 4)) pages chain.4) in
    let range = naming.others page chain.2 chain.3 in
    let rest = chain_moved name usable last last_then shown shown_then (shown.link page).next (size - (usable - 4)) pages naming
    (λ n there. same n (tail_there page pages (page ∷ pages) refl n there)) chain.4 in
    let next : name (shown.link page).next ≡ (shown_then.link (name page)).next = ap (λ (l : Link). l.next) (sym link) in
    let piece : take size (shown_then.link (name page)).bytes ≡ take size (shown.link page).bytes = ap (λ (l : Link). take size l.bytes) link in (
      (
        chain.0,
        ap name chain.1,
        range.0,
        range.1,
        subst (λ (n : ℕ). IsChain usable last_then shown_then n (size - (usable - 4)) (map name pages)) next rest.0,
      ),
      ap (λ (bytes : List ℕ). bytes ++ chain_bytes usable shown_then (map name pages) (size - (usable - 4))) piece
          ∙ ap (λ (bytes : List ℕ). take size (shown.link page).bytes ++ bytes) rest.1,
    )

item_is_moved : (name : ℕ → ℕ) (usable last last_then : ℕ) (shown shown_then : Shown) (cell : NodeCell) (item : Item) → IsNaming name last last_then
    → AreMoved name last shown shown_then item.chain → IsItem usable last shown cell item
    → IsItem usable last_then shown_then (cell_renamed name cell) (item_renamed name item)
item_is_moved name usable last last_then shown shown_then cell item naming same is =
    let moved = chain_moved name usable last last_then shown shown_then cell.overflow (cell.payload - length cell.local) item.chain naming same is.chain in
    record { key = is.key; chain = moved.0; bytes = is.bytes ∙ ap (λ (bytes : List ℕ). cell.local ++ bytes) (sym moved.1) }

behind_moved : (name : ℕ → ℕ) (table : Bool) (item : Item) (items : List Item) → AreBehind table item items
    → AreBehind table (item_renamed name item) (map (item_renamed name) items)
behind_moved name true item items are = each-map _ (item_renamed name) items are
behind_moved name false item items are = tt

divided_moved : (name : ℕ → ℕ) (table : Bool) (cell : NodeCell) (under behind : List Item) → AreDivided table cell under behind
    → AreDivided table (cell_renamed name cell) (map (item_renamed name) under) (map (item_renamed name) behind)
divided_moved name true cell under behind are = (each-map _ (item_renamed name) under are.0, each-map _ (item_renamed name) behind are.1)
divided_moved name false cell under behind are = tt

own_moved : (name : ℕ → ℕ) (table : Bool) (usable last last_then : ℕ) (shown shown_then : Shown) (cell : NodeCell) (items : List Item) → IsNaming name last last_then
    → AreMoved name last shown shown_then (chains items) → IsOwn table usable last shown cell items
    → IsOwn table usable last_then shown_then (cell_renamed name cell) (map (item_renamed name) items)
own_moved name true usable last last_then shown shown_then cell items naming same is = ap (map (item_renamed name)) is
own_moved name false usable last last_then shown shown_then cell items naming same is = (
  item_renamed name is.0,
  ap (map (item_renamed name)) is.1,
  item_is_moved name usable last last_then shown shown_then cell is.0 naming
      (λ n there. same n (subst (λ (l : List Item). 1 ≤ times (chains l) n) (sym is.1) (omega (arith, there, times-append is.0.chain [] n)))) is.2,
)

items_moved : (name : ℕ → ℕ) (table : Bool) (usable last last_then : ℕ) (shown shown_then : Shown) (cells : List NodeCell) (items : List Item) → IsNaming name last last_then
    → AreMoved name last shown shown_then (chains items) → AreItems table usable last shown cells items
    → AreItems table usable last_then shown_then (map (cell_renamed name) cells) (map (item_renamed name) items)
items_moved name table usable last last_then shown shown_then [] [] naming same are = tt
items_moved name table usable last last_then shown shown_then [] (item ∷ items) naming same never = absurd never
items_moved name table usable last last_then shown shown_then (cell ∷ cells) [] naming same never = absurd never
items_moved name table usable last last_then shown shown_then (cell ∷ cells) (item ∷ items) naming same are = (
  item_is_moved name usable last last_then shown shown_then cell item naming (λ n there. same n (omega (arith, there, times-append item.chain (chains items) n))) are.0,
  behind_moved name table item items are.1,
  items_moved name table usable last last_then shown shown_then cells items naming (λ n there. same n (omega (arith, there, times-append item.chain (chains items) n))) are.2,
)

-- a property of subtrees
abbrev Subs : Type 1
Subs = ℕ → List ℕ → List Item → Type 0

-- three lists of pages, renamed
three_renamed : (name : ℕ → ℕ) (own under rest : List ℕ) (middle : List Item) → own ≡ under ++ (chains middle ++ rest)
    → map name own ≡ map name under ++ (chains (map (item_renamed name) middle) ++ map name rest)
three_renamed name own under rest middle is =
    ap (map name) is ∙ map-append name under (chains middle ++ rest)
    ∙ ap (λ (l : List ℕ). map name under ++ l) (map-append name (chains middle) rest ∙ ap (λ (l : List ℕ). l ++ map name rest) (sym (chains-renamed name middle)))

three_items : (name : ℕ → ℕ) (items under middle rest : List Item) → items ≡ under ++ (middle ++ rest)
    → map (item_renamed name) items ≡ map (item_renamed name) under ++ (map (item_renamed name) middle ++ map (item_renamed name) rest)
three_items name items under middle rest is =
    ap (map (item_renamed name)) is ∙ map-append (item_renamed name) under (middle ++ rest)
    ∙ ap (λ (l : List Item). map (item_renamed name) under ++ l) (map-append (item_renamed name) middle rest)

under_moved : (name : ℕ → ℕ) (table : Bool) (usable last last_then : ℕ) (shown shown_then : Shown) (IsSub IsSub_then : Subs) (cells : List NodeCell) (right : ℕ) (own : List ℕ)
    (items : List Item) → IsNaming name last last_then → AreMoved name last shown shown_then own
    → ((page : ℕ) (few : List ℕ) (some : List Item) → Among few own → IsSub page few some → IsSub_then (name page) (map name few) (map (item_renamed name) some))
    → AreUnder table usable last shown IsSub cells right own items
    → AreUnder table usable last_then shown_then IsSub_then (map (cell_renamed name) cells) (name right) (map name own) (map (item_renamed name) items)
under_moved name table usable last last_then shown shown_then IsSub IsSub_then [] right own items naming same moves under = moves right own items (λ n here. here) under
under_moved name table usable last last_then shown shown_then IsSub IsSub_then (cell ∷ cells) right own items naming same moves under =
    let behind = among_last under.under_own (chains under.middle ++ under.rest_own) own under.own_is in
    let last_among : Among under.rest_own own = λ n here. behind n (among_last (chains under.middle) under.rest_own (chains under.middle ++ under.rest_own) refl n here) in
    let middle_among : Among (chains under.middle) own = λ n here. behind n (among_first (chains under.middle) under.rest_own (chains under.middle ++ under.rest_own) refl n here) in
    record {
      under_own = map name under.under_own;
      rest_own = map name under.rest_own;
      under = map (item_renamed name) under.under;
      middle = map (item_renamed name) under.middle;
      rest = map (item_renamed name) under.rest;
      own_is = three_renamed name own under.under_own under.rest_own under.middle under.own_is;
      items_are = three_items name items under.under under.middle under.rest under.items_are;
      sub = moves cell.left under.under_own under.under (among_first under.under_own (chains under.middle ++ under.rest_own) own under.own_is) under.sub;
      middle_is = own_moved name table usable last last_then shown shown_then cell under.middle naming (λ n here. same n (middle_among n here)) under.middle_is;
      divided = divided_moved name table cell under.under under.rest under.divided;
      others = under_moved name table usable last last_then shown shown_then IsSub IsSub_then cells right under.rest_own under.rest naming (λ n here. same n (last_among n here))
          (λ page few some among. moves page few some (λ n here. last_among n (among n here))) under.others;
    }

-- what a page of a content holds, renamed, where its content is
holds_moved : (name : ℕ → ℕ) (last last_then : ℕ) (shown shown_then : Shown) (Now Then : Node → List ℕ → List Item → Type 0) (least page : ℕ) (own : List ℕ) (items : List Item)
    → IsNaming name last last_then → AreMoved name last shown shown_then own
    → ((node : Node) (below : List ℕ) → Among below own → Now node below items → Then (node_renamed name node) (map name below) (map (item_renamed name) items))
    → Holds shown least Now page own items → Holds shown_then least Then (name page) (map name own) (map (item_renamed name) items)
holds_moved name last last_then shown shown_then Now Then least page own items naming same moves is = record {
  node = node_renamed name is.node;
  holds = (same page (head_there page is.below own is.own_is)).node ∙ ap (shown_renamed name) is.holds;
  enough = enough_moved is.enough;
  below = map name is.below;
  content = moves is.node is.below (tail_there page is.below own is.own_is) is.content;
  own_is = ap (map name) is.own_is;
}
  where
    enough_moved : (page ≡ 1) ⊎ (least ≤ length is.node.cells) → (name page ≡ 1) ⊎ (least ≤ length (map (cell_renamed name) is.node.cells))
    enough_moved (inl first) = inl (ap name first ∙ naming.first)
    enough_moved (inr many) = inr (omega (arith, many, length-map is.node.cells (cell_renamed name)))

pub content_moved : (name : ℕ → ℕ) (table : Bool) (usable last last_then : ℕ) (shown shown_then : Shown) (height : ℕ) (node : Node) (below : List ℕ) (items : List Item)
    → IsNaming name last last_then → AreMoved name last shown shown_then below → Content table usable last shown height node below items
    → Content table usable last_then shown_then height (node_renamed name node) (map name below) (map (item_renamed name) items)
content_moved name table usable last last_then shown shown_then zero node below items naming same is = record {
  leaf = is.leaf;
  table_is = is.table_is;
  items_are = items_moved name table usable last last_then shown shown_then node.cells items naming
      (subst (AreMoved name last shown shown_then) is.below_is same) is.items_are;
  below_is = ap (map name) is.below_is ∙ sym (chains-renamed name items);
}
content_moved name table usable last last_then shown shown_then (suc height) node below items naming same is = record {
  inner = is.inner;
  table_is = is.table_is;
  under = under_moved name table usable last last_then shown shown_then (IsChild last shown (Content table usable last shown height))
      (IsChild last_then shown_then (Content table usable last_then shown_then height)) node.cells node.right below items naming same
      (λ page few some among child. record {
        least = (naming.others page child.least child.most).0;
        most = (naming.others page child.least child.most).1;
        holds = holds_moved name last last_then shown shown_then (Content table usable last shown height) (Content table usable last_then shown_then height) 1 page few some naming
            (λ n here. same n (among n here))
            (λ inner_node inner_below inside. content_moved name table usable last last_then shown shown_then height inner_node inner_below some naming
            (λ n here. same n (among n (inside n here)))) child.holds;
      }) is.under;
}

-- A tree is shown under the new numbers of its pages, and lists the same keys and payloads.
pub tree_moved : (name : ℕ → ℕ) (table : Bool) (usable last last_then : ℕ) (shown shown_then : Shown) (height page : ℕ) (own : List ℕ) (items : List Item)
    → IsNaming name last last_then → ((n : ℕ) → 1 ≤ times own n → IsMoved name last shown shown_then n) → IsTree table usable last shown height page own items
    → IsTree table usable last_then shown_then height (name page) (map name own) (map (item_renamed name) items)
tree_moved name table usable last last_then shown shown_then height page own items naming same tree =
    holds_moved name last last_then shown shown_then (Content table usable last shown height) (Content table usable last_then shown_then height) (root_least height) page own items naming same
    (λ node below inside. content_moved name table usable last last_then shown shown_then height node below items naming (λ n here. same n (inside n here))) tree
