-- Locality: a tree is what its own pages show. Another view that shows the same there has the same tree.
use Rattle.std.proofs.Common.{◌≡◌, ℕ, ◌≤◌, Bool, List, [], ◌∷◌, map, refl, sym, subst, ap, ap₂, ◌∙◌, arith, Option, Some, None, inl, inr, eq-eqb, drop}
use Rattle.node_spec.specs.Cells.{NodeCell}
use Rattle.node_spec.specs.Nodes.{Node, node_of}
use Rattle.tree_spec.specs.Layout.{times, Item}
use Rattle.std.specs.Prelude.{◌==◌}
use Rattle.std.proofs.lemmas.Bool.{cases_eq}
use Rattle.page_spec.specs.View.{View}
use Rattle.node_spec.proofs.NodeLaws.{first_alike}
use Rattle.tree_spec.specs.Shown.{Shown, IsAlike, shown_by, link_in}
use Rattle.tree_spec.specs.Chains.{IsChain, chain_bytes}
use Rattle.tree_spec.specs.Trees.{IsTree}
use Rattle.tree_spec.specs.Renaming.{cell_renamed, shown_renamed, item_renamed, IsRenamed, IsNaming}
use Rattle.tree_spec.proofs.Renamed.{chain_renamed, tree_renamed}

-- the name of each page that is its own number
abbrev own_name : ℕ → ℕ
own_name page = page

own_naming : (last last_then : ℕ) → last ≤ last_then → IsNaming own_name last last_then
own_naming last last_then more = record {
  none = refl;
  first = refl;
  others = λ page low high. (low, omega arith);
  once = λ page other a b c d same. same;
}

pages_same : (pages : List ℕ) → map own_name pages ≡ pages
pages_same [] = refl
pages_same (page ∷ pages) = ap (λ (l : List ℕ). page ∷ l) (pages_same pages)

cells_same : (cells : List NodeCell) → map (cell_renamed own_name) cells ≡ cells
cells_same [] = refl
cells_same (cell ∷ cells) = ap (λ (l : List NodeCell). cell ∷ l) (cells_same cells)

items_same : (items : List Item) → map (item_renamed own_name) items ≡ items
items_same [] = refl
items_same (item ∷ items) = ap₂ ◌∷◌ (ap (λ (l : List ℕ). let i : Item = record item { chain = l } in i) (pages_same item.chain)) (items_same items)

shown_same : (node : Option Node) → shown_renamed own_name node ≡ node
shown_same None = refl
shown_same (Some node) = ap (λ (l : List NodeCell). let n : Node = record node { cells = l } in Some n) (cells_same node.cells)

alike_renamed : (shown shown_then : Shown) (page : ℕ) → IsAlike shown shown_then page → IsRenamed own_name shown shown_then page
alike_renamed shown shown_then page alike = record {
  node = alike.node ∙ sym (shown_same (shown.node page));
  link = λ later. alike.link later;
}

pub chain_local : (usable last last_then : ℕ) (shown shown_then : Shown) (first size : ℕ) (pages : List ℕ) → last ≤ last_then
    → ((n : ℕ) → 1 ≤ times pages n → IsAlike shown shown_then n) → IsChain usable last shown first size pages
    → IsChain usable last_then shown_then first size pages × (chain_bytes usable shown_then pages size ≡ chain_bytes usable shown pages size)
chain_local usable last last_then shown shown_then first size pages more same chain =
    let moved = chain_renamed own_name usable last last_then shown shown_then first size pages (own_naming last last_then more) (λ n there. alike_renamed shown shown_then n (same n there)) chain in (
      subst (λ (l : List ℕ). IsChain usable last_then shown_then first size l) (pages_same pages) moved.0,
      subst (λ (l : List ℕ). chain_bytes usable shown_then l size ≡ chain_bytes usable shown pages size) (pages_same pages) moved.1,
    )

-- A tree stays where its pages, and those of its items' chains, show the same.
pub tree_local : (table : Bool) (usable last last_then : ℕ) (shown shown_then : Shown) (height page : ℕ) (own : List ℕ) (items : List Item) → last ≤ last_then
    → ((n : ℕ) → 1 ≤ times own n → IsAlike shown shown_then n) → IsTree table usable last shown height page own items
    → IsTree table usable last_then shown_then height page own items
tree_local table usable last last_then shown shown_then height page own items more same tree =
    let moved = tree_renamed own_name table usable last last_then shown shown_then height page own items (own_naming last last_then more)
    (λ n there. alike_renamed shown shown_then n (same n there)) tree in
    let pages = subst (λ (l : List ℕ). IsTree table usable last_then shown_then height page l (map (item_renamed own_name) items)) (pages_same own) moved in
    subst (λ (l : List Item). IsTree table usable last_then shown_then height page own l) (items_same items) pages

-- Bytes that show the same: those of a page, and of page 1 those from byte 100 on. So a tree stays where two views agree on its pages.
pub alike_by_bytes : (usable : ℕ) (view view_then : View) (page : ℕ) → 1 ≤ page → (page ≡ 1 → drop 100 (view_then page) ≡ drop 100 (view page))
    → (2 ≤ page → view_then page ≡ view page) → IsAlike (shown_by usable view) (shown_by usable view_then) page
alike_by_bytes usable view view_then page some first other =
    elim (cases_eq page 1) [
      | inl one ↦
          record {
            node = rw (eq-eqb page 1 one) (first_alike usable (view_then page) (view page) (first one));
            link = λ later. absurd (omega arith);
          }
      | inr more ↦
          let same : view_then page ≡ view page = other (omega (arith, more)) in
          record {
            node = ap (node_of usable (page == 1)) same;
            link = λ later. ap (link_in usable) same;
          }
    ]
