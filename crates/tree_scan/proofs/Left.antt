-- What is left of one page.
use Rattle.std.proofs.Common.{◌≡◌, ℕ, zero, suc, ◌<◌, ◌≤◌, Bool, true, false, List, [], ◌∷◌, ◌++◌, length, refl, sym, subst, ap, ◌∙◌, arith, append-nil}
use Rattle.std.specs.Prelude.{slice_index_or}
use Rattle.node_spec.specs.Cells.{NodeCell}
use Rattle.node_spec.specs.Kinds.{is_leaf}
use Rattle.node_spec.specs.Nodes.{Node, no_cell}
use Rattle.tree_spec.specs.Shown.{Shown}
use Rattle.tree_spec.specs.Layout.{Item, chains}
use Rattle.tree_spec.specs.Trees.{IsItem, AreUnder, IsChild, Content}
use Rattle.tree_read.specs.Ways.{child_at}
use Rattle.tree_scan.specs.Coming.{LeftItems, LeftUnder, LeftBehind, LeftFrom, Rests}

-- the item at a place, and those behind it
pub record FirstItem (table : Bool) (usable last : ℕ) (shown : Shown) (place : ℕ) (cells : List NodeCell) (items : List Item) : Type 0 where
  pub item : Item
  pub rest : List Item
  pub items_are : items ≡ item ∷ rest
  pub is_item : IsItem usable last shown (slice_index_or cells place no_cell) item
  pub left : LeftItems table usable last shown (suc place) cells rest

pub first_item : (table : Bool) (usable last : ℕ) (shown : Shown) (place : ℕ) (cells : List NodeCell) (items : List Item) → place < length cells
    → LeftItems table usable last shown place cells items → FirstItem table usable last shown place cells items
first_item table usable last shown place [] items inside left = absurd (omega (arith, inside))
first_item table usable last shown zero (cell ∷ cells) [] inside never = absurd never
first_item table usable last shown zero (cell ∷ cells) (item ∷ items) inside left = record {
  item = item;
  rest = items;
  items_are = refl;
  is_item = left.0;
  left = left.2;
}
first_item table usable last shown (suc place) (cell ∷ cells) items inside left =
    let found = first_item table usable last shown place cells items (omega (arith, inside)) left in
    record { item = found.item; rest = found.rest; items_are = found.items_are; is_item = found.is_item; left = found.left }

pub no_item : (table : Bool) (usable last : ℕ) (shown : Shown) (place : ℕ) (cells : List NodeCell) (items : List Item) → length cells ≤ place
    → LeftItems table usable last shown place cells items → items ≡ []
no_item table usable last shown zero [] [] past left = refl
no_item table usable last shown zero [] (item ∷ items) past never = absurd never
no_item table usable last shown zero (cell ∷ cells) items past left = absurd (omega (arith, past))
no_item table usable last shown (suc place) [] items past left = left
no_item table usable last shown (suc place) (cell ∷ cells) items past left = no_item table usable last shown place cells items (omega (arith, past)) left

-- what is under the child at a place, and behind it
pub record FirstChild (table : Bool) (usable last : ℕ) (shown : Shown) (IsSub : ℕ → List ℕ → List Item → Type 0) (place : ℕ) (cells : List NodeCell) (right : ℕ) (own : List ℕ)
    (items : List Item) : Type 0 where
  pub under_own : List ℕ
  pub rest_own : List ℕ
  pub under : List Item
  pub rest : List Item
  pub own_is : own ≡ under_own ++ rest_own
  pub items_are : items ≡ under ++ rest
  pub sub : IsSub (child_at cells right place) under_own under
  pub left : LeftBehind table usable last shown IsSub place cells right rest_own rest

pub first_child : (table : Bool) (usable last : ℕ) (shown : Shown) (IsSub : ℕ → List ℕ → List Item → Type 0) (place : ℕ) (cells : List NodeCell) (right : ℕ) (own : List ℕ)
    (items : List Item) → place ≤ length cells → LeftUnder table usable last shown IsSub place cells right own items
    → FirstChild table usable last shown IsSub place cells right own items
first_child table usable last shown IsSub zero [] right own items inside left = record {
  under_own = own;
  rest_own = [];
  under = items;
  rest = [];
  own_is = sym (append-nil own);
  items_are = sym (append-nil items);
  sub = left;
  left = (refl, refl);
}
first_child table usable last shown IsSub zero (cell ∷ cells) right own items inside left = record {
  under_own = left.under_own;
  rest_own = chains left.middle ++ left.rest_own;
  under = left.under;
  rest = left.middle ++ left.rest;
  own_is = left.own_is;
  items_are = left.items_are;
  sub = left.sub;
  left = record {
    rest_own = left.rest_own;
    middle = left.middle;
    rest = left.rest;
    own_is = refl;
    items_are = refl;
    middle_is = left.middle_is;
    others = left.others;
  };
}
first_child table usable last shown IsSub (suc place) [] right own items inside left = absurd (omega (arith, inside))
first_child table usable last shown IsSub (suc place) (cell ∷ cells) right own items inside left =
    let found = first_child table usable last shown IsSub place cells right own items (omega (arith, inside)) left in
    record {
      under_own = found.under_own;
      rest_own = found.rest_own;
      under = found.under;
      rest = found.rest;
      own_is = found.own_is;
      items_are = found.items_are;
      sub = found.sub;
      left = found.left;
    }

-- in a table a cell lists nothing
pub behind_under : (usable last : ℕ) (shown : Shown) (IsSub : ℕ → List ℕ → List Item → Type 0) (place : ℕ) (cells : List NodeCell) (right : ℕ) (own : List ℕ) (items : List Item)
    → LeftBehind true usable last shown IsSub place cells right own items → LeftUnder true usable last shown IsSub (suc place) cells right own items
behind_under usable last shown IsSub zero [] right own items left = left
behind_under usable last shown IsSub zero (cell ∷ cells) right own items left =
    subst (λ (o : List ℕ). AreUnder true usable last shown IsSub cells right o items) (sym (left.own_is ∙ ap (λ (m : List Item). chains m ++ left.rest_own) left.middle_is))
    (subst (λ (l : List Item). AreUnder true usable last shown IsSub cells right left.rest_own l) (sym (left.items_are ∙ ap (λ (m : List Item). m ++ left.rest) left.middle_is)) left.others)
behind_under usable last shown IsSub (suc place) [] right own items left = left
behind_under usable last shown IsSub (suc place) (cell ∷ cells) right own items left = behind_under usable last shown IsSub place cells right own items left

-- in an index it lists its entry
pub record FirstOwn (usable last : ℕ) (shown : Shown) (IsSub : ℕ → List ℕ → List Item → Type 0) (place : ℕ) (cells : List NodeCell) (right : ℕ) (own : List ℕ) (items : List Item) : Type 0 where
  pub item : Item
  pub rest_own : List ℕ
  pub rest : List Item
  pub own_is : own ≡ item.chain ++ rest_own
  pub items_are : items ≡ item ∷ rest
  pub is_item : IsItem usable last shown (slice_index_or cells place no_cell) item
  pub left : LeftUnder false usable last shown IsSub (suc place) cells right rest_own rest

pub first_own : (usable last : ℕ) (shown : Shown) (IsSub : ℕ → List ℕ → List Item → Type 0) (place : ℕ) (cells : List NodeCell) (right : ℕ) (own : List ℕ) (items : List Item)
    → place < length cells → LeftBehind false usable last shown IsSub place cells right own items → FirstOwn usable last shown IsSub place cells right own items
first_own usable last shown IsSub place [] right own items inside left = absurd (omega (arith, inside))
first_own usable last shown IsSub zero (cell ∷ cells) right own items inside left =
    let item = left.middle_is.0 in
    let are = left.middle_is.1 in
    record {
      item = item;
      rest_own = left.rest_own;
      rest = left.rest;
      own_is = left.own_is ∙ ap (λ (m : List Item). chains m ++ left.rest_own) are ∙ ap (λ (c : List ℕ). c ++ left.rest_own) (append-nil item.chain);
      items_are = left.items_are ∙ ap (λ (m : List Item). m ++ left.rest) are;
      is_item = left.middle_is.2;
      left = left.others;
    }
first_own usable last shown IsSub (suc place) (cell ∷ cells) right own items inside left =
    let found = first_own usable last shown IsSub place cells right own items (omega (arith, inside)) left in
    record {
      item = found.item;
      rest_own = found.rest_own;
      rest = found.rest;
      own_is = found.own_is;
      items_are = found.items_are;
      is_item = found.is_item;
      left = found.left;
    }

-- nothing is left
pub no_child : (table : Bool) (usable last : ℕ) (shown : Shown) (IsSub : ℕ → List ℕ → List Item → Type 0) (place : ℕ) (cells : List NodeCell) (right : ℕ) (own : List ℕ) (items : List Item)
    → length cells < place → LeftUnder table usable last shown IsSub place cells right own items → (own ≡ []) × (items ≡ [])
no_child table usable last shown IsSub zero cells right own items past left = absurd (omega (arith, past))
no_child table usable last shown IsSub (suc place) [] right own items past left = left
no_child table usable last shown IsSub (suc place) (cell ∷ cells) right own items past left =
    no_child table usable last shown IsSub place cells right own items (omega (arith, past)) left

no_own : (table : Bool) (usable last : ℕ) (shown : Shown) (IsSub : ℕ → List ℕ → List Item → Type 0) (place : ℕ) (cells : List NodeCell) (right : ℕ) (own : List ℕ) (items : List Item)
    → length cells ≤ place → LeftBehind table usable last shown IsSub place cells right own items → (own ≡ []) × (items ≡ [])
no_own table usable last shown IsSub zero [] right own items past left = left
no_own table usable last shown IsSub zero (cell ∷ cells) right own items past left = absurd (omega (arith, past))
no_own table usable last shown IsSub (suc place) [] right own items past left = left
no_own table usable last shown IsSub (suc place) (cell ∷ cells) right own items past left =
    no_own table usable last shown IsSub place cells right own items (omega (arith, past)) left

pub rests_none : (table : Bool) (usable last : ℕ) (shown : Shown) (height : ℕ) (node : Node) (place : ℕ) (at_cell : Bool) (own : List ℕ) (items : List Item)
    → (is_leaf node.kind ≡ true → at_cell ≡ true) → (at_cell ≡ true → length node.cells ≤ place) → (at_cell ≡ false → length node.cells < place)
    → Rests table usable last shown height node place at_cell own items → (own ≡ []) × (items ≡ [])
rests_none table usable last shown zero node place at_cell own items leaf cell child rests =
    let none : items ≡ [] = no_item table usable last shown place node.cells items (cell (leaf rests.0)) rests.1 in
    (rests.2 ∙ ap chains none, none)
rests_none table usable last shown (suc height) node place true own items leaf cell child rests =
    no_own table usable last shown (IsChild last shown (Content table usable last shown height)) place node.cells node.right own items (cell refl) rests.1
rests_none table usable last shown (suc height) node place false own items leaf cell child rests =
    no_child table usable last shown (IsChild last shown (Content table usable last shown height)) place node.cells node.right own items (child refl) rests.1

-- a node of a tree, from its front
pub from_front : (table : Bool) (usable last : ℕ) (shown : Shown) (height : ℕ) (node : Node) (at_cell : Bool) (below : List ℕ) (items : List Item) → at_cell ≡ is_leaf node.kind
    → Content table usable last shown height node below items → Rests table usable last shown height node 0 at_cell below items
from_front table usable last shown zero node at_cell below items is content = (content.leaf, content.items_are, content.below_is)
from_front table usable last shown (suc height) node at_cell below items is content = (
  content.inner,
  subst (λ (b : Bool). LeftFrom b table usable last shown (IsChild last shown (Content table usable last shown height)) 0 node.cells node.right below items) (sym (is ∙ content.inner))
      content.under,
)
