-- What is under the cells of a page: cells divided at one of them, and put together.
use Rattle.std.proofs.Common.{◌≡◌, ℕ, zero, suc, ◌≤◌, Bool, List, [], ◌∷◌, ◌++◌, length, refl, sym, subst, ap, ◌∙◌, arith, inl, inr, append_assoc, length-append}
use Rattle.node_spec.specs.Cells.{NodeCell}
use Rattle.tree_spec.specs.Layout.{Each, Item, chains}
use Rattle.tree_spec.specs.Shown.{Shown}
use Rattle.tree_spec.specs.Trees.{IsOwn, AreItems, AreDivided, AreUnder}
use Rattle.edit_spec.specs.Places.{AreAbove, AreAtMost, IsLower}
use Rattle.edit_spec.specs.Edits.{IsSubtree}
use Rattle.edit_spec.proofs.Lists.{moved}
use Rattle.edit_spec.proofs.Orders.{above-append, above_first, upto-append, upto_last, above_lower, upto_higher, lower_between, own_above, own_upto, divided_upto, divided_above, divides}
use Rattle.edit_spec.proofs.Local.{Subtrees}

-- each of these subtrees lists something
abbrev pub ListSome : Subtrees → Type 0
ListSome IsSub = (page : ℕ) (own : List ℕ) (items : List Item) → IsSub page own items → 1 ≤ length items

pub under_some : (table : Bool) (usable last : ℕ) (shown : Shown) (IsSub : Subtrees) → ListSome IsSub → (cells : List NodeCell) (right : ℕ) (own : List ℕ) (items : List Item)
    → AreUnder table usable last shown IsSub cells right own items → 1 ≤ length items
under_some table usable last shown IsSub some [] right own items under = some right own items under
under_some table usable last shown IsSub some (cell ∷ cells) right own items under =
    subst (λ (l : List Item). 1 ≤ length l) (sym under.items_are)
    (omega (arith, some cell.left under.under_own under.under under.sub, length-append under.under (under.middle ++ under.rest)))

-- a leaf has as many items as cells
pub as_many : (table : Bool) (usable last : ℕ) (shown : Shown) (cells : List NodeCell) (items : List Item) → AreItems table usable last shown cells items → length items ≡ length cells
as_many table usable last shown [] [] are = refl
as_many table usable last shown [] (item ∷ items) never = absurd never
as_many table usable last shown (cell ∷ cells) [] never = absurd never
as_many table usable last shown (cell ∷ cells) (item ∷ items) are = omega (arith, as_many table usable last shown cells items are.2)

-- A child lists something, since it has a cell.
pub child_some : (table : Bool) (usable last : ℕ) (shown : Shown) (height : ℕ) → ListSome (IsSubtree table usable last shown height)
child_some table usable last shown zero page own items child = elim child.holds.enough [
  | inl first ↦ absurd (omega (arith, first, child.least))
  | inr enough ↦ omega (arith, enough, as_many table usable last shown child.holds.node.cells items child.holds.content.items_are)
]
child_some table usable last shown (suc height) page own items child =
    under_some table usable last shown (IsSubtree table usable last shown height) (child_some table usable last shown height)
    child.holds.node.cells child.holds.node.right child.holds.below items child.holds.content.under

-- What is under some cells and a child, then a cell that leads to this child, and what is under the cells behind it.
pub under_joined : (table : Bool) (usable last : ℕ) (shown : Shown) (IsSub : Subtrees) → ListSome IsSub → (news cells : List NodeCell) (cell : NodeCell) (right : ℕ) (a b : List ℕ)
    (x middle y : List Item) → AreUnder table usable last shown IsSub news cell.left a x → IsOwn table usable last shown cell middle → AreDivided table cell x y
    → AreUnder table usable last shown IsSub cells right b y → AreUnder table usable last shown IsSub (news ++ (cell ∷ cells)) right (a ++ (chains middle ++ b)) (x ++ (middle ++ y))
under_joined table usable last shown IsSub some [] cells cell right a b x middle y one own_is divided two = record {
  under_own = a;
  rest_own = b;
  under = x;
  middle = middle;
  rest = y;
  own_is = refl;
  items_are = refl;
  sub = one;
  middle_is = own_is;
  divided = divided;
  others = two;
}
under_joined table usable last shown IsSub some (new ∷ news) cells cell right a b x middle y one own_is divided two =
    let up_to : AreAtMost table cell.rowid one.rest =
    upto_last table cell.rowid one.middle one.rest
    (upto_last table cell.rowid one.under (one.middle ++ one.rest) (subst (AreAtMost table cell.rowid) one.items_are (divided_upto table cell x y divided))) in
    let above : AreAbove table cell.rowid y = divided_above table cell x y divided in
    let new_above : AreAbove table new.rowid one.rest = divided_above table new one.under one.rest one.divided in
    let lower : IsLower table new.rowid cell.rowid =
    lower_between table one.rest new.rowid cell.rowid (under_some table usable last shown IsSub some news cell.left one.rest_own one.rest one.others) new_above up_to in
    record {
      under_own = one.under_own;
      rest_own = one.rest_own ++ (chains middle ++ b);
      under = one.under;
      middle = one.middle;
      rest = one.rest ++ (middle ++ y);
      own_is = ap (λ (l : List ℕ). l ++ (chains middle ++ b)) one.own_is ∙ (append_assoc one.under_own (chains one.middle ++ one.rest_own) (chains middle ++ b)
          ∙ ap (λ (l : List ℕ). one.under_own ++ l) (append_assoc (chains one.middle) one.rest_own (chains middle ++ b)));
      items_are = ap (λ (l : List Item). l ++ (middle ++ y)) one.items_are ∙ (append_assoc one.under (one.middle ++ one.rest) (middle ++ y)
          ∙ ap (λ (l : List Item). one.under ++ l) (append_assoc one.middle one.rest (middle ++ y)));
      sub = one.sub;
      middle_is = one.middle_is;
      divided = divides table new one.under (one.rest ++ (middle ++ y)) (divided_upto table new one.under one.rest one.divided)
          (above-append table new.rowid one.rest (middle ++ y) new_above
          (above-append table new.rowid middle y (own_above table usable last shown cell new.rowid middle own_is) (above_lower table new.rowid cell.rowid y lower above)));
      others = under_joined table usable last shown IsSub some news cells cell right one.rest_own b one.rest middle y one.others own_is (divides table cell one.rest y up_to above) two;
    }

-- What is under cells that are divided at one of them, and what that one lists itself.
pub record CutUnder (table : Bool) (usable last : ℕ) (shown : Shown) (IsSub : Subtrees) (cells rest : List NodeCell) (cell : NodeCell) (right : ℕ) (own : List ℕ) (items : List Item)
    : Type 0 where
  pub left_own : List ℕ
  pub rest_own : List ℕ
  pub left_items : List Item
  pub middle : List Item
  pub rest_items : List Item
  pub own_is : own ≡ left_own ++ (chains middle ++ rest_own)
  pub items_are : items ≡ left_items ++ (middle ++ rest_items)
  pub left_under : AreUnder table usable last shown IsSub cells cell.left left_own left_items
  pub middle_is : IsOwn table usable last shown cell middle
  pub divided : AreDivided table cell left_items rest_items
  pub rest_under : AreUnder table usable last shown IsSub rest right rest_own rest_items
  pub rising : Each (λ (c : NodeCell). IsLower table c.rowid cell.rowid) cells

pub cut_under : (table : Bool) (usable last : ℕ) (shown : Shown) (IsSub : Subtrees) → ListSome IsSub → (cells rest : List NodeCell) (cell : NodeCell) (right : ℕ) (own : List ℕ)
    (items : List Item) → AreUnder table usable last shown IsSub (cells ++ (cell ∷ rest)) right own items → CutUnder table usable last shown IsSub cells rest cell right own items
cut_under table usable last shown IsSub some [] rest cell right own items under = record {
  left_own = under.under_own;
  rest_own = under.rest_own;
  left_items = under.under;
  middle = under.middle;
  rest_items = under.rest;
  own_is = under.own_is;
  items_are = under.items_are;
  left_under = under.sub;
  middle_is = under.middle_is;
  divided = under.divided;
  rest_under = under.others;
  rising = tt;
}
cut_under table usable last shown IsSub some (first ∷ cells) rest cell right own items under =
    let later = cut_under table usable last shown IsSub some cells rest cell right under.rest_own under.rest under.others in
    let above : AreAbove table first.rowid (later.left_items ++ (later.middle ++ later.rest_items)) =
    subst (AreAbove table first.rowid) later.items_are (divided_above table first under.under under.rest under.divided) in
    let left_above = above_first table first.rowid later.left_items (later.middle ++ later.rest_items) above in
    let left_upto = divided_upto table cell later.left_items later.rest_items later.divided in
    let first_upto = divided_upto table first under.under under.rest under.divided in
    let lower : IsLower table first.rowid cell.rowid =
    lower_between table later.left_items first.rowid cell.rowid (under_some table usable last shown IsSub some cells cell.left later.left_own later.left_items later.left_under) left_above left_upto in
    record {
      left_own = under.under_own ++ (chains under.middle ++ later.left_own);
      rest_own = later.rest_own;
      left_items = under.under ++ (under.middle ++ later.left_items);
      middle = later.middle;
      rest_items = later.rest_items;
      own_is = under.own_is ∙ moved under.under_own (chains under.middle) under.rest_own later.left_own (chains later.middle ++ later.rest_own) later.own_is;
      items_are = under.items_are ∙ moved under.under under.middle under.rest later.left_items (later.middle ++ later.rest_items) later.items_are;
      left_under = record {
        under_own = under.under_own;
        rest_own = later.left_own;
        under = under.under;
        middle = under.middle;
        rest = later.left_items;
        own_is = refl;
        items_are = refl;
        sub = under.sub;
        middle_is = under.middle_is;
        divided = divides table first under.under later.left_items first_upto left_above;
        others = later.left_under;
      };
      middle_is = later.middle_is;
      divided = divides table cell (under.under ++ (under.middle ++ later.left_items)) later.rest_items
          (upto-append table cell.rowid under.under (under.middle ++ later.left_items) (upto_higher table first.rowid cell.rowid under.under lower first_upto)
          (upto-append table cell.rowid under.middle later.left_items (own_upto table usable last shown first cell.rowid under.middle under.middle_is) left_upto))
          (divided_above table cell later.left_items later.rest_items later.divided);
      rest_under = later.rest_under;
      rising = (lower, later.rising);
    }
