-- What is under a rowid's place is all that may have the rowid.
use Rattle.std.proofs.Common.{ℕ, ℤ, zero, suc, ◌<◌, ◌≤◌, ◌<ℤ◌, ◌≤ℤ◌, true, List, [], ◌∷◌, ◌++◌, length, refl, sym, subst, ap, ◌∙◌, arith, inl, inr, append_assoc, append-nil, length-append}
use Rattle.std.proofs.lemmas.Int.{ints}
use Rattle.std.specs.Prelude.{slice_index_or}
use Rattle.node_spec.specs.Cells.{NodeCell}
use Rattle.node_spec.specs.Nodes.{Node, no_cell}
use Rattle.tree_spec.specs.Layout.{Each, Item}
use Rattle.tree_spec.specs.Shown.{Shown}
use Rattle.tree_spec.specs.Trees.{AreItems, AreUnder, IsChild, Content}
use Rattle.tree_spec.proofs.Lists.{each-append}
use Rattle.tree_read.specs.Ways.{StandsAt, child_at, IsAround}

-- integers in order
below_at : (low middle high : ℤ) → low ≤ℤ middle → middle <ℤ high → low <ℤ high
below_at low middle high p q = omega (arith, ints)

at_below : (low middle high : ℤ) → low <ℤ middle → middle ≤ℤ high → low <ℤ high
at_below low middle high p q = omega (arith, ints)

pub both_below : (low middle high : ℤ) → low <ℤ middle → middle <ℤ high → low <ℤ high
both_below low middle high p q = omega (arith, ints)

pub weaker : {X : Type 0} (P Q : X → Type 0) (xs : List X) → ((x : X) → P x → Q x) → Each P xs → Each Q xs
weaker P Q [] on all = tt
weaker P Q (x ∷ xs) on all = (on x all.0, weaker P Q xs on all.1)

pub each_first : {X : Type 0} (P : X → Type 0) (a b : List X) → Each P (a ++ b) → Each P a
each_first P [] b all = tt
each_first P (x ∷ xs) b all = (all.0, each_first P xs b all.1)

pub each_last : {X : Type 0} (P : X → Type 0) (a b : List X) → Each P (a ++ b) → Each P b
each_last P [] b all = all
each_last P (x ∷ xs) b all = each_last P xs b all.1

-- around what is around
pub around_join : (rowid : ℤ) (items between some : List Item) → IsAround rowid items between → IsAround rowid between some → IsAround rowid items some
around_join rowid items between some outer inner = record {
  front = outer.front ++ inner.front;
  back = inner.back ++ outer.back;
  items_are = outer.items_are ∙ ap (λ (l : List Item). outer.front ++ (l ++ outer.back)) inner.items_are
      ∙ ap (λ (l : List Item). outer.front ++ l) (append_assoc inner.front (some ++ inner.back) outer.back
      ∙ ap (λ (l : List Item). inner.front ++ l) (append_assoc some inner.back outer.back))
      ∙ sym (append_assoc outer.front inner.front (some ++ (inner.back ++ outer.back)));
  less = each-append (λ (item : Item). item.key <ℤ rowid) outer.front inner.front outer.less inner.less;
  more = each-append (λ (item : Item). rowid <ℤ item.key) inner.back outer.back inner.more outer.more;
}

-- smaller keys before
pub around_behind : (rowid : ℤ) (before items some : List Item) → Each (λ (item : Item). item.key <ℤ rowid) before → IsAround rowid items some
    → IsAround rowid (before ++ items) some
around_behind rowid before items some less around = record {
  front = before ++ around.front;
  back = around.back;
  items_are = ap (λ (l : List Item). before ++ l) around.items_are ∙ sym (append_assoc before around.front (some ++ around.back));
  less = each-append (λ (item : Item). item.key <ℤ rowid) before around.front less around.less;
  more = around.more;
}

-- a property of subtrees
abbrev pub Subs : Type 1
Subs = ℕ → List ℕ → List Item → Type 0

abbrev pub ListsSome : Subs → Type 0
ListsSome IsSub = (page : ℕ) (own : List ℕ) (items : List Item) → IsSub page own items → 1 ≤ length items

-- a cell has a greater rowid than what is smaller than all that is listed
pub cell_above : (usable last : ℕ) (shown : Shown) (IsSub : Subs) → ListsSome IsSub → (low : ℤ) (cells : List NodeCell) (right : ℕ) (own : List ℕ) (items : List Item) (j : ℕ)
    → AreUnder true usable last shown IsSub cells right own items → Each (λ (item : Item). low <ℤ item.key) items → j < length cells
    → low <ℤ (slice_index_or cells j no_cell).rowid
cell_above usable last shown IsSub some low [] right own items j under all inside = absurd (omega (arith, inside))
cell_above usable last shown IsSub some low (cell ∷ cells) right own items zero under all inside =
    by_first under.under (some cell.left under.under_own under.under under.sub)
    (each_first (λ (item : Item). low <ℤ item.key) under.under (under.middle ++ under.rest) (subst (Each (λ (item : Item). low <ℤ item.key)) under.items_are all)) under.divided.0
  where
    by_first : (list : List Item) → 1 ≤ length list → Each (λ (item : Item). low <ℤ item.key) list → Each (λ (item : Item). item.key ≤ℤ cell.rowid) list → low <ℤ cell.rowid
    by_first [] many low_each high_each = absurd (omega (arith, many))
    by_first (item ∷ list) many low_each high_each = at_below low item.key cell.rowid low_each.0 high_each.0
cell_above usable last shown IsSub some low (cell ∷ cells) right own items (suc j) under all inside =
    cell_above usable last shown IsSub some low cells right under.rest_own under.rest j under.others
    (each_last (λ (item : Item). low <ℤ item.key) under.middle under.rest
    (each_last (λ (item : Item). low <ℤ item.key) under.under (under.middle ++ under.rest) (subst (Each (λ (item : Item). low <ℤ item.key)) under.items_are all)))
    (omega (arith, inside))

-- the place among the cells behind the first
pub stands_behind : (cell : NodeCell) (cells : List NodeCell) (rowid : ℤ) (k : ℕ) → StandsAt (cell ∷ cells) rowid (suc k) → StandsAt cells rowid k
stands_behind cell cells rowid k stands = record {
  most = omega (arith, stands.most);
  above = λ j is. stands.above (suc j) (ap suc is);
  below = λ inside. stands.below (omega (arith, inside));
}

-- What is under a place, in a subtree that is one of those under the cells.
pub record Found (IsSub : Subs) (rowid : ℤ) (child : ℕ) (items : List Item) : Type 0 where
  pub own : List ℕ
  pub some : List Item
  pub sub : IsSub child own some
  pub around : IsAround rowid items some

pub under_place : (usable last : ℕ) (shown : Shown) (IsSub : Subs) → ListsSome IsSub → (rowid : ℤ) (cells : List NodeCell) (right : ℕ) (own : List ℕ) (items : List Item) (place : ℕ)
    → AreUnder true usable last shown IsSub cells right own items → StandsAt cells rowid place → Found IsSub rowid (child_at cells right place) items
under_place usable last shown IsSub some rowid [] right own items place under stands = record {
  own = own;
  some = items;
  sub = under;
  around = record { front = []; back = []; items_are = sym (append-nil items); less = tt; more = tt };
}
under_place usable last shown IsSub some rowid (cell ∷ cells) right own items zero under stands = record {
  own = under.under_own;
  some = under.under;
  sub = under.sub;
  around = record {
    front = [];
    back = under.rest;
    items_are = under.items_are ∙ ap (λ (l : List Item). under.under ++ (l ++ under.rest)) under.middle_is;
    less = tt;
    more = weaker (λ (item : Item). cell.rowid <ℤ item.key) (λ (item : Item). rowid <ℤ item.key) under.rest
        (λ item above. below_at rowid cell.rowid item.key (stands.below (omega arith)) above) under.divided.1;
  };
}
under_place usable last shown IsSub some rowid (cell ∷ cells) right own items (suc k) under stands =
    let found = under_place usable last shown IsSub some rowid cells right under.rest_own under.rest k under.others (stands_behind cell cells rowid k stands) in
    let less : Each (λ (item : Item). item.key <ℤ rowid) under.under =
    weaker (λ (item : Item). item.key ≤ℤ cell.rowid) (λ (item : Item). item.key <ℤ rowid) under.under
    (λ item most. below_at item.key cell.rowid rowid most (by_place k stands)) under.divided.0 in
    record {
      own = found.own;
      some = found.some;
      sub = found.sub;
      around = subst (λ (l : List Item). IsAround rowid l found.some)
          (sym (under.items_are ∙ ap (λ (l : List Item). under.under ++ (l ++ under.rest)) under.middle_is))
          (around_behind rowid under.under under.rest found.some less found.around);
    }
  where
    by_place : (k : ℕ) → StandsAt (cell ∷ cells) rowid (suc k) → cell.rowid <ℤ rowid
    by_place zero stands = stands.above zero refl
    by_place (suc j) stands =
        both_below cell.rowid (slice_index_or cells j no_cell).rowid rowid
        (cell_above usable last shown IsSub some cell.rowid cells right under.rest_own under.rest j under.others under.divided.1 (omega (arith, stands.most)))
        (stands.above (suc j) refl)

-- under a cell something is listed
under_some : (usable last : ℕ) (shown : Shown) (IsSub : Subs) → ListsSome IsSub → (cells : List NodeCell) (right : ℕ) (own : List ℕ) (items : List Item)
    → AreUnder true usable last shown IsSub cells right own items → 1 ≤ length cells → 1 ≤ length items
under_some usable last shown IsSub some [] right own items under many = absurd (omega (arith, many))
under_some usable last shown IsSub some (cell ∷ cells) right own items under many =
    subst (λ (l : List Item). 1 ≤ length l) (sym under.items_are)
    (omega (arith, some cell.left under.under_own under.under under.sub, length-append under.under (under.middle ++ under.rest)))

-- a node with a cell lists something
pub lists_some : (usable last : ℕ) (shown : Shown) (height : ℕ) (node : Node) (below : List ℕ) (items : List Item) → Content true usable last shown height node below items
    → 1 ≤ length node.cells → 1 ≤ length items
lists_some usable last shown zero node below items is many = by_cells node.cells items is.items_are many
  where
    by_cells : (cells : List NodeCell) (items : List Item) → AreItems true usable last shown cells items → 1 ≤ length cells → 1 ≤ length items
    by_cells [] items are many = absurd (omega (arith, many))
    by_cells (cell ∷ cells) [] never many = absurd never
    by_cells (cell ∷ cells) (item ∷ items) are many = omega arith
lists_some usable last shown (suc height) node below items is many =
    under_some usable last shown (IsChild last shown (Content true usable last shown height)) (λ page own some child. elim child.holds.enough [
      | inl first ↦ absurd (omega (arith, first, child.least))
      | inr enough ↦ lists_some usable last shown height child.holds.node child.holds.below some child.holds.content enough
    ]) node.cells node.right below items is.under many

-- so does each child
pub child_some : (usable last : ℕ) (shown : Shown) (height : ℕ) → ListsSome (IsChild last shown (Content true usable last shown height))
child_some usable last shown height page own some child = elim child.holds.enough [
  | inl first ↦ absurd (omega (arith, first, child.least))
  | inr enough ↦ lists_some usable last shown height child.holds.node child.holds.below some child.holds.content enough
]
