-- The place of an item in a list that is in order, from what stands beside the place.
use Rattle.std.proofs.Common.{◌≡◌, ℕ, ◌≤◌, Bool, false, List, [], ◌∷◌, ◌++◌, length, refl, sym, subst, ap, ◌∙◌, arith, length-append}
use Rattle.node_spec.specs.Cells.{NodeCell}
use Rattle.tree_spec.specs.Layout.{Each, Item}
use Rattle.tree_spec.specs.Shown.{Shown}
use Rattle.tree_spec.specs.Trees.{IsItem, AreItems}
use Rattle.edit_spec.specs.Places.{Gap, EndsIn, BeginsIn, TakesItem}
use Rattle.edit_spec.specs.Edits.{Exchanges}
use Rattle.edit_spec.proofs.Lists.{each_first, each_last}
use Rattle.edit_spec.proofs.Runs.{BeginWithOwn, EndWithOwn}

-- each item stands so to each of those behind it
abbrev pub AreInOrder : (Item → Item → Type 0) → List Item → Type 0
AreInOrder Precedes [] = Unit {0}
AreInOrder Precedes (item ∷ items) = Each (Precedes item) items × AreInOrder Precedes items

order_first : (Precedes : Item → Item → Type 0) (a b : List Item) → AreInOrder Precedes (a ++ b) → AreInOrder Precedes a
order_first Precedes [] b all = tt
order_first Precedes (item ∷ a) b all = (each_first (Precedes item) a b all.0, order_first Precedes a b all.1)

order_last : (Precedes : Item → Item → Type 0) (a b : List Item) → AreInOrder Precedes (a ++ b) → AreInOrder Precedes b
order_last Precedes [] b all = all
order_last Precedes (item ∷ a) b all = order_last Precedes a b all.1

-- items before the last one
before_last : (Precedes : Item → Item → Type 0) (Is All : Item → Type 0) → ((item other : Item) → Precedes item other → Is other → All item) → (item next : Item) (items : List Item)
    → Each (Precedes item) (next ∷ items) → EndsIn Is (next ∷ items) → All item
before_last Precedes Is All step item next [] all ends = step item next all.0 ends
before_last Precedes Is All step item next (other ∷ items) all ends = before_last Precedes Is All step item other items all.1 ends

pub each_before : (Precedes : Item → Item → Type 0) (Is All : Item → Type 0) → ((item : Item) → Is item → All item) → ((item other : Item) → Precedes item other → Is other → All item)
    → (items : List Item) → AreInOrder Precedes items → EndsIn Is items → Each All items
each_before Precedes Is All itself step [] order ends = tt
each_before Precedes Is All itself step (item ∷ []) order ends = (itself item ends, tt)
each_before Precedes Is All itself step (item ∷ (next ∷ items)) order ends =
    (before_last Precedes Is All step item next items order.0 ends, each_before Precedes Is All itself step (next ∷ items) order.1 ends)

pub each_behind : (Precedes : Item → Item → Type 0) (Is All : Item → Type 0) → ((item : Item) → Is item → All item) → ((item other : Item) → Precedes item other → Is item → All other)
    → (items : List Item) → AreInOrder Precedes items → BeginsIn Is items → Each All items
each_behind Precedes Is All itself step [] order begins = tt
each_behind Precedes Is All itself step (item ∷ items) order begins = (itself item begins, all_behind items order.0)
  where
    all_behind : (list : List Item) → Each (Precedes item) list → Each All list
    all_behind [] all = tt
    all_behind (other ∷ list) all = (step item other all.0 begins, all_behind list all.1)

-- Where a list is in order, and the items beside a place are such, all before it and all behind it are: an item that was put in there stands in its place.
pub takes_in_order : (Precedes : Item → Item → Type 0) (place all : Gap) (items : List Item) (item : Item) (items_then : List Item) → Exchanges place [] (item ∷ []) items items_then
    → AreInOrder Precedes items
    → ((other : Item) → place.Before other → all.Before other) → ((other more : Item) → Precedes other more → place.Before more → all.Before other)
    → ((other : Item) → place.Behind other → all.Behind other) → ((other more : Item) → Precedes other more → place.Behind other → all.Behind more)
    → TakesItem all items item items_then
takes_in_order Precedes place all items item items_then is order before_itself before_step behind_itself behind_step =
    let parted : AreInOrder Precedes (is.before ++ is.after) = subst (AreInOrder Precedes) is.items_are order in
    record {
      before = is.before;
      after = is.after;
      items_are = is.items_are;
      then_are = is.then_are;
      before_are = each_before Precedes place.Before all.Before before_itself before_step is.before (order_first Precedes is.before is.after parted) is.ends;
      behind_are = each_behind Precedes place.Behind all.Behind behind_itself behind_step is.after (order_last Precedes is.before is.after parted) is.begins;
    }

-- what is said of the last item
pub ends_with : (Is : Item → Type 0) (more : List Item) (item : Item) → Is item → EndsIn Is (more ++ (item ∷ []))
ends_with Is [] item is = is
ends_with Is (first ∷ []) item is = is
ends_with Is (first ∷ (next ∷ more)) item is = ends_with Is (next ∷ more) item is

-- In a leaf the last item before a place is that of the cell before it, and the first behind it that of the cell at it.
pub leaf_ends : (table : Bool) (usable last : ℕ) (shown : Shown) (front : List NodeCell) (cell : NodeCell) (items : List Item) → AreItems table usable last shown (front ++ (cell ∷ [])) items
    → (more : List Item) × (item : Item) × (items ≡ more ++ (item ∷ [])) × IsItem usable last shown cell item
leaf_ends table usable last shown [] cell [] never = absurd never
leaf_ends table usable last shown [] cell (item ∷ []) are = ([], item, refl, are.0)
leaf_ends table usable last shown [] cell (item ∷ (next ∷ items)) are = absurd are.2
leaf_ends table usable last shown (first ∷ front) cell [] never = absurd never
leaf_ends table usable last shown (first ∷ front) cell (item ∷ items) are =
    let later = leaf_ends table usable last shown front cell items are.2 in
    (item ∷ later.0, later.1, ap (λ (l : List Item). item ∷ l) later.2, later.3)

pub leaf_begins : (table : Bool) (usable last : ℕ) (shown : Shown) (cell : NodeCell) (cells : List NodeCell) (items : List Item) → AreItems table usable last shown (cell ∷ cells) items
    → (item : Item) × (more : List Item) × (items ≡ item ∷ more) × IsItem usable last shown cell item × AreItems table usable last shown cells more
leaf_begins table usable last shown cell cells [] never = absurd never
leaf_begins table usable last shown cell cells (item ∷ items) are = (item, items, refl, are.0, are.2)

-- What stands beside a place of an index, by the cells beside it: in an interior page,
pub left_place : (usable last : ℕ) (shown : Shown) (Is : Item → Type 0) (before : List NodeCell) (left : List Item) → EndWithOwn false usable last shown before left
    → ((front : List NodeCell) (cell : NodeCell) (item : Item) → before ≡ front ++ (cell ∷ []) → IsItem usable last shown cell item → Is item) → EndsIn Is left
left_place usable last shown Is [] left none says = subst (EndsIn Is) (sym none) tt
left_place usable last shown Is (cell ∷ []) left (more, own, left_is, (item, own_is, holds)) says =
    subst (EndsIn Is) (sym (left_is ∙ ap (λ (l : List Item). more ++ l) own_is)) (ends_with Is more item (says [] cell item refl holds))
left_place usable last shown Is (cell ∷ (next ∷ cells)) left (front, rest, left_is, ends) says =
    subst (EndsIn Is) (sym left_is) (ends_behind front rest (rest_some cells rest next ends)
    (left_place usable last shown Is (next ∷ cells) rest ends (λ some last_cell item is holds. says (cell ∷ some) last_cell item (ap (λ (l : List NodeCell). cell ∷ l) is) holds)))
  where
    rest_some : (cells : List NodeCell) (rest : List Item) (next : NodeCell) → EndWithOwn false usable last shown (next ∷ cells) rest → 1 ≤ length rest
    rest_some [] rest next (more, own, rest_is, (item, own_is, holds)) =
        subst (λ (l : List Item). 1 ≤ length l) (sym (rest_is ∙ ap (λ (l : List Item). more ++ l) own_is)) (omega (arith, length-append more (item ∷ [])))
    rest_some (other ∷ cells) rest next (some, more, rest_is, ends) =
        subst (λ (l : List Item). 1 ≤ length l) (sym rest_is) (omega (arith, length-append some more, rest_some cells more other ends))

    ends_behind : (a b : List Item) → 1 ≤ length b → EndsIn Is b → EndsIn Is (a ++ b)
    ends_behind [] b some ends = ends
    ends_behind (item ∷ []) [] some ends = absurd (omega (arith, some))
    ends_behind (item ∷ []) (next ∷ b) some ends = ends
    ends_behind (item ∷ (next ∷ a)) b some ends = ends_behind (next ∷ a) b some ends

pub behind_place : (usable last : ℕ) (shown : Shown) (Is : Item → Type 0) (after : List NodeCell) (behind : List Item) → BeginWithOwn false usable last shown after behind
    → ((cell : NodeCell) (rest : List NodeCell) (item : Item) → after ≡ cell ∷ rest → IsItem usable last shown cell item → Is item) → BeginsIn Is behind
behind_place usable last shown Is [] behind none says = subst (BeginsIn Is) (sym none) tt
behind_place usable last shown Is (cell ∷ cells) behind (own, more, behind_is, (item, own_is, holds)) says =
    subst (BeginsIn Is) (sym (behind_is ∙ ap (λ (l : List Item). l ++ more) own_is)) (says cell cells item refl holds)

-- and in a leaf.
pub leaf_left_place : (table : Bool) (usable last : ℕ) (shown : Shown) (Is : Item → Type 0) (before : List NodeCell) (left : List Item) → AreItems table usable last shown before left
    → ((front : List NodeCell) (cell : NodeCell) (item : Item) → before ≡ front ++ (cell ∷ []) → IsItem usable last shown cell item → Is item) → EndsIn Is left
leaf_left_place table usable last shown Is [] [] are says = tt
leaf_left_place table usable last shown Is [] (item ∷ left) never says = absurd never
leaf_left_place table usable last shown Is (cell ∷ before) [] never says = absurd never
leaf_left_place table usable last shown Is (cell ∷ []) (item ∷ []) are says = says [] cell item refl are.0
leaf_left_place table usable last shown Is (cell ∷ []) (item ∷ (next ∷ left)) are says = absurd are.2
leaf_left_place table usable last shown Is (cell ∷ (other ∷ before)) (item ∷ []) are says = absurd are.2
leaf_left_place table usable last shown Is (cell ∷ (other ∷ before)) (item ∷ (next ∷ left)) are says =
    leaf_left_place table usable last shown Is (other ∷ before) (next ∷ left) are.2
    (λ front last_cell more is holds. says (cell ∷ front) last_cell more (ap (λ (l : List NodeCell). cell ∷ l) is) holds)

pub leaf_behind_place : (table : Bool) (usable last : ℕ) (shown : Shown) (Is : Item → Type 0) (after : List NodeCell) (behind : List Item) → AreItems table usable last shown after behind
    → ((cell : NodeCell) (rest : List NodeCell) (item : Item) → after ≡ cell ∷ rest → IsItem usable last shown cell item → Is item) → BeginsIn Is behind
leaf_behind_place table usable last shown Is [] [] are says = tt
leaf_behind_place table usable last shown Is [] (item ∷ behind) never says = absurd never
leaf_behind_place table usable last shown Is (cell ∷ after) [] never says = absurd never
leaf_behind_place table usable last shown Is (cell ∷ after) (item ∷ behind) are says = says cell after item refl are.0

-- A list in order takes an item in its place, and is in order still.
pub order_taken : (Precedes : Item → Item → Type 0) (place : Gap) (items : List Item) (item : Item) (items_then : List Item) → TakesItem place items item items_then
    → ((other : Item) → place.Before other → Precedes other item) → ((other : Item) → place.Behind other → Precedes item other) → AreInOrder Precedes items → AreInOrder Precedes items_then
order_taken Precedes place items item items_then takes lower higher order =
    subst (AreInOrder Precedes) (sym takes.then_are)
    (by_items takes.before takes.after (subst (AreInOrder Precedes) takes.items_are order) (all_lower takes.before takes.before_are) (all_higher takes.after takes.behind_are))
  where
    all_lower : (list : List Item) → Each place.Before list → Each (λ (other : Item). Precedes other item) list
    all_lower [] all = tt
    all_lower (other ∷ list) all = (lower other all.0, all_lower list all.1)

    all_higher : (list : List Item) → Each place.Behind list → Each (Precedes item) list
    all_higher [] all = tt
    all_higher (other ∷ list) all = (higher other all.0, all_higher list all.1)

    put_among : (first : Item) (before after : List Item) → Precedes first item → Each (Precedes first) (before ++ after) → Each (Precedes first) (before ++ (item ∷ after))
    put_among first [] after here all = (here, all)
    put_among first (other ∷ before) after here all = (all.0, put_among first before after here all.1)

    by_items : (before after : List Item) → AreInOrder Precedes (before ++ after) → Each (λ (other : Item). Precedes other item) before → Each (Precedes item) after
        → AreInOrder Precedes (before ++ (item ∷ after))
    by_items [] after order below above = (above, order)
    by_items (first ∷ before) after order below above = (put_among first before after below.0 order.0, by_items before after order.1 below.1 above)

-- And so is what is left of it when some items went.
pub order_left : (Precedes : Item → Item → Type 0) (place : Gap) (out items items_then : List Item) → Exchanges place out [] items items_then → AreInOrder Precedes items → AreInOrder Precedes items_then
order_left Precedes place out items items_then is order =
    subst (AreInOrder Precedes) (sym is.then_are) (by_items is.before (subst (AreInOrder Precedes) is.items_are order))
  where
    left_of : (P : Item → Type 0) (before : List Item) → Each P (before ++ (out ++ is.after)) → Each P (before ++ is.after)
    left_of P [] all = each_last P out is.after all
    left_of P (other ∷ before) all = (all.0, left_of P before all.1)

    by_items : (before : List Item) → AreInOrder Precedes (before ++ (out ++ is.after)) → AreInOrder Precedes (before ++ is.after)
    by_items [] order = order_last Precedes out is.after order
    by_items (first ∷ before) order = (left_of (Precedes first) before order.0, by_items before order.1)
