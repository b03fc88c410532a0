-- Keys in order, where there are keys: in tables. In an index each of these says nothing.
use Rattle.std.proofs.Common.{◌≡◌, ℕ, ℤ, ◌≤◌, ◌<ℤ◌, ◌≤ℤ◌, Bool, true, false, List, [], ◌∷◌, ◌++◌, length, refl, sym, subst, ap, ◌∙◌, arith, append_assoc}
use Rattle.std.proofs.lemmas.Int.{ints}
use Rattle.node_spec.specs.Cells.{NodeCell}
use Rattle.tree_spec.specs.Layout.{Each, Item, KeysRise}
use Rattle.tree_spec.specs.Shown.{Shown}
use Rattle.tree_spec.specs.Trees.{IsOwn, AreBehind, AreDivided}
use Rattle.tree_spec.proofs.Lists.{each-append}
use Rattle.edit_spec.specs.Places.{Gap, EndsIn, BeginsIn, somewhere, past_all, place_of_key, TakesItem, AreAbove, AreAtMost, IsLower, AreAtMostFirst, MayStandBetween}
use Rattle.edit_spec.specs.Edits.{Exchanges}
use Rattle.edit_spec.proofs.Lists.{each_first, each_last, each_weaker}

below_both : (low middle high : ℤ) → low <ℤ middle → middle <ℤ high → low <ℤ high
below_both low middle high p q = omega (arith, ints)

below_upto : (low middle high : ℤ) → low <ℤ middle → middle ≤ℤ high → low <ℤ high
below_upto low middle high p q = omega (arith, ints)

upto_below : (low middle high : ℤ) → low ≤ℤ middle → middle <ℤ high → low ≤ℤ high
upto_below low middle high p q = omega (arith, ints)

pub above-append : (table : Bool) (key : ℤ) (a b : List Item) → AreAbove table key a → AreAbove table key b → AreAbove table key (a ++ b)
above-append true key a b one two = each-append (λ (item : Item). key <ℤ item.key) a b one two
above-append false key a b one two = tt

pub above_first : (table : Bool) (key : ℤ) (a b : List Item) → AreAbove table key (a ++ b) → AreAbove table key a
above_first true key a b all = each_first (λ (item : Item). key <ℤ item.key) a b all
above_first false key a b all = tt

pub above_last : (table : Bool) (key : ℤ) (a b : List Item) → AreAbove table key (a ++ b) → AreAbove table key b
above_last true key a b all = each_last (λ (item : Item). key <ℤ item.key) a b all
above_last false key a b all = tt

pub upto-append : (table : Bool) (key : ℤ) (a b : List Item) → AreAtMost table key a → AreAtMost table key b → AreAtMost table key (a ++ b)
upto-append true key a b one two = each-append (λ (item : Item). item.key ≤ℤ key) a b one two
upto-append false key a b one two = tt

pub upto_first : (table : Bool) (key : ℤ) (a b : List Item) → AreAtMost table key (a ++ b) → AreAtMost table key a
upto_first true key a b all = each_first (λ (item : Item). item.key ≤ℤ key) a b all
upto_first false key a b all = tt

pub upto_last : (table : Bool) (key : ℤ) (a b : List Item) → AreAtMost table key (a ++ b) → AreAtMost table key b
upto_last true key a b all = each_last (λ (item : Item). item.key ≤ℤ key) a b all
upto_last false key a b all = tt

pub above_none : (table : Bool) (key : ℤ) → AreAbove table key []
above_none true key = tt
above_none false key = tt

pub upto_none : (table : Bool) (key : ℤ) → AreAtMost table key []
upto_none true key = tt
upto_none false key = tt

-- from one bound to another
pub above_lower : (table : Bool) (low high : ℤ) (items : List Item) → IsLower table low high → AreAbove table high items → AreAbove table low items
above_lower true low high items lower all =
    each_weaker (λ (item : Item). high <ℤ item.key) (λ (item : Item). low <ℤ item.key) items (λ item above. below_both low high item.key lower above) all
above_lower false low high items lower all = tt

pub upto_higher : (table : Bool) (low high : ℤ) (items : List Item) → IsLower table low high → AreAtMost table low items → AreAtMost table high items
upto_higher true low high items lower all =
    each_weaker (λ (item : Item). item.key ≤ℤ low) (λ (item : Item). item.key ≤ℤ high) items (λ item most. upto_below item.key low high most lower) all
upto_higher false low high items lower all = tt

-- some items stand between two bounds
pub lower_between : (table : Bool) (items : List Item) (low high : ℤ) → 1 ≤ length items → AreAbove table low items → AreAtMost table high items → IsLower table low high
lower_between true [] low high some above up_to = absurd (omega (arith, some))
lower_between true (item ∷ items) low high some above up_to = below_upto low item.key high above.0 up_to.0
lower_between false items low high some above up_to = tt

pub lower_both : (table : Bool) (low middle high : ℤ) → IsLower table low middle → IsLower table middle high → IsLower table low high
lower_both true low middle high p q = below_both low middle high p q
lower_both false low middle high p q = tt

-- a cell of a table lists nothing itself, so that any bound holds of it
pub own_above : (table : Bool) (usable last : ℕ) (shown : Shown) (cell : NodeCell) (key : ℤ) (items : List Item) → IsOwn table usable last shown cell items → AreAbove table key items
own_above true usable last shown cell key items is = subst (Each (λ (item : Item). key <ℤ item.key)) (sym is) tt
own_above false usable last shown cell key items is = tt

pub own_upto : (table : Bool) (usable last : ℕ) (shown : Shown) (cell : NodeCell) (key : ℤ) (items : List Item) → IsOwn table usable last shown cell items → AreAtMost table key items
own_upto true usable last shown cell key items is = subst (Each (λ (item : Item). item.key ≤ℤ key)) (sym is) tt
own_upto false usable last shown cell key items is = tt

-- what a cell divides, by bounds, and back
pub divided_upto : (table : Bool) (cell : NodeCell) (under behind : List Item) → AreDivided table cell under behind → AreAtMost table cell.rowid under
divided_upto true cell under behind divided = divided.0
divided_upto false cell under behind divided = tt

pub divided_above : (table : Bool) (cell : NodeCell) (under behind : List Item) → AreDivided table cell under behind → AreAbove table cell.rowid behind
divided_above true cell under behind divided = divided.1
divided_above false cell under behind divided = tt

pub divides : (table : Bool) (cell : NodeCell) (under behind : List Item) → AreAtMost table cell.rowid under → AreAbove table cell.rowid behind → AreDivided table cell under behind
divides true cell under behind up_to above = (up_to, above)
divides false cell under behind up_to above = tt

pub behind_above : (table : Bool) (item : Item) (items : List Item) → AreBehind table item items → AreAbove table item.key items
behind_above true item items all = all
behind_above false item items all = tt

pub above_behind : (table : Bool) (item : Item) (items : List Item) → AreAbove table item.key items → AreBehind table item items
above_behind true item items all = all
above_behind false item items all = tt

-- bounds of items that were exchanged
pub above_exchanged : (table : Bool) (key : ℤ) (place : Gap) (out into items items_then : List Item) → Exchanges place out into items items_then → AreAbove table key into → AreAbove table key items
    → AreAbove table key items_then
above_exchanged table key place out into items items_then is new all =
    let whole = subst (AreAbove table key) is.items_are all in
    subst (AreAbove table key) (sym is.then_are)
    (above-append table key is.before (into ++ is.after) (above_first table key is.before (out ++ is.after) whole)
    (above-append table key into is.after new (above_last table key out is.after (above_last table key is.before (out ++ is.after) whole))))

pub upto_exchanged : (table : Bool) (key : ℤ) (place : Gap) (out into items items_then : List Item) → Exchanges place out into items items_then → AreAtMost table key into → AreAtMost table key items
    → AreAtMost table key items_then
upto_exchanged table key place out into items items_then is new all =
    let whole = subst (AreAtMost table key) is.items_are all in
    subst (AreAtMost table key) (sym is.then_are)
    (upto-append table key is.before (into ++ is.after) (upto_first table key is.before (out ++ is.after) whole)
    (upto-append table key into is.after new (upto_last table key out is.after (upto_last table key is.before (out ++ is.after) whole))))

-- Items that may stand between cells still may once some of them are exchanged for others that may.
pub between_exchanged : (table : Bool) (before after : List NodeCell) (place : Gap) (out into items items_then : List Item) → Exchanges place out into items items_then
    → MayStandBetween table before after into → MayStandBetween table before after items → MayStandBetween table before after items_then
between_exchanged table before after place out into items items_then is new old = record {
  above = each_before before new.above old.above;
  up_to = first_after after new.up_to old.up_to;
}
  where
    each_before : (cells : List NodeCell) → Each (λ (cell : NodeCell). AreAbove table cell.rowid into) cells → Each (λ (cell : NodeCell). AreAbove table cell.rowid items) cells
        → Each (λ (cell : NodeCell). AreAbove table cell.rowid items_then) cells
    each_before [] one two = tt
    each_before (cell ∷ cells) one two = (above_exchanged table cell.rowid place out into items items_then is one.0 two.0, each_before cells one.1 two.1)

    first_after : (cells : List NodeCell) → AreAtMostFirst table cells into → AreAtMostFirst table cells items → AreAtMostFirst table cells items_then
    first_after [] one two = tt
    first_after (cell ∷ cells) one two = upto_exchanged table cell.rowid place out into items items_then is one two

-- no items may stand anywhere
pub none_between : (table : Bool) (before after : List NodeCell) → MayStandBetween table before after []
none_between table before after = record { above = each_before before; up_to = first_after after }
  where
    each_before : (cells : List NodeCell) → Each (λ (cell : NodeCell). AreAbove table cell.rowid []) cells
    each_before [] = tt
    each_before (cell ∷ cells) = (above_none table cell.rowid, each_before cells)

    first_after : (cells : List NodeCell) → AreAtMostFirst table cells []
    first_after [] = tt
    first_after (cell ∷ cells) = upto_none table cell.rowid

-- in an index any items may
pub index_between : (before after : List NodeCell) (items : List Item) → MayStandBetween false before after items
index_between before after items = record { above = each_before before; up_to = first_after after }
  where
    each_before : (cells : List NodeCell) → Each (λ (cell : NodeCell). AreAbove false cell.rowid items) cells
    each_before [] = tt
    each_before (cell ∷ cells) = (tt, each_before cells)

    first_after : (cells : List NodeCell) → AreAtMostFirst false cells items
    first_after [] = tt
    first_after (cell ∷ cells) = tt

-- each place is some place
pub ends_somewhere : (items : List Item) → EndsIn somewhere.Before items
ends_somewhere [] = tt
ends_somewhere (item ∷ []) = tt
ends_somewhere (item ∷ (next ∷ items)) = ends_somewhere (next ∷ items)

pub begins_somewhere : (items : List Item) → BeginsIn somewhere.Behind items
begins_somewhere [] = tt
begins_somewhere (item ∷ items) = tt

-- the end of a list has nothing behind it
pub none_behind : (items : List Item) → BeginsIn past_all.Behind items → items ≡ []
none_behind [] begins = refl
none_behind (item ∷ items) begins = absurd begins

-- ends of two lists in a row
pub ends_join : (Is : Item → Type 0) (a b : List Item) → EndsIn Is a → EndsIn Is b → EndsIn Is (a ++ b)
ends_join Is [] b one two = two
ends_join Is (item ∷ []) [] one two = one
ends_join Is (item ∷ []) (next ∷ b) one two = two
ends_join Is (item ∷ (next ∷ a)) b one two = ends_join Is (next ∷ a) b one two

pub begins_join : (Is : Item → Type 0) (a b : List Item) → BeginsIn Is a → BeginsIn Is b → BeginsIn Is (a ++ b)
begins_join Is [] b one two = two
begins_join Is (item ∷ a) b one two = one

-- what was exchanged among some items was among those before, between and behind
pub exchanged_among : (place : Gap) (out into left mine behind mine_then : List Item) → EndsIn place.Before left → BeginsIn place.Behind behind
    → Exchanges place out into mine mine_then → Exchanges place out into (left ++ (mine ++ behind)) (left ++ (mine_then ++ behind))
exchanged_among place out into left mine behind mine_then ends begins is = record {
  before = left ++ is.before;
  after = is.after ++ behind;
  items_are = parted out mine is.items_are;
  then_are = parted into mine_then is.then_are;
  ends = ends_join place.Before left is.before ends is.ends;
  begins = begins_join place.Behind is.after behind is.begins begins;
}
  where
    parted : (some whole : List Item) → whole ≡ is.before ++ (some ++ is.after) → left ++ (whole ++ behind) ≡ (left ++ is.before) ++ (some ++ (is.after ++ behind))
    parted some whole whole_is =
        ap (λ (l : List Item). left ++ (l ++ behind)) whole_is
        ∙ (ap (λ (l : List Item). left ++ l) (append_assoc is.before (some ++ is.after) behind ∙ ap (λ (l : List Item). is.before ++ l) (append_assoc some is.after behind))
        ∙ sym (append_assoc left is.before (some ++ (is.after ++ behind))))

pub exchanged_of : (place : Gap) (out into items items_then list list_then : List Item) → list ≡ items → list_then ≡ items_then → Exchanges place out into items items_then
    → Exchanges place out into list list_then
exchanged_of place out into items items_then list list_then is then_is old = record {
  before = old.before;
  after = old.after;
  items_are = is ∙ old.items_are;
  then_are = then_is ∙ old.then_are;
  ends = old.ends;
  begins = old.begins;
}

-- In a table whose keys rise an item that was put in stands in its key's place.
pub takes_key : (place : Gap) (items : List Item) (item : Item) (items_then : List Item) → Exchanges place [] (item ∷ []) items items_then → KeysRise items_then
    → TakesItem (place_of_key item.key) items item items_then
takes_key place items item items_then is rise =
    let around = rising_around is.before is.after (subst KeysRise is.then_are rise) in
    record { before = is.before; after = is.after; items_are = is.items_are; then_are = is.then_are; before_are = around.0; behind_are = around.1 }
  where
    rising_around : (before after : List Item) → KeysRise (before ++ (item ∷ after))
        → Each (λ (other : Item). other.key <ℤ item.key) before × Each (λ (other : Item). item.key <ℤ other.key) after
    rising_around [] after rises = (tt, rises.0)
    rising_around (first ∷ before) after rises =
        let later = rising_around before after rises.1 in
        (((each_last (λ (other : Item). first.key <ℤ other.key) before (item ∷ after) rises.0).0, later.0), later.1)
