-- The bounds split the items of a tree: those of a table always, and those of an index where its rows rise.
use Rattle.std.proofs.Common.{◌≡◌, ℕ, ℤ, ◌<ℤ◌, true, List, [], ◌∷◌, ◌++◌, Option, None, Some, refl, sym, subst, ap, append-nil, ◌∙◌, arith, inl, inr}
use Rattle.std.proofs.lemmas.Int.{ints, by_lt_z}
use Rattle.std.specs.Prelude.{◌⊎◌}
use Rattle.std.specs.declared.cmp.Ordering.{Ordering}
use Rattle.std.specs.declared.cmp.Ordering.TheVariants.{Less, Equal, Greater}
use Rattle.std.specs.Ordering.{ordering_then, ordering_reverse}
use Rattle.tree_spec.specs.Layout.{Each, Item, KeysRise}
use Rattle.tree_spec.specs.Shown.{Shown}
use Rattle.tree_spec.specs.Trees.{IsTree}
use Rattle.tree_spec.proofs.Rising.{tree_rises}
use Rattle.value_form.specs.declared.value.Value.{Value}
use Rattle.value_form.specs.Order.{value_order, row_order}
use Rattle.value_form.specs.Record.{IsRecord}
use Rattle.value_form.proofs.OrderLaws.{value_linear}
use Rattle.value_form.proofs.ReadingLaws.{record_once}
use Rattle.tree_read.specs.Entries.{RowsRise}
use Rattle.tree_read.proofs.Around.{each_last}
use Rattle.tree_scan.specs.declared.bounds.Bounds.{Bounds}
use Rattle.tree_scan.specs.declared.bounds.Bounds.TheVariants.{Rows, Entries}
use Rattle.tree_scan.specs.Bounded.{leading_order, IsUnder, IsOver, AreValuesUnder, AreValuesOver, AreFrom, AreUpTo}

-- Of items these are ahead, and of them those are in the bounds.
pub record Splits (bounds : Bounds) (items : List Item) : Type 0 where
  pub ahead : List Item
  pub some : List Item
  pub from : AreFrom bounds items ahead
  pub up_to : AreUpTo bounds ahead some

-- Something holds of an item or it doesn't.
abbrev Tells : (Item → Type 0) → Item → Type 0
Tells P item = P item ⊎ (P item → ⊥)

-- Where it holds of an item it holds of those before, or of those behind.
abbrev Falls : (Item → Type 0) → List Item → Type 0
Falls P [] = Unit {0}
Falls P (item ∷ items) = Each (λ (other : Item). P other → P item) items × Falls P items

abbrev Rises : (Item → Type 0) → List Item → Type 0
Rises P [] = Unit {0}
Rises P (item ∷ items) = Each (λ (other : Item). P item → P other) items × Rises P items

rises_last : (P : Item → Type 0) (a b : List Item) → Rises P (a ++ b) → Rises P b
rises_last P [] b rise = rise
rises_last P (x ∷ xs) b rise = rises_last P xs b rise.1

none_of : (P : Item → Type 0) (item : Item) (items : List Item) → (P item → ⊥) → Each (λ (other : Item). P other → P item) items → Each (λ (other : Item). P other → ⊥) items
none_of P item [] isnt all = tt
none_of P item (x ∷ xs) isnt all = (λ is. isnt (all.0 is), none_of P item xs isnt all.1)

all_of : (P : Item → Type 0) (item : Item) (items : List Item) → P item → Each (λ (other : Item). P item → P other) items → Each P items
all_of P item [] is all = tt
all_of P item (x ∷ xs) is all = (all.0 is, all_of P item xs is all.1)

from_there : (bounds : Bounds) (items : List Item) → Each (Tells (IsUnder bounds)) items → Falls (IsUnder bounds) items → (ahead : List Item) × AreFrom bounds items ahead
from_there bounds [] tells falls = ([], record { front = []; items_are = refl; under = tt; not_under = tt })
from_there bounds (x ∷ xs) tells falls = by_first (from_there bounds xs tells.1 falls.1) tells.0
  where
    by_first : (ahead : List Item) × AreFrom bounds xs ahead → Tells (IsUnder bounds) x → (ahead : List Item) × AreFrom bounds (x ∷ xs) ahead
    by_first others (inl is) = (
      others.0,
      record {
        front = x ∷ others.1.front;
        items_are = ap (λ (l : List Item). x ∷ l) others.1.items_are;
        under = (is, others.1.under);
        not_under = others.1.not_under;
      },
    )
    by_first others (inr isnt) = (x ∷ xs, record { front = []; items_are = refl; under = tt; not_under = (isnt, none_of (IsUnder bounds) x xs isnt falls.0) })

up_to_there : (bounds : Bounds) (items : List Item) → Each (Tells (IsOver bounds)) items → Rises (IsOver bounds) items → (some : List Item) × AreUpTo bounds items some
up_to_there bounds [] tells rises = ([], record { back = []; items_are = refl; inside = tt; over = tt })
up_to_there bounds (x ∷ xs) tells rises = by_first (up_to_there bounds xs tells.1 rises.1) tells.0
  where
    by_first : (some : List Item) × AreUpTo bounds xs some → Tells (IsOver bounds) x → (some : List Item) × AreUpTo bounds (x ∷ xs) some
    by_first others (inl is) = ([], record { back = x ∷ xs; items_are = refl; inside = tt; over = (is, all_of (IsOver bounds) x xs is rises.0) })
    by_first others (inr isnt) = (
      x ∷ others.0,
      record {
        back = others.1.back;
        items_are = ap (λ (l : List Item). x ∷ l) others.1.items_are;
        inside = (isnt, others.1.inside);
        over = others.1.over;
      },
    )

both_ends : (bounds : Bounds) (items : List Item) → Each (Tells (IsUnder bounds)) items → Falls (IsUnder bounds) items → Each (Tells (IsOver bounds)) items
    → Rises (IsOver bounds) items → Splits bounds items
both_ends bounds items tells falls tells_over rises =
    let ahead = from_there bounds items tells falls in
    let front = ahead.1.front in
    let some = up_to_there bounds ahead.0 (each_last (Tells (IsOver bounds)) front ahead.0 (subst (Each (Tells (IsOver bounds))) ahead.1.items_are tells_over))
    (rises_last (IsOver bounds) front ahead.0 (subst (Rises (IsOver bounds)) ahead.1.items_are rises)) in
    record { ahead = ahead.0; some = some.0; from = ahead.1; up_to = some.1 }

-- Rows of a table.
less_or_not : (a b : ℤ) → (a <ℤ b) ⊎ (a <ℤ b → ⊥)
less_or_not a b = by_lt_z a b inl (λ most. inr (λ less. omega (arith, ints, most, less)))

no_rowid : ⊥ → ⊥
no_rowid never = never

under_told : (low high : Option ℤ) (items : List Item) → Each (Tells (IsUnder (Rows low high))) items
under_told low high [] = tt
under_told None high (x ∷ xs) = (inr no_rowid, under_told None high xs)
under_told (Some low) high (x ∷ xs) = (less_or_not x.key low, under_told (Some low) high xs)

over_told : (low high : Option ℤ) (items : List Item) → Each (Tells (IsOver (Rows low high))) items
over_told low high [] = tt
over_told low None (x ∷ xs) = (inr no_rowid, over_told low None xs)
over_told low (Some high) (x ∷ xs) = (less_or_not high x.key, over_told low (Some high) xs)

less_under : (low high : Option ℤ) (item other : Item) → item.key <ℤ other.key → IsUnder (Rows low high) other → IsUnder (Rows low high) item
less_under None high item other less never = never
less_under (Some low) high item other less is = omega (arith, ints, less, is)

more_over : (low high : Option ℤ) (item other : Item) → item.key <ℤ other.key → IsOver (Rows low high) item → IsOver (Rows low high) other
more_over low None item other less never = never
more_over low (Some high) item other less is = omega (arith, ints, less, is)

rows_fall : (low high : Option ℤ) (items : List Item) → KeysRise items → Falls (IsUnder (Rows low high)) items
rows_fall low high [] rise = tt
rows_fall low high (x ∷ xs) rise = (each_to xs rise.0, rows_fall low high xs rise.1)
  where
    each_to : (others : List Item) → Each (λ (other : Item). x.key <ℤ other.key) others → Each (λ (other : Item). IsUnder (Rows low high) other → IsUnder (Rows low high) x) others
    each_to [] all = tt
    each_to (y ∷ ys) all = (less_under low high x y all.0, each_to ys all.1)

rows_rise : (low high : Option ℤ) (items : List Item) → KeysRise items → Rises (IsOver (Rows low high)) items
rows_rise low high [] rise = tt
rows_rise low high (x ∷ xs) rise = (each_to xs rise.0, rows_rise low high xs rise.1)
  where
    each_to : (others : List Item) → Each (λ (other : Item). x.key <ℤ other.key) others → Each (λ (other : Item). IsOver (Rows low high) x → IsOver (Rows low high) other) others
    each_to [] all = tt
    each_to (y ∷ ys) all = (more_over low high x y all.0, each_to ys all.1)

pub table_splits : (low high : Option ℤ) (usable last : ℕ) (shown : Shown) (height page : ℕ) (own : List ℕ) (items : List Item)
    → IsTree true usable last shown height page own items → Splits (Rows low high) items
table_splits low high usable last shown height page own items tree =
    let rise = tree_rises usable last shown height page own items tree in
    both_ends (Rows low high) items (under_told low high items) (rows_fall low high items rise) (over_told low high items) (rows_rise low high items rise)

-- Entries of an index.

-- a first value of three rows decides, or the rest does
then_less : (one two three rest_one rest_two rest_three : Ordering) → (one ≡ Less → two ≡ Less → three ≡ Less) → (one ≡ Equal → three ≡ two) → (two ≡ Equal → three ≡ one)
    → (rest_one ≡ Less → rest_two ≡ Less → rest_three ≡ Less) → ordering_then one rest_one ≡ Less → ordering_then two rest_two ≡ Less → ordering_then three rest_three ≡ Less
then_less Less Less three rest_one rest_two rest_three through one_equal two_equal rest less under = ap (λ (o : Ordering). ordering_then o rest_three) (through refl refl)
then_less Less Equal three rest_one rest_two rest_three through one_equal two_equal rest less under = ap (λ (o : Ordering). ordering_then o rest_three) (two_equal refl)
then_less Less Greater three rest_one rest_two rest_three through one_equal two_equal rest less under = absurd (cc)
then_less Equal Less three rest_one rest_two rest_three through one_equal two_equal rest less under = ap (λ (o : Ordering). ordering_then o rest_three) (one_equal refl)
then_less Equal Equal three rest_one rest_two rest_three through one_equal two_equal rest less under =
    ap (λ (o : Ordering). ordering_then o rest_three) (one_equal refl) ∙ rest less under
then_less Equal Greater three rest_one rest_two rest_three through one_equal two_equal rest less under = absurd (cc)
then_less Greater two three rest_one rest_two rest_three through one_equal two_equal rest less under = absurd (cc)

then_more : (one two three rest_one rest_two rest_three : Ordering) → (one ≡ Less → two ≡ Greater → three ≡ Greater) → (one ≡ Equal → three ≡ two)
    → (one ≡ Less → two ≡ Equal → three ≡ Greater) → (rest_one ≡ Less → rest_two ≡ Greater → rest_three ≡ Greater) → ordering_then one rest_one ≡ Less
    → ordering_then two rest_two ≡ Greater → ordering_then three rest_three ≡ Greater
then_more Less Less three rest_one rest_two rest_three through one_equal two_equal rest less over = absurd (cc)
then_more Less Equal three rest_one rest_two rest_three through one_equal two_equal rest less over = ap (λ (o : Ordering). ordering_then o rest_three) (two_equal refl refl)
then_more Less Greater three rest_one rest_two rest_three through one_equal two_equal rest less over = ap (λ (o : Ordering). ordering_then o rest_three) (through refl refl)
then_more Equal Less three rest_one rest_two rest_three through one_equal two_equal rest less over = absurd (cc)
then_more Equal Equal three rest_one rest_two rest_three through one_equal two_equal rest less over =
    ap (λ (o : Ordering). ordering_then o rest_three) (one_equal refl) ∙ rest less over
then_more Equal Greater three rest_one rest_two rest_three through one_equal two_equal rest less over = ap (λ (o : Ordering). ordering_then o rest_three) (one_equal refl)
then_more Greater two three rest_one rest_two rest_three through one_equal two_equal rest less over = absurd (cc)

value_more : (x y l : Value) → value_order x y ≡ Less → value_order x l ≡ Greater → value_order y l ≡ Greater
value_more x y l less over =
    value_linear.reversed l y ∙ ap ordering_reverse (value_linear.transitive l x y (value_linear.reversed x l ∙ ap ordering_reverse over) less)

value_behind : (x y l : Value) → value_order x y ≡ Less → value_order x l ≡ Equal → value_order y l ≡ Greater
value_behind x y l less equal =
    ap (value_order y) (sym (value_linear.apart x l equal)) ∙ value_linear.reversed x y ∙ ap ordering_reverse less

-- what is before a row whose leading values are less has such too
leading_less : (bound a b : List Value) → row_order a b ≡ Less → leading_order b bound ≡ Less → leading_order a bound ≡ Less
leading_less [] a b less under = absurd (cc)
leading_less (l ∷ ls) [] b less under = refl
leading_less (l ∷ ls) (x ∷ xs) [] less under = absurd (cc)
leading_less (l ∷ ls) (x ∷ xs) (y ∷ ys) less under =
    then_less (value_order x y) (value_order y l) (value_order x l) (row_order xs ys) (leading_order ys ls) (leading_order xs ls) (value_linear.transitive x y l)
    (λ e. ap (λ (v : Value). value_order v l) (value_linear.apart x y e)) (λ e. ap (value_order x) (sym (value_linear.apart y l e))) (leading_less ls xs ys) less under

-- what is behind a row whose leading values are greater has such too
leading_more : (bound a b : List Value) → row_order a b ≡ Less → leading_order a bound ≡ Greater → leading_order b bound ≡ Greater
leading_more [] a b less over = absurd (cc)
leading_more (l ∷ ls) [] b less over = absurd (cc)
leading_more (l ∷ ls) (x ∷ xs) [] less over = absurd (cc)
leading_more (l ∷ ls) (x ∷ xs) (y ∷ ys) less over =
    then_more (value_order x y) (value_order x l) (value_order y l) (row_order xs ys) (leading_order xs ls) (leading_order ys ls) (value_more x y l)
    (λ e. ap (λ (v : Value). value_order v l) (sym (value_linear.apart x y e))) (value_behind x y l) (leading_more ls xs ys) less over

-- an item's payload begins with a record
abbrev pub HasRow : Item → Type 0
HasRow item = (row : List Value) × IsRecord item.bytes row

-- what is told of its row is told of the item
row_tells : (item : Item) (row : List Value) (P : List Value → Type 0) → IsRecord item.bytes row → (P row) ⊎ (P row → ⊥)
    → ((next : List Value) × (IsRecord item.bytes next × P next)) ⊎ ((next : List Value) × (IsRecord item.bytes next × P next) → ⊥)
row_tells item row P is_record (inl is) = inl (row, (is_record, is))
row_tells item row P is_record (inr isnt) = inr (λ other. isnt (subst P (record_once item.bytes other.0 row other.1.0 is_record) other.1.1))

is_order : (order other : Ordering) → (order ≡ other) ⊎ (order ≡ other → ⊥)
is_order Less Less = inl refl
is_order Less Equal = inr (λ e. cc)
is_order Less Greater = inr (λ e. cc)
is_order Equal Less = inr (λ e. cc)
is_order Equal Equal = inl refl
is_order Equal Greater = inr (λ e. cc)
is_order Greater Less = inr (λ e. cc)
is_order Greater Equal = inr (λ e. cc)
is_order Greater Greater = inl refl

values_under : (low : Option (List Value)) (row : List Value) → AreValuesUnder low row ⊎ (AreValuesUnder low row → ⊥)
values_under None row = inr no_rowid
values_under (Some low) row = is_order (leading_order row low) Less

values_over : (high : Option (List Value)) (row : List Value) → AreValuesOver high row ⊎ (AreValuesOver high row → ⊥)
values_over None row = inr no_rowid
values_over (Some high) row = is_order (leading_order row high) Greater

entries_under : (low high : Option (List Value)) (items : List Item) → Each HasRow items → Each (Tells (IsUnder (Entries low high))) items
entries_under low high [] have = tt
entries_under low high (x ∷ xs) have = (row_tells x have.0.0 (AreValuesUnder low) have.0.1 (values_under low have.0.0), entries_under low high xs have.1)

entries_over : (low high : Option (List Value)) (items : List Item) → Each HasRow items → Each (Tells (IsOver (Entries low high))) items
entries_over low high [] have = tt
entries_over low high (x ∷ xs) have = (row_tells x have.0.0 (AreValuesOver high) have.0.1 (values_over high have.0.0), entries_over low high xs have.1)

fewer_under : (low : Option (List Value)) (a b : List Value) → row_order a b ≡ Less → AreValuesUnder low b → AreValuesUnder low a
fewer_under None a b less never = never
fewer_under (Some low) a b less under = leading_less low a b less under

more_values : (high : Option (List Value)) (a b : List Value) → row_order a b ≡ Less → AreValuesOver high a → AreValuesOver high b
more_values None a b less never = never
more_values (Some high) a b less over = leading_more high a b less over

entries_fall : (low high : Option (List Value)) (items : List Item) → RowsRise items → Each HasRow items → Falls (IsUnder (Entries low high)) items
entries_fall low high [] rise have = tt
entries_fall low high (x ∷ xs) rise have = (each_to xs rise.0, entries_fall low high xs rise.1 have.1)
  where
    each_to : (others : List Item) → Each (λ (other : Item). (row next : List Value) → IsRecord x.bytes row → IsRecord other.bytes next → row_order row next ≡ Less) others
        → Each (λ (other : Item). IsUnder (Entries low high) other → IsUnder (Entries low high) x) others
    each_to [] all = tt
    each_to (y ∷ ys) all =
        (λ is. (have.0.0, (have.0.1, fewer_under low have.0.0 is.0 (all.0 have.0.0 is.0 have.0.1 is.1.0) is.1.1)), each_to ys all.1)

entries_rise : (low high : Option (List Value)) (items : List Item) → RowsRise items → Each HasRow items → Rises (IsOver (Entries low high)) items
entries_rise low high [] rise have = tt
entries_rise low high (x ∷ xs) rise have = (each_to xs rise.0 have.1, entries_rise low high xs rise.1 have.1)
  where
    each_to : (others : List Item) → Each (λ (other : Item). (row next : List Value) → IsRecord x.bytes row → IsRecord other.bytes next → row_order row next ≡ Less) others
        → Each HasRow others → Each (λ (other : Item). IsOver (Entries low high) x → IsOver (Entries low high) other) others
    each_to [] all have_rows = tt
    each_to (y ∷ ys) all have_rows =
        (λ is. (have_rows.0.0, (have_rows.0.1, more_values high is.0 have_rows.0.0 (all.0 is.0 have_rows.0.0 is.1.0 have_rows.0.1) is.1.1)), each_to ys all.1 have_rows.1)

pub entries_split : (low high : Option (List Value)) (items : List Item) → RowsRise items → Each HasRow items → Splits (Entries low high) items
entries_split low high items rise have =
    both_ends (Entries low high) items (entries_under low high items have) (entries_fall low high items rise have) (entries_over low high items have) (entries_rise low high items rise have)

-- Without bounds the list is as it stands, in whatever order.
pub unbounded_splits : (items : List Item) → Splits (Entries None None) items
unbounded_splits items = record {
  ahead = items;
  some = items;
  from = record { front = []; items_are = refl; under = tt; not_under = none_under items };
  up_to = record { back = []; items_are = sym (append-nil items); inside = none_over items; over = tt };
}
  where
    none_under : (others : List Item) → Each (λ (item : Item). IsUnder (Entries None None) item → ⊥) others
    none_under [] = tt
    none_under (x ∷ xs) = (λ is. is.1.1, none_under xs)

    none_over : (others : List Item) → Each (λ (item : Item). IsOver (Entries None None) item → ⊥) others
    none_over [] = tt
    none_over (x ∷ xs) = (λ is. is.1.1, none_over xs)
