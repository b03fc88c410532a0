-- Which items of a tree a cursor gives.
--
-- Of a table it gives the rows whose rowids are in the bounds. Of an index it gives the entries whose leading values, as many as a bound has, are
-- in it: so a bound of fewer values than the entries have takes in all that begin with these values.
use Rattle.std.specs.Prelude.{◌≡◌, ℤ, pos, ◌-◌, ◌<ℤ◌, Bool, true, false, List, ◌++◌, length, take, slice_get, Option, None, Some}
use Rattle.std.specs.declared.cmp.Ordering.{Ordering}
use Rattle.std.specs.declared.cmp.Ordering.TheVariants.{Less, Greater}
use Rattle.tree_spec.specs.Layout.{Each, Item}
use Rattle.value_form.specs.declared.value.Value.{Value}
use Rattle.value_form.specs.Order.{integer, row_order}
use Rattle.value_form.specs.Record.{IsRecord}
use Rattle.tree_scan.specs.declared.bounds.Bounds.{Bounds}
use Rattle.tree_scan.specs.declared.bounds.Bounds.TheVariants.{Rows, Entries}

-- the tree is a table's
abbrev pub of_table : Bounds → Bool
of_table (Rows low high) = true
of_table (Entries low high) = false

-- how a row's leading values, as many as a bound has, compare with it
abbrev pub leading_order : (row bound : List Value) → Ordering
leading_order row bound = row_order (take (length bound) row) bound

-- a rowid, and leading values, are under a low bound
abbrev pub IsRowidUnder : (low : Option ℤ) → ℤ → Type 0
IsRowidUnder None rowid = ⊥
IsRowidUnder (Some low) rowid = rowid <ℤ low

abbrev pub AreValuesUnder : (low : Option (List Value)) → List Value → Type 0
AreValuesUnder None row = ⊥
AreValuesUnder (Some low) row = leading_order row low ≡ Less

-- an item is under the low bound: a row by its rowid, an entry by its record
abbrev pub IsUnder : Bounds → Item → Type 0
IsUnder (Rows low high) item = IsRowidUnder low item.key
IsUnder (Entries low high) item = (row : List Value) × (IsRecord item.bytes row × AreValuesUnder low row)

-- and over a high one
abbrev pub IsRowidOver : (high : Option ℤ) → ℤ → Type 0
IsRowidOver None rowid = ⊥
IsRowidOver (Some high) rowid = high <ℤ rowid

abbrev pub AreValuesOver : (high : Option (List Value)) → List Value → Type 0
AreValuesOver None row = ⊥
AreValuesOver (Some high) row = leading_order row high ≡ Greater

abbrev pub IsOver : Bounds → Item → Type 0
IsOver (Rows low high) item = IsRowidOver high item.key
IsOver (Entries low high) item = (row : List Value) × (IsRecord item.bytes row × AreValuesOver high row)

-- an item is over the bound by its key alone, or by its row
abbrev pub IsKeyOver : Bounds → ℤ → Type 0
IsKeyOver (Rows low high) rowid = IsRowidOver high rowid
IsKeyOver (Entries low high) rowid = ⊥

abbrev pub IsRowOver : Bounds → List Value → Type 0
IsRowOver (Rows low high) row = ⊥
IsRowOver (Entries low high) row = AreValuesOver high row

-- Of items these are from the low bound on, and those before them are under it.
pub record AreFrom (bounds : Bounds) (items rest : List Item) : Type 0 where
  pub front : List Item
  pub items_are : items ≡ front ++ rest
  pub under : Each (IsUnder bounds) front
  pub not_under : Each (λ (item : Item). IsUnder bounds item → ⊥) rest

-- Of items these are up to the high bound, and those behind them are over it.
pub record AreUpTo (bounds : Bounds) (items some : List Item) : Type 0 where
  pub back : List Item
  pub items_are : items ≡ some ++ back
  pub inside : Each (λ (item : Item). IsOver bounds item → ⊥) some
  pub over : Each (IsOver bounds) back

-- the last value of a row where that is an integer, else 0
abbrev pub number_at_end : Option Value → ℤ
number_at_end None = pos 0
number_at_end (Some value) = integer value

abbrev pub last_integer : List Value → ℤ
last_integer row = number_at_end (slice_get row (length row - 1))

-- the number that comes with a row: its rowid, or that of an entry
abbrev pub number_of_row : Bounds → (rowid : ℤ) → List Value → ℤ
number_of_row (Rows low high) rowid row = rowid
number_of_row (Entries low high) rowid row = last_integer row

-- looking for the low bound's place compares entries, and so reads them
abbrev pub may_look : (seek : Bool) → Bounds → Bool
may_look false bounds = false
may_look true (Rows low high) = false
may_look true (Entries None high) = false
may_look true (Entries (Some low) high) = true
