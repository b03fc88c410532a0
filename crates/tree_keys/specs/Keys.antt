-- What is put into a tree or taken out, and where its place is.
use Rattle.std.specs.Prelude.{◌≡◌, ℤ, Bool, true, false, List, Option, None, Some}
use Rattle.std.specs.declared.cmp.Ordering.TheVariants.{Less, Greater}
use Rattle.tree_spec.specs.Layout.{Item}
use Rattle.value_form.specs.declared.value.Value.{Value}
use Rattle.value_form.specs.Order.{row_order}
use Rattle.value_form.specs.Record.{IsRecord}
use Rattle.edit_spec.specs.Places.{Gap, somewhere, place_of_key}
use Rattle.tree_read.specs.Entries.{IsAmong, RowsRise}
use Rattle.tree_keys.specs.declared.key.Key.{Key}
use Rattle.tree_keys.specs.declared.key.Key.TheVariants as key

-- a row of a table by its rowid, or an entry of an index
pub data Sought : Type 0 where
  OfRow : ℤ → Sought
  OfEntry : List Value → Sought

-- what a key is of
abbrev pub sought_by : Key → Sought
sought_by (key.Rowid rowid) = OfRow rowid
sought_by (key.Entry entry) = OfEntry entry.now

-- it goes into a table's tree
abbrev pub is_row : Sought → Bool
is_row (OfRow rowid) = true
is_row (OfEntry entry) = false

-- the rowid of a row
abbrev pub rowid_of : Sought → Option ℤ
rowid_of (OfRow rowid) = Some rowid
rowid_of (OfEntry entry) = None

-- an entry's place in the order of rows: rows before it are less, and those behind it greater
abbrev pub place_of_entry : List Value → Gap
place_of_entry entry = record {
  Before = λ item. (row : List Value) → IsRecord item.bytes row → row_order row entry ≡ Less;
  Behind = λ item. (row : List Value) → IsRecord item.bytes row → row_order row entry ≡ Greater;
}

abbrev pub place_of : Sought → Gap
place_of (OfRow rowid) = place_of_key rowid
place_of (OfEntry entry) = place_of_entry entry

-- the items stand in the order of rows, if it is an index; a table's do so by its tree
abbrev pub AreOrdered : Sought → List Item → Type 0
AreOrdered (OfRow rowid) items = Unit {0}
AreOrdered (OfEntry entry) items = RowsRise items

-- an item is there with the rowid, or with the entry's record
abbrev pub HasKey : Sought → List Item → Type 0
HasKey (OfRow rowid) items = (item : Item) × (IsAmong items item × (item.key ≡ rowid))
HasKey (OfEntry entry) items = (item : Item) × (IsAmong items item × IsRecord item.bytes entry)

-- Where an item is put in or taken out at a page. Beside an entry's gap there are rows, of which one is less and one greater.
abbrev pub entry_gap : List Value → Gap
entry_gap entry = record {
  Before = λ item. (row : List Value) × (IsRecord item.bytes row × (row_order row entry ≡ Less));
  Behind = λ item. (row : List Value) × (IsRecord item.bytes row × (row_order row entry ≡ Greater));
}

abbrev pub gap_of : Sought → Gap
gap_of (OfRow rowid) = somewhere
gap_of (OfEntry entry) = entry_gap entry
