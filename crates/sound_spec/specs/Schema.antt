-- The schema: what page 1's tree lists. Each row of it is an object of the database and names the root of the object's tree.
-- Source: SQLite's "Database File Format", "Storage Of The SQL Database Schema".
--
-- | value    | what                                                               |
-- | type     | a text                                                             |
-- | name     | a text                                                             |
-- | tbl_name | a text                                                             |
-- | rootpage | the number of the root, an integer; 0 or NULL where there is no tree |
-- | sql      | a text or NULL                                                     |
--
-- NULL stands for values that a record lacks at its end. Values behind these five mean nothing.
use Rattle.std.specs.Prelude.{◌≡◌, ℕ, zero, suc, ◌^◌, ◌<◌, ◌≤◌, ◌⊎◌, pos, List, [], ◌∷◌, length}
use Rattle.std.specs.List.{slice_index_or}
use Rattle.value_form.specs.declared.value.Value.{Value}
use Rattle.value_form.specs.declared.value.Value.TheVariants.{Null, Int, Text, Blob}
use Rattle.value_form.specs.Record.{IsRecord}
use Rattle.tree_spec.specs.Layout.{Item}

-- the value of a row at a place, NULL behind its end
abbrev pub column : List Value → ℕ → Value
column row place = slice_index_or row place Null

abbrev pub IsText : Value → Type 0
IsText Null = ⊥
IsText (Int n) = ⊥
IsText (Text t) = Unit {0}
IsText (Blob b) = ⊥

abbrev pub IsTextOrNull : Value → Type 0
IsTextOrNull Null = Unit {0}
IsTextOrNull (Int n) = ⊥
IsTextOrNull (Text t) = Unit {0}
IsTextOrNull (Blob b) = ⊥

-- the value is the number of a root, a page from 2 to the last one, or 0 or NULL for none
abbrev pub IsRootNumber : (last : ℕ) → Value → (root : ℕ) → Type 0
IsRootNumber last Null root = root ≡ 0
IsRootNumber last (Int n) root = (n ≡ pos root) × ((root ≡ 0) ⊎ ((2 ≤ root) × (root ≤ last)))
IsRootNumber last (Text t) root = ⊥
IsRootNumber last (Blob b) root = ⊥

-- the values are an object's, which has this root, 0 for none
pub record IsSchemaRow (last : ℕ) (row : List Value) (root : ℕ) : Type 0 where
  pub type_is : IsText (column row 0)
  pub name_is : IsText (column row 1)
  pub table_is : IsText (column row 2)
  pub root_is : IsRootNumber last (column row 3) root
  pub sql_is : IsTextOrNull (column row 4)

-- An item's payload is the record of an object with this root. A payload of 2^32 bytes or more is no record that is read.
pub record NamesRoot (last : ℕ) (item : Item) (root : ℕ) : Type 0 where
  pub short : length item.bytes < 2 ^ 32
  pub row : List Value
  pub record_is : IsRecord item.bytes row
  pub names : IsSchemaRow last row root

-- a root before others, if it is one
abbrev pub with_root : ℕ → List ℕ → List ℕ
with_root zero roots = roots
with_root (suc n) roots = suc n ∷ roots

-- these items name these roots, in the order of the items
abbrev pub NameRoots : (last : ℕ) → List Item → (roots : List ℕ) → Type 0
NameRoots last [] roots = roots ≡ []
NameRoots last (item ∷ items) roots =
    (root : ℕ) × (others : List ℕ) × NamesRoot last item root × (roots ≡ with_root root others) × NameRoots last items others
