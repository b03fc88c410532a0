-- The order of values and of rows, as SQLite's page "Database File Format" has it under "Record Sort Order", at the BINARY
-- collation and without floats: NULL, then integers, then texts, then blobs. Texts and blobs compare by their bytes.
use Rattle.std.specs.Prelude.{◌≡◌, ℕ, ℤ, pos, List, []}
use Rattle.std.specs.declared.cmp.Ordering.{Ordering}
use Rattle.std.specs.declared.cmp.Ordering.TheVariants.{Less, Equal}
use Rattle.std.specs.Ordering.{nat_cmp, int_cmp, on, then_cmp, ordering_reverse}
use Rattle.std.specs.Cmp.Lexicographic.{slice_cmp}
use Rattle.value_form.specs.declared.value.Value.{Value}
use Rattle.value_form.specs.declared.value.Value.TheVariants.{Null, Int, Text, Blob}

-- where the class of a value stands among the classes
abbrev pub class : Value → ℕ
class Null = 0
class (Int n) = 1
class (Text t) = 2
class (Blob b) = 3

-- the integer, or 0 where the value is none
abbrev pub integer : Value → ℤ
integer Null = pos 0
integer (Int n) = n
integer (Text t) = pos 0
integer (Blob b) = pos 0

-- the bytes of a text or a blob, or none
abbrev pub bytes : Value → List ℕ
bytes Null = []
bytes (Int n) = []
bytes (Text t) = t
bytes (Blob b) = b

-- by the class, then by the integer, then by the bytes
unfoldable pub value_order : Value → Value → Ordering
value_order = then_cmp (on class nat_cmp) (then_cmp (on integer int_cmp) (on bytes (slice_cmp nat_cmp)))

-- value by value, and a row before each row that it begins
abbrev pub row_order : List Value → List Value → Ordering
row_order = slice_cmp value_order

-- A linear order: any two are in one of the three relations, and only what is the same is equal.
pub record IsLinearOrder {T : Type 0} (compare : T → T → Ordering) : Type 0 where
  pub same : (a : T) → compare a a ≡ Equal
  pub apart : (a b : T) → compare a b ≡ Equal → a ≡ b
  pub reversed : (a b : T) → compare b a ≡ ordering_reverse (compare a b)
  pub transitive : (a b c : T) → compare a b ≡ Less → compare b c ≡ Less → compare a c ≡ Less
