-- The text of a record, as SQLite's page "Database File Format" defines it under "Record Format": a header, which is the
-- header's size as a varint and a serial type as a varint for each value, and then the bytes of the values. The size of the
-- header counts the varint that spells it. Bytes after those of the values have no meaning.
--
-- Floats aren't read. The order of the faults, and what each tells, are this project's own.
use Rattle.std.specs.Prelude.{◌≡◌, ℕ, ◌-◌, ◌^◌, ◌<◌, ◌≤◌, ◌⊎◌, min, List, [], ◌∷◌, length, take, drop, sum_by, Option, None, Some, Result, Err, position, Bool, false, ◌==◌, nat_le, ◌&&◌, not, IsTrue}
use Rattle.page_spec.specs.Varint.{varint_size, varint_number}
use Rattle.value_form.specs.declared.value.Value.{Value}
use Rattle.value_form.specs.declared.fault.RecordFault.{RecordFault}
use Rattle.value_form.specs.declared.fault.RecordFault.TheVariants.{BadHeader, Short, Float, Memory}
use Rattle.value_form.specs.Serial.{body_size, value_of}

-- The header.

-- the header ends where its size says: not inside the varint of the size, and within the record
unfoldable pub has_header : List ℕ → Bool
has_header bytes = nat_le (varint_size bytes) (varint_number bytes) && nat_le (varint_number bytes) (length bytes)

-- what of a record is left of the header from an offset on
abbrev pub header_from : List ℕ → ℕ → List ℕ
header_from bytes at = drop at (take (varint_number bytes) bytes)

-- what follows the header
abbrev pub bodies_in : List ℕ → List ℕ
bodies_in bytes = drop (varint_number bytes) bytes

-- the bytes begin with a serial type: a whole varint, of a type that is allowed
unfoldable pub begins_with_type : List ℕ → Bool
begins_with_type bytes = nat_le (varint_size bytes) (length bytes) && not (varint_number bytes == 10) && not (varint_number bytes == 11)

-- the bytes are these serial types, one after another, and then the rest
abbrev pub BeginsWithTypes : List ℕ → List ℕ → List ℕ → Type 0
BeginsWithTypes bytes [] rest = bytes ≡ rest
BeginsWithTypes bytes (type ∷ types) rest =
    IsTrue (begins_with_type bytes) × (varint_number bytes ≡ type) × BeginsWithTypes (drop (varint_size bytes) bytes) types rest

-- the record has a header of these serial types
pub record HasTypes (bytes types : List ℕ) : Type 0 where
  pub size : IsTrue (has_header bytes)
  pub spelled : BeginsWithTypes (header_from bytes (varint_size bytes)) types []

-- The values.

-- how many bytes values of these types have together
abbrev pub bodies_size : List ℕ → ℕ
bodies_size types = sum_by body_size types

-- the first column whose value is a float, if there is one
abbrev pub first_float : List ℕ → Option ℕ
first_float types = position (λ type. type == 7) types

-- the values of these types, whose bytes stand one after another
abbrev pub values_of : List ℕ → List ℕ → List Value
values_of [] bodies = []
values_of (type ∷ types) bodies = value_of type (take (body_size type) bodies) ∷ values_of types (drop (body_size type) bodies)

-- The bytes begin with the record of this row: it has a header, the bytes of all values, and no float.
pub record IsRecord (bytes : List ℕ) (row : List Value) : Type 0 where
  pub types : List ℕ
  pub header : HasTypes bytes types
  pub whole : bodies_size types ≤ length (bodies_in bytes)
  pub no_float : first_float types ≡ None
  pub values : values_of types (bodies_in bytes) ≡ row

-- Each fault. Where several causes stand together, the first of these is told.

-- the varint at this offset, inside the header, is no serial type that is allowed, and all before it are
pub record BreaksType (bytes : List ℕ) (at : ℕ) : Type 0 where
  pub size : IsTrue (has_header bytes)
  pub inside : at < varint_number bytes
  pub before : List ℕ
  pub spelled : BeginsWithTypes (header_from bytes (varint_size bytes)) before (header_from bytes at)
  pub broken : begins_with_type (header_from bytes at) ≡ false

-- the record has no header, which is told at 0, or a serial type breaks the header
abbrev pub BreaksHeader : List ℕ → ℕ → Type 0
BreaksHeader bytes at = ((has_header bytes ≡ false) × (at ≡ 0)) ⊎ BreaksType bytes at

-- the values need more bytes than follow the header: so many, or 2^64-1 where they are more
pub record IsShort (bytes : List ℕ) (need : ℕ) : Type 0 where
  pub types : List ℕ
  pub header : HasTypes bytes types
  pub short : length (bodies_in bytes) < bodies_size types
  pub told : need ≡ min (bodies_size types) (2 ^ 64 - 1)

-- the value of this column is a float, and no earlier one is
pub record HasFloat (bytes : List ℕ) (column : ℕ) : Type 0 where
  pub types : List ℕ
  pub header : HasTypes bytes types
  pub whole : bodies_size types ≤ length (bodies_in bytes)
  pub first : first_float types ≡ Some column

-- the bytes are no record that is read, for this cause
abbrev pub IsRefused : List ℕ → RecordFault → Type 0
IsRefused bytes (BadHeader at) = BreaksHeader bytes at
IsRefused bytes (Short need) = IsShort bytes need
IsRefused bytes (Float column) = HasFloat bytes column
IsRefused bytes Memory = ⊥

-- an answer is this one, or that memory ran out
abbrev pub IsOrMemory : Result (List Value) RecordFault → Result (List Value) RecordFault → Type 0
IsOrMemory answer this = (answer ≡ this) ⊎ (answer ≡ Err Memory)
