-- Serial types: what the bytes of one value in a record are, by the table of SQLite's page "Database File Format" under
-- "Record Format".
use Rattle.std.specs.Prelude.{ℕ, ◌-◌, ◌+◌, ◌*◌, ◌/◌, ◌%◌, ◌^◌, ℤ, pos, negsuc, List, [], length, ◌==◌, nat_lt, if◌then◌else◌}
use Rattle.std.specs.Int.{bytes_high_first, cast_unsigned, w64}
use Rattle.std.specs.Int.Digits.{number_from_digits}
use Rattle.value_form.specs.declared.value.Value.{Value}
use Rattle.value_form.specs.declared.value.Value.TheVariants.{Null, Int, Text, Blob}

-- how many bytes a value of this type has
unfoldable pub body_size : ℕ → ℕ
body_size type =
    if nat_lt type 5 then type else
    if type == 5 then 6 else
    if nat_lt type 8 then 8 else
    if nat_lt type 12 then 0 else (type - 12) / 2

-- one of so many numbers, of which the upper half stands for the negative ones: `negsuc k` is -1 - k
abbrev pub signed : ℕ → ℕ → ℤ
signed count number = if nat_lt number (count / 2) then pos number else negsuc (count - 1 - number)

-- the integer that bytes spell in two's complement, the highest byte first
unfoldable pub twos_complement : List ℕ → ℤ
twos_complement bytes = signed (256 ^ length bytes) (number_from_digits 256 bytes)

-- the value of these bytes at this type, which is none of 7, a float, and 10 and 11, which no record has
unfoldable pub value_of : ℕ → List ℕ → Value
value_of type body =
    if type == 0 then Null else
    if nat_lt type 7 then Int (twos_complement body) else
    if type == 8 then Int (pos 0) else
    if type == 9 then Int (pos 1) else
    if type % 2 == 0 then Blob body else Text body

-- The types and the bytes with which a value is written.

-- how far an integer is from 0 or, where it is negative, from -1: what its bits other than the sign spell
abbrev pub magnitude : ℤ → ℕ
magnitude (pos n) = n
magnitude (negsuc n) = n

-- the first of the types 1 to 6 whose bytes have room for the integer: all their bits but one, which is the sign
unfoldable pub integer_type : ℤ → ℕ
integer_type n =
    if nat_lt (magnitude n) (2 ^ 7) then 1 else
    if nat_lt (magnitude n) (2 ^ 15) then 2 else
    if nat_lt (magnitude n) (2 ^ 23) then 3 else
    if nat_lt (magnitude n) (2 ^ 31) then 4 else
    if nat_lt (magnitude n) (2 ^ 47) then 5 else 6

abbrev pub type_of : Value → ℕ
type_of Null = 0
type_of (Int n) = integer_type n
type_of (Text t) = 13 + 2 * length t
type_of (Blob b) = 12 + 2 * length b

abbrev pub body_of : Value → List ℕ
body_of Null = []
body_of (Int n) = bytes_high_first (body_size (integer_type n)) (cast_unsigned w64 n)
body_of (Text t) = t
body_of (Blob b) = b
