-- Varints, as the page "Database File Format" of SQLite defines them under "B-tree Cell Format": a whole number of
-- at most 64 bits in 1 to 9 bytes, seven bits in each, the highest first. The top bit of a byte says that another
-- byte follows. A ninth byte gives all its eight bits.
use Rattle.std.specs.Prelude.{◌≡◌, ℕ, ◌+◌, ◌-◌, ◌*◌, ◌/◌, ◌%◌, ◌^◌, ◌≤◌, List, [], ◌∷◌, ◌++◌, length, map, take, slice_index, ◌==◌, nat_lt, nat_le, if◌then◌else◌, zero, suc}
use Rattle.std.specs.List.{take_while}
use Rattle.std.specs.Int.Digits.{number_from_digits}
use Rattle.page_spec.specs.Bytes.{AreBytes}

-- the bytes of the varint at the front that say that another byte follows: of the first eight, all before one below 128
unfoldable pub carrying : List ℕ → List ℕ
carrying bytes = take_while (nat_le 128) (take 8 bytes)

-- how many bytes the varint at the front has
unfoldable pub varint_size : List ℕ → ℕ
varint_size bytes = length (carrying bytes) + 1

-- how many numbers the last byte of a varint of so many bytes can give
unfoldable pub last_values : ℕ → ℕ
last_values size = if size == 9 then 2 ^ 8 else 2 ^ 7

-- the number that the varint at the front spells
unfoldable pub varint_number : List ℕ → ℕ
varint_number bytes =
    number_from_digits 128 (map (λ byte. byte - 128) (carrying bytes)) * last_values (varint_size bytes)
    + slice_index bytes (length (carrying bytes))

-- the bytes begin with a whole varint, which spells this number and has so many bytes
pub record BeginsWithVarint (bytes : List ℕ) (number size : ℕ) : Type 0 where
  pub spelled : varint_number bytes ≡ number
  pub used : varint_size bytes ≡ size
  pub whole : size ≤ length bytes

-- the bytes are one varint of this number and nothing else, and no varint of this number has fewer bytes
pub record IsShortestVarint (bytes : List ℕ) (number : ℕ) : Type 0 where
  pub spelled : varint_number bytes ≡ number
  pub used : varint_size bytes ≡ length bytes
  pub shortest : (others : List ℕ) → AreBytes others → BeginsWithVarint others number (length others) → length bytes ≤ length others

-- how many bytes the shortest varint of a number has, by the number's size
unfoldable pub shortest_size : ℕ → ℕ
shortest_size number =
    if nat_lt number (2 ^ 7) then 1 else
    if nat_lt number (2 ^ 14) then 2 else
    if nat_lt number (2 ^ 21) then 3 else
    if nat_lt number (2 ^ 28) then 4 else
    if nat_lt number (2 ^ 35) then 5 else
    if nat_lt number (2 ^ 42) then 6 else
    if nat_lt number (2 ^ 49) then 7 else
    if nat_lt number (2 ^ 56) then 8 else 9

-- the lowest groups of seven bits of a number, as many as are told, in bytes that say that another byte follows
unfoldable pub groups : ℕ → ℕ → List ℕ
groups zero number = []
groups (suc count) number = groups count (number / 128) ++ (128 + number % 128) ∷ []

-- the shortest varint of a number of at most 64 bits
unfoldable pub shortest_varint : ℕ → List ℕ
shortest_varint number =
    let values = last_values (shortest_size number) in
    groups (shortest_size number - 1) (number / values) ++ number % values ∷ []
