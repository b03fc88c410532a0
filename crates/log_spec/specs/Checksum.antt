-- The checksum of a log, as SQLite's page "Database File Format" defines it under "Checksum Algorithm": it runs over pairs of
-- 4-byte words, and so is said of a multiple of 8 bytes.
use Rattle.std.specs.Prelude.{ℕ, zero, suc, ◌+◌, ◌*◌, ◌/◌, ◌%◌, ◌^◌, Bool, if◌then◌else◌, List, length, slice_index}
use Rattle.page_spec.specs.Bytes.{u32_at}

-- the two words of a checksum
abbrev pub Sum : Type 0
Sum = ℕ × ℕ

-- the word in the four bytes at an offset: the most significant byte first where `big` says so, else the least
unfoldable pub word_at : Bool → List ℕ → ℕ → ℕ
word_at big bytes at =
    if big then u32_at bytes at
    else slice_index bytes at + slice_index bytes (at + 1) * 2 ^ 8 + slice_index bytes (at + 2) * 2 ^ 16
    + slice_index bytes (at + 3) * 2 ^ 24

-- the checksum after one more pair of words
abbrev pub pair_step : Sum → ℕ → ℕ → Sum
pair_step sum x y = let first = (sum.0 + x + sum.1) % 2 ^ 32 in (first, (sum.1 + y + first) % 2 ^ 32)

-- the checksum after the first pairs of words of some bytes, as many as are told
unfoldable pub sum_of_pairs : Bool → Sum → List ℕ → ℕ → Sum
sum_of_pairs big sum bytes zero = sum
sum_of_pairs big sum bytes (suc count) =
    pair_step (sum_of_pairs big sum bytes count) (word_at big bytes (8 * count)) (word_at big bytes (8 * count + 4))

-- the checksum after some bytes, going on from another
unfoldable pub checksum : Bool → Sum → List ℕ → Sum
checksum big sum bytes = sum_of_pairs big sum bytes (length bytes / 8)
