-- Numbers in a row of bytes, the most significant byte first.
use Rattle.std.specs.Prelude.{◌≡◌, ℕ, ◌+◌, ◌*◌, ◌^◌, ◌<◌, ◌≤◌, List, length, slice_index, All}

-- every number of the list is a byte
abbrev pub AreBytes : List ℕ → Type 0
AreBytes bytes = All (λ byte. byte < 256) bytes

-- the number in the two bytes at an offset
unfoldable pub u16_at : List ℕ → ℕ → ℕ
u16_at bytes at = slice_index bytes at * 2 ^ 8 + slice_index bytes (at + 1)

-- the number in the four bytes at an offset
unfoldable pub u32_at : List ℕ → ℕ → ℕ
u32_at bytes at =
    slice_index bytes at * 2 ^ 24 + slice_index bytes (at + 1) * 2 ^ 16
    + slice_index bytes (at + 2) * 2 ^ 8 + slice_index bytes (at + 3)

-- two rows of bytes are equally long, and differ at most from one offset up to another
pub record DiffersOnlyWithin (old new : List ℕ) (from to : ℕ) : Type 0 where
  pub same_length : length new ≡ length old
  pub before : (k : ℕ) → k < from → slice_index new k ≡ slice_index old k
  pub after : (k : ℕ) → to ≤ k → slice_index new k ≡ slice_index old k
