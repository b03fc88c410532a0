-- The lines of a script, cut out of its bytes.
use Rattle.std.specs.Prelude.{ℕ, ◌≢◌, ◌+◌, ◌-◌, Bool, ◌&&◌, List, [], ◌∷◌, length, take, slice_index, if◌then◌else◌, ◌==◌, nat_le}

-- no byte is LF
abbrev pub HasNoEnd : List ℕ → Type 0
HasNoEnd [] = Unit {0}
HasNoEnd (byte ∷ bytes) = (byte ≢ 10) × HasNoEnd bytes

-- one more byte before the first line
abbrev pub before_lines : ℕ → List (List ℕ) → List (List ℕ)
before_lines byte [] = (byte ∷ []) ∷ []
before_lines byte (line ∷ lines) = (byte ∷ line) ∷ lines

-- The lines of a script, each with its end, which is LF. The last one may lack it.
unfoldable pub raw_lines : List ℕ → List (List ℕ)
raw_lines [] = []
raw_lines (byte ∷ bytes) = if byte == 10 then (10 ∷ []) ∷ raw_lines bytes else before_lines byte (raw_lines bytes)

-- the last byte is this one, which isn't 0
abbrev pub ends_with_byte : List ℕ → ℕ → Bool
ends_with_byte bytes byte = slice_index bytes (length bytes - 1) == byte

-- the bytes but for the last
abbrev pub but_last : List ℕ → List ℕ
but_last bytes = take (length bytes - 1) bytes

-- the text without one CR at its end
abbrev pub without_cr : List ℕ → List ℕ
without_cr text = if ends_with_byte text 13 then but_last text else text

-- the text of a line: the LF at its end is dropped, and one CR before that LF
abbrev pub text_of_raw : List ℕ → List ℕ
text_of_raw raw = if ends_with_byte raw 10 then without_cr (but_last raw) else raw

-- the most bytes of a line's text
abbrev pub line_limit : ℕ
line_limit = 65536

-- the most bytes of a script
abbrev pub script_limit : ℕ
script_limit = 16777216

-- a line is within the limits, where so many bytes of the script stand before it: its text, and where its end lies
abbrev pub is_within : ℕ → List ℕ → Bool
is_within passed raw = nat_le (length (text_of_raw raw)) line_limit && nat_le (passed + length raw) script_limit
