-- What numbers, quoted texts and blobs stand for.
use Rattle.std.specs.Prelude.{ℕ, pos, min, ◌+◌, ◌-◌, ◌*◌, ◌^◌, Bool, true, false, ◌==◌, nat_lt, if◌then◌else◌, List, [], ◌∷◌, length, take, drop}
use Rattle.std.specs.List.{list_all}
use Rattle.sql_text.specs.Token.{between, is_digit}
use Rattle.sql_lexemes.specs.declared.lexeme.Lexeme.{Lexeme}
use Rattle.sql_lexemes.specs.declared.lexeme.Lexeme.TheVariants as l

-- the number that digits spell behind a number
unfoldable pub number_from : ℕ → List ℕ → ℕ
number_from n [] = n
number_from n (digit ∷ digits) = number_from (n * 10 + (digit - 48)) digits

abbrev pub number_of : List ℕ → ℕ
number_of digits = number_from 0 digits

-- a number up to 2^63, or one more where it is greater
abbrev pub capped : ℕ → ℕ
capped n = min n (2 ^ 63 + 1)

-- an integer, which is alone or not
abbrev pub integer_lexeme : ℕ → Bool → Lexeme
integer_lexeme n alone = if nat_lt n (2 ^ 63) then l.Int (pos n) alone else (if n == 2 ^ 63 then l.Least else l.Huge)

abbrev pub number_lexeme : List ℕ → Bool → Lexeme
number_lexeme bytes alone = if list_all is_digit bytes then integer_lexeme (number_of bytes) alone else l.Float

-- the bytes behind the first ones, as many as are told, without the last
abbrev pub inside : ℕ → List ℕ → List ℕ
inside front bytes = take (length bytes - front - 1) (drop front bytes)

-- each doubled quote as one: of two quotes the second is left out
unfoldable pub single_quotes : ℕ → Bool → List ℕ → List ℕ
single_quotes quote second [] = []
single_quotes quote true (byte ∷ bytes) = single_quotes quote false bytes
single_quotes quote false (byte ∷ bytes) = byte ∷ single_quotes quote (byte == quote) bytes

-- what stands between two quotes, each doubled quote as one
abbrev pub quoted_bytes : ℕ → List ℕ → List ℕ
quoted_bytes quote bytes = single_quotes quote false (inside 1 bytes)

-- what a hexadecimal digit stands for; 0 for another byte
abbrev pub hex_value : ℕ → ℕ
hex_value byte =
    if is_digit byte then byte - 48 else (if between 65 70 byte then byte - 55 else (if between 97 102 byte then byte - 87 else 0))

abbrev pub hex_byte : ℕ → ℕ → ℕ
hex_byte high low = hex_value high * 16 + hex_value low

-- one byte for two digits
unfoldable pub hex_bytes : List ℕ → List ℕ
hex_bytes (high ∷ low ∷ digits) = hex_byte high low ∷ hex_bytes digits
hex_bytes _ = []
