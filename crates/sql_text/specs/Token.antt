-- What a token is: bytes of a kind, and what may stand behind them.
use Rattle.std.specs.Prelude.{◌≡◌, ℕ, ◌*◌, ◌≤◌, Bool, true, false, ◌||◌, ◌&&◌, ◌==◌, nat_le, if◌then◌else◌, ◌⊎◌, List, [], ◌∷◌, ◌++◌, length, take, drop, Option, Some, None}
use Rattle.std.specs.List.{list_all}
use Rattle.sql_text.specs.declared.token.TokenKind.{TokenKind}
use Rattle.sql_text.specs.declared.token.TokenKind.TheVariants as k

-- ---- bytes

abbrev pub between : ℕ → ℕ → ℕ → Bool
between low high byte = nat_le low byte && nat_le byte high

abbrev pub is_digit : ℕ → Bool
is_digit = between 48 57

-- an ASCII letter or `_`
abbrev pub is_letter : ℕ → Bool
is_letter byte = between 97 122 byte || (between 65 90 byte || byte == 95)

abbrev pub is_word : ℕ → Bool
is_word byte = is_letter byte || is_digit byte

abbrev pub is_hex : ℕ → Bool
is_hex byte = is_digit byte || (between 97 102 byte || between 65 70 byte)

-- `x` or `X`
abbrev pub is_x : ℕ → Bool
is_x byte = byte == 120 || byte == 88

-- `e` or `E`
abbrev pub is_exponent : ℕ → Bool
is_exponent byte = byte == 101 || byte == 69

-- `+` or `-`
abbrev pub is_plus_or_minus : ℕ → Bool
is_plus_or_minus byte = byte == 43 || byte == 45

-- `( ) * + , - / ; %`
abbrev pub is_sign : ℕ → Bool
is_sign byte = between 40 45 byte || (byte == 59 || (byte == 47 || byte == 37))

abbrev pub begins : ℕ → List ℕ → Bool
begins first [] = false
begins first (byte ∷ bytes) = byte == first

-- ---- words

-- a letter or `_`, and then letters, digits and `_`
abbrev pub IsWord : List ℕ → Type 0
IsWord bytes = (first : ℕ) × (others : List ℕ) × (bytes ≡ first ∷ others) × (is_letter first ≡ true) × (list_all is_word others ≡ true)

-- an `x` directly before a single quote
abbrev pub opens_blob : List ℕ → Bool
opens_blob [] = false
opens_blob (byte ∷ bytes) = is_x byte && begins 39 bytes

-- ---- what stands in quotes

-- the bytes with each quote among them doubled
unfoldable pub doubled : ℕ → List ℕ → List ℕ
doubled quote [] = []
doubled quote (byte ∷ bytes) = byte ∷ (if byte == quote then quote ∷ doubled quote bytes else doubled quote bytes)

-- the bytes behind an open quote
abbrev pub Closes : ℕ → List ℕ → Type 0
Closes quote bytes = (inner : List ℕ) × (bytes ≡ doubled quote inner ++ quote ∷ [])

-- some bytes in quotes, each quote among them doubled
abbrev pub IsQuoted : ℕ → List ℕ → Type 0
IsQuoted quote bytes = (rest : List ℕ) × (bytes ≡ quote ∷ rest) × Closes quote rest

-- twice as many hexadecimal digits as told, and a quote
abbrev pub EndsBlob : ℕ → List ℕ → Type 0
EndsBlob count bytes = (digits : List ℕ) × (bytes ≡ digits ++ 39 ∷ []) × (list_all is_hex digits ≡ true) × (length digits ≡ count)

-- an `x`, and an even number of hexadecimal digits in single quotes
abbrev pub IsBlob : List ℕ → Type 0
IsBlob bytes = (x : ℕ) × (rest : List ℕ) × (bytes ≡ x ∷ 39 ∷ rest) × (is_x x ≡ true) × ((pairs : ℕ) × EndsBlob (2 * pairs) rest)

-- ---- numbers

abbrev pub AreDigits : List ℕ → Type 0
AreDigits bytes = list_all is_digit bytes ≡ true

abbrev pub SomeDigits : List ℕ → Type 0
SomeDigits bytes = (digit : ℕ) × (digits : List ℕ) × (bytes ≡ digit ∷ digits) × (is_digit digit ≡ true) × AreDigits digits

-- some digits, maybe behind a sign
abbrev pub SignedDigits : List ℕ → Type 0
SignedDigits bytes = SomeDigits bytes ⊎ ((sign : ℕ) × (digits : List ℕ) × (bytes ≡ sign ∷ digits) × (is_plus_or_minus sign ≡ true) × SomeDigits digits)

-- nothing, or an exponent
abbrev pub MaybeExponent : List ℕ → Type 0
MaybeExponent bytes = (bytes ≡ []) ⊎ ((e : ℕ) × (power : List ℕ) × (bytes ≡ e ∷ power) × (is_exponent e ≡ true) × SignedDigits power)

-- digits, and maybe an exponent
abbrev pub AfterPoint : List ℕ → Type 0
AfterPoint bytes = (digits : List ℕ) × (exponent : List ℕ) × (bytes ≡ digits ++ exponent) × AreDigits digits × MaybeExponent exponent

-- a point behind digits, and what may stand behind it; or maybe an exponent
abbrev pub AfterDigits : List ℕ → Type 0
AfterDigits bytes = ((rest : List ℕ) × (bytes ≡ 46 ∷ rest) × AfterPoint rest) ⊎ MaybeExponent bytes

-- one or more digits, maybe a point and digits, and maybe an exponent; or a point, one or more digits, and maybe an exponent
abbrev pub IsNumber : List ℕ → Type 0
IsNumber bytes =
    ((digits : List ℕ) × (rest : List ℕ) × (bytes ≡ digits ++ rest) × SomeDigits digits × AfterDigits rest)
    ⊎ ((digits : List ℕ) × (exponent : List ℕ) × (bytes ≡ 46 ∷ (digits ++ exponent)) × SomeDigits digits × MaybeExponent exponent)

-- ---- signs

-- `== <= <> >= !=`
abbrev pub is_pair : ℕ → ℕ → Bool
is_pair first second =
    (first == 61 && second == 61) || ((first == 60 && (second == 61 || second == 62)) || ((first == 62 && second == 61) || (first == 33 && second == 61)))

-- one of `( ) , ; * / % + - . = < >`, or of the signs of two bytes
abbrev pub IsSign : List ℕ → Type 0
IsSign bytes =
    ((byte : ℕ) × (bytes ≡ byte ∷ []) × ((is_sign byte || (byte == 46 || (byte == 61 || (byte == 60 || byte == 62)))) ≡ true))
    ⊎ ((first : ℕ) × (second : ℕ) × (bytes ≡ first ∷ second ∷ []) × (is_pair first second ≡ true))

-- ---- tokens

-- The bytes are a token of this kind where the others stand behind them: a text or a quoted name ends at a quote that isn't doubled, and an `x`
-- before a quote is no word.
abbrev pub IsToken : TokenKind → List ℕ → List ℕ → Type 0
IsToken k.Word bytes rest = IsWord bytes × (opens_blob (bytes ++ rest) ≡ false)
IsToken k.Quoted bytes rest = IsQuoted 34 bytes × (begins 34 rest ≡ false)
IsToken k.Number bytes rest = IsNumber bytes
IsToken k.Text bytes rest = IsQuoted 39 bytes × (begins 39 rest ≡ false)
IsToken k.Blob bytes rest = IsBlob bytes
IsToken k.Sign bytes rest = IsSign bytes

-- as many of the bytes as told are a token of this kind
abbrev pub IsTokenOf : List ℕ → TokenKind → ℕ → Type 0
IsTokenOf bytes kind size = (size ≤ length bytes) × IsToken kind (take size bytes) (drop size bytes)

-- The longest token that begins these bytes has this kind and this size, or none begins them.
abbrev pub IsLongest : List ℕ → Option (TokenKind × ℕ) → Type 0
IsLongest bytes None = (kind : TokenKind) (size : ℕ) → IsTokenOf bytes kind size → ⊥
IsLongest bytes (Some p) = IsTokenOf bytes p.0 p.1 × ((kind : TokenKind) (size : ℕ) → IsTokenOf bytes kind size → size ≤ p.1)
