-- The lexemes of a text, and their places.
use Rattle.std.specs.Prelude.{ℕ, ◌-◌, Bool, true, false, not, if◌then◌else◌, List, [], ◌∷◌, take, drop, Option, Some, None}
use Rattle.sql_text.specs.declared.token.Token.{Token}
use Rattle.sql_text.specs.declared.token.TokenKind.{TokenKind}
use Rattle.sql_text.specs.declared.token.TokenKind.TheVariants as k
use Rattle.sql_text.specs.Cut.{tokens_of, bad_of}
use Rattle.sql_lexemes.specs.declared.lexeme.Symbol.{Symbol}
use Rattle.sql_lexemes.specs.declared.lexeme.Symbol.TheVariants as s
use Rattle.sql_lexemes.specs.declared.lexeme.Word.{Word}
use Rattle.sql_lexemes.specs.declared.lexeme.Word.TheVariants as w
use Rattle.sql_lexemes.specs.declared.lexeme.Lexeme.{Lexeme}
use Rattle.sql_lexemes.specs.declared.lexeme.Lexeme.TheVariants as l
use Rattle.sql_lexemes.specs.declared.words.Meaning.{Meaning}
use Rattle.sql_lexemes.specs.declared.words.Meaning.TheVariants as m
use Rattle.sql_lexemes.specs.Words.{look_up, signs, meaning_of}
use Rattle.sql_lexemes.specs.Values.{number_lexeme, inside, quoted_bytes, hex_bytes}

abbrev pub bytes_of : List ℕ → Token → List ℕ
bytes_of text t = take (t.end - t.start) (drop t.start text)

-- ---- symbols, and what the next token decides

abbrev pub symbol_in : Meaning → Option Symbol
symbol_in (m.Symbol symbol) = Some symbol
symbol_in _ = None

-- the symbol that bytes of this kind are
abbrev pub symbol_by : TokenKind → List ℕ → Option Symbol
symbol_by k.Word bytes = symbol_in (meaning_of bytes)
symbol_by k.Sign bytes = symbol_in (look_up signs bytes)
symbol_by _ bytes = None

abbrev pub symbol_of : List ℕ → Option Token → Option Symbol
symbol_of text None = None
symbol_of text (Some t) = symbol_by t.kind (bytes_of text t)

abbrev pub is_open : Option Symbol → Bool
is_open (Some s.Open) = true
is_open _ = false

-- an operator that stands between its operands or behind its operand
abbrev pub is_infix : Option Symbol → Bool
is_infix (Some s.Or) = true
is_infix (Some s.And) = true
is_infix (Some s.Equal) = true
is_infix (Some s.Unequal) = true
is_infix (Some s.Is) = true
is_infix (Some s.Less) = true
is_infix (Some s.AtMost) = true
is_infix (Some s.More) = true
is_infix (Some s.AtLeast) = true
is_infix (Some s.Plus) = true
is_infix (Some s.Minus) = true
is_infix (Some s.Star) = true
is_infix (Some s.Slash) = true
is_infix (Some s.Percent) = true
is_infix _ = false

-- ---- lexemes

abbrev pub name_lexeme : Word → List ℕ → Lexeme
name_lexeme word spelling = l.Name word spelling

-- a word, before an open bracket or not
abbrev pub word_lexeme : Meaning → List ℕ → Bool → Lexeme
word_lexeme (m.Symbol symbol) spelling opens = l.Symbol symbol
word_lexeme (m.Function function) spelling opens = if opens then l.Aggregate function spelling else name_lexeme w.Other spelling
word_lexeme (m.Word word) spelling opens = name_lexeme word spelling

abbrev pub sign_lexeme : Meaning → Lexeme
sign_lexeme (m.Symbol symbol) = l.Symbol symbol
sign_lexeme _ = l.Bad

-- bytes of this kind, before this symbol
abbrev pub lexeme_by : TokenKind → List ℕ → Option Symbol → Lexeme
lexeme_by k.Word bytes next = word_lexeme (meaning_of bytes) bytes (is_open next)
lexeme_by k.Quoted bytes next = l.Name w.Quoted (quoted_bytes 34 bytes)
lexeme_by k.Number bytes next = number_lexeme bytes (not (is_infix next))
lexeme_by k.Text bytes next = l.Text (quoted_bytes 39 bytes)
lexeme_by k.Blob bytes next = l.Blob (hex_bytes (inside 2 bytes))
lexeme_by k.Sign bytes next = sign_lexeme (look_up signs bytes)

-- a token, before another one or at the end
abbrev pub lexeme_of : List ℕ → Token → Option Token → Lexeme
lexeme_of text t next = lexeme_by t.kind (bytes_of text t) (symbol_of text next)

abbrev pub first_of : List Token → Option Token
first_of [] = None
first_of (t ∷ ts) = Some t

-- these tokens of the text, and then the byte that begins none
unfoldable pub lexemes_from : List ℕ → List Token → Option ℕ → List Lexeme
lexemes_from text [] None = []
lexemes_from text [] (Some at) = l.Bad ∷ []
lexemes_from text (t ∷ ts) bad = lexeme_of text t (first_of ts) ∷ lexemes_from text ts bad

unfoldable pub places_from : List Token → Option ℕ → List ℕ
places_from [] None = []
places_from [] (Some at) = at ∷ []
places_from (t ∷ ts) bad = t.start ∷ places_from ts bad

-- the lexemes of a text, and the place where each begins
unfoldable pub lexemes_of : List ℕ → List Lexeme
lexemes_of text = lexemes_from text (tokens_of text) (bad_of text)

unfoldable pub places_of : List ℕ → List ℕ
places_of text = places_from (tokens_of text) (bad_of text)
