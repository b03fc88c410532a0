-- What the definitions of lexemes come to: a quoted text's value is what is quoted, a sign is a symbol, `Bad` is the last lexeme alone, and
-- each lexeme has a place in the text.
use Rattle.std.proofs.Common.{◌≡◌, ℕ, suc, ◌-◌, Bool, true, false, not, ◌||◌, ◌&&◌, if◌then◌else◌, ◌⊎◌, inl, inr, List, [], ◌∷◌, ◌++◌, length, take, drop, Option, Some, None, refl, sym, ◌∙◌, ap, subst, arith, ⊎_elim}
use Rattle.std.specs.Prelude.{pos, ◌==◌, All, nat_lt, ◌^◌}
use Rattle.std.specs.List.{list_all}
use Rattle.std.proofs.lemmas.Bool.{eqb-true}
use Rattle.std.proofs.lemmas.List.{length-append}
use Rattle.std.proofs.Math.Seq.{take-append_seam}
use Rattle.std.proofs.lemmas.List.Elements.{All-nil, All-cons}
use Rattle.sql_text.specs.declared.token.Token.{Token}
use Rattle.sql_text.specs.declared.token.TokenKind.{TokenKind}
use Rattle.sql_text.specs.declared.token.TokenKind.TheVariants as k
use Rattle.sql_text.specs.Token as t
use Rattle.sql_text.specs.Token.{doubled, IsLongest}
use Rattle.sql_text.specs.Cut.{IsCut, tokens_of, bad_of}
use Rattle.sql_text.proofs.CutLaws.{Shows, shows}
use Rattle.sql_text.proofs.TokenLaws.{AllFrom, within}
use Rattle.sql_lexemes.specs.declared.lexeme.Symbol.{Symbol}
use Rattle.sql_lexemes.specs.declared.lexeme.Symbol.TheVariants as s
use Rattle.sql_lexemes.specs.declared.lexeme.Lexeme.{Lexeme}
use Rattle.sql_lexemes.specs.declared.lexeme.Lexeme.TheVariants as l
use Rattle.sql_lexemes.specs.declared.words.Meaning.{Meaning}
use Rattle.sql_lexemes.specs.declared.words.Meaning.TheVariants as m
use Rattle.sql_lexemes.specs.Words.{same_word, look_up, signs, meaning_of}
use Rattle.sql_lexemes.specs.Values.{number_lexeme, integer_lexeme, number_of, inside, single_quotes, quoted_bytes}
use Rattle.sql_lexemes.specs.Lexemes.{bytes_of, symbol_of, is_open, is_infix, word_lexeme, sign_lexeme, lexeme_by, lexeme_of, first_of, lexemes_from, places_from, lexemes_of, places_of}

-- ---- quoted texts

single_quotes-doubled : (quote : ℕ) (inner : List ℕ) → single_quotes quote false (doubled quote inner) ≡ inner
unfolding single_quotes doubled
single_quotes-doubled quote [] = refl
single_quotes-doubled quote (byte ∷ inner) = by_quote (byte == quote) (single_quotes-doubled quote inner)
  where
    by_quote : (c : Bool) → single_quotes quote false (doubled quote inner) ≡ inner
        → byte ∷ single_quotes quote c (if c then quote ∷ doubled quote inner else doubled quote inner) ≡ byte ∷ inner
    by_quote true same = ap (λ x. byte ∷ x) same
    by_quote false same = ap (λ x. byte ∷ x) same

inside_quotes : (quote : ℕ) (xs : List ℕ) → inside 1 (quote ∷ (xs ++ quote ∷ [])) ≡ xs
inside_quotes quote xs =
    let size : length (quote ∷ (xs ++ quote ∷ [])) - 1 - 1 ≡ length xs = omega (arith, length-append xs (quote ∷ [])) in
    ap (λ n. take n (xs ++ quote ∷ [])) size ∙ take-append_seam xs (quote ∷ [])

-- the value of a quoted text is what is quoted
pub quoted_bytes-quoted : (quote : ℕ) (inner : List ℕ) → quoted_bytes quote (quote ∷ (doubled quote inner ++ quote ∷ [])) ≡ inner
quoted_bytes-quoted quote inner = ap (single_quotes quote false) (inside_quotes quote (doubled quote inner)) ∙ single_quotes-doubled quote inner

-- ---- signs

or_true : (a b : Bool) → (a || b) ≡ true → (a ≡ true) ⊎ (b ≡ true)
or_true true b h = inl refl
or_true false b h = inr h

parts : (a b : Bool) → (a && b) ≡ true → (a ≡ true) × (b ≡ true)
parts true b h = (refl, h)
parts false b h = cc

IsSymbol : List ℕ → Type 0
IsSymbol bytes = (symbol : Symbol) × (look_up signs bytes ≡ m.Symbol symbol)

abbrev OneSymbol : ℕ → Type 0
OneSymbol byte = IsSymbol (byte ∷ [])

one_at : (byte n : ℕ) → OneSymbol n → (byte == n) ≡ true → OneSymbol byte
one_at byte n is same = subst OneSymbol (sym (eqb-true byte n same)) is

sign_alone : (byte : ℕ) → t.is_sign byte ≡ true → OneSymbol byte
unfolding AllFrom same_word IsSymbol
sign_alone byte is =
    ⊎_elim
    (λ low. within OneSymbol 40 45 ((s.Open, refl), ((s.Close, refl), ((s.Star, refl), ((s.Plus, refl), ((s.Comma, refl), ((s.Minus, refl), tt)))))) byte low)
    (λ h. ⊎_elim (λ e. one_at byte 59 (s.Semicolon, refl) e)
    (λ h. ⊎_elim (λ e. one_at byte 47 (s.Slash, refl) e) (λ e. one_at byte 37 (s.Percent, refl) e) (or_true (byte == 47) (byte == 37) h))
    (or_true (byte == 59) (byte == 47 || byte == 37) h))
    (or_true (t.between 40 45 byte) (byte == 59 || (byte == 47 || byte == 37)) is)

one_symbol : (byte : ℕ) → (t.is_sign byte || (byte == 46 || (byte == 61 || (byte == 60 || byte == 62)))) ≡ true → OneSymbol byte
unfolding same_word IsSymbol
one_symbol byte is =
    ⊎_elim (λ e. sign_alone byte e)
    (λ h. ⊎_elim (λ e. one_at byte 46 (s.Dot, refl) e)
    (λ h. ⊎_elim (λ e. one_at byte 61 (s.Equal, refl) e)
    (λ h. ⊎_elim (λ e. one_at byte 60 (s.Less, refl) e) (λ e. one_at byte 62 (s.More, refl) e) (or_true (byte == 60) (byte == 62) h))
    (or_true (byte == 61) (byte == 60 || byte == 62) h))
    (or_true (byte == 46) (byte == 61 || (byte == 60 || byte == 62)) h))
    (or_true (t.is_sign byte) (byte == 46 || (byte == 61 || (byte == 60 || byte == 62))) is)

pair_at : (first second a b : ℕ) → IsSymbol (a ∷ b ∷ []) → ((first == a) ≡ true) × ((second == b) ≡ true) → IsSymbol (first ∷ second ∷ [])
pair_at first second a b is same =
    let one : first ≡ a = eqb-true first a same.0 in
    let two : second ≡ b = eqb-true second b same.1 in subst IsSymbol (λ i. sym one i ∷ sym two i ∷ []) is

pair_symbol : (a b : ℕ) → t.is_pair a b ≡ true → IsSymbol (a ∷ b ∷ [])
unfolding same_word IsSymbol
pair_symbol a b is =
    ⊎_elim (λ e. pair_at a b 61 61 (s.Equal, refl) (parts (a == 61) (b == 61) e))
    (λ h. ⊎_elim
    (λ e.
    let p = parts (a == 60) (b == 61 || b == 62) e in
    ⊎_elim (λ e. pair_at a b 60 61 (s.AtMost, refl) (p.0, e)) (λ e. pair_at a b 60 62 (s.Unequal, refl) (p.0, e)) (or_true (b == 61) (b == 62) p.1))
    (λ h. ⊎_elim (λ e. pair_at a b 62 61 (s.AtLeast, refl) (parts (a == 62) (b == 61) e)) (λ e. pair_at a b 33 61 (s.Unequal, refl) (parts (a == 33) (b == 61) e))
    (or_true (a == 62 && b == 61) (a == 33 && b == 61) h))
    (or_true (a == 60 && (b == 61 || b == 62)) ((a == 62 && b == 61) || (a == 33 && b == 61)) h))
    (or_true (a == 61 && b == 61) ((a == 60 && (b == 61 || b == 62)) || ((a == 62 && b == 61) || (a == 33 && b == 61))) is)

-- a sign is a symbol
pub sign_symbol : (bytes : List ℕ) → t.IsSign bytes → (symbol : Symbol) × (look_up signs bytes ≡ m.Symbol symbol)
unfolding IsSymbol
sign_symbol bytes (inl (byte, is, one)) = subst IsSymbol (sym is) (one_symbol byte one)
sign_symbol bytes (inr (first, second, is, pair)) = subst IsSymbol (sym is) (pair_symbol first second pair)

-- ---- `Bad` is no token's lexeme

-- a lexeme that isn't Bad
abbrev pub is_bad : Lexeme → Bool
is_bad l.Bad = true
is_bad _ = false

number_good : (bytes : List ℕ) (alone : Bool) → is_bad (number_lexeme bytes alone) ≡ false
number_good bytes alone = by_digits (list_all t.is_digit bytes)
  where
    by_size : (least same : Bool) (x : Lexeme) → is_bad x ≡ false → is_bad (if least then x else (if same then l.Least else l.Huge)) ≡ false
    by_size true same x good = good
    by_size false true x good = refl
    by_size false false x good = refl

    by_digits : (c : Bool) → is_bad (if c then integer_lexeme (number_of bytes) alone else l.Float) ≡ false
    by_digits true = by_size (nat_lt (number_of bytes) (2 ^ 63)) (number_of bytes == 2 ^ 63) (l.Int (pos (number_of bytes)) alone) refl
    by_digits false = refl

word_good : (meaning : Meaning) (bytes : List ℕ) (opens : Bool) → is_bad (word_lexeme meaning bytes opens) ≡ false
word_good (m.Symbol symbol) bytes opens = refl
word_good (m.Function function) bytes true = refl
word_good (m.Function function) bytes false = refl
word_good (m.Word word) bytes opens = refl

lexeme_good : (kind : TokenKind) (bytes rest : List ℕ) (next : Option Symbol) → t.IsToken kind bytes rest → is_bad (lexeme_by kind bytes next) ≡ false
lexeme_good k.Word bytes rest next token = word_good (meaning_of bytes) bytes (is_open next)
lexeme_good k.Quoted bytes rest next token = refl
lexeme_good k.Number bytes rest next token = number_good bytes (not (is_infix next))
lexeme_good k.Text bytes rest next token = refl
lexeme_good k.Blob bytes rest next token = refl
lexeme_good k.Sign bytes rest next token = ap (λ x. is_bad (sign_lexeme x)) (sign_symbol bytes token).1

abbrev Good : Lexeme → Type 0
Good x = is_bad x ≡ false

cut_good : (ts : List Token) (text : List ℕ) (from to : ℕ) → IsCut text from ts to → All Good (lexemes_from text ts None)
unfolding lexemes_from
cut_good [] text from to h = All-nil Good
cut_good (u ∷ ts) text from to (spaces, some, longest, rest) =
    All-cons Good (lexeme_of text u (first_of ts)) (lexemes_from text ts None)
    (lexeme_good u.kind (bytes_of text u) (drop (u.end - u.start) (drop u.start text)) (symbol_of text (first_of ts)) longest.0.1)
    (cut_good ts text u.end to rest)

shows_good : (text : List ℕ) (ts : List Token) (bad : Option ℕ) → Shows text 0 ts bad → All Good (lexemes_from text ts None)
shows_good text ts None h = cut_good ts text 0 (length text) h
shows_good text ts (Some at) h = cut_good ts text 0 at h.0

-- no token's lexeme is Bad
pub tokens_good : (text : List ℕ) → All Good (lexemes_from text (tokens_of text) None)
tokens_good text = shows_good text (tokens_of text) (bad_of text) (shows text)

abbrev pub last_of : Option ℕ → List Lexeme
last_of None = []
last_of (Some at) = l.Bad ∷ []

bad_behind : (ts : List Token) (text : List ℕ) (bad : Option ℕ) → lexemes_from text ts bad ≡ lexemes_from text ts None ++ last_of bad
unfolding lexemes_from
bad_behind [] text None = refl
bad_behind [] text (Some at) = refl
bad_behind (u ∷ ts) text bad = ap (λ x. lexeme_of text u (first_of ts) ∷ x) (bad_behind ts text bad)

-- the lexemes are those of the tokens, and last Bad where a byte begins none
pub bad_is_last : (text : List ℕ) → lexemes_of text ≡ lexemes_from text (tokens_of text) None ++ last_of (bad_of text)
unfolding lexemes_of
bad_is_last text = bad_behind (tokens_of text) text (bad_of text)

-- ---- places

as_many : (ts : List Token) (text : List ℕ) (bad : Option ℕ) → length (places_from ts bad) ≡ length (lexemes_from text ts bad)
unfolding places_from lexemes_from
as_many [] text None = refl
as_many [] text (Some at) = refl
as_many (u ∷ ts) text bad = ap (λ n. suc n) (as_many ts text bad)

-- each lexeme has a place
pub length-places_of : (text : List ℕ) → length (places_of text) ≡ length (lexemes_of text)
unfolding places_of lexemes_of
length-places_of text = as_many (tokens_of text) text (bad_of text)
