-- What the tests of lexemes take, and what they leave to others.
use Rattle.std.proofs.Common.{◌≡◌, ℕ, pos, Bool, true, false, ◌||◌, ◌&&◌, List, [], ◌∷◌, Option, Some, None, is_some, is_none, refl, sym, ap, subst, ◌⊎◌, inl, inr}
use Rattle.std.proofs.lemmas.Bool.{false≢true}
use denote.Enum.Bare.{same_true}
use Rattle.sql_lexemes.specs.contracts.lexeme.Symbol as the_symbol
use Rattle.sql_lexemes.specs.declared.lexeme.Symbol.{Symbol}
use Rattle.sql_lexemes.specs.declared.lexeme.Symbol.TheVariants as sign
use Rattle.sql_lexemes.specs.declared.lexeme.Word.{Word}
use Rattle.sql_lexemes.specs.declared.lexeme.Word.TheVariants as word
use Rattle.sql_lexemes.specs.declared.lexeme.Lexeme.{Lexeme}
use Rattle.sql_lexemes.specs.declared.lexeme.Lexeme.TheVariants as lexeme
use Rattle.sql_grammar.specs.Lexemes.{same_symbol, same_word, given, is, is_word, one_of, name_of, new_name_of, column_of, count_of}

-- ---- truth values

pub or_cases : (a b : Bool) → (a || b) ≡ true → (a ≡ true) ⊎ (b ≡ true)
or_cases true b h = inl refl
or_cases false b h = inr h

pub or_left : (a b : Bool) → a ≡ true → (a || b) ≡ true
or_left true b h = refl
or_left false b h = absurd (false≢true h)

pub or_right : (a b : Bool) → b ≡ true → (a || b) ≡ true
or_right true b h = refl
or_right false b h = h

pub neither : (a b : Bool) → a ≡ false → b ≡ false → (a || b) ≡ false
neither true b h k = h
neither false b h k = k

pub and_left : (a b : Bool) → (a && b) ≡ true → a ≡ true
and_left true b h = refl
and_left false b h = h

pub and_right : (a b : Bool) → (a && b) ≡ true → b ≡ true
and_right true b h = h
and_right false b h = absurd (false≢true h)

pub and_both : (a b : Bool) → a ≡ true → b ≡ true → (a && b) ≡ true
and_both true b h k = k
and_both false b h k = h

pub none_of : {A : Type 0} (o : Option A) → is_none o ≡ true → o ≡ None
none_of None h = refl
none_of (Some a) h = absurd (false≢true h)

-- ---- each test takes something

pub takes_itself : (s : Symbol) → (t : Lexeme) × (b : Unit {0}) × (is s t ≡ Some b)
unfolding same_symbol
takes_itself s = (lexeme.Symbol s, tt, ap given (itself s))
  where
    itself : (s : Symbol) → same_symbol s s ≡ true
    itself sign.Or = refl
    itself _ = refl

pub takes_word : (w : Word) → (t : Lexeme) × (b : Unit {0}) × (is_word w t ≡ Some b)
unfolding same_word
takes_word w = (lexeme.Name w [], tt, ap given (itself w))
  where
    itself : (w : Word) → same_word w w ≡ true
    itself word.Asc = refl
    itself _ = refl

pub some_name : (t : Lexeme) × (b : List ℕ) × (name_of t ≡ Some b)
some_name = (lexeme.Name word.Other [], [], refl)

pub some_new_name : (t : Lexeme) × (b : List ℕ) × (new_name_of t ≡ Some b)
some_new_name = (lexeme.Name word.Other [], [], refl)

pub some_column : (t : Lexeme) × (b : List ℕ) × (column_of t ≡ Some b)
some_column = (lexeme.Name word.Other [], [], refl)

pub some_count : (t : Lexeme) × (b : ℕ) × (count_of t ≡ Some b)
some_count = (lexeme.Int (pos 0) true, 0, refl)

-- ---- what holds of each of some symbols

some_given : (b : Bool) → is_some (given b) ≡ true → b ≡ true
some_given true h = refl
some_given false h = h

same : (a b : Symbol) → same_symbol a b ≡ true → a ≡ b
unfolding same_symbol
same a b h = same_true the_symbol.the_type tt a b h

pub at_symbol : (s : Symbol) (P : Lexeme → Bool) → P (lexeme.Symbol s) ≡ true → (t : Lexeme) → is_some (is s t) ≡ true → P t ≡ true
at_symbol s P h (lexeme.Symbol found) k =
    subst (λ x. P (lexeme.Symbol x) ≡ true) (sym (same found s (some_given (same_symbol found s) k))) h
at_symbol s P h _ k = absurd (false≢true k)

abbrev pub all_hold : List Symbol → (Lexeme → Bool) → Bool
all_hold [] P = true
all_hold (s ∷ symbols) P = P (lexeme.Symbol s) && all_hold symbols P

pub all_of : (symbols : List Symbol) (P : Lexeme → Bool) → all_hold symbols P ≡ true → (t : Lexeme) → one_of symbols t ≡ true → P t ≡ true
all_of [] P h t k = absurd (false≢true k)
all_of (s ∷ symbols) P h t k =
    elim (or_cases (is_some (is s t)) (one_of symbols t) k) [
      | inl a ↦ at_symbol s P (and_left (P (lexeme.Symbol s)) (all_hold symbols P) h) t a
      | inr b ↦ all_of symbols P (and_right (P (lexeme.Symbol s)) (all_hold symbols P) h) t b
    ]

-- a test that takes none of them
pub none_all : {B : Type 0} (symbols : List Symbol) (f : Lexeme → Option B) → all_hold symbols (λ t. is_none (f t)) ≡ true → (t : Lexeme) → one_of symbols t ≡ true → f t ≡ None
none_all symbols f h t k = none_of (f t) (all_of symbols (λ t. is_none (f t)) h t k)

-- a test that doesn't take this one
pub apart : {B : Type 0} (s : Symbol) (f : Lexeme → Option B) → is_none (f (lexeme.Symbol s)) ≡ true → (t : Lexeme) → is_some (is s t) ≡ true → f t ≡ None
apart s f h t k = none_of (f t) (at_symbol s (λ t. is_none (f t)) h t k)
