-- What reading a text promises: the value that the grammar gives it, or the one place where it goes wrong.
use Rattle.std.specs.Prelude.{◌≡◌, ℕ, get_or, ◌-◌, Bool, true, false, if◌then◌else◌, List, [], ◌∷◌, ◌++◌, length, Result, Ok, Err}
use Rattle.grammars.specs.Grammar.{Grammar, Begins}
use Rattle.grammars.specs.Exact.{IsStuck}
use Rattle.sql_lexemes.specs.declared.lexeme.Lexeme.{Lexeme}
use Rattle.sql_lexemes.specs.declared.lexeme.Lexeme.TheVariants as lexeme
use Rattle.sql_lexemes.specs.Lexemes.{lexemes_of, places_of}
use Rattle.sql_exprs.specs.declared.lexeme.ParseError.{ParseError}
use Rattle.sql_exprs.specs.declared.lexeme.ParseError.TheVariants as error
use Rattle.sql_parse.specs.declared.text.ParseFault.{ParseFault}
use Rattle.sql_parse.specs.declared.text.ParseFault.TheVariants as fault

-- a number with a point or an exponent
abbrev pub begins_float : List Lexeme → Bool
begins_float (lexeme.Float ∷ rest) = true
begins_float _ = false

-- where the token behind these begins, or the text's length where there is none
abbrev pub place_behind : List ℕ → List Lexeme → ℕ
place_behind text front = get_or (places_of text) (length front) (length text)

-- The text goes wrong at this place: what the grammar derives begins with the tokens before it in some case, and in none with these
-- and the token there, or it does not end there. The truth value says whether that token is a number with a point or an exponent.
abbrev pub GoesWrongAt : {A : Type 0} → Grammar Lexeme A → List ℕ → ℕ → Bool → Type 0
GoesWrongAt g text at float =
    (front : List Lexeme) × (rest : List Lexeme) × (lexemes_of text ≡ front ++ rest) × Begins g front × IsStuck g front rest
    × (at ≡ place_behind text front) × (begins_float rest ≡ float)

-- the fault is the text's
abbrev pub IsFault : {A : Type 0} → Grammar Lexeme A → List ℕ → ParseFault → Type 0
IsFault g text fault.Memory = Unit {0}
IsFault g text (fault.Syntax at) = GoesWrongAt g text at false
IsFault g text (fault.Float at) = GoesWrongAt g text at true

-- the answer is this value, unless memory ran out
abbrev pub IsRead : {A : Type 0} → A → Result A ParseFault → Type 0
IsRead s (Ok found) = found ≡ s
IsRead s (Err fault.Memory) = Unit {0}
IsRead s (Err _) = ⊥

-- what a text is told that goes wrong at this place, at a number with a point or exponent or at something else
abbrev pub fault_of : Bool → ℕ → ParseFault
fault_of true at = fault.Float at
fault_of false at = fault.Syntax at

-- the answer is this fault, unless memory ran out
abbrev pub IsRefused : {A : Type 0} → ParseFault → Result A ParseFault → Type 0
IsRefused f (Ok s) = ⊥
IsRefused f (Err fault.Memory) = Unit {0}
IsRefused f (Err found) = found ≡ f

-- ---- what the code computes

-- the fault of lexemes at these places, that go wrong at the first of the last ones
abbrev pub fault_at : List ℕ → List ℕ → List Lexeme → List Lexeme → ParseFault
fault_at text places all rest = fault_of (begins_float rest) (get_or places (length all - length rest) (length text))

abbrev pub Explains : ParseFault → List ℕ → List ℕ → List Lexeme → ParseError → Type 0
Explains found text places all error.Memory = found ≡ fault.Memory
Explains found text places all (error.At rest) = found ≡ fault_at text places all rest.now

-- the answer follows from reading all of the lexemes
abbrev pub Follows : {A : Type 0} → Result A ParseFault → List ℕ → List ℕ → List Lexeme → Result A (List Lexeme) → Type 0
Follows (Ok found) text places all read = read ≡ Ok found
Follows (Err fault.Memory) text places all read = Unit {0}
Follows (Err other) text places all read = (rest : List Lexeme) × (read ≡ Err rest) × (other ≡ fault_at text places all rest)
