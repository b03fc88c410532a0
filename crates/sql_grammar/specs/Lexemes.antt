-- Which lexemes a grammar's tests take.
use Rattle.std.specs.Prelude.{ℕ, pos, Bool, true, false, ◌||◌, ◌&&◌, ◌==◌, ◌+◌, nat_lt, List, [], ◌∷◌, Option, Some, None, is_some, if◌then◌else◌}
use denote.Enum.Bare.{sameb}
use Rattle.sql_lexemes.specs.contracts.lexeme.Symbol as the_symbol
use Rattle.sql_lexemes.specs.contracts.lexeme.Word as the_word
use Rattle.sql_lexemes.specs.declared.lexeme.Symbol.{Symbol}
use Rattle.sql_lexemes.specs.declared.lexeme.Word.{Word}
use Rattle.sql_lexemes.specs.declared.lexeme.Word.TheVariants as word
use Rattle.sql_lexemes.specs.declared.lexeme.Lexeme.{Lexeme}
use Rattle.sql_lexemes.specs.declared.lexeme.Lexeme.TheVariants as lexeme

unfoldable pub same_symbol : Symbol → Symbol → Bool
same_symbol = sameb the_symbol.the_type

unfoldable pub same_word : Word → Word → Bool
same_word = sameb the_word.the_type

abbrev pub given : Bool → Option (Unit {0})
given true = Some tt
given false = None

-- the lexeme is this sign or reserved word
abbrev pub is : Symbol → Lexeme → Option (Unit {0})
is symbol (lexeme.Symbol found) = given (same_symbol found symbol)
is symbol _ = None

-- the lexeme is this word, which may be a name elsewhere
abbrev pub is_word : Word → Lexeme → Option (Unit {0})
is_word wanted (lexeme.Name found spelling) = given (same_word found wanted)
is_word wanted _ = None

-- the lexeme is one of these
abbrev pub one_of : List Symbol → Lexeme → Bool
one_of [] t = false
one_of (symbol ∷ symbols) t = is_some (is symbol t) || one_of symbols t

-- ---- names

-- a name of anything; an aggregate's word is one too
abbrev pub name_of : Lexeme → Option (List ℕ)
name_of (lexeme.Name found spelling) = Some spelling
name_of (lexeme.Aggregate function spelling) = Some spelling
name_of _ = None

-- a name that begins a term: an aggregate's word before its bracket is none
abbrev pub column_of : Lexeme → Option (List ℕ)
column_of (lexeme.Name found spelling) = Some spelling
column_of _ = None

-- the words of joins are no names behind a table
abbrev pub joins : Word → Bool
joins word.Cross = true
joins word.Full = true
joins word.Inner = true
joins word.Left = true
joins word.Natural = true
joins word.Outer = true
joins word.Right = true
joins _ = false

abbrev pub unless : {A : Type 0} → Bool → A → Option A
unless true a = None
unless false a = Some a

-- a name behind a table, without AS
abbrev pub alias_of : Lexeme → Option (List ℕ)
alias_of (lexeme.Name found spelling) = unless (joins found) spelling
alias_of (lexeme.Aggregate function spelling) = Some spelling
alias_of _ = None

-- ---- spellings, without case

abbrev pub in_small : ℕ → ℕ
in_small byte = if nat_lt 64 byte && nat_lt byte 91 then byte + 32 else byte

-- the bytes begin with this word in small letters
abbrev pub begins_with : List ℕ → List ℕ → Bool
begins_with [] bytes = true
begins_with (letter ∷ letters) [] = false
begins_with (letter ∷ letters) (byte ∷ bytes) = (in_small byte == letter) && begins_with letters bytes

-- the word stands somewhere in the bytes
abbrev pub holds : List ℕ → List ℕ → Bool
holds letters [] = begins_with letters []
holds letters (byte ∷ bytes) = begins_with letters (byte ∷ bytes) || holds letters bytes

-- sqlite_
abbrev pub is_kept : List ℕ → Bool
is_kept name = begins_with (115 ∷ 113 ∷ 108 ∷ 105 ∷ 116 ∷ 101 ∷ 95 ∷ []) name

abbrev pub not_kept : Option (List ℕ) → Option (List ℕ)
not_kept None = None
not_kept (Some name) = unless (is_kept name) name

-- a name to be created
abbrev pub new_name_of : Lexeme → Option (List ℕ)
new_name_of t = not_kept (name_of t)

-- ---- numbers

-- 2^63, which only a minus takes
abbrev pub least_of : Lexeme → Option (Unit {0})
least_of lexeme.Least = Some tt
least_of _ = None

-- an integer without a sign
abbrev pub count_of : Lexeme → Option ℕ
count_of (lexeme.Int (pos n) alone) = Some n
count_of _ = None
