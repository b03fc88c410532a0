-- The grammar of columns and of what they are made of, in a statement and in the text of a file's table.
use Rattle.std.specs.Prelude.{ℕ, Bool, true, false, not, ◌||◌, ◌&&◌, if◌then◌else◌, nat_lt, List, [], ◌∷◌, ◌++◌, length, Option, Some, None}
use Rattle.grammars.specs.Grammar.{Grammar, give, must, may, part, many}
use Rattle.grammars.specs.Lists.{separated}
use Rattle.sql_lexemes.specs.declared.lexeme.Symbol.TheVariants as sign
use Rattle.sql_lexemes.specs.declared.lexeme.Word.{Word}
use Rattle.sql_lexemes.specs.declared.lexeme.Word.TheVariants as word
use Rattle.sql_lexemes.specs.declared.lexeme.Lexeme.{Lexeme}
use Rattle.sql_lexemes.specs.declared.lexeme.Lexeme.TheVariants as lexeme
use Rattle.sql_grammar.specs.declared.table.Affinity.{Affinity}
use Rattle.sql_grammar.specs.declared.table.Affinity.TheVariants as affinity
use Rattle.sql_grammar.specs.declared.table.Use.{Use}
use Rattle.sql_grammar.specs.declared.table.Use.TheVariants as state
use Rattle.sql_grammar.specs.declared.table.Column.{Column}
use Rattle.sql_grammar.specs.declared.table.Constraint.{Constraint}
use Rattle.sql_grammar.specs.declared.table.Constraint.TheVariants as constraint
use Rattle.sql_grammar.specs.declared.table.Typed.{Typed}
use Rattle.sql_grammar.specs.declared.table.Draft.{Draft}
use Rattle.sql_grammar.specs.declared.table.Declared.{Declared}
use Rattle.sql_grammar.specs.declared.table.TableText.{TableText}
use Rattle.sql_grammar.specs.declared.table.IndexText.{IndexText}
use Rattle.sql_grammar.specs.Lexemes.{is, is_word, name_of, new_name_of, count_of, one_of, holds}

-- a comma, while there are fewer than so many
abbrev pub comma_below : {A : Type 0} → ℕ → List A → Lexeme → Option (Unit {0})
comma_below most found t = if nat_lt (length found) most then is sign.Comma t else None

-- ---- types

-- INT, then CHAR, CLOB or TEXT, then BLOB
abbrev pub affinity_in : List ℕ → Option Affinity
affinity_in spelling =
    if holds (105 ∷ 110 ∷ 116 ∷ []) spelling then Some affinity.Integer
    else if holds (99 ∷ 104 ∷ 97 ∷ 114 ∷ []) spelling || (holds (99 ∷ 108 ∷ 111 ∷ 98 ∷ []) spelling || holds (116 ∷ 101 ∷ 120 ∷ 116 ∷ []) spelling) then Some affinity.Text
    else if holds (98 ∷ 108 ∷ 111 ∷ 98 ∷ []) spelling then Some affinity.Blob
    else None

-- the first that either has: INTEGER, TEXT, BLOB
abbrev pub stronger : Option Affinity → Option Affinity → Option Affinity
stronger (Some affinity.Integer) other = Some affinity.Integer
stronger one (Some affinity.Integer) = Some affinity.Integer
stronger (Some affinity.Text) other = Some affinity.Text
stronger one (Some affinity.Text) = Some affinity.Text
stronger (Some affinity.Blob) other = Some affinity.Blob
stronger one other = other

abbrev pub typed : Option Affinity → Bool → Typed
typed affinity integer = record { affinity = affinity; integer = integer }

-- the three types of a statement
abbrev pub plain_type : Word → Option Typed
plain_type word.Integer = Some (typed (Some affinity.Integer) true)
plain_type word.Text = Some (typed (Some affinity.Text) false)
plain_type word.Blob = Some (typed (Some affinity.Blob) false)
plain_type _ = None

-- a word of a type in a file
abbrev pub wide_type : Word → List ℕ → Option Typed
wide_type word.Quoted spelling = None
wide_type word.Integer spelling = Some (typed (affinity_in spelling) true)
wide_type _ spelling = Some (typed (affinity_in spelling) false)

abbrev pub type_of : Bool → Lexeme → Option Typed
type_of false (lexeme.Name found spelling) = plain_type found
type_of true (lexeme.Name found spelling) = wide_type found spelling
type_of true (lexeme.Aggregate function spelling) = Some (typed (affinity_in spelling) false)
type_of _ _ = None

-- one more word of a type, in a file alone
abbrev pub more_type_of : Bool → Lexeme → Option Typed
more_type_of wide t = if wide then type_of true t else None

abbrev pub widened : Typed → Typed → Typed
widened one other = typed (stronger one.affinity other.affinity) false

abbrev pub if_wide : Bool → Option (Unit {0}) → Option (Unit {0})
if_wide wide o = if wide then o else None

abbrev pub sized : Typed → Typed
sized one = typed one.affinity false

-- (n) or (n, m)
unfoldable pub sizes : Typed → Grammar Lexeme Typed
sizes one =
    must count_of (λ _.
    may (is sign.Comma) (λ _. must count_of (λ _. must (is sign.Close) (λ _. give (sized one))))
    (must (is sign.Close) (λ _. give (sized one))))

-- what may follow a type
abbrev pub ends_type : Lexeme → Bool
ends_type = one_of (sign.Primary ∷ sign.Not ∷ sign.Unique ∷ sign.Comma ∷ sign.Close ∷ [])

-- what may follow the words of a type
abbrev pub ends_words : Lexeme → Bool
ends_words = one_of (sign.Open ∷ sign.Primary ∷ sign.Not ∷ sign.Unique ∷ sign.Comma ∷ sign.Close ∷ [])

abbrev pub any : Lexeme → Bool
any t = true

unfoldable pub type_words : Bool → Typed → Grammar Lexeme Typed
type_words wide first = many any (λ _. more_type_of wide) (λ one other. give (widened one other)) first

-- behind the first word of a type
unfoldable pub whole_type : Bool → Typed → Grammar Lexeme Typed
whole_type wide first = part ends_words (type_words wide first) (λ one. may (λ t. if_wide wide (is sign.Open t)) (λ _. sizes one) (give one))

-- no type stands there
abbrev pub untyped : Typed
untyped = typed (Some affinity.Blob) false

unfoldable pub optional_type : Bool → Grammar Lexeme Typed
optional_type wide = may (type_of wide) (whole_type wide) (give untyped)

-- ---- constraints

abbrev pub known : Option Affinity → Affinity
known (Some affinity) = affinity
known None = affinity.Blob

-- a column of this name and type
abbrev pub draft : List ℕ → Typed → Draft
draft name one = record {
  column = record { name = name; affinity = known one.affinity; not_null = false; is_rowid = false };
  typed = one;
  keyed = false;
  unique = false;
  wider = false;
}

-- PRIMARY KEY stands once in a table, in a statement on INTEGER alone; NOT NULL stands once in a column, UNIQUE once in one of a file.
abbrev pub constraint_of : Bool → Bool → Draft → Lexeme → Option Constraint
constraint_of wide keyed one (lexeme.Symbol sign.Primary) =
    if (keyed || one.keyed) || not (wide || one.typed.integer) then None else Some constraint.Key
constraint_of wide keyed one (lexeme.Symbol sign.Not) = if one.column.not_null then None else Some constraint.NotNull
constraint_of wide keyed one (lexeme.Symbol sign.Unique) = if wide && not one.unique then Some constraint.Unique else None
constraint_of wide keyed one _ = None

-- it is the key; beyond what a statement takes where AUTOINCREMENT stands or the type isn't INTEGER
abbrev pub as_key : Draft → Bool → Draft
as_key one automatic = record one {
  column = record one.column { is_rowid = one.typed.integer };
  keyed = true;
  wider = one.wider || (automatic || not one.typed.integer);
}

abbrev pub as_not_null : Draft → Draft
as_not_null one = record one { column = record one.column { not_null = true } }

-- UNIQUE is beyond what a statement takes
abbrev pub as_unique : Draft → Draft
as_unique one = record one { unique = true; wider = true }

unfoldable pub constrained : Bool → Draft → Constraint → Grammar Lexeme Draft
constrained wide one constraint.Key =
    must (is_word word.Key) (λ _. may (λ t. if_wide wide (is_word word.Autoincrement t)) (λ _. give (as_key one true)) (give (as_key one false)))
constrained wide one constraint.NotNull = must (is sign.Null) (λ _. give (as_not_null one))
constrained wide one constraint.Unique = give (as_unique one)

-- what may follow a column
abbrev pub ends_column : Lexeme → Bool
ends_column = one_of (sign.Comma ∷ sign.Close ∷ [])

unfoldable pub constraints : Bool → Bool → Draft → Grammar Lexeme Draft
constraints wide keyed first = many ends_type (constraint_of wide keyed) (constrained wide) first

-- ---- columns

-- what the column leaves of the table's use: one of no known type none, one beyond what a statement takes reading
abbrev pub use_of : Option Affinity → Bool → Use
use_of None wider = state.Unusable
use_of (Some affinity) true = state.ReadOnly
use_of (Some affinity) false = state.Usable

abbrev pub worse : Use → Use → Use
worse state.Unusable other = state.Unusable
worse one state.Unusable = state.Unusable
worse state.ReadOnly other = state.ReadOnly
worse one other = other

abbrev pub with_column : Declared → Draft → Declared
with_column table one = record {
  columns = table.columns ++ one.column ∷ [];
  keyed = table.keyed || one.keyed;
  state = worse table.state (use_of one.typed.affinity one.wider);
}

abbrev pub no_columns : Declared
no_columns = record { columns = []; keyed = false; state = state.Usable }

-- column [type] [constraints]
unfoldable pub column : Bool → Declared → Grammar Lexeme Declared
column wide table =
    must name_of (λ name.
    part ends_type (optional_type wide) (λ one.
    part ends_column (constraints wide table.keyed (draft name one)) (λ one.
    give (with_column table one))))

abbrev pub column_comma : Declared → Lexeme → Option (Unit {0})
column_comma table t = comma_below 2000 table.columns t

unfoldable pub more_columns : Bool → Declared → Grammar Lexeme Declared
more_columns wide table = many ends_column column_comma (λ table _. column wide table) table

-- column, ..: up to 2,000
unfoldable pub columns : Bool → Grammar Lexeme Declared
columns wide = part ends_column (column wide no_columns) (more_columns wide)

-- behind CREATE TABLE: name (column, ..)
unfoldable pub table : Bool → Grammar Lexeme TableText
table wide =
    must new_name_of (λ name.
    must (is sign.Open) (λ _.
    part (one_of (sign.Close ∷ [])) (columns wide) (λ declared.
    must (is sign.Close) (λ _.
    give (record { name = name; declared = declared })))))

-- ---- names

unfoldable pub name : Grammar Lexeme (List ℕ)
name = must name_of give

-- name, ..: up to so many
unfoldable pub names_below : ℕ → Grammar Lexeme (List (List ℕ))
names_below most = separated (comma_below most) ends_column (λ _. name)

-- behind CREATE INDEX: name ON table (column, ..), up to 16 columns
unfoldable pub index : Grammar Lexeme IndexText
index =
    must new_name_of (λ name.
    must (is sign.On) (λ _.
    must name_of (λ table.
    must (is sign.Open) (λ _.
    part (one_of (sign.Close ∷ [])) (names_below 16) (λ columns.
    must (is sign.Close) (λ _.
    give (record { name = name; table = table; columns = columns })))))))
