-- Tables and indexes: each that has begun can be ended, and one token decides.
use Rattle.std.proofs.Common.{◌≡◌, ℕ, Bool, true, false, ◌||◌, ◌&&◌, nat_lt, length, List, [], ◌∷◌, Option, Some, None, is_some, is_none, refl, ap, if◌then◌else◌, ◌⊎◌, inl, inr}
use Rattle.std.proofs.lemmas.Bool.{false≢true}
use Rattle.grammars.specs.Grammar.{Grammar}
use Rattle.grammars.specs.Lookahead.{starts, Decides, Ends}
use Rattle.grammars.specs.Lists.{separated}
use Rattle.grammars.proofs.Lists.{separated_ends, separated_decides}
use Rattle.grammars.proofs.Wider.{decides_less}
use Rattle.sql_lexemes.specs.declared.lexeme.Symbol.{Symbol}
use Rattle.sql_lexemes.specs.declared.lexeme.Symbol.TheVariants as sign
use Rattle.sql_lexemes.specs.declared.lexeme.Word.TheVariants as word
use Rattle.sql_lexemes.specs.declared.lexeme.Lexeme.{Lexeme}
use Rattle.sql_lexemes.specs.declared.lexeme.Lexeme.TheVariants as lexeme
use Rattle.sql_grammar.specs.declared.table.Constraint.{Constraint}
use Rattle.sql_grammar.specs.declared.table.Constraint.TheVariants as constraint
use Rattle.sql_grammar.specs.declared.table.Typed.{Typed}
use Rattle.sql_grammar.specs.declared.table.Draft.{Draft}
use Rattle.sql_grammar.specs.declared.table.Declared.{Declared}
use Rattle.sql_grammar.specs.Lexemes.{same_symbol, same_word, is, is_word, one_of, name_of, count_of}
use Rattle.sql_grammar.specs.Table.{comma_below, type_of, more_type_of, if_wide, sizes, any, ends_type, ends_words, type_words, whole_type, optional_type, constraint_of, constrained, ends_column, constraints, column, column_comma, more_columns, columns, table, name, names_below, index}
use Rattle.sql_grammar.proofs.Tests.{or_cases, or_right, takes_itself, takes_word, some_name, some_new_name, some_count, all_of, none_all, none_of, apart, at_symbol}

if_none : {A : Type 0} (b : Bool) (o : Option A) → o ≡ None → (if b then o else None) ≡ None
if_none true o h = h
if_none false o h = refl

if_some : {A : Type 0} (b : Bool) (o : Option A) → is_some (if b then o else None) ≡ true → is_some o ≡ true
if_some true o h = h
if_some false o h = absurd (false≢true h)

wide_none : (wide : Bool) (o : Option (Unit {0})) → o ≡ None → if_wide wide o ≡ None
wide_none true o h = h
wide_none false o h = refl

-- ---- lists with commas, up to so many

module _ {A : Type 0} (item : Grammar Lexeme A) (symbols : List Symbol) where
  pub comma_list_decides : (comma : List A → Lexeme → Option (Unit {0})) → ((found : List A) (t : Lexeme) → is sign.Comma t ≡ None → comma found t ≡ None)
      → ((found : List A) (t : Lexeme) → is_some (comma found t) ≡ true → is_some (is sign.Comma t) ≡ true)
      → ((t : Lexeme) → one_of symbols t ≡ true → is sign.Comma t ≡ None) → Decides item (one_of (sign.Comma ∷ symbols))
      → Decides (separated comma (one_of (sign.Comma ∷ symbols)) (λ _. item)) (one_of symbols)
  comma_list_decides comma not_more is_comma stops d =
      separated_decides comma (one_of (sign.Comma ∷ symbols)) (λ _. item) (one_of symbols) (λ _. d) (λ found t k. not_more found t (stops t k))
      (λ t k. or_right (is_some (is sign.Comma t)) (one_of symbols t) k) (λ found t k. comma_first t (is_comma found t k))
    where
      comma_first : (t : Lexeme) → is_some (is sign.Comma t) ≡ true → (is_some (is sign.Comma t) || one_of symbols t) ≡ true
      comma_first t k = at_left (is_some (is sign.Comma t)) (one_of symbols t) k
        where
          at_left : (a b : Bool) → a ≡ true → (a || b) ≡ true
          at_left true b h = refl
          at_left false b h = absurd (false≢true h)

  pub plain_list_decides : ((t : Lexeme) → one_of symbols t ≡ true → is sign.Comma t ≡ None) → Decides item (one_of (sign.Comma ∷ symbols))
      → Decides (separated (λ _. is sign.Comma) (one_of (sign.Comma ∷ symbols)) (λ _. item)) (one_of symbols)
  plain_list_decides stops d = comma_list_decides (λ _. is sign.Comma) (λ _ t h. h) (λ _ t h. h) stops d

  pub short_list_decides : (most : ℕ) → ((t : Lexeme) → one_of symbols t ≡ true → is sign.Comma t ≡ None) → Decides item (one_of (sign.Comma ∷ symbols))
      → Decides (separated (comma_below most) (one_of (sign.Comma ∷ symbols)) (λ _. item)) (one_of symbols)
  short_list_decides most stops d =
      comma_list_decides (comma_below most) (λ found t h. if_none (nat_lt (length found) most) (is sign.Comma t) h)
      (λ found t h. if_some (nat_lt (length found) most) (is sign.Comma t) h) stops d

-- ---- each can be ended

pub sizes_ends : (one : Typed) → Ends (sizes one)
unfolding sizes
sizes_ends one =
    (some_count, λ _. ((λ _. (some_count, λ _. (takes_itself sign.Close, λ _. tt))), (takes_itself sign.Close, λ _. tt)))

pub type_words_ends : (wide : Bool) (first : Typed) → Ends (type_words wide first)
unfolding type_words
type_words_ends wide first = λ one other. tt

pub whole_type_ends : (wide : Bool) (first : Typed) → Ends (whole_type wide first)
unfolding whole_type
whole_type_ends wide first = (type_words_ends wide first, λ one. ((λ _. sizes_ends one), tt))

pub optional_type_ends : (wide : Bool) → Ends (optional_type wide)
unfolding optional_type
optional_type_ends wide = ((λ first. whole_type_ends wide first), tt)

pub constrained_ends : (wide : Bool) (one : Draft) (c : Constraint) → Ends (constrained wide one c)
unfolding constrained
constrained_ends wide one constraint.Key = (takes_word word.Key, λ _. ((λ _. tt), tt))
constrained_ends wide one constraint.NotNull = (takes_itself sign.Null, λ _. tt)
constrained_ends wide one constraint.Unique = tt

pub constraints_ends : (wide keyed : Bool) (first : Draft) → Ends (constraints wide keyed first)
unfolding constraints
constraints_ends wide keyed first = λ one c. constrained_ends wide one c

pub column_ends : (wide : Bool) (table : Declared) → Ends (column wide table)
unfolding column
column_ends wide table = (some_name, λ name. (optional_type_ends wide, λ one. (constraints_ends wide table.keyed _, λ one. tt)))

pub more_columns_ends : (wide : Bool) (table : Declared) → Ends (more_columns wide table)
unfolding more_columns
more_columns_ends wide table = λ table _. column_ends wide table

pub columns_ends : (wide : Bool) → Ends (columns wide)
unfolding columns
columns_ends wide = (column_ends wide _, λ first. more_columns_ends wide first)

pub table_ends : (wide : Bool) → Ends (table wide)
unfolding table
table_ends wide = (some_new_name, λ name. (takes_itself sign.Open, λ _. (columns_ends wide, λ declared. (takes_itself sign.Close, λ _. tt))))

pub name_ends : Ends name
unfolding name
name_ends = (some_name, λ _. tt)

pub names_below_ends : (most : ℕ) → Ends (names_below most)
unfolding names_below
names_below_ends most = separated_ends (comma_below most) ends_column (λ _. name) (λ _. name_ends)

pub index_ends : Ends index
unfolding index
index_ends = (
  some_new_name,
  λ name. (
    takes_itself sign.On,
    λ _. (some_name, λ table. (takes_itself sign.Open, λ _. (names_below_ends 16, λ columns. (takes_itself sign.Close, λ _. tt)))),
  ),
)

-- ---- one token decides

sizes_decides : (one : Typed) (K : Lexeme → Bool) → Decides (sizes one) K
unfolding sizes same_symbol
sizes_decides one K = λ _. ((λ _ _ _. tt), (λ _. tt), λ t k. apart sign.Close (is sign.Comma) refl t k)

more_none : (wide : Bool) (t : Lexeme) → type_of true t ≡ None → more_type_of wide t ≡ None
more_none true t h = h
more_none false t h = refl

type_words_decides : (wide : Bool) (first : Typed) → Decides (type_words wide first) ends_words
unfolding type_words same_symbol
type_words_decides wide first = (
  (λ _ _. tt),
  (λ one t k. more_none wide t (none_all (sign.Open ∷ sign.Primary ∷ sign.Not ∷ sign.Unique ∷ sign.Comma ∷ sign.Close ∷ []) (type_of true) refl t k)),
  (λ t k. refl),
  λ one t b takes. refl,
)

whole_type_decides : (wide : Bool) (first : Typed) → Decides (whole_type wide first) ends_type
unfolding whole_type same_symbol
whole_type_decides wide first = (
  type_words_decides wide first,
  (λ one. (
    (λ _. sizes_decides one ends_type),
    tt,
    λ t k. wide_none wide (is sign.Open t) (none_all (sign.Primary ∷ sign.Not ∷ sign.Unique ∷ sign.Comma ∷ sign.Close ∷ []) (is sign.Open) refl t k),
  )),
  λ one t k. opened wide t k,
)
  where
    opened : (wide : Bool) (t : Lexeme) → (is_some (if_wide wide (is sign.Open t)) || ends_type t) ≡ true → ends_words t ≡ true
    opened true t k = k
    opened false t k = or_right (is_some (is sign.Open t)) (ends_type t) k

no_type : (wide : Bool) (t : Lexeme) → ends_type t ≡ true → type_of wide t ≡ None
unfolding same_symbol
no_type true t k = none_all (sign.Primary ∷ sign.Not ∷ sign.Unique ∷ sign.Comma ∷ sign.Close ∷ []) (type_of true) refl t k
no_type false t k = none_all (sign.Primary ∷ sign.Not ∷ sign.Unique ∷ sign.Comma ∷ sign.Close ∷ []) (type_of false) refl t k

optional_type_decides : (wide : Bool) → Decides (optional_type wide) ends_type
unfolding optional_type
optional_type_decides wide = ((λ first. whole_type_decides wide first), tt, λ t k. no_type wide t k)

no_automatic : (wide : Bool) (t : Lexeme) → ends_type t ≡ true → if_wide wide (is_word word.Autoincrement t) ≡ None
unfolding same_symbol
no_automatic wide t k =
    wide_none wide (is_word word.Autoincrement t) (none_all (sign.Primary ∷ sign.Not ∷ sign.Unique ∷ sign.Comma ∷ sign.Close ∷ []) (is_word word.Autoincrement) refl t k)

constrained_decides : (wide : Bool) (one : Draft) (c : Constraint) → Decides (constrained wide one c) ends_type
unfolding constrained
constrained_decides wide one constraint.Key = λ _. ((λ _. tt), tt, λ t k. no_automatic wide t k)
constrained_decides wide one constraint.NotNull = λ _. tt
constrained_decides wide one constraint.Unique = tt

no_constraint : (wide keyed : Bool) (one : Draft) (t : Lexeme) → ends_column t ≡ true → constraint_of wide keyed one t ≡ None
unfolding same_symbol
no_constraint wide keyed one t k = none_all (sign.Comma ∷ sign.Close ∷ []) (constraint_of wide keyed one) refl t k

ends_wider : (t : Lexeme) → ends_column t ≡ true → ends_type t ≡ true
unfolding same_symbol
ends_wider t k = all_of (sign.Comma ∷ sign.Close ∷ []) ends_type refl t k

some_none : {A : Type 0} (a : A) → None ≡ Some a → ⊥
some_none a h = cc

constraint_type : (wide keyed : Bool) (one : Draft) (t : Lexeme) (c : Constraint) → constraint_of wide keyed one t ≡ Some c → ends_type t ≡ true
unfolding same_symbol
constraint_type wide keyed one (lexeme.Symbol sign.Primary) c takes = refl
constraint_type wide keyed one (lexeme.Symbol sign.Not) c takes = refl
constraint_type wide keyed one (lexeme.Symbol sign.Unique) c takes = refl
constraint_type wide keyed one (lexeme.Symbol _) c takes = absurd (some_none c takes)
constraint_type wide keyed one _ c takes = absurd (some_none c takes)

constraints_decides : (wide keyed : Bool) (first : Draft) → Decides (constraints wide keyed first) ends_column
unfolding constraints
constraints_decides wide keyed first = (
  (λ one c. constrained_decides wide one c),
  (λ one t k. no_constraint wide keyed one t k),
  (λ t k. ends_wider t k),
  λ one t c takes. constraint_type wide keyed one t c takes,
)

constraints_start : (wide keyed : Bool) (first : Draft) (t : Lexeme) → starts (constraints wide keyed first) ends_column t ≡ true → ends_type t ≡ true
unfolding constraints
constraints_start wide keyed first t k = started (constraint_of wide keyed first t) refl k
  where
    started : (o : Option Constraint) → constraint_of wide keyed first t ≡ o → (is_some o || ends_column t) ≡ true → ends_type t ≡ true
    started None is k = ends_wider t k
    started (Some c) is k = constraint_type wide keyed first t c is

column_decides : (wide : Bool) (table : Declared) → Decides (column wide table) ends_column
unfolding column
column_decides wide table = λ name. (
  optional_type_decides wide,
  (λ one. (constraints_decides wide table.keyed _, (λ one. tt), λ one t k. k)),
  λ one t k. constraints_start wide table.keyed _ t k,
)

comma_ends : (t : Lexeme) → is_some (is sign.Comma t) ≡ true → ends_column t ≡ true
unfolding same_symbol
comma_ends t k = at_symbol sign.Comma ends_column refl t k

close_only : {B : Type 0} (f : Lexeme → Option B) → is_none (f (lexeme.Symbol sign.Close)) ≡ true → (t : Lexeme) → one_of (sign.Close ∷ []) t ≡ true → f t ≡ None
close_only f h t k = elim (or_cases (is_some (is sign.Close t)) false k) [ inl a ↦ apart sign.Close f h t a | inr b ↦ absurd (false≢true b) ]

more_columns_decides : (wide : Bool) (table : Declared) → Decides (more_columns wide table) (one_of (sign.Close ∷ []))
unfolding more_columns same_symbol
more_columns_decides wide table = (
  (λ table _. column_decides wide table),
  (λ table t k. if_none (nat_lt (length table.columns) 2000) (is sign.Comma t) (close_only (is sign.Comma) refl t k)),
  (λ t k. or_right (is_some (is sign.Comma t)) (one_of (sign.Close ∷ []) t) k),
  λ table t b takes. comma_ends t (if_some (nat_lt (length table.columns) 2000) (is sign.Comma t) (ap is_some takes)),
)

more_columns_start : (wide : Bool) (table : Declared) (t : Lexeme) → starts (more_columns wide table) (one_of (sign.Close ∷ [])) t ≡ true → ends_column t ≡ true
unfolding more_columns
more_columns_start wide table t k =
    elim (or_cases (is_some (column_comma table t)) (one_of (sign.Close ∷ []) t) k) [
      | inl a ↦ comma_ends t (if_some (nat_lt (length table.columns) 2000) (is sign.Comma t) a)
      | inr b ↦ or_right (is_some (is sign.Comma t)) (one_of (sign.Close ∷ []) t) b
    ]

columns_decides : (wide : Bool) → Decides (columns wide) (one_of (sign.Close ∷ []))
unfolding columns
columns_decides wide = (column_decides wide _, (λ first. more_columns_decides wide first), λ first t k. more_columns_start wide first t k)

pub close_first : (t : Lexeme) → is_some (is sign.Close t) ≡ true → one_of (sign.Close ∷ []) t ≡ true
unfolding same_symbol
close_first t k = at_symbol sign.Close (one_of (sign.Close ∷ [])) refl t k

pub table_decides : (wide : Bool) (K : Lexeme → Bool) → Decides (table wide) K
unfolding table
table_decides wide K = λ name _. (columns_decides wide, (λ _ _. tt), λ declared t k. close_first t k)

pub name_decides : (K : Lexeme → Bool) → Decides name K
unfolding name
name_decides K = λ _. tt

pub names_below_decides : (most : ℕ) → Decides (names_below most) (one_of (sign.Close ∷ []))
unfolding names_below same_symbol
names_below_decides most =
    short_list_decides name (sign.Close ∷ []) most (λ t k. close_only (is sign.Comma) refl t k) (name_decides ends_column)

pub index_decides : (K : Lexeme → Bool) → Decides index K
unfolding index
index_decides K = λ name _ table _. (names_below_decides 16, (λ _ _. tt), λ columns t k. close_first t k)
