-- Statements: each that has begun can be ended, and one token decides.
use Rattle.std.proofs.Common.{◌≡◌, ℕ, Bool, true, false, ◌||◌, ◌&&◌, nat_lt, length, List, [], ◌∷◌, Option, Some, None, is_some, is_none, refl, ap, if◌then◌else◌, ◌⊎◌, inl, inr}
use Rattle.std.proofs.lemmas.Bool.{false≢true}
use Rattle.grammars.specs.Grammar.{Grammar}
use Rattle.grammars.specs.Lookahead.{starts, Decides, Ends}
use Rattle.grammars.specs.Lists.{separated}
use Rattle.grammars.proofs.Lists.{separated_ends, separated_decides}
use Rattle.sql_lexemes.specs.declared.lexeme.Symbol.{Symbol}
use Rattle.sql_lexemes.specs.declared.lexeme.Symbol.TheVariants as sign
use Rattle.sql_lexemes.specs.declared.lexeme.Word.TheVariants as word
use Rattle.sql_lexemes.specs.declared.lexeme.Lexeme.{Lexeme}
use Rattle.sql_lexemes.specs.declared.lexeme.Lexeme.TheVariants as lexeme
use Rattle.sql_grammar.specs.declared.expr.Expr.{Expr}
use Rattle.sql_grammar.specs.declared.expr.Place.TheVariants as place
use Rattle.sql_grammar.specs.declared.statement.Joint.{Joint}
use Rattle.sql_grammar.specs.declared.statement.Joint.TheVariants as by
use Rattle.sql_grammar.specs.declared.statement.Sources.{Sources}
use Rattle.sql_grammar.specs.declared.statement.Statement.{Statement}
use Rattle.sql_grammar.specs.declared.statement.Statement.TheVariants as statement
use Rattle.sql_grammar.specs.declared.statement.Created.{Created}
use Rattle.sql_grammar.specs.Lexemes.{same_symbol, same_word, is, is_word, alias_of, one_of}
use Rattle.sql_grammar.specs.Expr.{quiet, value}
use Rattle.sql_grammar.specs.Table.{ends_column, name, table}
use Rattle.sql_grammar.specs.Statement.{ended, at_end, closed, concurrent_of, begun, created_index, created_table, created, dropped, values, filter, names, row, rows, inserted, insert, set, ends_sets, sets, update, delete, ends_orders, ends_groups, ends_filter, ends_tables, ends_table, ends_list, ends_item, item, list, named, source, joint, joint_of, joined, more_sources, sources, optional_sources, groups, sort, sorts, orders, limits, select_from, select, statement_grammar}
use Rattle.sql_grammar.specs.Created.{finished, index_text, created_grammar}
use Rattle.sql_grammar.proofs.Tests.{or_cases, or_left, or_right, takes_itself, takes_word, some_name, some_count, all_of, none_all, none_of, apart, at_symbol}
use Rattle.sql_grammar.proofs.Ladder.{value_ends, value_decides, value_star}
use Rattle.sql_grammar.proofs.Tables.{plain_list_decides, name_ends, name_decides, close_first, table_ends, table_decides, index_ends, index_decides}

-- ---- each can be ended

pub ended_ends : (s : Statement) → Ends (ended s)
unfolding ended
ended_ends s = ((λ _. tt), tt)

pub closed_ends : (s : Statement) → Ends (closed s)
unfolding closed
closed_ends s = ((λ _. ended_ends s), ended_ends s)

begun_ends : Ends begun
unfolding begun
begun_ends = ((λ _. closed_ends _), ((λ _. closed_ends _), closed_ends _))

created_index_ends : (unique : Bool) → Ends (created_index unique)
unfolding created_index
created_index_ends unique = (index_ends, λ text. ended_ends _)

created_table_ends : Ends created_table
unfolding created_table
created_table_ends = (table_ends false, λ text. ended_ends _)

created_ends : Ends created
unfolding created
created_ends =
    ((λ _. (takes_itself sign.Index, λ _. created_index_ends true)), ((λ _. created_index_ends false), (takes_itself sign.Table, λ _. created_table_ends)))

dropped_ends : Ends dropped
unfolding dropped
dropped_ends = (takes_itself sign.Table, λ _. (some_name, λ name. ended_ends _))

pub values_ends : Ends values
unfolding values
values_ends = separated_ends (λ _. is sign.Comma) (quiet 8) (λ _. value place.Plain) (λ _. value_ends place.Plain)

pub filter_ends : Ends filter
unfolding filter
filter_ends = ((λ _. (value_ends place.Plain, λ found. tt)), tt)

pub names_ends : Ends names
unfolding names
names_ends = separated_ends (λ _. is sign.Comma) ends_column (λ _. name) (λ _. name_ends)

pub row_ends : Ends row
unfolding row
row_ends = (takes_itself sign.Open, λ _. (values_ends, λ _. (takes_itself sign.Close, λ _. tt)))

pub rows_ends : Ends rows
unfolding rows
rows_ends = separated_ends (λ _. is sign.Comma) (one_of (sign.Comma ∷ sign.Semicolon ∷ [])) (λ _. row) (λ _. row_ends)

inserted_ends : (table : List ℕ) (columns : List (List ℕ)) → Ends (inserted table columns)
unfolding inserted
inserted_ends table columns = (takes_itself sign.Values, λ _. (rows_ends, λ found. ended_ends _))

insert_ends : Ends insert
unfolding insert
insert_ends = (
  takes_itself sign.Into,
  λ _. (
    some_name,
    λ table. ((λ _. (names_ends, λ columns. (takes_itself sign.Close, λ _. inserted_ends table columns))), inserted_ends table []),
  ),
)

pub set_ends : Ends set
unfolding set
set_ends = (some_name, λ column. (takes_itself sign.Equal, λ _. (value_ends place.Plain, λ found. tt)))

pub sets_ends : Ends sets
unfolding sets
sets_ends = separated_ends (λ _. is sign.Comma) (one_of (sign.Comma ∷ sign.Where ∷ sign.Semicolon ∷ [])) (λ _. set) (λ _. set_ends)

update_ends : Ends update
unfolding update
update_ends = (some_name, λ table. (takes_itself sign.Set, λ _. (sets_ends, λ sets. (filter_ends, λ filter. ended_ends _))))

delete_ends : Ends delete
unfolding delete
delete_ends = (takes_itself sign.From, λ _. (some_name, λ table. (filter_ends, λ filter. ended_ends _)))

pub item_ends : Ends item
unfolding item
item_ends = (value_ends place.Listed, λ found. ((λ _. (some_name, λ _. tt)), tt))

pub list_ends : Ends list
unfolding list
list_ends = separated_ends (λ _. is sign.Comma) ends_item (λ _. item) (λ _. item_ends)

pub source_ends : Ends source
unfolding source named
source_ends = (some_name, λ table. ((λ _. (some_name, λ name. tt)), ((λ name. tt), tt)))

pub joined_ends : (found : Sources) (how : Joint) → Ends (joined found how)
unfolding joined
joined_ends found by.Comma = (source_ends, λ table. tt)
joined_ends found by.Join = (source_ends, λ table. (takes_itself sign.On, λ _. (value_ends place.Plain, λ condition. tt)))

pub more_sources_ends : (first : Sources) → Ends (more_sources first)
unfolding more_sources
more_sources_ends first = λ found how. joined_ends found how

pub sources_ends : Ends sources
unfolding sources
sources_ends = (source_ends, λ first. more_sources_ends _)

pub optional_sources_ends : Ends optional_sources
unfolding optional_sources
optional_sources_ends = ((λ _. sources_ends), tt)

pub groups_ends : Ends groups
unfolding groups
groups_ends = ((λ _. (takes_word word.By, λ _. values_ends)), tt)

pub sort_ends : Ends sort
unfolding sort
sort_ends = (value_ends place.Sorted, λ found. ((λ _. tt), ((λ _. tt), tt)))

pub sorts_ends : Ends sorts
unfolding sorts
sorts_ends = separated_ends (λ _. is sign.Comma) (one_of (sign.Comma ∷ sign.Limit ∷ sign.Semicolon ∷ [])) (λ _. sort) (λ _. sort_ends)

pub orders_ends : Ends orders
unfolding orders
orders_ends = ((λ _. (takes_word word.By, λ _. sorts_ends)), tt)

pub limits_ends : Ends limits
unfolding limits
limits_ends = ((λ _. (some_count, λ n. ((λ _. (some_count, λ m. tt)), tt))), tt)

select_from_ends : (all : Bool) (list : List Expr) (found : Sources) → Ends (select_from all list found)
unfolding select_from
select_from_ends all listed found =
    (filter_ends, λ filter. (groups_ends, λ groups. (orders_ends, λ orders. (limits_ends, λ limits. ended_ends _))))

select_ends : Ends select
unfolding select
select_ends = (
  (λ _. (takes_itself sign.From, λ _. (sources_ends, λ found. select_from_ends true [] found))),
  (list_ends, λ list. (optional_sources_ends, λ found. select_from_ends false list found)),
)

pub statement_ends : Ends statement_grammar
unfolding statement_grammar
statement_ends = (
  (λ _. begun_ends),
  (
    (λ _. closed_ends _),
    (
      (λ _. closed_ends _),
      (
        (λ _. closed_ends _),
        (
          (λ _. created_ends),
          (
            (λ _. dropped_ends),
            ((λ _. insert_ends), ((λ _. update_ends), ((λ _. delete_ends), (takes_itself sign.Select, λ _. select_ends)))),
          ),
        ),
      ),
    ),
  ),
)

-- ---- one token decides

-- nothing follows a statement
abbrev pub nothing_more : Lexeme → Bool
nothing_more t = false

ended_decides : (s : Statement) → Decides (ended s) nothing_more
unfolding ended
ended_decides s = ((λ _. tt), tt, λ t k. absurd (false≢true k))

end_only : {B : Type 0} (f : Lexeme → Option B) → is_none (f (lexeme.Symbol sign.Semicolon)) ≡ true → (t : Lexeme) → at_end t ≡ true → f t ≡ None
end_only f h t k = elim (or_cases (is_some (is sign.Semicolon t)) false k) [ inl a ↦ apart sign.Semicolon f h t a | inr b ↦ absurd (false≢true b) ]

end_first : (s : Statement) (t : Lexeme) → starts (ended s) nothing_more t ≡ true → at_end t ≡ true
unfolding ended
end_first s t k = k

closed_decides : (s : Statement) → Decides (closed s) nothing_more
unfolding closed same_symbol
closed_decides s = ((λ _. ended_decides s), ended_decides s, λ t k. end_only (is_word word.Transaction) refl t (end_first s t k))

closed_deferred : (s : Statement) (t : Lexeme) → starts (closed s) nothing_more t ≡ true → is_word word.Deferred t ≡ None
unfolding closed ended same_symbol same_word
closed_deferred s (lexeme.Name word.Deferred spelling) k = absurd (false≢true k)
closed_deferred s (lexeme.Name _ spelling) k = refl
closed_deferred s _ k = refl

begun_decides : Decides begun nothing_more
unfolding begun
begun_decides = (
  (λ _. closed_decides _),
  ((λ _. closed_decides _), closed_decides _, λ t k. refl),
  λ t k. closed_deferred _ t k,
)

created_index_decides : (unique : Bool) → Decides (created_index unique) nothing_more
unfolding created_index
created_index_decides unique = (index_decides at_end, (λ text. ended_decides _), λ text t k. end_first _ t k)

created_table_decides : Decides created_table nothing_more
unfolding created_table
created_table_decides = (table_decides false at_end, (λ text. ended_decides _), λ text t k. end_first _ t k)

index_or_table : (t : Lexeme) → (is_some (is sign.Index t) || is_some (is sign.Table t)) ≡ true → is sign.Unique t ≡ None
unfolding same_symbol
index_or_table t k =
    elim (or_cases (is_some (is sign.Index t)) (is_some (is sign.Table t)) k) [ inl a ↦ apart sign.Index (is sign.Unique) refl t a | inr b ↦ apart sign.Table (is sign.Unique) refl t b ]

created_decides : Decides created nothing_more
unfolding created same_symbol
created_decides = (
  (λ _ _. created_index_decides true),
  ((λ _. created_index_decides false), (λ _. created_table_decides), λ t k. apart sign.Table (is sign.Index) refl t k),
  λ t k. index_or_table t k,
)

dropped_decides : Decides dropped nothing_more
unfolding dropped
dropped_decides = λ _ name. ended_decides _

values_decides : (symbols : List Symbol) → ((t : Lexeme) → one_of symbols t ≡ true → is sign.Comma t ≡ None) → ((t : Lexeme) → one_of symbols t ≡ true → quiet 8 t ≡ true) → Decides values (one_of symbols)
unfolding values same_symbol
values_decides symbols stops quiets =
    separated_decides (λ _. is sign.Comma) (quiet 8) (λ _. value place.Plain) (one_of symbols) (λ _. value_decides place.Plain (quiet 8) (λ t k. k))
    (λ _ t k. stops t k) quiets (λ _ t k. at_symbol sign.Comma (quiet 8) refl t k)

-- WHERE, or what may follow
filter_decides : (symbols : List Symbol) → ((t : Lexeme) → one_of symbols t ≡ true → is sign.Where t ≡ None) → ((t : Lexeme) → one_of symbols t ≡ true → quiet 8 t ≡ true) → Decides filter (one_of symbols)
unfolding filter
filter_decides symbols stops quiets = (
  (λ _. (value_decides place.Plain (quiet 8) (λ t k. k), (λ _. tt), λ _ t k. quiets t k)),
  tt,
  stops,
)

names_decides : Decides names (one_of (sign.Close ∷ []))
unfolding names same_symbol
names_decides = plain_list_decides name (sign.Close ∷ []) (λ t k. none_all (sign.Close ∷ []) (is sign.Comma) refl t k) (name_decides ends_column)

row_decides : (K : Lexeme → Bool) → Decides row K
unfolding row same_symbol
row_decides K = λ _. (
  values_decides (sign.Close ∷ []) (λ t k. none_all (sign.Close ∷ []) (is sign.Comma) refl t k) (λ t k. all_of (sign.Close ∷ []) (quiet 8) refl t k),
  (λ _ _. tt),
  λ _ t k. close_first t k,
)

rows_decides : Decides rows at_end
unfolding rows same_symbol
rows_decides =
    plain_list_decides row (sign.Semicolon ∷ []) (λ t k. none_all (sign.Semicolon ∷ []) (is sign.Comma) refl t k) (row_decides (one_of (sign.Comma ∷ sign.Semicolon ∷ [])))

inserted_decides : (table : List ℕ) (columns : List (List ℕ)) → Decides (inserted table columns) nothing_more
unfolding inserted
inserted_decides table columns = λ _. (rows_decides, (λ found. ended_decides _), λ found t k. end_first _ t k)

insert_decides : Decides insert nothing_more
unfolding insert inserted same_symbol
insert_decides = λ _ table. (
  (λ _. (names_decides, (λ columns _. inserted_decides table columns), λ columns t k. close_first t k)),
  inserted_decides table [],
  λ t k. apart sign.Values (is sign.Open) refl t k,
)

set_decides : (symbols : List Symbol) → ((t : Lexeme) → one_of symbols t ≡ true → quiet 8 t ≡ true) → Decides set (one_of symbols)
unfolding set
set_decides symbols quiets = λ column _. (value_decides place.Plain (quiet 8) (λ t k. k), (λ _. tt), λ _ t k. quiets t k)

sets_decides : Decides sets ends_sets
unfolding sets same_symbol
sets_decides =
    plain_list_decides set (sign.Where ∷ sign.Semicolon ∷ []) (λ t k. none_all (sign.Where ∷ sign.Semicolon ∷ []) (is sign.Comma) refl t k)
    (set_decides (sign.Comma ∷ sign.Where ∷ sign.Semicolon ∷ []) (λ t k. all_of (sign.Comma ∷ sign.Where ∷ sign.Semicolon ∷ []) (quiet 8) refl t k))

filter_at_end : Decides filter at_end
unfolding same_symbol
filter_at_end =
    filter_decides (sign.Semicolon ∷ []) (λ t k. none_all (sign.Semicolon ∷ []) (is sign.Where) refl t k) (λ t k. all_of (sign.Semicolon ∷ []) (quiet 8) refl t k)

update_decides : Decides update nothing_more
unfolding update filter
update_decides = λ table _. (
  sets_decides,
  (λ sets. (filter_at_end, (λ filter. ended_decides _), λ filter t k. end_first _ t k)),
  λ sets t k. k,
)

delete_decides : Decides delete nothing_more
unfolding delete
delete_decides = λ _ table. (filter_at_end, (λ filter. ended_decides _), λ filter t k. end_first _ t k)

-- ---- SELECT

item_decides : Decides item ends_item
unfolding item same_symbol
item_decides = (
  value_decides place.Listed (quiet 8) (λ t k. k),
  (λ found. ((λ _ _. tt), tt, λ t k. none_all (sign.Comma ∷ sign.From ∷ sign.Where ∷ sign.Group ∷ sign.Order ∷ sign.Limit ∷ sign.Semicolon ∷ []) (is sign.As) refl t k)),
  λ found t k. all_of (sign.As ∷ sign.Comma ∷ sign.From ∷ sign.Where ∷ sign.Group ∷ sign.Order ∷ sign.Limit ∷ sign.Semicolon ∷ []) (quiet 8) refl t k,
)

list_decides : Decides list ends_list
unfolding list same_symbol
list_decides =
    plain_list_decides item (sign.From ∷ sign.Where ∷ sign.Group ∷ sign.Order ∷ sign.Limit ∷ sign.Semicolon ∷ [])
    (λ t k. none_all (sign.From ∷ sign.Where ∷ sign.Group ∷ sign.Order ∷ sign.Limit ∷ sign.Semicolon ∷ []) (is sign.Comma) refl t k) item_decides

no_as : (symbols : List Symbol) → ((t : Lexeme) → one_of symbols t ≡ true → is sign.As t ≡ None) → (t : Lexeme) → (is_some (alias_of t) || one_of symbols t) ≡ true → is sign.As t ≡ None
no_as symbols stops (lexeme.Name found spelling) k = refl
no_as symbols stops (lexeme.Aggregate function spelling) k = refl
no_as symbols stops (lexeme.Symbol s) k = stops (lexeme.Symbol s) k
no_as symbols stops _ k = refl

source_decides : (symbols : List Symbol) → ((t : Lexeme) → one_of symbols t ≡ true → is sign.As t ≡ None) → ((t : Lexeme) → one_of symbols t ≡ true → alias_of t ≡ None) → Decides source (one_of symbols)
unfolding source named
source_decides symbols no_as_so no_alias = λ table. (
  (λ _ name. tt),
  ((λ name. tt), tt, no_alias),
  λ t k. no_as symbols no_as_so t k,
)

source_in_list : Decides source ends_table
unfolding same_symbol
source_in_list =
    source_decides (sign.Comma ∷ sign.Join ∷ sign.Where ∷ sign.Group ∷ sign.Order ∷ sign.Limit ∷ sign.Semicolon ∷ [])
    (λ t k. none_all (sign.Comma ∷ sign.Join ∷ sign.Where ∷ sign.Group ∷ sign.Order ∷ sign.Limit ∷ sign.Semicolon ∷ []) (is sign.As) refl t k)
    (λ t k. none_all (sign.Comma ∷ sign.Join ∷ sign.Where ∷ sign.Group ∷ sign.Order ∷ sign.Limit ∷ sign.Semicolon ∷ []) alias_of refl t k)

source_before_on : Decides source (one_of (sign.On ∷ []))
unfolding same_symbol
source_before_on =
    source_decides (sign.On ∷ []) (λ t k. none_all (sign.On ∷ []) (is sign.As) refl t k) (λ t k. none_all (sign.On ∷ []) alias_of refl t k)

on_first : (t : Lexeme) → is_some (is sign.On t) ≡ true → one_of (sign.On ∷ []) t ≡ true
on_first t k = or_left (is_some (is sign.On t)) false k

joined_decides : (found : Sources) (how : Joint) → Decides (joined found how) ends_table
unfolding joined same_symbol
joined_decides found by.Comma = (source_in_list, (λ table. tt), λ table t k. k)
joined_decides found by.Join = (
  source_before_on,
  (λ table _. (
    value_decides place.Plain (quiet 8) (λ t k. k),
    (λ _. tt),
    λ _ t k. all_of (sign.Comma ∷ sign.Join ∷ sign.Where ∷ sign.Group ∷ sign.Order ∷ sign.Limit ∷ sign.Semicolon ∷ []) (quiet 8) refl t k,
  )),
  λ table t k. on_first t k,
)

if_none : {A : Type 0} (b : Bool) (o : Option A) → o ≡ None → (if b then o else None) ≡ None
if_none true o h = h
if_none false o h = refl

if_some : {A : Type 0} (b : Bool) (o : Option A) → is_some (if b then o else None) ≡ true → is_some o ≡ true
if_some true o h = h
if_some false o h = absurd (false≢true h)

joint_table : (t : Lexeme) → is_some (joint t) ≡ true → ends_table t ≡ true
unfolding same_symbol
joint_table (lexeme.Symbol sign.Comma) k = refl
joint_table (lexeme.Symbol sign.Join) k = refl
joint_table (lexeme.Symbol _) k = absurd (false≢true k)
joint_table _ k = absurd (false≢true k)

tables_table : (t : Lexeme) → ends_tables t ≡ true → ends_table t ≡ true
tables_table t k = or_right (is_some (is sign.Comma t)) _ (or_right (is_some (is sign.Join t)) (ends_tables t) k)

more_sources_decides : (first : Sources) → Decides (more_sources first) ends_tables
unfolding more_sources same_symbol
more_sources_decides first = (
  (λ found how. joined_decides found how),
  (λ found t k. if_none (nat_lt (length found.from) 8) (joint t) (none_all (sign.Where ∷ sign.Group ∷ sign.Order ∷ sign.Limit ∷ sign.Semicolon ∷ []) joint refl t k)),
  (λ t k. tables_table t k),
  λ found t how takes. joint_table t (if_some (nat_lt (length found.from) 8) (joint t) (ap is_some takes)),
)

more_sources_start : (first : Sources) (t : Lexeme) → starts (more_sources first) ends_tables t ≡ true → ends_table t ≡ true
unfolding more_sources
more_sources_start first t k =
    elim (or_cases (is_some (joint_of first t)) (ends_tables t) k) [
      | inl a ↦ joint_table t (if_some (nat_lt (length first.from) 8) (joint t) a)
      | inr b ↦ tables_table t b
    ]

sources_decides : Decides sources ends_tables
unfolding sources
sources_decides = (source_in_list, (λ first. more_sources_decides _), λ first t k. more_sources_start _ t k)

optional_sources_decides : Decides optional_sources ends_tables
unfolding optional_sources same_symbol
optional_sources_decides =
    ((λ _. sources_decides), tt, λ t k. none_all (sign.Where ∷ sign.Group ∷ sign.Order ∷ sign.Limit ∷ sign.Semicolon ∷ []) (is sign.From) refl t k)

groups_decides : Decides groups ends_groups
unfolding groups same_symbol
groups_decides = (
  (λ _ _. values_decides (sign.Order ∷ sign.Limit ∷ sign.Semicolon ∷ []) (λ t k. none_all (sign.Order ∷ sign.Limit ∷ sign.Semicolon ∷ []) (is sign.Comma) refl t k)
      (λ t k. all_of (sign.Order ∷ sign.Limit ∷ sign.Semicolon ∷ []) (quiet 8) refl t k)),
  tt,
  λ t k. none_all (sign.Order ∷ sign.Limit ∷ sign.Semicolon ∷ []) (is sign.Group) refl t k,
)

-- behind an expression of ORDER BY
after_sort : (t : Lexeme) → (is_some (is_word word.Desc t) || (is_some (is_word word.Asc t) || one_of (sign.Comma ∷ sign.Limit ∷ sign.Semicolon ∷ []) t)) ≡ true → quiet 8 t ≡ true
unfolding same_symbol
after_sort (lexeme.Symbol s) k = all_of (sign.Comma ∷ sign.Limit ∷ sign.Semicolon ∷ []) (quiet 8) refl (lexeme.Symbol s) k
after_sort _ k = refl

not_desc : (t : Lexeme) → (is_some (is_word word.Asc t) || one_of (sign.Comma ∷ sign.Limit ∷ sign.Semicolon ∷ []) t) ≡ true → is_word word.Desc t ≡ None
unfolding same_symbol same_word
not_desc (lexeme.Name word.Desc spelling) k = absurd (false≢true k)
not_desc (lexeme.Name _ spelling) k = refl
not_desc _ k = refl

sort_decides : Decides sort (one_of (sign.Comma ∷ sign.Limit ∷ sign.Semicolon ∷ []))
unfolding sort same_symbol
sort_decides = (
  value_decides place.Sorted (quiet 8) (λ t k. k),
  (λ found. (
    (λ _. tt),
    ((λ _. tt), tt, λ t k. none_all (sign.Comma ∷ sign.Limit ∷ sign.Semicolon ∷ []) (is_word word.Asc) refl t k),
    λ t k. not_desc t k,
  )),
  λ found t k. after_sort t k,
)

sorts_decides : Decides sorts ends_orders
unfolding sorts same_symbol
sorts_decides =
    plain_list_decides sort (sign.Limit ∷ sign.Semicolon ∷ []) (λ t k. none_all (sign.Limit ∷ sign.Semicolon ∷ []) (is sign.Comma) refl t k) sort_decides

orders_decides : Decides orders ends_orders
unfolding orders same_symbol
orders_decides = ((λ _ _. sorts_decides), tt, λ t k. none_all (sign.Limit ∷ sign.Semicolon ∷ []) (is sign.Order) refl t k)

limits_decides : Decides limits at_end
unfolding limits same_symbol
limits_decides = (
  (λ _ n. ((λ _ m. tt), tt, λ t k. end_only (is_word word.Offset) refl t k)),
  tt,
  λ t k. end_only (is sign.Limit) refl t k,
)

filter_in_select : Decides filter ends_filter
unfolding same_symbol
filter_in_select =
    filter_decides (sign.Group ∷ sign.Order ∷ sign.Limit ∷ sign.Semicolon ∷ [])
    (λ t k. none_all (sign.Group ∷ sign.Order ∷ sign.Limit ∷ sign.Semicolon ∷ []) (is sign.Where) refl t k)
    (λ t k. all_of (sign.Group ∷ sign.Order ∷ sign.Limit ∷ sign.Semicolon ∷ []) (quiet 8) refl t k)

select_from_decides : (all : Bool) (list : List Expr) (found : Sources) → Decides (select_from all list found) nothing_more
unfolding select_from groups orders limits
select_from_decides all listed found = (
  filter_in_select,
  (λ filter. (
    groups_decides,
    (λ groups. (orders_decides, (λ orders. (limits_decides, (λ limits. ended_decides _), λ limits t k. end_first _ t k)), λ orders t k. k)),
    λ groups t k. k,
  )),
  λ filter t k. k,
)

select_from_start : (all : Bool) (list : List Expr) (found : Sources) (t : Lexeme) → starts (select_from all list found) nothing_more t ≡ true → ends_tables t ≡ true
unfolding select_from filter
select_from_start all listed found t k = k

-- no list begins with a star
list_star : (t : Lexeme) → starts list ends_list t ≡ true → is sign.Star t ≡ None
unfolding list item separated
list_star t k = value_star place.Listed (quiet 8) t k

from_or_end : (t : Lexeme) → (is_some (is sign.From t) || ends_tables t) ≡ true → ends_list t ≡ true
from_or_end t k = k

sources_start : (t : Lexeme) → starts optional_sources ends_tables t ≡ true → ends_list t ≡ true
unfolding optional_sources
sources_start t k = from_or_end t k

select_decides : Decides select nothing_more
unfolding select
select_decides = (
  (λ _ _. (sources_decides, (λ found. select_from_decides true [] found), λ found t k. select_from_start true [] found t k)),
  (list_decides, (λ listed. (optional_sources_decides, (λ found. select_from_decides false listed found), λ found t k. select_from_start false listed found t k)), λ listed t k. sources_start t k),
  λ t k. list_star t k,
)

-- ---- the first token tells the statements apart

abbrev before_select : Lexeme → Bool
before_select t = is_some (is sign.Select t)

abbrev before_delete : Lexeme → Bool
before_delete t = is_some (is sign.Delete t) || before_select t

abbrev before_update : Lexeme → Bool
before_update t = is_some (is sign.Update t) || before_delete t

abbrev before_insert : Lexeme → Bool
before_insert t = is_some (is sign.Insert t) || before_update t

abbrev before_drop : Lexeme → Bool
before_drop t = is_some (is sign.Drop t) || before_insert t

abbrev before_create : Lexeme → Bool
before_create t = is_some (is sign.Create t) || before_drop t

abbrev before_rollback : Lexeme → Bool
before_rollback t = is_some (is_word word.Rollback t) || before_create t

abbrev before_end : Lexeme → Bool
before_end t = is_some (is_word word.End t) || before_rollback t

abbrev before_commit : Lexeme → Bool
before_commit t = is_some (is_word word.Commit t) || before_end t

no_delete : (t : Lexeme) → before_select t ≡ true → is sign.Delete t ≡ None
unfolding same_symbol
no_delete (lexeme.Symbol sign.Delete) k = absurd (false≢true k)
no_delete (lexeme.Symbol _) k = refl
no_delete _ k = refl

no_update : (t : Lexeme) → before_delete t ≡ true → is sign.Update t ≡ None
unfolding same_symbol
no_update (lexeme.Symbol sign.Update) k = absurd (false≢true k)
no_update (lexeme.Symbol _) k = refl
no_update _ k = refl

no_insert : (t : Lexeme) → before_update t ≡ true → is sign.Insert t ≡ None
unfolding same_symbol
no_insert (lexeme.Symbol sign.Insert) k = absurd (false≢true k)
no_insert (lexeme.Symbol _) k = refl
no_insert _ k = refl

no_drop : (t : Lexeme) → before_insert t ≡ true → is sign.Drop t ≡ None
unfolding same_symbol
no_drop (lexeme.Symbol sign.Drop) k = absurd (false≢true k)
no_drop (lexeme.Symbol _) k = refl
no_drop _ k = refl

no_create : (t : Lexeme) → before_drop t ≡ true → is sign.Create t ≡ None
unfolding same_symbol
no_create (lexeme.Symbol sign.Create) k = absurd (false≢true k)
no_create (lexeme.Symbol _) k = refl
no_create _ k = refl

no_rollback : (t : Lexeme) → before_create t ≡ true → is_word word.Rollback t ≡ None
unfolding same_symbol same_word
no_rollback (lexeme.Name word.Rollback spelling) k = absurd (false≢true k)
no_rollback (lexeme.Name _ spelling) k = refl
no_rollback _ k = refl

no_end : (t : Lexeme) → before_rollback t ≡ true → is_word word.End t ≡ None
unfolding same_symbol same_word
no_end (lexeme.Name word.End spelling) k = absurd (false≢true k)
no_end (lexeme.Name _ spelling) k = refl
no_end _ k = refl

no_commit : (t : Lexeme) → before_end t ≡ true → is_word word.Commit t ≡ None
unfolding same_symbol same_word
no_commit (lexeme.Name word.Commit spelling) k = absurd (false≢true k)
no_commit (lexeme.Name _ spelling) k = refl
no_commit _ k = refl

no_begin : (t : Lexeme) → before_commit t ≡ true → is_word word.Begin t ≡ None
unfolding same_symbol same_word
no_begin (lexeme.Name word.Begin spelling) k = absurd (false≢true k)
no_begin (lexeme.Name _ spelling) k = refl
no_begin _ k = refl

pub statement_decides : Decides statement_grammar nothing_more
unfolding statement_grammar
statement_decides = (
  (λ _. begun_decides),
  (
    (λ _. closed_decides _),
    (
      (λ _. closed_decides _),
      (
        (λ _. closed_decides _),
        (
          (λ _. created_decides),
          (
            (λ _. dropped_decides),
            (
              (λ _. insert_decides),
              (
                (λ _. update_decides),
                (
                  (λ _. delete_decides),
                  (λ _. select_decides),
                  no_delete,
                ),
                no_update,
              ),
              no_insert,
            ),
            no_drop,
          ),
          no_create,
        ),
        no_rollback,
      ),
      no_end,
    ),
    no_commit,
  ),
  no_begin,
)

-- ---- the texts of a file

finished_decides : (c : Created) → Decides (finished c) nothing_more
unfolding finished
finished_decides c = ((λ _. tt), tt, λ t k. absurd (false≢true k))

finished_ends : (c : Created) → Ends (finished c)
unfolding finished
finished_ends c = ((λ _. tt), tt)

finished_first : (c : Created) (t : Lexeme) → starts (finished c) nothing_more t ≡ true → at_end t ≡ true
unfolding finished
finished_first c t k = k

index_text_ends : (unique : Bool) → Ends (index_text unique)
unfolding index_text
index_text_ends unique = (index_ends, λ text. finished_ends _)

index_text_decides : (unique : Bool) → Decides (index_text unique) nothing_more
unfolding index_text
index_text_decides unique = (index_decides at_end, (λ text. finished_decides _), λ text t k. finished_first _ t k)

pub created_text_ends : Ends created_grammar
unfolding created_grammar
created_text_ends = (
  takes_itself sign.Create,
  λ _. (
    (λ _. (takes_itself sign.Index, λ _. index_text_ends true)),
    ((λ _. index_text_ends false), (takes_itself sign.Table, λ _. (table_ends true, λ text. finished_ends _))),
  ),
)

pub created_text_decides : Decides created_grammar nothing_more
unfolding created_grammar same_symbol
created_text_decides = λ _. (
  (λ _ _. index_text_decides true),
  (
    (λ _. index_text_decides false),
    (λ _. (table_decides true at_end, (λ text. finished_decides _), λ text t k. finished_first _ t k)),
    λ t k. apart sign.Table (is sign.Index) refl t k,
  ),
  λ t k. index_or_table t k,
)
