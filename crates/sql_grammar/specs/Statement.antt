-- The grammar of statements.
use Rattle.std.specs.Prelude.{ℕ, Bool, true, false, if◌then◌else◌, nat_lt, List, [], ◌∷◌, ◌++◌, length, Option, Some, None}
use Rattle.grammars.specs.Grammar.{Grammar, give, must, may, part, many}
use Rattle.grammars.specs.Lists.{separated}
use Rattle.engine_spec.specs.declared.commits.Mode.{Mode}
use Rattle.engine_spec.specs.declared.commits.Mode.TheVariants as mode
use Rattle.sql_lexemes.specs.declared.lexeme.Symbol.TheVariants as sign
use Rattle.sql_lexemes.specs.declared.lexeme.Word.TheVariants as word
use Rattle.sql_lexemes.specs.declared.lexeme.Lexeme.{Lexeme}
use Rattle.sql_lexemes.specs.declared.lexeme.Lexeme.TheVariants as lexeme
use Rattle.sql_grammar.specs.declared.expr.Expr.{Expr}
use Rattle.sql_grammar.specs.declared.expr.Place.TheVariants as place
use Rattle.sql_grammar.specs.declared.statement.Named.{Named}
use Rattle.sql_grammar.specs.declared.statement.Set.{Set}
use Rattle.sql_grammar.specs.declared.statement.Sort.{Sort}
use Rattle.sql_grammar.specs.declared.statement.Joint.{Joint}
use Rattle.sql_grammar.specs.declared.statement.Joint.TheVariants as by
use Rattle.sql_grammar.specs.declared.statement.Sources.{Sources}
use Rattle.sql_grammar.specs.declared.statement.Limits.{Limits}
use Rattle.sql_grammar.specs.declared.statement.Select.{Select}
use Rattle.sql_grammar.specs.declared.statement.Statement.{Statement}
use Rattle.sql_grammar.specs.declared.statement.Statement.TheVariants as statement
use Rattle.sql_grammar.specs.declared.table.IndexText.{IndexText}
use Rattle.sql_grammar.specs.declared.table.TableText.{TableText}
use Rattle.sql_grammar.specs.Lexemes.{is, is_word, name_of, alias_of, count_of, one_of}
use Rattle.sql_grammar.specs.Expr.{quiet, value}
use Rattle.sql_grammar.specs.Table.{table, index, ends_column, name}

-- ---- the end

-- it may end with a semicolon
unfoldable pub ended : Statement → Grammar Lexeme Statement
ended s = may (is sign.Semicolon) (λ _. give s) (give s)

-- what follows a part that ends a statement
abbrev pub at_end : Lexeme → Bool
at_end = one_of (sign.Semicolon ∷ [])

-- ---- transactions

-- [TRANSACTION]
unfoldable pub closed : Statement → Grammar Lexeme Statement
closed s = may (is_word word.Transaction) (λ _. ended s) (ended s)

-- whether a statement begins a CONCURRENT transaction: not yet
abbrev pub takes_concurrent : Bool
takes_concurrent = false

abbrev pub concurrent_of : Lexeme → Option (Unit {0})
concurrent_of t = if takes_concurrent then is_word word.Concurrent t else None

-- behind BEGIN: [DEFERRED] [TRANSACTION], or CONCURRENT [TRANSACTION]
unfoldable pub begun : Grammar Lexeme Statement
begun =
    may (is_word word.Deferred) (λ _. closed (statement.Begin mode.Plain))
    (may concurrent_of (λ _. closed (statement.Begin mode.Concurrent))
    (closed (statement.Begin mode.Plain)))

-- ---- CREATE and DROP

unfoldable pub created_index : Bool → Grammar Lexeme Statement
created_index unique = part at_end index (λ text. ended (statement.CreateIndex unique text.name text.table text.columns))

unfoldable pub created_table : Grammar Lexeme Statement
created_table = part at_end (table false) (λ text. ended (statement.CreateTable text.name text.declared.columns))

-- behind CREATE: [UNIQUE] INDEX .., or TABLE ..
unfoldable pub created : Grammar Lexeme Statement
created =
    may (is sign.Unique) (λ _. must (is sign.Index) (λ _. created_index true))
    (may (is sign.Index) (λ _. created_index false)
    (must (is sign.Table) (λ _. created_table)))

-- behind DROP: TABLE name
unfoldable pub dropped : Grammar Lexeme Statement
dropped = must (is sign.Table) (λ _. must name_of (λ name. ended (statement.DropTable name)))

-- ---- lists of expressions, and WHERE

-- expr, ..
unfoldable pub values : Grammar Lexeme (List Expr)
values = separated (λ _. is sign.Comma) (quiet 8) (λ _. value place.Plain)

-- [WHERE expr]
unfoldable pub filter : Grammar Lexeme (Option Expr)
filter = may (is sign.Where) (λ _. part (quiet 8) (value place.Plain) (λ found. give (Some found))) (give None)

-- ---- INSERT

-- name, ..
unfoldable pub names : Grammar Lexeme (List (List ℕ))
names = separated (λ _. is sign.Comma) ends_column (λ _. name)

-- (expr, ..)
unfoldable pub row : Grammar Lexeme (List Expr)
row = must (is sign.Open) (λ _. part (one_of (sign.Close ∷ [])) values (λ found. must (is sign.Close) (λ _. give found)))

-- (expr, ..), ..
unfoldable pub rows : Grammar Lexeme (List (List Expr))
rows = separated (λ _. is sign.Comma) (one_of (sign.Comma ∷ sign.Semicolon ∷ [])) (λ _. row)

-- behind the table and its columns: VALUES (expr, ..), ..
unfoldable pub inserted : List ℕ → List (List ℕ) → Grammar Lexeme Statement
inserted table columns = must (is sign.Values) (λ _. part at_end rows (λ found. ended (statement.Insert table columns found)))

-- behind INSERT: INTO table [(column, ..)] VALUES ..
unfoldable pub insert : Grammar Lexeme Statement
insert =
    must (is sign.Into) (λ _.
    must name_of (λ table.
    may (is sign.Open) (λ _. part (one_of (sign.Close ∷ [])) names (λ columns. must (is sign.Close) (λ _. inserted table columns)))
    (inserted table [])))

-- ---- UPDATE and DELETE

-- column = expr
unfoldable pub set : Grammar Lexeme Set
set = must name_of (λ column. must (is sign.Equal) (λ _. part (quiet 8) (value place.Plain) (λ found. give (record { column = column; value = found }))))

abbrev pub ends_sets : Lexeme → Bool
ends_sets = one_of (sign.Where ∷ sign.Semicolon ∷ [])

-- column = expr, ..
unfoldable pub sets : Grammar Lexeme (List Set)
sets = separated (λ _. is sign.Comma) (one_of (sign.Comma ∷ sign.Where ∷ sign.Semicolon ∷ [])) (λ _. set)

-- behind UPDATE: table SET column = expr, .. [WHERE expr]
unfoldable pub update : Grammar Lexeme Statement
update =
    must name_of (λ table.
    must (is sign.Set) (λ _.
    part ends_sets sets (λ sets.
    part at_end filter (λ filter.
    ended (statement.Update table sets filter)))))

-- behind DELETE: FROM table [WHERE expr]
unfoldable pub delete : Grammar Lexeme Statement
delete = must (is sign.From) (λ _. must name_of (λ table. part at_end filter (λ filter. ended (statement.Delete table filter))))

-- ---- SELECT

-- What may follow each part: the symbols that the parts behind it begin with.
abbrev pub ends_orders : Lexeme → Bool
ends_orders = one_of (sign.Limit ∷ sign.Semicolon ∷ [])

abbrev pub ends_groups : Lexeme → Bool
ends_groups = one_of (sign.Order ∷ sign.Limit ∷ sign.Semicolon ∷ [])

abbrev pub ends_filter : Lexeme → Bool
ends_filter = one_of (sign.Group ∷ sign.Order ∷ sign.Limit ∷ sign.Semicolon ∷ [])

abbrev pub ends_tables : Lexeme → Bool
ends_tables = one_of (sign.Where ∷ sign.Group ∷ sign.Order ∷ sign.Limit ∷ sign.Semicolon ∷ [])

abbrev pub ends_table : Lexeme → Bool
ends_table = one_of (sign.Comma ∷ sign.Join ∷ sign.Where ∷ sign.Group ∷ sign.Order ∷ sign.Limit ∷ sign.Semicolon ∷ [])

abbrev pub ends_list : Lexeme → Bool
ends_list = one_of (sign.From ∷ sign.Where ∷ sign.Group ∷ sign.Order ∷ sign.Limit ∷ sign.Semicolon ∷ [])

abbrev pub ends_item : Lexeme → Bool
ends_item = one_of (sign.Comma ∷ sign.From ∷ sign.Where ∷ sign.Group ∷ sign.Order ∷ sign.Limit ∷ sign.Semicolon ∷ [])

-- expr [AS name]
unfoldable pub item : Grammar Lexeme Expr
item = part (quiet 8) (value place.Listed) (λ found. may (is sign.As) (λ _. must name_of (λ _. give found)) (give found))

-- expr [AS name], ..
unfoldable pub list : Grammar Lexeme (List Expr)
list = separated (λ _. is sign.Comma) ends_item (λ _. item)

-- behind a table's name: [[AS] name]
unfoldable pub named : List ℕ → Grammar Lexeme Named
named table =
    may (is sign.As) (λ _. must name_of (λ name. give (record { table = table; name = name })))
    (may alias_of (λ name. give (record { table = table; name = name }))
    (give (record { table = table; name = table })))

unfoldable pub source : Grammar Lexeme Named
source = must name_of named

-- a comma or JOIN, while there are fewer than 8 tables
abbrev pub joint : Lexeme → Option Joint
joint (lexeme.Symbol sign.Comma) = Some by.Comma
joint (lexeme.Symbol sign.Join) = Some by.Join
joint _ = None

abbrev pub joint_of : Sources → Lexeme → Option Joint
joint_of sources t = if nat_lt (length sources.from) 8 then joint t else None

abbrev pub with_table : Sources → Named → Sources
with_table sources table = record sources { from = sources.from ++ table ∷ [] }

abbrev pub with_condition : Sources → Expr → Sources
with_condition sources condition = record sources { on = sources.on ++ condition ∷ [] }

-- behind a comma: a table; behind JOIN: a table ON expr
unfoldable pub joined : Sources → Joint → Grammar Lexeme Sources
joined sources by.Comma = part ends_table source (λ table. give (with_table sources table))
joined sources by.Join =
    part (one_of (sign.On ∷ [])) source (λ table.
    must (is sign.On) (λ _.
    part (quiet 8) (value place.Plain) (λ condition.
    give (with_condition (with_table sources table) condition))))

abbrev pub no_tables : Sources
no_tables = record { from = []; on = [] }

unfoldable pub more_sources : Sources → Grammar Lexeme Sources
more_sources first = many ends_table joint_of joined first

-- behind FROM: tables, up to 8
unfoldable pub sources : Grammar Lexeme Sources
sources = part ends_table source (λ first. more_sources (with_table no_tables first))

-- [FROM ..]
unfoldable pub optional_sources : Grammar Lexeme Sources
optional_sources = may (is sign.From) (λ _. sources) (give no_tables)

-- [GROUP BY expr, ..]
unfoldable pub groups : Grammar Lexeme (List Expr)
groups = may (is sign.Group) (λ _. must (is_word word.By) (λ _. values)) (give [])

-- expr [ASC or DESC]
unfoldable pub sort : Grammar Lexeme Sort
sort =
    part (quiet 8) (value place.Sorted) (λ found.
    may (is_word word.Desc) (λ _. give (record { value = found; falling = true }))
    (may (is_word word.Asc) (λ _. give (record { value = found; falling = false }))
    (give (record { value = found; falling = false }))))

-- expr [ASC or DESC], ..
unfoldable pub sorts : Grammar Lexeme (List Sort)
sorts = separated (λ _. is sign.Comma) (one_of (sign.Comma ∷ sign.Limit ∷ sign.Semicolon ∷ [])) (λ _. sort)

-- [ORDER BY ..]
unfoldable pub orders : Grammar Lexeme (List Sort)
orders = may (is sign.Order) (λ _. must (is_word word.By) (λ _. sorts)) (give [])

-- [LIMIT n [OFFSET m]]
unfoldable pub limits : Grammar Lexeme Limits
limits =
    may (is sign.Limit) (λ _. must count_of (λ n.
    may (is_word word.Offset) (λ _. must count_of (λ m. give (record { limit = Some n; offset = Some m })))
    (give (record { limit = Some n; offset = None }))))
    (give (record { limit = None; offset = None }))

abbrev pub selected : Bool → List Expr → Sources → Option Expr → List Expr → List Sort → Limits → Statement
selected all list sources filter groups orders limits = statement.Select (record {
  all = all;
  list = list;
  from = sources.from;
  on = sources.on;
  filter = filter;
  groups = groups;
  orders = orders;
  limit = limits.limit;
  offset = limits.offset;
})

-- behind the tables: [WHERE ..] [GROUP BY ..] [ORDER BY ..] [LIMIT ..]
unfoldable pub select_from : Bool → List Expr → Sources → Grammar Lexeme Statement
select_from all list sources =
    part ends_filter filter (λ filter.
    part ends_groups groups (λ groups.
    part ends_orders orders (λ orders.
    part at_end limits (λ limits.
    ended (selected all list sources filter groups orders limits)))))

-- behind SELECT: * FROM .., or expr [AS name], .. [FROM ..]
unfoldable pub select : Grammar Lexeme Statement
select =
    may (is sign.Star) (λ _. must (is sign.From) (λ _. part ends_tables sources (select_from true [])))
    (part ends_list list (λ list. part ends_tables optional_sources (select_from false list)))

-- ---- all of them

-- the statements that begin with a word which is no name
abbrev pub by_symbol : Grammar Lexeme Statement
by_symbol =
    may (is sign.Create) (λ _. created)
    (may (is sign.Drop) (λ _. dropped)
    (may (is sign.Insert) (λ _. insert)
    (may (is sign.Update) (λ _. update)
    (may (is sign.Delete) (λ _. delete)
    (must (is sign.Select) (λ _. select))))))

unfoldable pub statement_grammar : Grammar Lexeme Statement
statement_grammar =
    may (is_word word.Begin) (λ _. begun)
    (may (is_word word.Commit) (λ _. closed statement.Commit)
    (may (is_word word.End) (λ _. closed statement.Commit)
    (may (is_word word.Rollback) (λ _. closed statement.Rollback)
    by_symbol)))
