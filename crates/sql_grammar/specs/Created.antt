-- The grammar of the texts of a file's tables and indexes.
use Rattle.std.specs.Prelude.{Bool, true, false, List, [], ◌∷◌}
use Rattle.grammars.specs.Grammar.{Grammar, give, must, may, part}
use Rattle.sql_lexemes.specs.declared.lexeme.Symbol.TheVariants as sign
use Rattle.sql_lexemes.specs.declared.lexeme.Lexeme.{Lexeme}
use Rattle.sql_grammar.specs.declared.statement.Created.{Created}
use Rattle.sql_grammar.specs.declared.statement.Created.TheVariants as made
use Rattle.sql_grammar.specs.declared.table.Use.{Use}
use Rattle.sql_grammar.specs.declared.table.Use.TheVariants as state
use Rattle.sql_grammar.specs.declared.table.Column.{Column}
use Rattle.sql_grammar.specs.declared.table.Declared.{Declared}
use Rattle.sql_grammar.specs.Lexemes.{is}
use Rattle.sql_grammar.specs.Table.{table, index}
use Rattle.sql_grammar.specs.Statement.{at_end}

-- an unusable table has no columns
abbrev pub columns_in : Use → List Column → List Column
columns_in state.Unusable columns = []
columns_in other columns = columns

abbrev pub table_of : Declared → Created
table_of declared = made.Table declared.state (columns_in declared.state declared.columns)

-- it may end with a semicolon
unfoldable pub finished : Created → Grammar Lexeme Created
finished found = may (is sign.Semicolon) (λ _. give found) (give found)

unfoldable pub index_text : Bool → Grammar Lexeme Created
index_text unique = part at_end index (λ text. finished (made.Index unique text.table text.columns))

-- CREATE [UNIQUE] INDEX .., or CREATE TABLE .. with what a file's table may have besides
unfoldable pub created_grammar : Grammar Lexeme Created
created_grammar =
    must (is sign.Create) (λ _.
    may (is sign.Unique) (λ _. must (is sign.Index) (λ _. index_text true))
    (may (is sign.Index) (λ _. index_text false)
    (must (is sign.Table) (λ _. part at_end (table true) (λ text. finished (table_of text.declared))))))
