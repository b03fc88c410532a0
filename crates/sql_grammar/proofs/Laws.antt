-- A list of lexemes is at most one statement, and at most one text of a file's object.
use Rattle.std.proofs.Common.{◌≡◌, List}
use Rattle.grammars.specs.Grammar.{Derives}
use Rattle.grammars.proofs.Exact.{one_value}
use Rattle.sql_lexemes.specs.declared.lexeme.Lexeme.{Lexeme}
use Rattle.sql_grammar.specs.declared.statement.Statement.{Statement}
use Rattle.sql_grammar.specs.declared.statement.Created.{Created}
use Rattle.sql_grammar.specs.Statement.{statement_grammar}
use Rattle.sql_grammar.specs.Created.{created_grammar}
use Rattle.sql_grammar.proofs.Statements.{statement_decides, created_text_decides}

pub one_statement : (ts : List Lexeme) (s r : Statement) → Derives statement_grammar ts s → Derives statement_grammar ts r → s ≡ r
one_statement ts s r one two = one_value statement_grammar statement_decides ts s r one two

pub one_object : (ts : List Lexeme) (s r : Created) → Derives created_grammar ts s → Derives created_grammar ts r → s ≡ r
one_object ts s r one two = one_value created_grammar created_text_decides ts s r one two
