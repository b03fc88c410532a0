-- The one theorem on all grammars, at this one.
use Rattle.sql_grammar.specs.Statement.{statement_grammar}
use Rattle.sql_grammar.proofs.Statements.{statement_decides, statement_ends}
use Rattle.sql_parse.proofs.Whole.{text_derived, text_only, text_fault, text_refused}
use Rattle.sql_parse.proofs.text.parse.Goals as goal

pub returns-clause-derived : goal.returns-clause-derived
returns-clause-derived c =
    text_derived statement_grammar statement_decides statement_ends c.args.text.now c.in_ok-all.all.lexemes c.in_ok-all.all.places c.in_ok-all.ensures.lexemes c.in_ok-all.ensures.places c.read_statement.result c.read_statement.ensures

pub returns-clause-only : goal.returns-clause-only
returns-clause-only c =
    text_only statement_grammar statement_decides statement_ends c.args.text.now c.in_ok-all.all.lexemes c.in_ok-all.all.places c.in_ok-all.ensures.lexemes c.in_ok-all.ensures.places c.read_statement.result c.read_statement.ensures

pub returns-clause-fault : goal.returns-clause-fault
returns-clause-fault c =
    text_fault statement_grammar statement_decides statement_ends c.args.text.now c.in_ok-all.all.lexemes c.in_ok-all.all.places c.in_ok-all.ensures.lexemes c.in_ok-all.ensures.places c.read_statement.result c.read_statement.ensures

pub returns-clause-refused : goal.returns-clause-refused
returns-clause-refused c =
    text_refused statement_grammar statement_decides statement_ends c.args.text.now c.in_ok-all.all.lexemes c.in_ok-all.all.places c.in_ok-all.ensures.lexemes c.in_ok-all.ensures.places c.read_statement.result c.read_statement.ensures
