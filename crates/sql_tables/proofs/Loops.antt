-- Rounds of the loops over types, constraints and columns.
use Rattle.std.proofs.Common.{◌≡◌, ◌<◌, Bool, List, length, Some, None, Ok, refl}
use Rattle.grammars.specs.Reading.{next, read}
use Rattle.grammars.proofs.Lists.{next_shorter}
use Rattle.sql_lexemes.specs.declared.lexeme.Lexeme.{Lexeme}
use Rattle.sql_grammar.specs.declared.table.Constraint.{Constraint}
use Rattle.sql_grammar.specs.declared.table.Typed.{Typed}
use Rattle.sql_grammar.specs.declared.table.Draft.{Draft}
use Rattle.sql_grammar.specs.declared.table.Declared.{Declared}
use Rattle.grammars.specs.Grammar.{give}
use Rattle.sql_grammar.specs.Table.{any, more_type_of, widened, type_words, ends_type, constraint_of, constrained, constraints, ends_column, column_comma, column, more_columns}
use Rattle.sql_grammar.proofs.Tables.{constrained_ends, column_ends}
use Rattle.sql_exprs.specs.declared.lexeme.ParseError.{ParseError}
use Rattle.sql_exprs.specs.Gives.{Fails}
use Rattle.sql_exprs.proofs.Rounds.{rounds_over, rounds_on, rounds_fail, rounds_shorter}

module _ (wide : Bool) (one : Typed) (ts : List Lexeme) where
  pub type_words_over : next (more_type_of wide) ts ≡ None → read (type_words wide one) ts ≡ Ok (one, ts)
  unfolding type_words
  type_words_over = rounds_over any (λ _. more_type_of wide) (λ one other. give (widened one other)) (λ one other. tt) one ts

  pub type_words_on : (other : Typed) (more : List Lexeme) → next (more_type_of wide) ts ≡ Some (other, more) → read (type_words wide one) ts ≡ read (type_words wide (widened one other)) more
  unfolding type_words
  type_words_on other more some =
      rounds_on any (λ _. more_type_of wide) (λ one other. give (widened one other)) (λ one other. tt) one ts other more (widened one other) more some refl

  pub type_words_shorter : (other : Typed) (more : List Lexeme) → next (more_type_of wide) ts ≡ Some (other, more) → length more < length ts
  type_words_shorter other more some = next_shorter (more_type_of wide) ts (other, more) some

module _ (wide keyed : Bool) (one : Draft) (ts : List Lexeme) where
  pub constraints_over : next (constraint_of wide keyed one) ts ≡ None → read (constraints wide keyed one) ts ≡ Ok (one, ts)
  unfolding constraints
  constraints_over = rounds_over ends_type (constraint_of wide keyed) (constrained wide) (constrained_ends wide) one ts

  pub constraints_on : (c : Constraint) (more : List Lexeme) (v : Draft) (rest : List Lexeme) → next (constraint_of wide keyed one) ts ≡ Some (c, more)
      → read (constrained wide one c) more ≡ Ok (v, rest) → read (constraints wide keyed one) ts ≡ read (constraints wide keyed v) rest
  unfolding constraints
  constraints_on = rounds_on ends_type (constraint_of wide keyed) (constrained wide) (constrained_ends wide) one ts

  pub constraints_fail : (c : Constraint) (more : List Lexeme) (e : ParseError) → next (constraint_of wide keyed one) ts ≡ Some (c, more)
      → Fails e (read (constrained wide one c) more) → Fails e (read (constraints wide keyed one) ts)
  unfolding constraints
  constraints_fail = rounds_fail ends_type (constraint_of wide keyed) (constrained wide) (constrained_ends wide) one ts

  pub constraints_shorter : (c : Constraint) (more : List Lexeme) (v : Draft) (rest : List Lexeme) → next (constraint_of wide keyed one) ts ≡ Some (c, more)
      → read (constrained wide one c) more ≡ Ok (v, rest) → length rest < length ts
  constraints_shorter = rounds_shorter ends_type (constraint_of wide keyed) (constrained wide) (constrained_ends wide) one ts

module _ (wide : Bool) (table : Declared) (ts : List Lexeme) where
  pub columns_over : next (column_comma table) ts ≡ None → read (more_columns wide table) ts ≡ Ok (table, ts)
  unfolding more_columns
  columns_over = rounds_over ends_column column_comma (λ table _. column wide table) (λ table _. column_ends wide table) table ts

  pub columns_on : (more : List Lexeme) (v : Declared) (rest : List Lexeme) → next (column_comma table) ts ≡ Some (tt, more)
      → read (column wide table) more ≡ Ok (v, rest) → read (more_columns wide table) ts ≡ read (more_columns wide v) rest
  unfolding more_columns
  columns_on = rounds_on ends_column column_comma (λ table _. column wide table) (λ table _. column_ends wide table) table ts tt

  pub columns_fail : (more : List Lexeme) (e : ParseError) → next (column_comma table) ts ≡ Some (tt, more) → Fails e (read (column wide table) more)
      → Fails e (read (more_columns wide table) ts)
  unfolding more_columns
  columns_fail = rounds_fail ends_column column_comma (λ table _. column wide table) (λ table _. column_ends wide table) table ts tt

  pub columns_shorter : (more : List Lexeme) (v : Declared) (rest : List Lexeme) → next (column_comma table) ts ≡ Some (tt, more)
      → read (column wide table) more ≡ Ok (v, rest) → length rest < length ts
  columns_shorter = rounds_shorter ends_column column_comma (λ table _. column wide table) (λ table _. column_ends wide table) table ts tt
