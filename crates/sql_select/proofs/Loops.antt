-- Rounds of the loop over the tables of FROM.
use Rattle.std.proofs.Common.{◌≡◌, ◌<◌, List, length, Some, None, Ok}
use Rattle.grammars.specs.Reading.{next, read}
use Rattle.sql_lexemes.specs.declared.lexeme.Lexeme.{Lexeme}
use Rattle.sql_grammar.specs.declared.statement.Joint.{Joint}
use Rattle.sql_grammar.specs.declared.statement.Sources.{Sources}
use Rattle.sql_grammar.specs.Statement.{ends_table, joint_of, joined, more_sources}
use Rattle.sql_grammar.proofs.Statements.{joined_ends}
use Rattle.sql_exprs.specs.declared.lexeme.ParseError.{ParseError}
use Rattle.sql_exprs.specs.Gives.{Fails}
use Rattle.sql_exprs.proofs.Rounds.{rounds_over, rounds_on, rounds_fail, rounds_shorter}

module _ (found : Sources) (ts : List Lexeme) where
  pub sources_over : next (joint_of found) ts ≡ None → read (more_sources found) ts ≡ Ok (found, ts)
  unfolding more_sources
  sources_over = rounds_over ends_table joint_of joined joined_ends found ts

  pub sources_on : (how : Joint) (more : List Lexeme) (v : Sources) (rest : List Lexeme) → next (joint_of found) ts ≡ Some (how, more)
      → read (joined found how) more ≡ Ok (v, rest) → read (more_sources found) ts ≡ read (more_sources v) rest
  unfolding more_sources
  sources_on = rounds_on ends_table joint_of joined joined_ends found ts

  pub sources_fail : (how : Joint) (more : List Lexeme) (e : ParseError) → next (joint_of found) ts ≡ Some (how, more)
      → Fails e (read (joined found how) more) → Fails e (read (more_sources found) ts)
  unfolding more_sources
  sources_fail = rounds_fail ends_table joint_of joined joined_ends found ts

  pub sources_shorter : (how : Joint) (more : List Lexeme) (v : Sources) (rest : List Lexeme) → next (joint_of found) ts ≡ Some (how, more)
      → read (joined found how) more ≡ Ok (v, rest) → length rest < length ts
  sources_shorter = rounds_shorter ends_table joint_of joined joined_ends found ts
