-- What a function that reads ensures: that reading by the grammar gives the same, unless memory runs out.
use Rattle.std.specs.Prelude.{◌≡◌, List, Result, Ok, Err}
use Rattle.grammars.specs.Grammar.{Grammar}
use Rattle.grammars.specs.Exact.{GoesWrong}
use Rattle.sql_lexemes.specs.declared.lexeme.Lexeme.{Lexeme}
use Rattle.sql_exprs.specs.declared.lexeme.ParseError.{ParseError}
use Rattle.sql_exprs.specs.declared.lexeme.ParseError.TheVariants as error

abbrev pub Fails : {Y : Type 0} → ParseError → Result Y (List Lexeme) → Type 0
Fails error.Memory read = Unit {0}
Fails (error.At rest) read = read ≡ Err rest.now

abbrev pub Gives : {X Y : Type 0} → (X → Y) → Result X ParseError → Result Y (List Lexeme) → Type 0
Gives view (Ok x) read = read ≡ Ok (view x)
Gives view (Err e) read = Fails e read
