-- How a loop goes over rounds, and over a list.
use Rattle.std.proofs.Common.{◌≡◌, ◌<◌, Bool, List, length, Option, Some, None, Ok, Err, ◌∙◌, ap, arith}
use Rattle.grammars.specs.Grammar.{Grammar, many}
use Rattle.grammars.specs.Lookahead.{Ends}
use Rattle.grammars.specs.Lists.{more_of}
use Rattle.grammars.specs.Reading.{pick, and_then, next, read}
use Rattle.grammars.proofs.Lists.{list_fault, next_shorter, read_shorter}
use Rattle.grammars.proofs.Sound.{many_step}
use Rattle.sql_lexemes.specs.declared.lexeme.Lexeme.{Lexeme}
use Rattle.sql_exprs.specs.declared.lexeme.ParseError.{ParseError}
use Rattle.sql_exprs.specs.declared.lexeme.ParseError.TheVariants as error
use Rattle.sql_exprs.specs.Gives.{Fails}

module _ {A B : Type 0} (follow : Lexeme → Bool) (f : A → Lexeme → Option B) (g : A → B → Grammar Lexeme A) (e : (s : A) (b : B) → Ends (g s b)) (s : A) (ts : List Lexeme) where
  pub rounds_over : next (f s) ts ≡ None → read (many follow f g s) ts ≡ Ok (s, ts)
  rounds_over none =
      many_step follow f g s e ts ∙ ap (λ o. pick o (Ok (s, ts)) (λ p. and_then (read (g s p.0) p.1) (λ v. read (many follow f g v)))) none

  step : (b : B) (more : List Lexeme) → next (f s) ts ≡ Some (b, more) → read (many follow f g s) ts ≡ and_then (read (g s b) more) (λ v. read (many follow f g v))
  step b more some =
      many_step follow f g s e ts ∙ ap (λ o. pick o (Ok (s, ts)) (λ p. and_then (read (g s p.0) p.1) (λ v. read (many follow f g v)))) some

  pub rounds_on : (b : B) (more : List Lexeme) (v : A) (rest : List Lexeme) → next (f s) ts ≡ Some (b, more) → read (g s b) more ≡ Ok (v, rest)
      → read (many follow f g s) ts ≡ read (many follow f g v) rest
  rounds_on b more v rest some is = step b more some ∙ ap (λ r. and_then r (λ v. read (many follow f g v))) is

  pub rounds_fail : (b : B) (more : List Lexeme) (err : ParseError) → next (f s) ts ≡ Some (b, more) → Fails err (read (g s b) more) → Fails err (read (many follow f g s) ts)
  rounds_fail b more error.Memory some h = tt
  rounds_fail b more (error.At rest) some h = step b more some ∙ ap (λ r. and_then r (λ v. read (many follow f g v))) h

  pub rounds_shorter : (b : B) (more : List Lexeme) (v : A) (rest : List Lexeme) → next (f s) ts ≡ Some (b, more) → read (g s b) more ≡ Ok (v, rest) → length rest < length ts
  rounds_shorter b more v rest some is = omega (arith, next_shorter (f s) ts (b, more) some, read_shorter (g s b) (e s b) more v rest is)

-- a fault in an item is the list's
pub list_fails : {A : Type 0} (comma : List A → Lexeme → Option (Unit {0})) (follow : Lexeme → Bool) (item : List A → Grammar Lexeme A) → ((found : List A) → Ends (item found)) → (found : List A) (ts after : List Lexeme) (e : ParseError)
    → next (comma found) ts ≡ Some (tt, after) → Fails e (read (item found) after) → Fails e (read (more_of comma follow item found) ts)
list_fails comma follow item e found ts after error.Memory some h = tt
list_fails comma follow item e found ts after (error.At rest) some h = list_fault comma follow item e found ts after rest.now some h
