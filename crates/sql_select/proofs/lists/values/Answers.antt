-- A round of the loop is a round of the list.
use Rattle.std.proofs.Common.{arith, sym, ◌∙◌, ap}
use Rattle.std.proofs.lemmas.Result.{err_from_is_err_and}
use Rattle.grammars.specs.Lists.{more_of}
use Rattle.grammars.specs.Reading.{read}
use Rattle.grammars.proofs.Lists.{list_over, list_round, next_shorter, read_shorter}
use Rattle.sql_lexemes.specs.declared.lexeme.Symbol.TheVariants as sign
use Rattle.sql_grammar.specs.declared.expr.Place.TheVariants as place
use Rattle.sql_grammar.specs.Expr.{quiet, value}
use Rattle.sql_grammar.specs.Lexemes.{is}
use Rattle.sql_grammar.proofs.Ladder.{value_ends}
use Rattle.sql_exprs.proofs.Rounds.{list_fails}
use Rattle.sql_select.proofs.lists.values.Goals as goal

pub loop-more-preserved : goal.loop-more-preserved
loop-more-preserved c =
    c.loop-more.invariant
    ∙ (list_round (λ _. is sign.Comma) (quiet 8) (λ _. (value place.Plain)) (λ _. (value_ends place.Plain)) c.loop-more.found c.loop-more.rest.now c.in-Some.more.now c.in_ok-next.next c.in_ok-next.left.now c.in-Some.ensures c.in_ok-next.ensures
    ∙ ap (λ found. read (more_of (λ _. is sign.Comma) (quiet 8) (λ _. (value place.Plain)) found) c.in_ok-next.left.now) (sym c.in_ok-push-2.ensures.pushed))

pub loop-more-smaller : goal.loop-more-smaller
loop-more-smaller c =
    omega (
      arith,
      next_shorter (is sign.Comma) c.loop-more.rest.now (tt, c.in-Some.more.now) c.in-Some.ensures,
      read_shorter (value place.Plain) (value_ends place.Plain) c.in-Some.more.now c.in_ok-next.next c.in_ok-next.left.now c.in_ok-next.ensures,
    )

pub returns-in_err-next : goal.returns-in_err-next
returns-in_err-next c =
    let p = err_from_is_err_and c.from_residual-in_err-next.result c.from_residual-in_err-next.ensures.1 in
    rw (p.1, p.2, c.loop-more.invariant)
    (list_fails (λ _. is sign.Comma) (quiet 8) (λ _. (value place.Plain)) (λ _. (value_ends place.Plain)) c.loop-more.found c.loop-more.rest.now c.in-Some.more.now c.in_err-next.field-0.0 c.in-Some.ensures c.in_err-next.ensures)

pub returns : goal.returns
returns c =
    c.loop-more.invariant ∙ list_over (λ _. is sign.Comma) (quiet 8) (λ _. (value place.Plain)) (λ _. (value_ends place.Plain)) c.loop-more.found c.loop-more.rest.now c.in_default.ensures
