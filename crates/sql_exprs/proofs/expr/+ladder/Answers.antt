-- The rung that the code goes to is the grammar's, and a round of the loop is a round of `links`.
use Rattle.std.proofs.Common.{◌+◌, ◌-◌, arith, ◌∙◌, ap}
use Rattle.grammars.specs.Reading.{and_then, read}
use Rattle.sql_grammar.specs.Expr.{links, ladder}
use Rattle.std.proofs.lemmas.Result.{err_from_is_err_and}
use Rattle.sql_exprs.proofs.Reading.{term_at_zero, signed_at_zero, term_at, signed_at, negation_at, binary_at, links_over, links_round, links_fault}
use Rattle.sql_exprs.proofs.expr.+ladder.Goals as goal

pub binary-loop-link-preserved : goal.binary-loop-link-preserved
binary-loop-link-preserved t c =
    let step = links_round (c.args.room + 1) c.args.room c.args.place c.args.level c.loop-link.left c.loop-link.rest.now c.in-Some.link c.in-Some.more.now c.in-Some.ensures.reads in (
      c.loop-link.invariant.0 ∙ (step ∙ ap (λ r. and_then r (λ v. read (links (c.args.room + 1) (ladder c.args.room) c.args.place c.args.level v))) c.in_ok-left-2.ensures.reads),
      c.in_ok-left-2.ensures.deep,
    )

pub binary-returns-clause-reads : goal.binary-returns-clause-reads
binary-returns-clause-reads t c =
    c.loop-link.invariant.0 ∙ links_over (c.args.room + 1) c.args.room c.args.place c.args.level c.loop-link.left c.loop-link.rest.now c.in_default.ensures.reads

pub binary-returns-in_err-left-2-clause-reads : goal.binary-returns-in_err-left-2-clause-reads
binary-returns-in_err-left-2-clause-reads t c =
    let p = err_from_is_err_and c.from_residual-in_err-left-2.result c.from_residual-in_err-left-2.ensures.1 in
    rw (p.1, p.2, c.loop-link.invariant.0)
    (links_fault (c.args.room + 1) c.args.room c.args.place c.args.level c.loop-link.left c.loop-link.rest.now c.in-Some.link c.in-Some.more.now c.in_err-left-2.field-0.0
    c.in-Some.ensures.reads c.in_err-left-2.ensures.reads)

pub expression-returns-then-level-eq0-clause-reads : goal.expression-returns-then-level-eq0-clause-reads
expression-returns-then-level-eq0-clause-reads t c =
    rw (term_at_zero c.args.room c.args.place c.args.level c.args.lexemes.now c.if-room-eq0.true c.if-level-eq0.true) c.shallow_term.ensures.reads

pub expression-returns-else-level-eq0-clause-reads : goal.expression-returns-else-level-eq0-clause-reads
expression-returns-else-level-eq0-clause-reads t c =
    rw (signed_at_zero c.args.room c.args.place c.args.level c.args.lexemes.now c.if-room-eq0.true (omega (arith, c.if-level-eq0.false))) c.shallow_signed.ensures.reads

pub expression-returns-then-level-eq0-2-clause-reads : goal.expression-returns-then-level-eq0-2-clause-reads
expression-returns-then-level-eq0-2-clause-reads t c =
    rw (term_at c.args.room (c.args.room - 1) (omega (arith, c.if-room-eq0.false)) c.args.place c.args.lexemes.now c.args.level c.if-level-eq0-2.true) c.term.ensures.reads

pub expression-returns-then-level-eq1-clause-reads : goal.expression-returns-then-level-eq1-clause-reads
expression-returns-then-level-eq1-clause-reads t c =
    rw (signed_at c.args.room (c.args.room - 1) (omega (arith, c.if-room-eq0.false)) c.args.place c.args.lexemes.now c.args.level c.if-level-eq1.true) c.signed.ensures.reads

pub expression-returns-then-level-eq6-clause-reads : goal.expression-returns-then-level-eq6-clause-reads
expression-returns-then-level-eq6-clause-reads t c =
    rw (negation_at c.args.room (c.args.room - 1) (omega (arith, c.if-room-eq0.false)) c.args.place c.args.lexemes.now c.args.level c.if-level-eq6.true) c.negation.ensures.reads

pub expression-returns-clause-reads : goal.expression-returns-clause-reads
expression-returns-clause-reads t c =
    rw (binary_at c.args.room (c.args.room - 1) (omega (arith, c.if-room-eq0.false)) c.args.place c.args.lexemes.now c.args.level (c.args.level - 1)
    (omega (arith, c.if-level-eq0-2.false)) (λ z. c.if-level-eq1.false (omega (arith, z, c.if-level-eq0-2.false))) (λ z. c.if-level-eq6.false (omega (arith, z))))
    c.binary.ensures.reads
