use Rattle.std.proofs.Common.{◌∙◌, ap, sym, None, Some}
use Rattle.words.specs.Seen.{given_in}
use Rattle.words.specs.Words.{with_limit, with_size, with_word}
use Rattle.words.proofs.Fronts.{limit_on, size_on, limit_last, size_last, word_on}
use Rattle.words.proofs.found.Found.with_front.Goals as goal

pub returns-in_err-value-clause-meaning : goal.returns-in_err-value-clause-meaning
returns-in_err-value-clause-meaning c =
    rw c.from_residual.ensures (limit_last c.args.word.now c.args.behind.now (given_in c.args.self) (sym c.is.ensures ∙ c.if-is.true) c.in_err-value.ensures.cases)

pub returns-in_err-with_limit-clause-meaning : goal.returns-in_err-with_limit-clause-meaning
returns-in_err-with_limit-clause-meaning c =
    rw c.from_residual-in_err-with_limit.ensures (
    limit_on c.args.word.now c.args.behind.now c.in_ok-value.value.now c.in_ok-value.left.now (given_in c.args.self) None (sym c.is.ensures ∙ c.if-is.true)
    c.in_ok-value.ensures.cases.0 (c.in_err-with_limit.ensures ∙ ap (λ text. with_limit text (given_in c.args.self)) c.bytes.ensures))

pub returns-in_ok-with_limit-clause-meaning : goal.returns-in_ok-with_limit-clause-meaning
returns-in_ok-with_limit-clause-meaning c =
    limit_on c.args.word.now c.args.behind.now c.in_ok-value.value.now c.in_ok-value.left.now (given_in c.args.self) (Some (given_in c.in_ok-with_limit.field-0))
    (sym c.is.ensures ∙ c.if-is.true) c.in_ok-value.ensures.cases.0 (c.in_ok-with_limit.ensures ∙ ap (λ text. with_limit text (given_in c.args.self)) c.bytes.ensures)

pub returns-in_err-value-2-clause-meaning : goal.returns-in_err-value-2-clause-meaning
returns-in_err-value-2-clause-meaning c =
    rw c.from_residual-in_err-value-2.ensures (
    size_last c.args.word.now c.args.behind.now (given_in c.args.self) (sym c.is-else-is.ensures ∙ c.if-is-2.true) c.in_err-value-2.ensures.cases)

pub returns-in_err-with_size-clause-meaning : goal.returns-in_err-with_size-clause-meaning
returns-in_err-with_size-clause-meaning c =
    rw c.from_residual-in_err-with_size.ensures (
    size_on c.args.word.now c.args.behind.now c.in_ok-value-2.value.now c.in_ok-value-2.left.now (given_in c.args.self) None (sym c.is-else-is.ensures ∙ c.if-is-2.true)
    c.in_ok-value-2.ensures.cases.0 (c.in_err-with_size.ensures ∙ ap (λ text. with_size text (given_in c.args.self)) c.bytes-then-is-2.ensures))

pub returns-in_ok-with_size-clause-meaning : goal.returns-in_ok-with_size-clause-meaning
returns-in_ok-with_size-clause-meaning c =
    size_on c.args.word.now c.args.behind.now c.in_ok-value-2.value.now c.in_ok-value-2.left.now (given_in c.args.self) (Some (given_in c.in_ok-with_size.field-0))
    (sym c.is-else-is.ensures ∙ c.if-is-2.true) c.in_ok-value-2.ensures.cases.0 (c.in_ok-with_size.ensures ∙ ap (λ text. with_size text (given_in c.args.self)) c.bytes-then-is-2.ensures)

pub returns-in_err-with_word-clause-meaning : goal.returns-in_err-with_word-clause-meaning
returns-in_err-with_word-clause-meaning c =
    rw c.from_residual-in_err-with_word.ensures (
    word_on c.args.word.now c.args.behind.now (given_in c.args.self) None c.requires (sym c.is.ensures ∙ c.if-is.false) (sym c.is-else-is.ensures ∙ c.if-is-2.false)
    (c.in_err-with_word.ensures ∙ ap (λ text. with_word text (given_in c.args.self)) c.bytes-else-is-2.ensures))

pub returns-in_ok-with_word-clause-meaning : goal.returns-in_ok-with_word-clause-meaning
returns-in_ok-with_word-clause-meaning c =
    word_on c.args.word.now c.args.behind.now (given_in c.args.self) (Some (given_in c.in_ok-with_word.field-0)) c.requires (sym c.is.ensures ∙ c.if-is.false)
    (sym c.is-else-is.ensures ∙ c.if-is-2.false) (c.in_ok-with_word.ensures ∙ ap (λ text. with_word text (given_in c.args.self)) c.bytes-else-is-2.ensures)
