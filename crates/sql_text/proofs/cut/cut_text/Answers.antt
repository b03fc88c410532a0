-- A space, a byte that begins no token, a token, and the end.
use Rattle.std.proofs.Common.{◌≡◌, ◌+◌, ◌≤◌, [], ◌∷◌, length, drop, Some, None, sym, ◌∙◌, ap, subst, arith}
use Rattle.std.specs.Prelude.{All}
use Rattle.std.proofs.lemmas.List.{length-drop, append-nil}
use Rattle.sql_text.specs.Cut.{IsWithin, token_at}
use Rattle.sql_text.specs.Scan.{longest}
use Rattle.sql_text.proofs.CutLaws.{all_within}
use Rattle.sql_text.proofs.Cutting.{rest_is, here, before, space_here, bad_here, token_here, end_here, before_more}
use Rattle.sql_text.proofs.cut.cut_text.Goals as goal

pub loop-at-preserved-then-is_space : goal.loop-at-preserved-then-is_space
loop-at-preserved-then-is_space c = (
  c.loop-at.invariant.0
      ∙ ap (before c.loop-at.tokens.items) (space_here c.args.text.now c.loop-at.at c.loop-at-test.true (sym c.if-is_space.ensures)),
  omega (arith, c.loop-at-test.true),
)

pub returns-in_default-clause-tokens : goal.returns-in_default-clause-tokens
returns-in_default-clause-tokens c =
    let text = c.args.text.now in
    let none : longest (drop c.loop-at.at text) ≡ None = ap longest (sym (rest_is text c.loop-at.at)) ∙ sym c.in_default.ensures.found in
    sym (ap (λ r. r.found) (c.loop-at.invariant.0 ∙ ap (before c.loop-at.tokens.items) (bad_here text c.loop-at.at c.loop-at-test.true (sym c.if-is_space.ensures) none))
    ∙ append-nil c.loop-at.tokens.items)

pub returns-in_default-clause-within : goal.returns-in_default-clause-within
returns-in_default-clause-within c =
    let text = c.args.text.now in
    let none : longest (drop c.loop-at.at text) ≡ None = ap longest (sym (rest_is text c.loop-at.at)) ∙ sym c.in_default.ensures.found in
    subst (All (IsWithin text))
    (ap (λ r. r.found) (c.loop-at.invariant.0 ∙ ap (before c.loop-at.tokens.items) (bad_here text c.loop-at.at c.loop-at-test.true (sym c.if-is_space.ensures) none))
    ∙ append-nil c.loop-at.tokens.items) (all_within text)

pub returns-in_default-clause-bad : goal.returns-in_default-clause-bad
returns-in_default-clause-bad c =
    let text = c.args.text.now in
    let none : longest (drop c.loop-at.at text) ≡ None = ap longest (sym (rest_is text c.loop-at.at)) ∙ sym c.in_default.ensures.found in
    sym (ap (λ r. r.bad) (c.loop-at.invariant.0 ∙ ap (before c.loop-at.tokens.items) (bad_here text c.loop-at.at c.loop-at-test.true (sym c.if-is_space.ensures) none)))

pub loop-at-preserved : goal.loop-at-preserved
loop-at-preserved c =
    let text = c.args.text.now in
    let kind = c.in-Some.kind in
    let size = c.in-Some.size in
    let out = c.loop-at.tokens.items in
    let found : longest (drop c.loop-at.at text) ≡ Some (kind, size) = ap longest (sym (rest_is text c.loop-at.at)) ∙ sym c.in-Some.ensures.found in
    let fits : c.loop-at.at + size ≤ length text =
    omega (arith, c.in-Some.ensures.within.1, ap length (rest_is text c.loop-at.at), length-drop c.loop-at.at text, c.loop-at-test.true) in
    let more : here text c.loop-at.at ≡ before (token_at kind c.loop-at.at size ∷ []) (here text (c.loop-at.at + size)) =
    token_here text c.loop-at.at c.loop-at-test.true kind size (sym c.if-is_space.ensures) found c.in-Some.ensures.within.0 fits in (
      c.loop-at.invariant.0
          ∙ (ap (before out) more
          ∙ (before_more out (token_at kind c.loop-at.at size) (here text (c.loop-at.at + size))
          ∙ ap (λ ts. before ts (here text (c.loop-at.at + size))) (sym c.in_ok-push.ensures.items))),
      fits,
    )

pub returns-clause-tokens : goal.returns-clause-tokens
returns-clause-tokens c =
    let text = c.args.text.now in
    let end : c.loop-at.at ≡ length text = omega (arith, c.loop-at.invariant.1, c.loop-at-test.false) in
    sym (ap (λ r. r.found) (c.loop-at.invariant.0 ∙ ap (before c.loop-at.tokens.items) (ap (here text) end ∙ end_here text)) ∙ append-nil c.loop-at.tokens.items)

pub returns-clause-bad : goal.returns-clause-bad
returns-clause-bad c =
    let text = c.args.text.now in
    let end : c.loop-at.at ≡ length text = omega (arith, c.loop-at.invariant.1, c.loop-at-test.false) in
    sym (ap (λ r. r.bad) (c.loop-at.invariant.0 ∙ ap (before c.loop-at.tokens.items) (ap (here text) end ∙ end_here text)))

pub returns-clause-within : goal.returns-clause-within
returns-clause-within c =
    let text = c.args.text.now in
    let end : c.loop-at.at ≡ length text = omega (arith, c.loop-at.invariant.1, c.loop-at-test.false) in
    subst (All (IsWithin text))
    (ap (λ r. r.found) (c.loop-at.invariant.0 ∙ ap (before c.loop-at.tokens.items) (ap (here text) end ∙ end_here text)) ∙ append-nil c.loop-at.tokens.items)
    (all_within text)
