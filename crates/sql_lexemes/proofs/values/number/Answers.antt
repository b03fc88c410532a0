use Rattle.std.proofs.Common.{◌≡◌, ◌+◌, ◌-◌, ◌*◌, true, ◌&&◌, List, ℕ, ◌∷◌, sym, ◌∙◌, ap, arith}
use Rattle.std.specs.List.{list_all}
use Rattle.sql_text.specs.Token.{is_digit}
use Rattle.sql_lexemes.specs.Values.{number_from, capped}
use Rattle.sql_lexemes.proofs.ValueLaws.{capped_from}
use Rattle.sql_lexemes.proofs.values.number.Goals as goal

digits_more : (left : List ℕ) (byte : ℕ) (rest : List ℕ) → left ≡ byte ∷ rest → is_digit byte ≡ true → list_all is_digit left ≡ list_all is_digit rest
digits_more left byte rest is digit = ap (list_all is_digit) is ∙ ap (λ b. b && list_all is_digit rest) digit

number_more : (number next : ℕ) (left : List ℕ) (byte : ℕ) (rest : List ℕ) → left ≡ byte ∷ rest → next ≡ capped (number * 10 + (byte - 48))
    → capped (number_from number left) ≡ capped (number_from next rest)
unfolding number_from
number_more number next left byte rest is gives =
    let same : capped (number * 10 + (byte - 48)) ≡ capped next = omega (arith, gives) in
    ap (λ bytes. capped (number_from number bytes)) is ∙ capped_from rest (number * 10 + (byte - 48)) next same

pub loop-byte-preserved : goal.loop-byte-preserved
loop-byte-preserved c =
    let is = c.in-Some.ensures.cases.0 in (
      c.loop-byte.invariant.0 ∙ digits_more c.loop-byte.left.now c.in-Some.byte.now c.in-Some.rest.now is (sym c.is_digit.ensures ∙ c.if-not-is_digit.false),
      c.loop-byte.invariant.1
          ∙ number_more c.loop-byte.number c.with_digit-number.result c.loop-byte.left.now c.in-Some.byte.now c.in-Some.rest.now is c.with_digit-number.ensures,
    )
