use Rattle.std.proofs.Common.{◌≡◌, ◌<◌, ◌+◌, ◌-◌, ◌*◌, drop, get_or, sym, ◌∙◌, subst}
use Rattle.std.proofs.lemmas.List.{at_drop_all}
use Rattle.words.proofs.Numbers.{spelled, spelled-digit, spelled-above, spelled-end}
use Rattle.words.proofs.number.digits_up_to.Goals as goal

pub returns-then-number-most : goal.returns-then-number-most
returns-then-number-most c =
    let i = c.loop-byte.byte-index in
    let digit = get_or c.args.text.now i 0 - 48 in
    let above : c.args.most < c.loop-byte.number * 10 + digit = subst (λ x. c.args.most < c.loop-byte.number * 10 + x) c.from.ensures c.if-number-most.true in
    sym (
    sym c.loop-byte.invariant.same
    ∙ spelled-digit c.args.most c.loop-byte.number c.args.text.now i c.loop-byte-test.true (sym c.is_ascii_digit.ensures.value ∙ c.if-not-is_ascii_digit.false)
    ∙ spelled-above c.args.most (c.loop-byte.number * 10 + digit) (drop (i + 1) c.args.text.now) above)

pub loop-byte-preserved : goal.loop-byte-preserved
loop-byte-preserved c =
    let i = c.loop-byte.byte-index in
    let one_more = spelled-digit c.args.most c.loop-byte.number c.args.text.now i c.loop-byte-test.true (sym c.is_ascii_digit.ensures.value ∙ c.if-not-is_ascii_digit.false) in
    record {
      below = c.if-number-most.false;
      same = subst (λ x. spelled c.args.most (c.loop-byte.number * 10 + x) (drop (i + 1) c.args.text.now) ≡ spelled c.args.most 0 c.args.text.now)
          (sym c.from.ensures) (sym one_more ∙ c.loop-byte.invariant.same);
    }

pub returns : goal.returns
returns c =
    sym (spelled-end c.args.most c.loop-byte.number c.loop-byte.invariant.below)
    ∙ sym (at_drop_all (spelled c.args.most c.loop-byte.number) c.args.text.now c.loop-byte.byte-index c.loop-byte-test.false)
    ∙ c.loop-byte.invariant.same
