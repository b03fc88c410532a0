use Rattle.std.proofs.Common.{◌∙◌, ap, sym, not, ◌&&◌}
use Rattle.std.specs.Str.{is_utf8}
use Rattle.script.specs.Reading.{is_text}
use Rattle.script.proofs.Agreement.{is_ok-is_utf8}
use Rattle.script.proofs.grammar.is_text.Goals as goal

pub returns-then-not-contains : goal.returns-then-not-contains
unfolding is_text
returns-then-not-contains c =
    let none = c.if-not-contains.true in
    let same = is_ok-is_utf8 c.args.bytes.now c.from_utf8.result _ _ c.from_utf8.ensures.cases in
    c.is_ok.ensures.value ∙ same ∙ ap (λ b. not b && is_utf8 c.args.bytes.now) (sym none ∙ c.contains.ensures.value)
