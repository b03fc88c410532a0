use Rattle.std.proofs.Common.{◌∙◌, ap, sym, cond, Some, None}
use Rattle.words.specs.Words.{number_spelled}
use Rattle.words.proofs.Numbers.{limit_is}
use Rattle.words.proofs.number.limit_in.Goals as goal

pub returns : goal.returns
returns c = c.number_up_to.ensures ∙ ap (λ is. cond is (Some (number_spelled c.args.text.now)) None) (sym (limit_is c.args.text.now))
