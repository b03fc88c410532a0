use Rattle.std.proofs.Common.{◌≡◌, length, take_at, drop, ap, ◌∙◌}
use Rattle.std.proofs.lemmas.List.{length-take-le}
use Rattle.node_spec.proofs.NodeLaws.{past_used}
use Rattle.node_edit.proofs.crowd.copy_usable.Goals as goal

pub returns-clause-same : goal.returns-clause-same
returns-clause-same c = λ first.
    let is = c.copy_from_slice.ensures.after in
    let len : length c.copy_from_slice.new.self ≡ c.args.u = ap (λ xs. length xs) is ∙ length-take-le c.args.u c.args.from.now c.requires.long.0 in
    past_used c.args.u first _ c.args.from.now (take_at c.copy_from_slice.new.self (drop c.args.u c.args.to.now) c.args.u len ∙ is)
