use Rattle.std.proofs.Common.{◌≡◌, ◌∙◌, List, ℕ, [], drop, sym, ap}
use Rattle.std.proofs.lemmas.List.{drop_all}
use Rattle.engine_spec.specs.PageSet.{with_pages}
use Rattle.laying.specs.Order.{in_order, page_numbers}
use Rattle.laying.proofs.Orders.{set_of_ordered, set_in_order}
use Rattle.laying.proofs.order.written_pages.Goals as goal

pub returns-clause-rising : goal.returns-clause-rising
returns-clause-rising c =
    let none : drop c.loop-place.place-index c.args.order.now ≡ [] = drop_all c.loop-place.place-index c.args.order.now c.loop-place-test.false in
    sym (ap (λ (left : List ℕ). with_pages c.loop-place.pages (page_numbers (in_order c.args.changed.now left))) none)
    ∙ c.loop-place.invariant ∙ set_of_ordered c.args.changed.now c.args.order.now c.requires.order

pub returns-clause-set : goal.returns-clause-set
returns-clause-set c =
    returns-clause-rising c
    ∙ sym (set_in_order c.args.changed.now c.args.order.now c.requires.least c.requires.order)
