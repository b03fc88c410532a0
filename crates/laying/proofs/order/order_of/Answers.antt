use Rattle.std.proofs.Common.{length, List, ℕ, rules, arith, ap}
use Rattle.std.specs.Prelude.{slice_index}
use Rattle.std.proofs.lemmas.List.Sorted.{IsNonDecreasingBy-from_sort_by_key}
use Rattle.laying.specs.Order.{page_numbers}
use Rattle.laying.proofs.Sorting.{sorted_is, places_fewer}
use Rattle.laying.proofs.order.order_of.Goals as goal

pub returns-clause-order : goal.returns-clause-order
returns-clause-order c =
    sorted_is c.args.changed.now c.in_ok-order.order.items c.sort_unstable_by_key.new.self.items c.requires.different
    c.in_ok-order.ensures c.sort_unstable_by_key.ensures.permutation
    (IsNonDecreasingBy-from_sort_by_key (slice_index (page_numbers c.args.changed.now)) _ c.sort_unstable_by_key.ensures.sorted (λ a r q k. search rules))

pub returns-clause-fewer : goal.returns-clause-fewer
returns-clause-fewer c =
    omega (
      arith,
      places_fewer 0 c.args.changed.now,
      ap (λ (places : List ℕ). length places) c.in_ok-order.ensures,
      c.sort_unstable_by_key.ensures.len,
    )
