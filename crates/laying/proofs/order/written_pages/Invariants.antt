use Rattle.std.proofs.Common.{◌≡◌, [], ◌∷◌, drop}
use Rattle.engine_spec.specs.PageSet.{with_pages}
use Rattle.laying.specs.Order.{in_order, page_numbers}
use Rattle.laying.proofs.order.written_pages.Given as goal

-- adding the pages that are left gives what adding all of them to page 1 does
abbrev pub invariant-loop-place : goal.invariant-loop-place
invariant-loop-place l =
    with_pages l.pages (page_numbers (in_order l.changed (drop l.place-index l.order)))
    ≡ with_pages (1 ∷ []) (page_numbers (in_order l.changed l.order))
