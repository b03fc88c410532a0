use Rattle.std.specs.Prelude.{All, ◌≡◌, ◌≤◌, ◌-◌, length}
use Rattle.engine_tests.proofs.first_page.store_pages.Given as goal

abbrev pub invariant-loop-alloc : goal.invariant-loop-alloc
invariant-loop-alloc l = record {
  few : length l.pages.items ≤ 16;
  whole : All (λ page. length page ≡ 512) l.pages.items;
}

abbrev pub decreases-loop-alloc : goal.decreases-loop-alloc
decreases-loop-alloc l = 16 - length l.pages.items
