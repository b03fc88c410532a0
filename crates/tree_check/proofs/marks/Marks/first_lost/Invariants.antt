use Rattle.std.proofs.Common.{◌≡◌, ℕ, ◌+◌, ◌-◌, ◌<◌, ◌≤◌, true}
use Rattle.tree_check.specs.Met.{is_met}
use Rattle.tree_check.proofs.marks.Marks.first_lost.Given as goal

-- each page from 2 on before this one was met
abbrev pub invariant-pages : goal.invariant-pages
invariant-pages l = record {
  least : 2 ≤ l.page;
  met : (page : ℕ) → 2 ≤ page → page < l.page → is_met l.self.bits.items page ≡ true;
}

abbrev pub decreases-pages : goal.decreases-pages
decreases-pages l = l.last + 1 - l.page
