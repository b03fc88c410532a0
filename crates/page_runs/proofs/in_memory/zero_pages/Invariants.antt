use Rattle.std.proofs.Common.{◌≡◌, replicate}
use Rattle.page_runs.proofs.in_memory.zero_pages.Given as goal

abbrev pub invariant-loop : goal.invariant-loop
invariant-loop l = l.pages.items ≡ replicate l.counter l.page.items
