use Rattle.std.proofs.Common.{◌≡◌, take}
use Rattle.memory_engine.proofs.plain.shared_pages.Given as goal

abbrev pub invariant-loop-page : goal.invariant-loop-page
invariant-loop-page l = l.shared ≡ take l.page-index l.pages
