use Rattle.std.proofs.Common.{◌≡◌, take}
use Rattle.memory_engine.proofs.lay.share_all.Given as goal

abbrev pub invariant-loop-page : goal.invariant-loop-page
invariant-loop-page l = l.copy ≡ take l.page-index l.pages
