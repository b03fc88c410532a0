use Rattle.std.proofs.Common.{◌-◌, ◌<◌}
use Rattle.page_form.proofs.Chains.{Walking}
use Rattle.page_form.proofs.content.mark_blocks.Given as goal

-- the places rise
abbrev pub decreases-loop-at : goal.decreases-loop-at
decreases-loop-at l = l.u - l.before

-- the freeblocks up to the next place are marked
abbrev pub invariant-loop-at : goal.invariant-loop-at
invariant-loop-at l = record {
  at_fits : l.at < 65536;
  walking : Walking l.u l.content l.bytes l.first l.before l.at l.sum l.initial.marks l.marks;
}
