-- `start` begins a part, and `least` is the least page above the given one before it.
use Rattle.std.proofs.Common.{◌≡◌, ◌-◌, ◌<◌, length}
use Rattle.wal_index.specs.Order.{part_start}
use Rattle.wal_index.specs.Parts.{LeastBelow}
use Rattle.wal_index.proofs.frames.next_of.Given as goal

abbrev pub invariant-loop-start : goal.invariant-loop-start
invariant-loop-start l = (part_start l.start ≡ l.start) × (l.start < 8589934592) × LeastBelow l.pages l.start l.after l.least

abbrev pub decreases-loop-start : goal.decreases-loop-start
decreases-loop-start l = length l.pages - l.start
