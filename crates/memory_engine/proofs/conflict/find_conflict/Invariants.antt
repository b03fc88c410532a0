use Rattle.std.proofs.Common.{◌≡◌, ◌≤◌, drop, length}
use Rattle.engine_spec.specs.History.{conflict}
use Rattle.memory_engine.proofs.conflict.find_conflict.Given as goal

abbrev pub invariant-loop-left : goal.invariant-loop-left
invariant-loop-left l =
    (l.left ≤ length l.reads) × (l.found ≡ conflict l.mode (drop l.left l.reads) l.snap l.history)

abbrev pub decreases-loop-left : goal.decreases-loop-left
decreases-loop-left l = l.left
