use Rattle.std.proofs.Common.{◌≡◌, ◌++◌, map, take, drop}
use Rattle.disk_mem.specs.Plan.{later}
use Rattle.disk_mem.proofs.plan.move_on.Given as goal

-- the calls before i are named anew, the others as they were
abbrev pub invariant-loop-i : goal.invariant-loop-i
invariant-loop-i l = l.failing ≡ map (later l.file l.call) (take l.i l.initial.failing) ++ drop l.i l.initial.failing
