use Rattle.std.proofs.Common.{◌≡◌, ℕ, Bool, List, ◌++◌, take, drop}
use Rattle.disk_mem.specs.Crash.{picked, unpicked}
use Rattle.disk_mem.proofs.crash.scatter.Given as goal

-- the places before this one are done, the others are as they were
pub record Done (marks : List Bool) (pick before bytes rest : List ℕ) (place : ℕ) : Type 0 where
  pub left : rest ≡ unpicked (take place marks) pick
  pub others : drop place bytes ≡ drop place before
  pub all : picked marks before pick ≡ take place bytes ++ picked (drop place marks) (drop place bytes) rest

abbrev pub invariant-loop-place : goal.invariant-loop-place
invariant-loop-place l = Done l.marks l.pick l.initial.bytes l.bytes l.rest l.place
