use Rattle.std.proofs.Common.{◌≡◌, ◌≤◌, ◌++◌, length, drop}
use Rattle.page_spec.specs.Varint.{groups}
use Rattle.be_fields.proofs.varint.put_groups.Given as goal

-- what is still to be written, before what was written
abbrev pub invariant-loop-left : goal.invariant-loop-left
invariant-loop-left l = record {
  within : l.left ≤ l.count;
  room : l.count ≤ length l.to;
  written : groups l.left l.rest ++ drop l.left l.to ≡ groups l.count l.n ++ drop l.count l.fn.to;
}

abbrev pub decreases-loop-left : goal.decreases-loop-left
decreases-loop-left l = l.left
