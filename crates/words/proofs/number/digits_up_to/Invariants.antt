use Rattle.std.proofs.Common.{◌≡◌, ◌≤◌, drop}
use Rattle.words.proofs.Numbers.{spelled}
use Rattle.words.proofs.number.digits_up_to.Given as goal

-- the digits that are left make of the number what all of them make of 0
abbrev pub invariant-loop-byte : goal.invariant-loop-byte
invariant-loop-byte l = record {
  below : l.number ≤ l.most;
  same : spelled l.most l.number (drop l.byte-index l.text) ≡ spelled l.most 0 l.text;
}
