use Rattle.std.proofs.Common.{◌≡◌, ℕ, ◌-◌, ◌^◌, ◌<◌, ◌≤◌, get_or, map, take}
use Rattle.std.specs.Int.Digits.{number_from_digits}
use Rattle.be_fields.proofs.varint.get_varint.Given as goal

-- each byte so far says that another follows, and `high` is what they spell
abbrev pub invariant-loop-at : goal.invariant-loop-at
invariant-loop-at l = record {
  few : l.at ≤ 8;
  go_on : (k : ℕ) → k < l.at → 128 ≤ get_or l.from k 0;
  spelled : l.high ≡ number_from_digits 128 (map (λ byte. byte - 128) (take l.at l.from));
  small : l.high < 128 ^ l.at;
}
