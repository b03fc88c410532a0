use Rattle.std.proofs.Common.{◌≤◌, ◌-◌, List, ℕ, length}
use Rattle.page_spec.specs.Varint.{varint_size}
use Rattle.value_form.specs.Record.{header_from, BeginsWithTypes}
use Rattle.value_form.specs.Reading.{IsTakenOf}
use Rattle.value_form.proofs.read.read_header.Given as goal

-- the serial types up to `at` are read, and `taken` is what they gave
abbrev pub invariant-loop-at : goal.invariant-loop-at
invariant-loop-at l = record {
  inside : l.at ≤ l.size;
  room : length l.taken.row ≤ l.at;
  types : (types : List ℕ) × BeginsWithTypes (header_from l.bytes (varint_size l.bytes)) types (header_from l.bytes l.at) × IsTakenOf l.taken types l.bodies;
}

abbrev pub decreases-loop-at : goal.decreases-loop-at
decreases-loop-at l = l.size - l.at
