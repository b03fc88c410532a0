use Rattle.std.proofs.Common.{◌≡◌, ◌≤◌, ◌-◌, length, take, Contains}
use Rattle.script.specs.Raw.{HasNoEnd}
use Rattle.page_runs.specs.Reading.{script_left, buffer_limit}
use Rattle.page_runs.proofs.lines.LineReader.advance.Given as goal

abbrev pub invariant-look : goal.invariant-look
invariant-look g l = record {
  left : script_left l.self (g.S.Source.left l.src) ≡ script_left l.initial.self (g.S.Source.left l.initial.src);
  scanned : l.scanned ≤ length l.self.pending;
  looked : HasNoEnd (take l.scanned l.self.pending);
  passed : l.self.passed ≡ l.initial.self.passed;
  whole : Contains l.initial.self.pending 10 → (l.src ≡ l.initial.src) × (l.self.pending ≡ l.initial.self.pending);
  faults : g.S.Source.faults l.src ≡ g.S.Source.faults l.initial.src;
  loans : g.S.Source.loans l.src ≡ g.S.Source.loans l.initial.src;
}

abbrev pub decreases-look : goal.decreases-look
decreases-look g l = buffer_limit - length l.self.pending
