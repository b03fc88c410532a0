use Rattle.std.proofs.Common.{◌≡◌, ◌≤◌, ◌+◌, ◌-◌, IfSome}
use Rattle.page_face.specs.Calls.{KeepsOpenings}
use Rattle.script.specs.Raw.{script_limit}
use Rattle.page_runs.specs.Reading.{script_left}
use Rattle.page_runs.proofs.Leading.{LeadsTo}
use Rattle.page_runs.proofs.Standing.{Standing}
use Rattle.page_runs.proofs.pages.run_pages.Given as goal

abbrev pub invariant-lines : goal.invariant-lines
invariant-lines g l = record {
  standing : IfSome (g.S.Source.left l.initial.src) (λ script. Standing (LeadsTo g.E.EngineTells l.initial.sessions.engine l.sessions) script l.number l.lines.passed (script_left l.lines (g.S.Source.left l.src)) (g.K.Sink.written l.initial.out) (g.K.Sink.written l.out));
  opened : KeepsOpenings g.E.EngineTells l.initial.sessions.engine l.sessions.engine;
  number : l.number ≤ l.lines.passed + 1;
  limit : l.lines.passed ≤ script_limit;
  source_faults : g.S.Source.faults l.src ≡ g.S.Source.faults l.initial.src;
  sink_faults : g.K.Sink.faults l.out ≡ g.K.Sink.faults l.initial.out;
  source_loans : g.S.Source.loans l.src ≡ g.S.Source.loans l.initial.src;
  sink_loans : g.K.Sink.loans l.out ≡ g.K.Sink.loans l.initial.out;
  engine_loans : g.E.EngineTells.loans l.sessions.engine ≡ g.E.EngineTells.loans l.initial.sessions.engine;
}

abbrev pub decreases-lines : goal.decreases-lines
decreases-lines g l = script_limit - l.lines.passed
