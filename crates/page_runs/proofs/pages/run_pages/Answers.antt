use Rattle.std.proofs.Common.{refl, subst, ◌∙◌, arith, [], inl, Err}
use Rattle.disk_face.specs.Faults.{Rose}
use Rattle.page_runs.specs.declared.lines.Next.TheVariants as next
use Rattle.page_runs.specs.declared.status.Status.TheVariants as ended
use Rattle.page_runs.specs.Reading.{script_left}
use Rattle.page_runs.specs.Reply.{CountsReply}
use Rattle.page_runs.specs.Outcome.{Ran}
use Rattle.page_runs.specs.Sessions.{AnsweredOver}
use Rattle.page_runs.proofs.Serial.{spelled_in_range}
use Rattle.page_runs.proofs.Leading.{LeadsTo, leads_none, answered_over, rests_here}
use Rattle.page_runs.proofs.Exits.{started, at_end, past_limit, not_in_grammar, cut_there, as_next, said_refused, said_cut, ends_cut, ends_refused, nothing_yet}
use Rattle.page_runs.proofs.Runs.{as_run, ends_unanswered, runs_on}
use Rattle.page_runs.proofs.pages.run_pages.Goals as goal

pub lines-init : goal.lines-init
lines-init g c = record {
  standing = started (LeadsTo g.E.EngineTells c.args.sessions.now.engine c.args.sessions.now) (g.S.Source.left c.args.src.now) (g.K.Sink.written c.args.out.now) c.in-Ok.lines c.in-Ok.ensures.1 c.in-Ok.ensures.2 (leads_none g.E.EngineTells c.args.sessions.now c.requires.none);
  opened = λ opening is. is;
  number = omega arith;
  limit = omega (arith, c.in-Ok.ensures.2);
  source_faults = refl;
  sink_faults = refl;
  source_loans = refl;
  sink_loans = refl;
  engine_loans = refl;
}

pub returns-in_default-clause-run : goal.returns-in_default-clause-run
returns-in_default-clause-run g c = record {
  of_run = tt;
  script = nothing_yet (AnsweredOver g.E.EngineTells c.args.sessions.now.engine c.args.sessions.now.engine) (g.S.Source.left c.args.src.now) (g.S.Source.left c.args.src.now)
      (g.K.Sink.written c.args.out.now)
      (answered_over g.E.EngineTells c.args.sessions.now.engine c.args.sessions.now c.args.sessions.now [] []
      (leads_none g.E.EngineTells c.args.sessions.now c.requires.none) (rests_here g.E.EngineTells c.args.sessions.now));
  faults = (refl, refl);
}

pub returns-in-Ok-End-clause-run : goal.returns-in-Ok-End-clause-run
returns-in-Ok-End-clause-run g c = record {
  of_run = tt;
  script = at_end (AnsweredOver g.E.EngineTells c.args.sessions.now.engine c.lines.sessions.engine) (g.S.Source.left c.args.src.now) (g.S.Source.left c.lines.src)
      (g.S.Source.left c.advance.new.src) (g.K.Sink.written c.args.out.now) (g.K.Sink.written c.lines.out) c.lines.number c.lines.lines c.advance.new.self
      (as_run g.E.EngineTells c.args.sessions.now.engine c.lines.sessions (g.S.Source.left c.args.src.now) c.lines.number c.lines.lines.passed
      (script_left c.lines.lines (g.S.Source.left c.lines.src)) (g.K.Sink.written c.args.out.now) (g.K.Sink.written c.lines.out) c.lines.invariant.standing)
      (as_next c.in-Ok-End.field-0 next.End c.in-Ok-End.field-0-is (script_left c.lines.lines (g.S.Source.left c.lines.src)) (script_left c.advance.new.self (g.S.Source.left c.advance.new.src)) c.lines.lines c.advance.new.self c.in-Ok-End.ensures.next);
  faults = (c.in-Ok-End.ensures.faults ∙ c.lines.invariant.source_faults, c.lines.invariant.sink_faults);
}

pub returns-in-Ok-Refused-clause-run : goal.returns-in-Ok-Refused-clause-run
returns-in-Ok-Refused-clause-run g c =
    let Answered = AnsweredOver g.E.EngineTells c.args.sessions.now.engine c.lines.sessions.engine in
    ends_refused g.S.Source g.K.Sink Answered c.lines.number c.say_refused.result c.args.src.now c.advance.new.src c.args.out.now c.lines.out c.say_refused.new.out
    (c.in-Ok-Refused.ensures.faults ∙ c.lines.invariant.source_faults) c.lines.invariant.sink_faults c.say_refused.ensures.said
    (past_limit Answered (g.S.Source.left c.args.src.now) (g.S.Source.left c.lines.src) (g.S.Source.left c.advance.new.src) (g.K.Sink.written c.args.out.now) (g.K.Sink.written c.lines.out) (g.K.Sink.written c.say_refused.new.out) c.lines.number c.say_refused.result c.lines.lines c.advance.new.self
    (as_run g.E.EngineTells c.args.sessions.now.engine c.lines.sessions (g.S.Source.left c.args.src.now) c.lines.number c.lines.lines.passed
    (script_left c.lines.lines (g.S.Source.left c.lines.src)) (g.K.Sink.written c.args.out.now) (g.K.Sink.written c.lines.out) c.lines.invariant.standing)
    (as_next c.in-Ok-Refused.field-0 next.Refused c.in-Ok-Refused.field-0-is (script_left c.lines.lines (g.S.Source.left c.lines.src)) (script_left c.advance.new.self (g.S.Source.left c.advance.new.src)) c.lines.lines c.advance.new.self c.in-Ok-Refused.ensures.next)
    (said_refused g.K.Sink c.lines.number c.say_refused.result c.lines.out c.say_refused.new.out c.say_refused.ensures.said))

pub returns-in-Err-clause-run : goal.returns-in-Err-clause-run
returns-in-Err-clause-run g c =
    let Answered = AnsweredOver g.E.EngineTells c.args.sessions.now.engine c.lines.sessions.engine in
    ends_cut g.S.Source g.K.Sink Answered c.say_last.result c.args.src.now c.advance.new.src c.args.out.now c.lines.out c.say_last.new.out
    (subst (λ n. Rose n (g.S.Source.faults c.advance.new.src)) c.lines.invariant.source_faults c.in-Err.ensures.faults) c.lines.invariant.sink_faults c.say_last.ensures.said
    (cut_there Answered (g.S.Source.left c.args.src.now) (g.S.Source.left c.lines.src) (g.S.Source.left c.advance.new.src) (g.K.Sink.written c.args.out.now) (g.K.Sink.written c.lines.out) (g.K.Sink.written c.say_last.new.out) c.lines.number c.say_last.result c.lines.lines c.advance.new.self
    (as_run g.E.EngineTells c.args.sessions.now.engine c.lines.sessions (g.S.Source.left c.args.src.now) c.lines.number c.lines.lines.passed
    (script_left c.lines.lines (g.S.Source.left c.lines.src)) (g.K.Sink.written c.args.out.now) (g.K.Sink.written c.lines.out) c.lines.invariant.standing)
    c.in-Err.ensures.failed c.in-Err.ensures.unended
    (said_cut g.K.Sink c.say_last.result c.lines.out c.say_last.new.out c.say_last.ensures.said))

pub returns-in_default-read_line-clause-run : goal.returns-in_default-read_line-clause-run
returns-in_default-read_line-clause-run g c =
    let said = c.say_refused-in_default-read_line in
    let Answered = AnsweredOver g.E.EngineTells c.args.sessions.now.engine c.lines.sessions.engine in
    ends_refused g.S.Source g.K.Sink Answered c.lines.number said.result c.args.src.now c.advance.new.src c.args.out.now c.lines.out said.new.out
    (c.in-Ok-Line.ensures.faults ∙ c.lines.invariant.source_faults) c.lines.invariant.sink_faults said.ensures.said
    (not_in_grammar Answered (g.S.Source.left c.args.src.now) (g.S.Source.left c.lines.src) (g.S.Source.left c.advance.new.src) (g.K.Sink.written c.args.out.now) (g.K.Sink.written c.lines.out) (g.K.Sink.written said.new.out) c.lines.number said.result c.lines.lines c.advance.new.self c.line.result.now c.line_text.result.now
    (as_run g.E.EngineTells c.args.sessions.now.engine c.lines.sessions (g.S.Source.left c.args.src.now) c.lines.number c.lines.lines.passed
    (script_left c.lines.lines (g.S.Source.left c.lines.src)) (g.K.Sink.written c.args.out.now) (g.K.Sink.written c.lines.out) c.lines.invariant.standing)
    (as_next c.in-Ok-Line.field-0 next.Line c.in-Ok-Line.field-0-is (script_left c.lines.lines (g.S.Source.left c.lines.src)) (script_left c.advance.new.self (g.S.Source.left c.advance.new.src)) c.lines.lines c.advance.new.self c.in-Ok-Line.ensures.next) c.line.ensures c.line_text.ensures c.in_default-read_line.ensures.meaning
    (said_refused g.K.Sink c.lines.number said.result c.lines.out said.new.out said.ensures.said))

pub run_line-requires : goal.run_line-requires
run_line-requires g c = record { range = spelled_in_range c.in-Some.line c.line_text.result.now c.in-Some.ensures.spelled }

pub returns-in-Err-Sink-clause-run : goal.returns-in-Err-Sink-clause-run
returns-in-Err-Sink-clause-run g c =
    let first = c.args.sessions.now.engine in
    let before = g.K.Sink.written c.args.out.now in
    let now = g.K.Sink.written c.run_line.new.out in
    let left = g.S.Source.left c.advance.new.src in
    record {
      of_run = tt;
      script = ends_unanswered g.E.EngineTells first c.lines.sessions c.run_line.new.sessions (g.S.Source.left c.args.src.now) (g.S.Source.left c.lines.src) left before (g.K.Sink.written c.lines.out) now c.lines.number c.lines.lines c.advance.new.self c.line.result.now c.line_text.result.now c.in-Some.line (λ script. Ran (AnsweredOver g.E.EngineTells first c.run_line.new.sessions.engine) script ended.SinkFailed left before now) c.lines.invariant.opened c.lines.invariant.standing (as_next c.in-Ok-Line.field-0 next.Line c.in-Ok-Line.field-0-is (script_left c.lines.lines (g.S.Source.left c.lines.src)) (script_left c.advance.new.self (g.S.Source.left c.advance.new.src)) c.lines.lines c.advance.new.self c.in-Ok-Line.ensures.next) c.line.ensures c.line_text.ensures c.in-Some.ensures.meaning c.in-Err-Sink.ensures.err (λ script count front. (count, [], inl (inl refl), front));
      faults = (
        inl (c.in-Ok-Line.ensures.faults ∙ c.lines.invariant.source_faults),
        subst (λ n. Rose n (g.K.Sink.faults c.run_line.new.out)) c.lines.invariant.sink_faults
            (subst (λ it. CountsReply {T = Unit {0}} (Err it) (g.K.Sink.faults c.lines.out) (g.K.Sink.faults c.run_line.new.out)) c.in-Err-Sink.field-0-is c.in-Err-Sink.ensures.faults),
      );
    }

pub returns-in-Err-Memory-clause-run : goal.returns-in-Err-Memory-clause-run
returns-in-Err-Memory-clause-run g c =
    let first = c.args.sessions.now.engine in
    let before = g.K.Sink.written c.args.out.now in
    let now = g.K.Sink.written c.run_line.new.out in
    let left = g.S.Source.left c.advance.new.src in
    record {
      of_run = tt;
      script = ends_unanswered g.E.EngineTells first c.lines.sessions c.run_line.new.sessions (g.S.Source.left c.args.src.now) (g.S.Source.left c.lines.src) left before (g.K.Sink.written c.lines.out) now c.lines.number c.lines.lines c.advance.new.self c.line.result.now c.line_text.result.now c.in-Some.line (λ script. Ran (AnsweredOver g.E.EngineTells first c.run_line.new.sessions.engine) script ended.NoMemory left before now) c.lines.invariant.opened c.lines.invariant.standing (as_next c.in-Ok-Line.field-0 next.Line c.in-Ok-Line.field-0-is (script_left c.lines.lines (g.S.Source.left c.lines.src)) (script_left c.advance.new.self (g.S.Source.left c.advance.new.src)) c.lines.lines c.advance.new.self c.in-Ok-Line.ensures.next) c.line.ensures c.line_text.ensures c.in-Some.ensures.meaning c.in-Err-Memory.ensures.err (λ script count front. (count, [], inl refl, front));
      faults = (
        c.in-Ok-Line.ensures.faults ∙ c.lines.invariant.source_faults,
        subst (λ it. CountsReply {T = Unit {0}} (Err it) (g.K.Sink.faults c.lines.out) (g.K.Sink.faults c.run_line.new.out)) c.in-Err-Memory.field-0-is c.in-Err-Memory.ensures.faults
            ∙ c.lines.invariant.sink_faults,
      );
    }

pub lines-preserved : goal.lines-preserved
lines-preserved g c =
    let loop = c.lines.invariant in
    let onward = c.in-Ok-Line.ensures.progress c.in-Ok-Line.field-0-is in
    record {
      standing = runs_on g.E.EngineTells c.args.sessions.now.engine c.lines.sessions c.run_line.new.sessions (g.S.Source.left c.args.src.now) (g.S.Source.left c.lines.src) (g.S.Source.left c.advance.new.src) (g.K.Sink.written c.args.out.now) (g.K.Sink.written c.lines.out) (g.K.Sink.written c.run_line.new.out) c.lines.number c.lines.lines c.advance.new.self c.line.result.now c.line_text.result.now c.in-Some.line loop.opened loop.standing (as_next c.in-Ok-Line.field-0 next.Line c.in-Ok-Line.field-0-is (script_left c.lines.lines (g.S.Source.left c.lines.src)) (script_left c.advance.new.self (g.S.Source.left c.advance.new.src)) c.lines.lines c.advance.new.self c.in-Ok-Line.ensures.next) c.line.ensures c.line_text.ensures c.in-Some.ensures.meaning c.in-Ok-run_line.ensures.ok;
      opened = λ opening is. c.run_line.ensures.opened opening (loop.opened opening is);
      number = omega (arith, loop.number, onward.0);
      limit = onward.1;
      source_faults = c.in-Ok-Line.ensures.faults ∙ loop.source_faults;
      sink_faults = c.in-Ok-run_line.ensures.faults ∙ loop.sink_faults;
      source_loans = c.in-Ok-Line.ensures.loans ∙ loop.source_loans;
      sink_loans = c.in-Ok-run_line.ensures.loans.0 ∙ loop.sink_loans;
      engine_loans = c.in-Ok-run_line.ensures.loans.1 ∙ loop.engine_loans;
    }
