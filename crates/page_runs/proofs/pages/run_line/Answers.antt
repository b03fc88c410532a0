use Rattle.page_runs.proofs.Replied.{answers_line, leaves_line}
use Rattle.page_runs.proofs.pages.run_line.Goals as goal

pub returns-in-Some-clause-ok : goal.returns-in-Some-clause-ok
returns-in-Some-clause-ok g c =
    answers_line g.E.EngineTells c.args.sessions.now c.answer.new.sessions c.args.line c.in-Some.act (g.K.Sink.written c.args.out.now)
    (g.K.Sink.written c.answer.new.out) c.answer.result c.in-Some.ensures c.answer.ensures.ok

pub returns-in-Some-clause-err : goal.returns-in-Some-clause-err
returns-in-Some-clause-err g c =
    leaves_line g.E.EngineTells c.args.sessions.now c.answer.new.sessions c.args.line c.in-Some.act (g.K.Sink.written c.args.out.now)
    (g.K.Sink.written c.answer.new.out) c.answer.result c.in-Some.ensures c.answer.ensures.err
