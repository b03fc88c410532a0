use Rattle.std.proofs.Common.{◌∙◌, ◌++◌, ap}
use Rattle.page_lines.specs.Reply.{reply_text}
use Rattle.page_runs.proofs.Replied.{leaves_one, leaves_unsaid}
use Rattle.page_runs.proofs.pages.answer.Goals as goal

pub returns-in_default-told_text-clause-err : goal.returns-in_default-told_text-clause-err
returns-in_default-told_text-clause-err g c =
    leaves_unsaid g.E.EngineTells c.args.sessions.now c.act.new.self c.args.act c.in-Ok.told (g.K.Sink.written c.args.out.now) c.in-Ok.ensures.answered

pub returns-in-Err-clause-err : goal.returns-in-Err-clause-err
returns-in-Err-clause-err g c =
    leaves_one g.E.EngineTells c.args.sessions.now c.act.new.self c.args.act c.in-Ok.told c.deref.result.now (g.K.Sink.written c.args.out.now)
    (g.K.Sink.written c.write_all.new.out) c.in-Ok.ensures.answered
    (c.deref.ensures.value ∙ (c.in-Ok-told_text.ensures.ok ∙ (ap (λ front. front ++ reply_text c.session_of.result c.in-Ok.told) c.clear.ensures.items
    ∙ ap (λ session. reply_text session c.in-Ok.told) c.session_of.ensures)))
    (c.in-Err.ensures.err.0, c.in-Err.ensures.err.2)
