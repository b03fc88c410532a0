use Rattle.std.proofs.Common.{◌∙◌, ◌++◌, ap, inl, subst}
use Rattle.page_runs.specs.declared.status.Status.TheVariants as status
use Rattle.page_runs.specs.Outcome.{SaysLast}
use Rattle.disk_runs.specs.OnDisk.{database_refused}
use Rattle.disk_runs.proofs.on_disk.say_reason.Goals as goal

pub returns-in-Ok-clause-says : goal.returns-in-Ok-clause-says
returns-in-Ok-clause-says g c =
    inl (subst (λ line. SaysLast g.K.Sink line status.DatabaseRefused c.say_last.result c.args.out.now c.say_last.new.out)
    (c.deref.ensures.value ∙ (c.in-Ok.ensures ∙ ap (λ front. front ++ database_refused c.args.why.now) c.new-line.ensures.items))
    c.say_last.ensures.said)
