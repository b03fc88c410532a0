use Rattle.std.proofs.Common.{◌∙◌, ◌++◌, ap, inl, subst}
use Rattle.page_runs.specs.declared.status.Status.TheVariants as status
use Rattle.page_runs.specs.Outcome.{SaysLast}
use Rattle.disk_checks.specs.Checks.{count_line}
use Rattle.disk_checks.proofs.check.say_count.Goals as goal

pub returns-in-Ok-clause-says : goal.returns-in-Ok-clause-says
returns-in-Ok-clause-says g c =
    inl (subst (λ line. SaysLast g.K.Sink line status.Done c.say_last.result c.args.out.now c.say_last.new.out)
    (c.deref.ensures.value ∙ (c.in-Ok.ensures ∙ ap (λ front. front ++ count_line c.args.count) c.new-line.ensures.items))
    c.say_last.ensures.said)
