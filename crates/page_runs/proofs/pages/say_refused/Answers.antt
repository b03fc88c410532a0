use Rattle.std.proofs.Common.{subst, ap, ◌∙◌, ◌++◌, inl}
use Rattle.page_runs.specs.declared.status.Status.TheVariants as ended
use Rattle.page_runs.specs.Outcome.{refused_text, SaysLast}
use Rattle.page_runs.proofs.pages.say_refused.Goals as goal

pub returns-in-Ok-clause-said : goal.returns-in-Ok-clause-said
returns-in-Ok-clause-said g c =
    inl (subst (λ line. SaysLast g.K.Sink line ended.ScriptRefused c.say_last.result c.args.out.now c.say_last.new.out)
    (c.deref.ensures.value ∙ (c.in-Ok.ensures.ok ∙ ap (λ front. front ++ refused_text c.args.number) c.clear.ensures.items))
    c.say_last.ensures.said)
