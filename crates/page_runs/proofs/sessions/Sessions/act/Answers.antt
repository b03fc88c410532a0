use Rattle.std.proofs.Common.{◌∙◌, subst, IfOk}
use Rattle.std.proofs.lemmas.Result.{IfOk-weaker}
use Rattle.page_runs.specs.Sessions.{Seated, IsAnswered}
use Rattle.page_runs.proofs.Acting.{live_alone, maps_alone}
use Rattle.page_runs.proofs.sessions.Sessions.act.Goals as goal

pub invariant_of-self : goal.invariant_of-self
invariant_of-self g c = record {
  alone = c.act.ensures.alone ∙ c.self.invariant.alone;
  always = c.act.ensures.always;
  pages = c.act.ensures.pages;
  sound = c.act.ensures.sound;
  live = live_alone g.E.EngineTells.live c.self.inside.engine c.act.new.engine c.self.inside.pagers c.act.new.self c.act.ensures.live c.self.invariant.live;
}

pub returns-clause-answered : goal.returns-clause-answered
returns-clause-answered g c =
    subst (λ (old : Seated g.row.E.Denot). IfOk c.act.result (λ told. IsAnswered g.E.EngineTells old c.args.act told (record { engine = c.act.new.engine; seats = c.act.new.self })))
    c.self.view_is
    (IfOk-weaker c.act.result _ _ (λ told acts. record {
      acts = acts;
      maps = maps_alone g.E.EngineTells.live g.E.EngineTells.map_at c.self.inside.engine c.act.new.engine c.self.inside.pagers c.act.new.self
          c.self.invariant.live c.act.ensures.maps;
      opened = c.act.ensures.opened;
    }) c.act.ensures.acts)
