use Rattle.std.proofs.Common.{◌<◌, ◌∙◌, List, [], ◌∷◌, ◌++◌, length, get_or, refl, sym, subst, arith}
use Rattle.std.proofs.lemmas.List.{append-nil, get_or_default}
use Rattle.page_lines.specs.declared.lines.Act.{Act}
use Rattle.page_lines.specs.declared.lines.Act.TheVariants.{Begin}
use Rattle.page_lines.specs.declared.lines.Told.{Told}
use Rattle.acts.specs.declared.seats.Seat.{Seat}
use Rattle.acts.specs.Pagers.{AreSound, Plays, pins_of}
use Rattle.acts.proofs.Growth.{acts_go, grew_equal, grew_still, grew_on}
use Rattle.acts.proofs.Runs.{answers_on, keeps_next, maps_next, none_left, plays_next}
use Rattle.acts.proofs.playing.play_on.Goals as goal

pub loop-act-init : goal.loop-act-init
loop-act-init g c = record {
  plays = λ told new rest.
      subst (λ (list : List Told). Plays (g.E.EngineTells.opened c.args.engine.now) (g.E.EngineTells.state c.args.engine.now)
      (g.E.EngineTells.map_at c.args.engine.now) [] c.args.acts.now (list ++ told) new) (sym c.new-answers.ensures.items)
      (subst (λ (seats : List Seat). Plays (g.E.EngineTells.opened c.args.engine.now) (g.E.EngineTells.state c.args.engine.now)
      (g.E.EngineTells.map_at c.args.engine.now) seats c.args.acts.now told new) c.requires.none rest);
  grew = grew_equal (g.E.EngineTells.state c.args.engine.now) (g.E.EngineTells.state c.args.engine.now) refl;
  always = c.requires.always;
  pages = c.requires.pages;
  page_size = refl;
  sound = subst (λ (seats : List Seat). AreSound (g.E.EngineTells.state c.args.engine.now).page_size seats) (sym c.requires.none)
      (λ k d within. absurd (omega arith));
  live = λ others lives. subst (λ (seats : List Seat). g.E.EngineTells.live c.args.engine.now (pins_of seats ++ others)) (sym c.requires.none) lives;
  maps = λ others pin lives there. refl;
  runs = λ first begun. begun;
  alone = refl;
  opened = λ one is. is;
  references = refl;
}

pub loop-act-preserved : goal.loop-act-preserved
loop-act-preserved g c =
    let acted = c.in_ok-act.ensures in
    let before = c.loop-act.invariant in
    let within : c.loop-act.act-index < length c.args.acts.now = omega arith in
    record {
      plays = λ told new rest.
          subst (λ (list : List Told). Plays (g.E.EngineTells.opened c.args.engine.now) (g.E.EngineTells.state c.args.engine.now)
          (g.E.EngineTells.map_at c.args.engine.now) [] c.args.acts.now list new)
          (answers_on c.loop-act.answers.items c.push.new.self.items c.in_ok-act.field-0 told c.in_ok-push.ensures.items)
          (before.plays (c.in_ok-act.field-0 ∷ told) new
          (plays_next (g.E.EngineTells.opened c.args.engine.now) (g.E.EngineTells.opened c.loop-act.engine)
          (g.E.EngineTells.state c.loop-act.engine) (g.E.EngineTells.state c.act.new.engine) new (g.E.EngineTells.map_at c.loop-act.engine) (g.E.EngineTells.map_at c.act.new.engine)
          c.loop-act.pagers c.act.new.self c.args.acts.now c.loop-act.act-index (get_or c.args.acts.now c.loop-act.act-index (Begin 0)) c.in_ok-act.field-0 told within
          (get_or_default c.args.acts.now c.loop-act.act-index (Begin 0) (get_or c.args.acts.now c.loop-act.act-index (Begin 0)) within) before.opened acted.acts
          (keeps_next g.E.EngineTells.live g.E.EngineTells.map_at c.loop-act.engine c.act.new.engine c.loop-act.pagers c.act.new.self
          (before.live [] c.requires.live) acted.maps) (λ opening is. g.E.EngineTells.recovers c.act.new.engine opening (acted.opened opening is)) rest));
      grew = grew_on _ _ _ before.grew (acts_go (g.E.EngineTells.opened c.loop-act.engine) (g.E.EngineTells.state c.loop-act.engine)
          (g.E.EngineTells.state c.act.new.engine) (g.E.EngineTells.map_at c.loop-act.engine) (g.E.EngineTells.map_at c.act.new.engine) c.loop-act.pagers
          (get_or c.args.acts.now c.loop-act.act-index (Begin 0)) c.in_ok-act.field-0 c.act.new.self acted.acts).grew;
      always = acted.always;
      pages = acted.pages;
      page_size = acted.page_size ∙ before.page_size;
      sound = acted.sound;
      live = λ others lives. acted.live others (before.live others lives);
      maps = maps_next g.E.EngineTells.live g.E.EngineTells.map_at c.args.engine.now c.loop-act.engine c.act.new.engine c.loop-act.pagers c.act.new.self
          before.live before.maps acted.maps;
      runs = λ first begun. acted.runs first (before.runs first begun);
      alone = acted.alone ∙ before.alone;
      opened = λ one is. acted.opened one (before.opened one is);
      references = acted.loans ∙ before.references;
    }

pub returns-in_err-act-clause-grew : goal.returns-in_err-act-clause-grew
returns-in_err-act-clause-grew g c = grew_on _ _ _ c.loop-act.invariant.grew (grew_still _ _ c.in_err-act.ensures.wanting)

pub returns-in_err-act-clause-maps : goal.returns-in_err-act-clause-maps
returns-in_err-act-clause-maps g c =
    maps_next g.E.EngineTells.live g.E.EngineTells.map_at c.args.engine.now c.loop-act.engine c.act.new.engine c.loop-act.pagers c.act.new.self
    c.loop-act.invariant.live c.loop-act.invariant.maps c.in_err-act.ensures.maps

pub returns-in_err-push-clause-grew : goal.returns-in_err-push-clause-grew
returns-in_err-push-clause-grew g c = grew_on _ _ _ c.loop-act.invariant.grew (acts_go (g.E.EngineTells.opened c.loop-act.engine) (g.E.EngineTells.state c.loop-act.engine)
    (g.E.EngineTells.state c.act.new.engine) (g.E.EngineTells.map_at c.loop-act.engine) (g.E.EngineTells.map_at c.act.new.engine) c.loop-act.pagers
    (get_or c.args.acts.now c.loop-act.act-index (Begin 0)) c.in_ok-act.field-0 c.act.new.self c.in_ok-act.ensures.acts).grew

pub returns-in_err-push-clause-maps : goal.returns-in_err-push-clause-maps
returns-in_err-push-clause-maps g c =
    maps_next g.E.EngineTells.live g.E.EngineTells.map_at c.args.engine.now c.loop-act.engine c.act.new.engine c.loop-act.pagers c.act.new.self
    c.loop-act.invariant.live c.loop-act.invariant.maps c.in_ok-act.ensures.maps

pub returns-clause-plays : goal.returns-clause-plays
returns-clause-plays g c = λ new ends.
    subst (λ (list : List Told). Plays (g.E.EngineTells.opened c.args.engine.now) (g.E.EngineTells.state c.args.engine.now)
    (g.E.EngineTells.map_at c.args.engine.now) [] c.args.acts.now list new) (append-nil c.loop-act.answers.items)
    (c.loop-act.invariant.plays [] new
    (subst (λ (left : List Act). Plays (g.E.EngineTells.opened c.args.engine.now) (g.E.EngineTells.state c.loop-act.engine)
    (g.E.EngineTells.map_at c.loop-act.engine) c.loop-act.pagers left [] new)
    (sym (none_left c.args.acts.now c.loop-act.act-index (omega arith))) ends))
