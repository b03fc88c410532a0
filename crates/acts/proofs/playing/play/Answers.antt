use Rattle.std.proofs.Common.{[], ◌∙◌}
use Rattle.std.proofs.lemmas.Result.{IfOk-weaker}
use Rattle.std.proofs.lemmas.List.Elements.{Contains-append_right}
use Rattle.acts.specs.Pagers.{pins_of}
use Rattle.acts.proofs.Answered.{rests_answered}
use Rattle.acts.proofs.Growth.{grew_all, grew_on}
use Rattle.acts.proofs.LoggedPlays.{plays_logged, runs_logged}
use Rattle.acts.proofs.playing.play.Goals as goal

pub returns-clause-grew : goal.returns-clause-grew
returns-clause-grew g c = grew_on _ _ _ c.play_on-answers.ensures.grew (grew_all (pins_of c.play_on-answers.new.pagers) _ _ c.end.ensures.ends)

pub returns-clause-live : goal.returns-clause-live
returns-clause-live g c = λ others lives. c.end.ensures.stays.holds [] others (c.play_on-answers.ensures.live others lives)

pub returns-clause-maps : goal.returns-clause-maps
returns-clause-maps g c = λ others pin lives there.
    c.end.ensures.stays.maps [] others pin (c.play_on-answers.ensures.live others lives)
    (Contains-append_right (pins_of c.play_on-answers.new.pagers) others pin there) there
    ∙ c.play_on-answers.ensures.maps others pin lives there

pub returns-clause-answers : goal.returns-clause-answers
returns-clause-answers g c = λ here world rests quiet.
    IfOk-weaker c.play_on-answers.result _ _
    (λ told plays said.
    rests_answered (g.E.EngineTells.opened c.args.engine.now) (g.E.EngineTells.state c.args.engine.now)
    (g.E.EngineTells.map_at c.args.engine.now) c.args.acts.now told.items (g.E.EngineTells.state c.end.new.engine) world here c.requires.range rests
    quiet said (plays (g.E.EngineTells.state c.end.new.engine) c.end.ensures.ends))
    c.play_on-answers.ensures.plays

pub returns-clause-logged : goal.returns-clause-logged
returns-clause-logged g c = λ alone logged stands.
    IfOk-weaker c.play_on-answers.result _ _
    (λ told plays.
    plays_logged (g.E.EngineTells.opened c.args.engine.now) (g.E.EngineTells.state c.args.engine.now)
    (g.E.EngineTells.map_at c.args.engine.now) [] c.args.acts.now told.items (g.E.EngineTells.state c.end.new.engine) logged c.requires.range
    (runs_logged (g.E.EngineTells.opened c.args.engine.now) (g.E.EngineTells.state c.args.engine.now) (g.E.EngineTells.map_at c.args.engine.now)
    logged alone c.requires.always stands (λ opening is. g.E.EngineTells.recovers c.args.engine.now opening is))
    (plays (g.E.EngineTells.state c.end.new.engine) c.end.ensures.ends))
    c.play_on-answers.ensures.plays
