use Rattle.std.proofs.Common.{◌∷◌, [], refl, inl, inr}
use Rattle.acts.proofs.Copying.{stays_on, copied_above}
use Rattle.acts.proofs.Growth.{steps_at, fails_at}
use Rattle.acts.proofs.turns.copy.Goals as goal

pub returns-in-Err-clause-acts : goal.returns-in-Err-clause-acts
returns-in-Err-clause-acts g c = c.loop-answer.invariant.goes_on [] _ _ (inl (
  refl,
  fails_at (g.E.EngineTells.opened c.args.engine.now) (g.E.EngineTells.opened c.loop-answer.engine) c.loop-answer.invariant.stays.opened _ _ c.in-Err.ensures.answer,
))

pub returns-in-None-clause-acts : goal.returns-in-None-clause-acts
returns-in-None-clause-acts g c = c.loop-answer.invariant.goes_on [] _ _ (inr (
  c.in-Ok.answer,
  c.in-None.ensures,
  refl,
  steps_at (g.E.EngineTells.opened c.args.engine.now) (g.E.EngineTells.opened c.loop-answer.engine) c.loop-answer.invariant.stays.opened _ _ _ c.in-Ok.ensures.answer,
))

pub checkpoint-requires : goal.checkpoint-requires
checkpoint-requires g c = record {
  whole = (c.requires.whole.0, c.loop-answer.invariant.stays.holds [] c.requires.whole.0 c.requires.whole.1);
}

pub loop-answer-preserved : goal.loop-answer-preserved
loop-answer-preserved g c = record {
  above = copied_above _ _ _ c.in-Ok.answer c.in-Some.page c.in-Some.ensures c.in-Ok.ensures.answer;
  stays = stays_on g.E.EngineTells _ c.loop-answer.engine _ c.loop-answer.invariant.stays c.checkpoint.ensures.stays;
  goes_on = λ answers told new rest. c.loop-answer.invariant.goes_on (c.in-Ok.answer ∷ answers) told new (
    g.E.EngineTells.state c.checkpoint.new.engine,
    c.in-Some.page,
    c.in-Some.ensures,
    steps_at (g.E.EngineTells.opened c.args.engine.now) (g.E.EngineTells.opened c.loop-answer.engine) c.loop-answer.invariant.stays.opened _ _ _ c.in-Ok.ensures.answer,
    rest,
  );
}
