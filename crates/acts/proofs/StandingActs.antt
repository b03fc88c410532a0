-- What an act over an engine does is what it does to the world.
use Rattle.std.proofs.Common.{◌≡◌, ◌∙◌, List, [], ◌∷◌, refl, ap, subst, inl, inr}
use Rattle.std.specs.Prelude.{Option, None}
use Rattle.page_spec.specs.PageMap.{PageMap}
use Rattle.engine_spec.specs.declared.pins.Ckpt.{Ckpt}
use Rattle.engine_spec.specs.declared.pins.Ckpt.TheVariants as checkpoint
use Rattle.engine_spec.specs.declared.commits.Commit.{Commit}
use Rattle.page_lines.specs.declared.lines.Act.{Act}
use Rattle.page_lines.specs.declared.lines.Act.TheVariants as act
use Rattle.page_lines.specs.declared.lines.Told.{Told}
use Rattle.page_lines.specs.declared.lines.Told.TheVariants as reply
use Rattle.engine_spec.specs.TwoLogs.{TwoLogs, told_logs}
use Rattle.crash_spec.specs.Opening.{Opening}
use Rattle.engine_spec.specs.State.{EngineState}
use Rattle.engine_spec.specs.Events.{Checkpoints}
use Rattle.page_lines.specs.World.{World, SessionState, Outcome, changed_at, map_number, newest_map, step, begin_step, read_step, write_step, commit_step, rollback_step, commit, committed, moved, decided, change_of, handed_in}
use Rattle.page_lines.specs.World as run
use Rattle.acts.specs.declared.seats.Seat.{Seat}
use Rattle.acts.specs.Pagers.{Between, Acts, StepActs, Copies, seat_state}
use Rattle.acts.specs.Playing.{IsOfSession}
use Rattle.acts.specs.Standing.{TellsMaps}
use Rattle.acts.proofs.Telling.{tells_as}
use Rattle.acts.proofs.Standing.{Stands, Leads, MindsNoLogs, stay, tells_same, never_steps}
use Rattle.acts.proofs.StandingStatements.{begin_acts, read_acts, write_acts, rollback_acts}
use Rattle.acts.proofs.StandingCommits.{commit_acts}

-- where there are no logs, a step of a checkpoint is idle and changes nothing
idles : (opened : Opening → Type 0) (old new : EngineState) (answer : Ckpt) (maps : List PageMap) (history : List Commit)
    → TellsMaps old maps history → old.logs ≡ None → Checkpoints opened old answer new → (answer ≡ checkpoint.Idle) × TellsMaps new maps history
idles opened old new answer maps history tells none checks =
    let there : (answer ≡ checkpoint.Idle) × (new.logs ≡ None) = rw none at checks.steps in
    (there.0, tells_as old new maps history old.faults new.logs old.readers new.disk checks.after_is tells)

-- one step of a checkpoint, at once
step_acts : (engine : Between) (seats after : List Seat) (world : World) (told : Told) → Stands engine seats after world
    → engine.old.logs ≡ None → after ≡ seats → StepActs engine told → Leads engine after told (run.same world (reply.Ckpt checkpoint.Idle))
step_acts engine seats after world told b none same acts = elim acts [
  | inl fails ↦ absurd (never_steps engine seats after world b fails.1)
  | inr answers ↦
      (let checks : Checkpoints engine.opened engine.old answers.0 engine.new =
      subst (λ (mid : EngineState). Checkpoints engine.opened mid answers.0 engine.new) (answers.2.1.nobody b.alone) answers.2.2 in
      let idle = idles engine.opened engine.old engine.new answers.0 world.maps world.history b.stands.tells none checks in
      (answers.1 ∙ ap reply.Ckpt idle.0, stay engine seats after world b same idle.1))
]

-- steps of a checkpoint until one copies no page: the first is idle
copy_acts : (engine : Between) (seats after : List Seat) (world : World) (told : Told) (answers : List Ckpt) → Stands engine seats after world
    → engine.old.logs ≡ None → after ≡ seats → Copies engine.opened answers engine.old told engine.new
    → Leads engine after told (run.same world (reply.Ckpt checkpoint.Idle))
copy_acts engine seats after world told [] b none same copies = elim copies [
  | inl fails ↦ absurd (never_steps engine seats after world b fails.1)
  | inr answers ↦ step_acts engine seats after world told b none same (inr (answers.0, answers.2, answers.3))
]
copy_acts engine seats after world told (answer ∷ answers) b none same copies =
    let checks : Checkpoints engine.opened engine.old answer copies.0 =
    subst (λ (mid : EngineState). Checkpoints engine.opened mid answer copies.0) (copies.3.1.nobody b.alone) copies.3.2 in
    let idle : answer ≡ checkpoint.Idle = (rw none at checks.steps).0 in
    let copied : answer ≡ checkpoint.Copied copies.1 = copies.2 in
    absurd cc

-- a look at no logs
logs_acts : (engine : Between) (seats after : List Seat) (world : World) (told : Told) → Stands engine seats after world
    → engine.old.logs ≡ None → Acts engine seats act.Logs told after → Leads engine after told (step world act.Logs)
logs_acts engine seats after world told b none acts =
    let old : acts.1.0 ≡ engine.old = acts.1.1.nobody b.alone in (
      acts.1.2.0 ∙ ap (λ (seen : EngineState). reply.Logs (told_logs seen.logs seen.history)) old
          ∙ ap (λ (logs : Option TwoLogs). reply.Logs (told_logs logs engine.old.history)) none,
      stay engine seats after world b acts.0 (tells_same engine seats after world b (acts.1.2.1 ∙ old)),
    )

-- where an act may look after the logs, there are none
no_logs : (seen : EngineState) (one : Act) (told : Told) → (IsOfSession one → ⊥) → MindsNoLogs seen one told → seen.logs ≡ None
no_logs seen one told never minds = elim minds [ inl none ↦ none | inr other ↦ absurd (never other.0) ]

-- An act over an engine that is alone and stands at a world is answered as the world is, and then the engine stands at the world
-- after it.
pub acts_stand : (engine : Between) (seats after : List Seat) (world : World) (one : Act) (told : Told) → Stands engine seats after world
    → MindsNoLogs engine.old one told → Acts engine seats one told after → Leads engine after told (step world one)
acts_stand engine seats after world (act.Begin s) told b minds acts =
    begin_acts engine seats after world s told (seat_state seats s) (world.sessions s) b (b.stands.sessions s) acts
acts_stand engine seats after world (act.Read s page) told b minds acts =
    read_acts engine seats after world s page told (seat_state seats s) (world.sessions s) b refl (b.stands.sessions s) acts
acts_stand engine seats after world (act.Write s page byte) told b minds acts =
    write_acts engine seats after world s page byte told (seat_state seats s) (world.sessions s) b refl (b.stands.sessions s) acts
acts_stand engine seats after world (act.Commit s) told b minds acts =
    commit_acts engine seats after world s told (seat_state seats s) (world.sessions s) b minds refl (b.stands.sessions s) acts
acts_stand engine seats after world (act.Rollback s) told b minds acts =
    rollback_acts engine seats after world s told (seat_state seats s) (world.sessions s) b (b.stands.sessions s) acts
acts_stand engine seats after world act.Copy told b minds acts =
    copy_acts engine seats after world told acts.0.0 b (no_logs engine.old act.Copy told (λ never. never) minds) acts.1 acts.0.1
acts_stand engine seats after world act.Step told b minds acts =
    step_acts engine seats after world told b (no_logs engine.old act.Step told (λ never. never) minds) acts.1 acts.0
acts_stand engine seats after world act.Logs told b minds acts =
    logs_acts engine seats after world told b (no_logs engine.old act.Logs told (λ never. never) minds) acts
