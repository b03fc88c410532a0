-- What a checkpoint's step, all its steps and a look at the logs do over an engine that keeps logs is what they do to the logged world.
use Rattle.std.proofs.Common.{◌≡◌, ◌∙◌, ℕ, ◌<◌, true, false, List, [], ◌∷◌, ◌++◌, refl, sym, ap, subst, inl, inr, arith}
use Rattle.std.specs.Prelude.{◌⊎◌, Option, Some}
use Rattle.std.proofs.lemmas.List.Elements.{Contains-append_left}
use Rattle.disk_face.specs.Faults.{Rose}
use Rattle.disk_face.specs.Steps.{History}
use Rattle.crash_spec.specs.Opening.{Opening}
use Rattle.engine_spec.specs.declared.commits.Commit.{Commit}
use Rattle.engine_spec.specs.declared.pins.Ckpt.{Ckpt}
use Rattle.engine_spec.specs.declared.pins.Ckpt.TheVariants as checkpoint
use Rattle.engine_spec.specs.Events.{Checkpoints, FailsInStep}
use Rattle.engine_spec.specs.Leaves.{AtEach}
use Rattle.engine_spec.specs.State.{EngineState}
use Rattle.engine_spec.specs.TwoLogs.{TwoLogs, IsNext, holders, other_frames, told_logs}
use Rattle.page_lines.specs.declared.lines.Act.TheVariants as act
use Rattle.page_lines.specs.declared.lines.Told.{Told}
use Rattle.page_lines.specs.declared.lines.Told.TheVariants as reply
use Rattle.page_lines.specs.Logged.{LoggedWorld, LogsOutcome, FailsToCopy, FailsIn, checked, copies_all, greatest, logged_step, may_leave, unless_held}
use Rattle.acts.specs.declared.seats.Seat.{Seat}
use Rattle.acts.specs.Logged.{TellsLogged, FindsLogged}
use Rattle.acts.specs.Pagers.{Between, StepActs, Copies, CopyActs, Acts}
use Rattle.page_lines.proofs.LoggedMoments.{at_joined, at_wider}
use Rattle.acts.proofs.LoggedStanding.{GoesWell, GoesWrong, still, stays, tells_same, at_once}
use Rattle.acts.proofs.LoggedSteps.{TakesOne, FailsOne, takes_one, fails_one, step_is, last_is, free_is}
use Rattle.acts.proofs.PagesAbove.{greatest_from}

-- what a crash leaves before an act is among what it leaves before or after it
leaves_wider : (opened : Opening → Type 0) (logged next : LoggedWorld) (old new : Option History) → AtEach opened (may_leave logged) old new
    → AtEach opened (may_leave logged ++ may_leave next) old new
leaves_wider opened logged next old new at =
    at_wider opened (may_leave logged) (may_leave logged ++ may_leave next)
    (λ pages there. Contains-append_left (may_leave logged) (may_leave next) pages there) old new at

-- Steps that went well: the answer and the logs that an outcome says, and no fault.
record StepsWell (opened : Opening → Type 0) (old : EngineState) (logged : LoggedWorld) (told : Told) (outcome : LogsOutcome) (new : EngineState) : Type 0 where
  pub told_is : told ≡ reply.Ckpt outcome.answer
  pub tells : TellsLogged new (record logged { logs = outcome.logs })
  pub faults : new.faults ≡ old.faults
  pub moments : AtEach opened (may_leave logged) old.disk new.disk

-- Steps of which one failed, when some pages were copied.
record StepsWrong (opened : Opening → Type 0) (old : EngineState) (logged : LoggedWorld) (told : Told) (new : EngineState) : Type 0 where
  pub next : LoggedWorld
  pub told_is : told ≡ reply.Disk
  pub fails : FailsToCopy logged next
  pub tells : TellsLogged new next
  pub world : next.world ≡ logged.world
  pub locks : next.locks ≡ logged.locks
  pub rose : Rose old.faults new.faults
  pub moments : AtEach opened (may_leave logged) old.disk new.disk

-- one step that went well
well_one : (opened : Opening → Type 0) (old new : EngineState) (logged : LoggedWorld) (answer : Ckpt) (told : Told) (outcome : LogsOutcome)
    → told ≡ reply.Ckpt answer → (one : TakesOne opened old logged answer new) → outcome ≡ record { answer = answer; logs = one.next }
    → StepsWell opened old logged told outcome new
well_one opened old new logged answer told outcome is one same =
    subst (λ (o : LogsOutcome). StepsWell opened old logged told o new) (sym same)
    (record { told_is = is; tells = one.tells; faults = one.faults; moments = one.moments })

-- one step that failed
wrong_one : (opened : Opening → Type 0) (old new : EngineState) (logged : LoggedWorld) (told : Told) → told ≡ reply.Disk
    → FailsOne opened old logged new → StepsWrong opened old logged told new
wrong_one opened old new logged told is fails = record {
  next = logged;
  told_is = is;
  fails = inl refl;
  tells = fails.tells;
  world = refl;
  locks = refl;
  rose = fails.rose;
  moments = fails.moments;
}

-- Where the first step copied a page, all go well as they do from there.
well_more : (opened : Opening → Type 0) (old mid new : EngineState) (logged : LoggedWorld) (page : ℕ) (told : Told) (next : TwoLogs)
    → logged.logs.done ≡ false → holders logged.logs logged.readers ≡ 0 → IsNext logged.logs logged.world.history page
    → next ≡ record logged.logs { copied = page } → mid.faults ≡ old.faults → AtEach opened (may_leave logged) old.disk mid.disk
    → StepsWell opened mid (record logged { logs = next }) told (unless_held next logged.readers (copies_all next logged.world.history)) new
    → StepsWell opened old logged told (unless_held logged.logs logged.readers (copies_all logged.logs logged.world.history)) new
well_more opened old mid new logged page told next pending free first is faults moments rest =
    let history = logged.world.history in
    let logs = logged.logs in
    let then : TwoLogs = record logs { copied = page } in
    let all : greatest page (other_frames logs history) ≡ greatest logs.copied (other_frames logs history) =
    greatest_from logs.copied page (other_frames logs history) first.there (omega (arith, first.above)) in
    let same : unless_held next logged.readers (copies_all next history) ≡ unless_held logs logged.readers (copies_all logs history) =
    ap (λ (l : TwoLogs). unless_held l logged.readers (copies_all l history)) is
    ∙ free_is then logged.readers (copies_all then history) pending free
    ∙ ap (λ (last : ℕ). record { answer = checkpoint.Finished; logs = record logs { copied = last; done = true } }) all
    ∙ sym (free_is logs logged.readers (copies_all logs history) pending free) in
    let told_so : StepsWell opened mid (record logged { logs = next }) told (unless_held logs logged.readers (copies_all logs history)) new =
    subst (λ (o : LogsOutcome). StepsWell opened mid (record logged { logs = next }) told o new) same rest in
    record {
      told_is = told_so.told_is;
      tells = told_so.tells;
      faults = told_so.faults ∙ faults;
      moments = at_joined opened (may_leave logged) old.disk mid.disk new.disk moments told_so.moments;
    }

-- what was left when a later step failed is left
fails_more : (logged after : LoggedWorld) (page : ℕ) → logged.logs.done ≡ false → holders logged.logs logged.readers ≡ 0
    → IsNext logged.logs logged.world.history page → FailsToCopy (record logged { logs = record logged.logs { copied = page } }) after
    → FailsToCopy logged after
fails_more logged after page pending free first (inl same) =
    inr (page, record { pending = pending; free = free; there = first.there; above = first.above }, same)
fails_more logged after page pending free first (inr (last, has, same)) =
    let over : page < last = has.above in
    inr (last, record { pending = pending; free = free; there = has.there; above = omega (arith, first.above, over) }, same)

-- Where the first step copied a page and a later one failed.
wrong_more : (opened : Opening → Type 0) (old mid new : EngineState) (logged : LoggedWorld) (page : ℕ) (told : Told) (next : TwoLogs)
    → logged.logs.done ≡ false → holders logged.logs logged.readers ≡ 0 → IsNext logged.logs logged.world.history page
    → next ≡ record logged.logs { copied = page } → mid.faults ≡ old.faults → AtEach opened (may_leave logged) old.disk mid.disk
    → StepsWrong opened mid (record logged { logs = next }) told new → StepsWrong opened old logged told new
wrong_more opened old mid new logged page told next pending free first is faults moments rest = record {
  next = rest.next;
  told_is = rest.told_is;
  fails = fails_more logged rest.next page pending free first
      (subst (λ (l : TwoLogs). FailsToCopy (record logged { logs = l }) rest.next) is rest.fails);
  tells = rest.tells;
  world = rest.world;
  locks = rest.locks;
  rose = subst (λ (n : ℕ). Rose n new.faults) faults rest.rose;
  moments = at_joined opened (may_leave logged) old.disk mid.disk new.disk moments rest.moments;
}

-- Steps one after another, until one copies no page, or fails.
copies_so : (opened : Opening → Type 0) (answers : List Ckpt) (old new : EngineState) (logged : LoggedWorld) (told : Told) → old.alone ≡ true
    → TellsLogged old logged → Copies opened answers old told new
    → StepsWell opened old logged told (unless_held logged.logs logged.readers (copies_all logged.logs logged.world.history)) new
    ⊎ StepsWrong opened old logged told new
copies_so opened [] old new logged told alone tells (inl (is, (mid, later, fails))) =
    inr (wrong_one opened old new logged told is
    (fails_one opened old new logged tells (subst (λ (seen : EngineState). FailsInStep opened seen new) (later.nobody alone) fails)))
copies_so opened [] old new logged told alone tells (inr (answer, last, is, (mid, later, checks))) =
    let one : TakesOne opened old logged answer new =
    takes_one opened old new logged answer tells (subst (λ (seen : EngineState). Checkpoints opened seen answer new) (later.nobody alone) checks) in
    inl (well_one opened old new logged answer told _ is one (last_is logged.logs logged.readers logged.world.history answer one.next one.steps last))
copies_so opened (answer ∷ answers) old new logged told alone tells (copied, page, is, (mid, later, checks), rest) =
    let here : Checkpoints opened old (checkpoint.Copied page) copied =
    subst (λ (a : Ckpt). Checkpoints opened old a copied) is
    (subst (λ (seen : EngineState). Checkpoints opened seen answer copied) (later.nobody alone) checks) in
    let one : TakesOne opened old logged (checkpoint.Copied page) copied = takes_one opened old copied logged (checkpoint.Copied page) tells here in
    let steps = one.steps in
    elim (copies_so opened answers copied new (record logged { logs = one.next }) told (one.alone ∙ alone) one.tells rest) [
      | inl well ↦
          inl (well_more opened old copied new logged page told one.next steps.0 steps.1 steps.2 steps.3 one.faults one.moments well)
      | inr wrong ↦
          inr (wrong_more opened old copied new logged page told one.next steps.0 steps.1 steps.2 steps.3 one.faults one.moments wrong)
    ]

-- such steps are an act
well_act : (engine : Between) (seats after : List Seat) (logged : LoggedWorld) (told : Told) (outcome : LogsOutcome)
    → FindsLogged engine seats after logged → after ≡ seats → StepsWell engine.opened engine.old logged told outcome engine.new
    → GoesWell engine after logged told (checked logged outcome)
well_act engine seats after logged told outcome b same well = record {
  answer_is = well.told_is;
  faults = well.faults;
  moments = leaves_wider engine.opened logged (record logged { logs = outcome.logs }) engine.old.disk engine.new.disk well.moments;
  stands = stays engine seats after logged (record logged { logs = outcome.logs }) b same well.tells refl refl;
}

wrong_act : (engine : Between) (seats after : List Seat) (logged : LoggedWorld) (told : Told) → FindsLogged engine seats after logged
    → after ≡ seats → StepsWrong engine.opened engine.old logged told engine.new → GoesWrong engine after logged told (FailsToCopy logged)
wrong_act engine seats after logged told b same wrong = record {
  next = wrong.next;
  answer_is = wrong.told_is;
  fails = wrong.fails;
  rose = wrong.rose;
  moments = leaves_wider engine.opened logged wrong.next engine.old.disk engine.new.disk wrong.moments;
  stands = stays engine seats after logged wrong.next b same wrong.tells wrong.world wrong.locks;
}

-- CHECKPOINT
pub copy_logged : (engine : Between) (seats after : List Seat) (logged : LoggedWorld) (told : Told) → FindsLogged engine seats after logged
    → after ≡ seats → CopyActs engine told
    → GoesWell engine after logged told (logged_step logged act.Copy) ⊎ GoesWrong engine after logged told (FailsIn logged act.Copy)
copy_logged engine seats after logged told b same (answers, all) =
    elim (copies_so engine.opened answers engine.old engine.new logged told b.alone b.stands.tells all) [
      | inl well ↦ inl (well_act engine seats after logged told _ b same well)
      | inr wrong ↦ inr (wrong_act engine seats after logged told b same wrong)
    ]

-- one step
pub one_logged : (engine : Between) (seats after : List Seat) (logged : LoggedWorld) (told : Told) → FindsLogged engine seats after logged
    → after ≡ seats → StepActs engine told
    → GoesWell engine after logged told (logged_step logged act.Step) ⊎ GoesWrong engine after logged told (FailsIn logged act.Step)
one_logged engine seats after logged told b same (inl (is, found)) =
    let fails : FailsOne engine.opened engine.old logged engine.new =
    fails_one engine.opened engine.old engine.new logged b.stands.tells
    (at_once engine seats after logged (λ (mid : EngineState). FailsInStep engine.opened mid engine.new) b found) in
    inr (record {
      next = logged;
      answer_is = is;
      fails = refl;
      rose = fails.rose;
      moments = leaves_wider engine.opened logged logged engine.old.disk engine.new.disk fails.moments;
      stands = stays engine seats after logged logged b same fails.tells refl refl;
    })
one_logged engine seats after logged told b same (inr (answer, is, found)) =
    let one : TakesOne engine.opened engine.old logged answer engine.new =
    takes_one engine.opened engine.old engine.new logged answer b.stands.tells
    (at_once engine seats after logged (λ (mid : EngineState). Checkpoints engine.opened mid answer engine.new) b found) in
    inl (well_act engine seats after logged told _ b same
    (well_one engine.opened engine.old engine.new logged answer told _ is one
    (step_is logged.logs logged.readers logged.world.history answer one.next one.steps)))

-- a look at the logs
pub look_logged : (engine : Between) (seats after : List Seat) (logged : LoggedWorld) (told : Told) → FindsLogged engine seats after logged
    → Acts engine seats act.Logs told after → GoesWell engine after logged told (logged_step logged act.Logs)
look_logged engine seats after logged told b (same, found) =
    let tells = b.stands.tells in
    let now : (told ≡ reply.Logs (told_logs engine.old.logs engine.old.history)) × (engine.new ≡ engine.old) =
    at_once engine seats after logged (λ (mid : EngineState). (told ≡ reply.Logs (told_logs mid.logs mid.history)) × (engine.new ≡ mid)) b found in
    record {
      answer_is = now.0 ∙ ap (λ (logs : Option TwoLogs). reply.Logs (told_logs logs engine.old.history)) tells.logs
          ∙ ap (λ (history : List Commit). reply.Logs (told_logs (Some logged.logs) history)) tells.history_is;
      faults = ap (λ (seen : EngineState). seen.faults) now.1;
      moments = still engine seats after logged logged b (ap (λ (seen : EngineState). seen.disk) now.1);
      stands = stays engine seats after logged logged b same
          (tells_same engine.old engine.new logged logged now.1 refl refl refl refl refl tells) refl refl;
    }
