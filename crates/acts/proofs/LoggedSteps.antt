-- One step of a checkpoint of two logs: the declared steps and the computed ones.
use Rattle.std.proofs.Common.{◌≡◌, ◌∙◌, ℕ, ◌<◌, Bool, true, false, cond, eqb, List, refl, sym, ap, subst, inl, arith, eq-eqb, Option, Some, None}
use Rattle.std.proofs.lemmas.Bool.{ne_eqb}
use Rattle.disk_face.specs.Faults.{Rose}
use Rattle.page_spec.specs.PageMap.{PageMap}
use Rattle.crash_spec.specs.Opening.{Opening}
use Rattle.engine_spec.specs.declared.commits.Commit.{Commit}
use Rattle.engine_spec.specs.declared.pins.Ckpt.{Ckpt}
use Rattle.engine_spec.specs.declared.pins.Ckpt.TheVariants as checkpoint
use Rattle.engine_spec.specs.declared.pins.Readers.{Readers}
use Rattle.engine_spec.specs.Events.{Checkpoints, ChecksLogs, FailsInStep}
use Rattle.engine_spec.specs.Leaves.{AtEach}
use Rattle.engine_spec.specs.State.{EngineState}
use Rattle.engine_spec.specs.TwoLogs.{TwoLogs, Steps, holders, other_frames}
use Rattle.page_lines.specs.Logged.{LoggedWorld, LogsOutcome, copies, copies_all, greatest, least_above, may_leave, unless_held}
use Rattle.acts.specs.Logged.{TellsLogged}
use Rattle.acts.specs.Pagers.{IsLast}
use Rattle.acts.proofs.LoggedStanding.{leaves_is, tells_as}
use Rattle.acts.proofs.PagesAbove.{greatest_is, least_is, none_above}

-- a step that is idle
idle_is : (logs : TwoLogs) (readers : Readers) (outcome : LogsOutcome) → logs.done ≡ true
    → unless_held logs readers outcome ≡ record { answer = checkpoint.Idle; logs = logs }
idle_is logs readers outcome done =
    ap (λ (test : Bool). cond test (record { answer = checkpoint.Idle; logs = logs })
    (cond (eqb (holders logs readers) 0) outcome (record { answer = checkpoint.Held (holders logs readers); logs = logs }))) done

-- one that is held
held_is : (logs : TwoLogs) (readers : Readers) (outcome : LogsOutcome) → logs.done ≡ false → 0 < holders logs readers
    → unless_held logs readers outcome ≡ record { answer = checkpoint.Held (holders logs readers); logs = logs }
held_is logs readers outcome done some =
    ap (λ (test : Bool). cond test (record { answer = checkpoint.Idle; logs = logs })
    (cond (eqb (holders logs readers) 0) outcome (record { answer = checkpoint.Held (holders logs readers); logs = logs }))) done
    ∙ ap (λ (test : Bool). cond test outcome (record { answer = checkpoint.Held (holders logs readers); logs = logs }))
    (ne_eqb (holders logs readers) 0 (λ none. absurd (omega arith)))

-- and one that may copy
pub free_is : (logs : TwoLogs) (readers : Readers) (outcome : LogsOutcome) → logs.done ≡ false → holders logs readers ≡ 0
    → unless_held logs readers outcome ≡ outcome
free_is logs readers outcome done none =
    ap (λ (test : Bool). cond test (record { answer = checkpoint.Idle; logs = logs })
    (cond (eqb (holders logs readers) 0) outcome (record { answer = checkpoint.Held (holders logs readers); logs = logs }))) done
    ∙ ap (λ (test : Bool). cond test outcome (record { answer = checkpoint.Held (holders logs readers); logs = logs }))
    (eq-eqb (holders logs readers) 0 none)

-- what one step is answered, and the logs after it
pub step_is : (logs : TwoLogs) (readers : Readers) (history : List Commit) (answer : Ckpt) (next : TwoLogs) → Steps logs readers history answer next
    → unless_held logs readers (copies logs (least_above logs.copied (other_frames logs history))) ≡ record { answer = answer; logs = next }
step_is logs readers history checkpoint.Idle next (done, same) =
    idle_is logs readers _ done ∙ ap (λ (now : TwoLogs). record { answer = checkpoint.Idle; logs = now }) (sym same)
step_is logs readers history (checkpoint.Held count) next (done, counted, some, same) =
    held_is logs readers _ done (subst (λ (n : ℕ). 0 < n) counted some)
    ∙ (λ i. record { answer = checkpoint.Held (sym counted i); logs = sym same i })
step_is logs readers history (checkpoint.Copied page) next (done, free, first, after) =
    free_is logs readers _ done free
    ∙ ap (copies logs) (least_is logs.copied (other_frames logs history) page
    (record { there = first.there; above = first.above; least = first.least }))
    ∙ ap (λ (now : TwoLogs). record { answer = checkpoint.Copied page; logs = now }) (sym after)
step_is logs readers history checkpoint.Finished next (done, free, none, after) =
    free_is logs readers _ done free
    ∙ ap (copies logs) (none_above logs.copied (other_frames logs history) none)
    ∙ ap (λ (now : TwoLogs). record { answer = checkpoint.Finished; logs = now }) (sym after)

-- what all steps are answered where the first copies no page
pub last_is : (logs : TwoLogs) (readers : Readers) (history : List Commit) (answer : Ckpt) (next : TwoLogs) → Steps logs readers history answer next
    → IsLast answer → unless_held logs readers (copies_all logs history) ≡ record { answer = answer; logs = next }
last_is logs readers history checkpoint.Idle next (done, same) last =
    idle_is logs readers _ done ∙ ap (λ (now : TwoLogs). record { answer = checkpoint.Idle; logs = now }) (sym same)
last_is logs readers history (checkpoint.Held count) next (done, counted, some, same) last =
    held_is logs readers _ done (subst (λ (n : ℕ). 0 < n) counted some)
    ∙ (λ i. record { answer = checkpoint.Held (sym counted i); logs = sym same i })
last_is logs readers history (checkpoint.Copied page) next steps last = absurd last
last_is logs readers history checkpoint.Finished next (done, free, none, after) last =
    let all : greatest logs.copied (other_frames logs history) ≡ logs.copied =
    greatest_is logs.copied (other_frames logs history) logs.copied (record { least = omega arith; all = none; one_of = inl refl }) in
    free_is logs readers _ done free
    ∙ ap (λ (page : ℕ). record { answer = checkpoint.Finished; logs = record logs { copied = page; done = true } }) all
    ∙ ap (λ (now : TwoLogs). record { answer = checkpoint.Finished; logs = now }) (sym after)

-- A step of a checkpoint of an engine that tells of a logged world.
pub record TakesOne (opened : Opening → Type 0) (old : EngineState) (logged : LoggedWorld) (answer : Ckpt) (new : EngineState) : Type 0 where
  pub next : TwoLogs
  pub steps : Steps logged.logs logged.readers logged.world.history answer next
  pub tells : TellsLogged new (record logged { logs = next })
  pub faults : new.faults ≡ old.faults
  pub moments : AtEach opened (may_leave logged) old.disk new.disk
  pub alone : new.alone ≡ old.alone

-- the steps of logs that are told
steps_told : (readers : Readers) (history : List Commit) (old : Option TwoLogs) (answer : Ckpt) (new : Option TwoLogs) (logs : TwoLogs)
    → old ≡ Some logs → ChecksLogs readers history old answer new → (next : TwoLogs) × (new ≡ Some next) × Steps logs readers history answer next
steps_told readers history old answer new logs is checks =
    by_new new (subst (λ (told : Option TwoLogs). ChecksLogs readers history told answer new) is checks)
  where
    by_new : (told : Option TwoLogs) → ChecksLogs readers history (Some logs) answer told
        → (next : TwoLogs) × (told ≡ Some next) × Steps logs readers history answer next
    by_new None never = absurd never
    by_new (Some next) steps = (next, refl, steps)

pub takes_one : (opened : Opening → Type 0) (old new : EngineState) (logged : LoggedWorld) (answer : Ckpt) → TellsLogged old logged
    → Checkpoints opened old answer new → TakesOne opened old logged answer new
takes_one opened old new logged answer tells checks =
    let told = steps_told old.readers old.history old.logs answer new.logs logged.logs tells.logs checks.steps in
    record {
      next = told.0;
      steps = subst (λ (readers : Readers). Steps logged.logs readers logged.world.history answer told.0) tells.readers
          (subst (λ (history : List Commit). Steps logged.logs old.readers history answer told.0) tells.history_is told.2);
      tells = tells_as old new logged (record logged { logs = told.0 }) old.stopped old.faults new.logs old.readers new.disk checks.after_is
          refl refl tells.stopped told.1 tells.readers tells;
      faults = ap (λ (seen : EngineState). seen.faults) checks.after_is;
      moments = subst (λ (maps : List PageMap). AtEach opened maps old.disk new.disk) (leaves_is old logged tells) checks.moments;
      alone = ap (λ (seen : EngineState). seen.alone) checks.after_is;
    }

-- A step that failed, of such an engine.
pub record FailsOne (opened : Opening → Type 0) (old : EngineState) (logged : LoggedWorld) (new : EngineState) : Type 0 where
  pub tells : TellsLogged new logged
  pub rose : Rose old.faults new.faults
  pub moments : AtEach opened (may_leave logged) old.disk new.disk

pub fails_one : (opened : Opening → Type 0) (old new : EngineState) (logged : LoggedWorld) → TellsLogged old logged
    → FailsInStep opened old new → FailsOne opened old logged new
fails_one opened old new logged tells fails = record {
  tells = tells_as old new logged logged old.stopped new.faults old.logs old.readers new.disk fails.after_is refl refl tells.stopped tells.logs
      tells.readers tells;
  rose = fails.rose;
  moments = subst (λ (maps : List PageMap). AtEach opened maps old.disk new.disk) (leaves_is old logged tells) fails.moments;
}
