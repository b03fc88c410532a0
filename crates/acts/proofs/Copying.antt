-- How steps of a checkpoint follow one another.
use Rattle.std.proofs.Common.{◌≡◌, ℕ, ◌<◌, ◌≤◌, true, sym, List, [], Option, Some, None, subst, ap, ◌∙◌, arith}
use Rattle.std.specs.Prelude.{IfSome}
use Rattle.crash_spec.specs.Opening.{Opening}
use Rattle.engine_spec.specs.declared.pins.Readers.{Readers}
use Rattle.engine_spec.specs.declared.commits.Commit.{Commit}
use Rattle.engine_spec.specs.State.{EngineState, During}
use Rattle.engine_spec.specs.TwoLogs.{TwoLogs}
use Rattle.page_face.specs.declared.engine_tells.EngineTells.{Ghosts}
use Rattle.engine_spec.specs.Events.{Checkpoints, ChecksLogs}
use Rattle.engine_spec.specs.declared.pins.Ckpt.{Ckpt}
use Rattle.engine_spec.specs.declared.pins.Ckpt.TheVariants.{Copied}
use Rattle.acts.specs.Turns.{SwapsPins}

-- what stays over two calls that leave all pins
pub stays_on : {E M : Type 0} (told : Ghosts E M) (old mid new : E)
    → SwapsPins told old [] mid [] → SwapsPins told mid [] new []
    → SwapsPins told old [] new []
stays_on told old mid new first then = record {
  holds = λ front back lives. then.holds front back (first.holds front back lives);
  maps = λ front back pin lives was is. then.maps front back pin (first.holds front back lives) was is ∙ first.maps front back pin lives was is;
  runs = λ one begun. then.runs one (first.runs one begun);
  opened = λ one is. then.opened one (first.opened one is);
  loans = then.loans ∙ first.loans;
  always_begins = then.always_begins ∙ first.always_begins;
  alone = then.alone ∙ first.alone;
  pages = (let a = first.pages in let b = then.pages in omega arith);
  page_size = then.page_size ∙ first.page_size;
}

-- a step that copied a page has come as far as that page
copied_logs : (readers : Readers) (history : List Commit) (page : ℕ) (old new : Option TwoLogs)
    → ChecksLogs readers history old (Copied page) new → IfSome new (λ logs. page ≤ logs.copied)
copied_logs readers history page None None checks = tt
copied_logs readers history page None (Some new) checks = (let e = checks.0 in absurd cc)
copied_logs readers history page (Some old) None checks = tt
copied_logs readers history page (Some old) (Some new) checks =
    let e : new.copied ≡ page = ap (λ (logs : TwoLogs). logs.copied) checks.3 in omega arith

pub copied_above : (opened : Opening → Type 0) (old new : EngineState) (answer : Ckpt) (page : ℕ) → answer ≡ Copied page
    → During old (λ mid. Checkpoints opened mid answer new) → IfSome new.logs (λ logs. page ≤ logs.copied)
copied_above opened old new answer page is (mid, later, checks) =
    copied_logs mid.readers mid.history page mid.logs new.logs
    (subst (λ (one : Ckpt). ChecksLogs mid.readers mid.history mid.logs one new.logs) is checks.steps)

-- a step copies a page above the last one, where nobody else takes steps
next_above : (readers : Readers) (history : List Commit) (page last : ℕ) (old new : Option TwoLogs) → IfSome old (λ logs. last ≤ logs.copied)
    → ChecksLogs readers history old (Copied page) new → last < page
next_above readers history page last None None above checks = (let e = checks.0 in absurd cc)
next_above readers history page last None (Some new) above checks = (let e = checks.0 in absurd cc)
next_above readers history page last (Some old) None above checks = absurd checks
next_above readers history page last (Some old) (Some new) above checks = (let next = checks.2.above in omega (arith, next, above))

pub copied_past : (opened : Opening → Type 0) (old new : EngineState) (answer : Ckpt) (page last : ℕ) → old.always_begins ≡ true
    → IfSome old.logs (λ logs. last ≤ logs.copied) → answer ≡ Copied page → During old (λ mid. Checkpoints opened mid answer new) → last < page
copied_past opened old new answer page last always above is (mid, later, checks) =
    next_above mid.readers mid.history page last mid.logs new.logs
    (subst (λ (logs : Option TwoLogs). IfSome logs (λ logs. last ≤ logs.copied)) (sym (later.logs always)) above)
    (subst (λ (one : Ckpt). ChecksLogs mid.readers mid.history mid.logs one new.logs) is checks.steps)
