-- What a commit of the engine in memory is answered, answered by a view of it.
use Rattle.std.proofs.Common.{◌≡◌, ℕ, ◌≤◌, List, [], length, true, subst, sym, Result, Ok, Err, Option}
use Rattle.std.specs.Prelude.{All, IfSome, MatchResult}
use Rattle.page_spec.specs.PageMap.{PageMap}
use Rattle.crash_spec.specs.Opening.{Opening}
use Rattle.engine_spec.specs.declared.pins.Pin.{Pin}
use Rattle.engine_spec.specs.declared.commits.Who.{Who}
use Rattle.engine_spec.specs.declared.commits.Receipt.{Receipt}
use Rattle.engine_spec.specs.declared.commits.Receipt.TheVariants.{At, ReadOnly}
use Rattle.engine_spec.specs.declared.commits.CommitFault.{CommitFault}
use Rattle.engine_spec.specs.State.{EngineState, Later}
use Rattle.engine_spec.specs.Events.{AcceptsCommit, RefusesCommit}
use Rattle.engine_spec.proofs.Here.{at_once}
use Rattle.page_face.specs.declared.prepared.Prepared.{Prepared}
use Rattle.page_face.specs.declared.means.Means.{Ghosts as Meaning}
use Rattle.page_face.specs.declared.engine_tells.EngineTells.{Ghosts}
use Rattle.page_face.specs.Prepared.{submitted, IsHandedBack, IsGood}
use Rattle.page_face.specs.Calls.{CommitAnswers, CommitKeepsRuns, IsLaidOnEach, StandsForSome}
use Rattle.engine_spec.specs.Good.{MayLayOn}
use Rattle.memory_engine.specs.Plain.{PlainState, state_of, newest_of}
use Rattle.witnesses.specs.Shared.{viewed}
use Rattle.witnesses.proofs.SharedCommits.{accepts_viewed, refuses_viewed}

-- any opening, for an engine without a disk
abbrev pub any_opening : Opening → Type 0
any_opening opening = Unit {0}

-- what a commit is answered at a moment
abbrev pub AnswersAt : {E M : Type 0} → Meaning M → Ghosts E M → E → Pin → Prepared M → Who → Result Receipt (CommitFault × Prepared M) → EngineState
    → EngineState → Type 0
AnswersAt means told old pin prepared who result mid new = MatchResult result
    (λ receipt. AcceptsCommit (told.opened old) mid (submitted prepared who) receipt new × IsLaidOnEach means told old pin prepared receipt mid)
    (λ refusal. IsHandedBack prepared refusal
    × RefusesCommit (told.opened old) (StandsForSome told old) mid (submitted prepared who) refusal.0 new)

module _ {E M : Type 0} (means : Meaning M) (told : Ghosts E M) (old : E) (pin : Pin) (prepared : Prepared M) (who : Who) where
  -- an engine that is alone answers at once
  pub answered_at_once : (result : Result Receipt (CommitFault × Prepared M)) (new : EngineState) → (told.state old).alone ≡ true
      → CommitAnswers means told old pin prepared who result new → AnswersAt means told old pin prepared who result (told.state old) new
  answered_at_once (Ok receipt) new alone answer =
      at_once (told.state old) (λ mid. AcceptsCommit (told.opened old) mid (submitted prepared who) receipt new
      × IsLaidOnEach means told old pin prepared receipt mid) alone answer
  answered_at_once (Err refusal) new alone answer = (
    answer.0,
    at_once (told.state old)
        (λ mid. RefusesCommit (told.opened old) (StandsForSome told old) mid (submitted prepared who) refusal.0 new) alone answer.1,
  )

  -- an answer at a moment of the call is the call's
  pub answered_then : (result : Result Receipt (CommitFault × Prepared M)) (mid new : EngineState) → Later (told.state old) mid
      → AnswersAt means told old pin prepared who result mid new → CommitAnswers means told old pin prepared who result new
  answered_then (Ok receipt) mid new later answer = (mid, later, answer)
  answered_then (Err refusal) mid new later answer = (answer.0, (mid, later, answer.1))

module _ {E M : Type 0} (means : Meaning M) (inner : Ghosts PlainState M) (outer : Ghosts E M) (old : E) (plain : PlainState) (pin : Pin)
    (prepared : Prepared M) (who : Who)
    (stands : (first : PageMap) → outer.stands_from old first → inner.stands_from plain first)
    (same_map : inner.map_at plain pin ≡ outer.map_at old pin) where
  -- it was laid on the same map
  laid_viewed : (theirs : List ℕ) (since readers : ℕ) (receipt : Receipt) → IsLaidOnEach means inner plain pin prepared receipt (state_of plain)
      → IsLaidOnEach means outer old pin prepared receipt (viewed theirs since readers (state_of plain))
  laid_viewed theirs since readers (ReadOnly n) laid = tt
  laid_viewed theirs since readers (At number) laid = λ first runs.
      let one = laid first (stands first runs) in record {
        is_sound = one.is_sound;
        led = one.led;
        may_lay = subst (λ (map : Option PageMap). IfSome map (λ snapshot. MayLayOn prepared.mode snapshot prepared.reads (newest_of plain))) same_map one.may_lay;
      }

  -- the view answers so
  pub answers_viewed : (theirs : List ℕ) (since readers : ℕ) → since ≡ length plain.history → All (λ t. t ≤ length plain.history) theirs
      → prepared.fresh ≡ [] → prepared.freed ≡ [] → inner.opened plain ≡ any_opening → outer.opened old ≡ any_opening
      → inner.state plain ≡ state_of plain
      → (result : Result Receipt (CommitFault × Prepared M)) (new : PlainState)
      → AnswersAt means inner plain pin prepared who result (state_of plain) (state_of new)
      → AnswersAt means outer old pin prepared who result (viewed theirs since readers (state_of plain)) (viewed theirs since readers (state_of new))
  answers_viewed theirs since readers at all fresh freed opened opened' is (Ok receipt) new answer = (
    subst (λ o. AcceptsCommit o (viewed theirs since readers (state_of plain)) (submitted prepared who) receipt (viewed theirs since readers (state_of new))) (sym opened')
        (accepts_viewed theirs since readers plain at (submitted prepared who) receipt new all
        (subst (λ o. AcceptsCommit o (state_of plain) (submitted prepared who) receipt (state_of new)) opened answer.0)),
    laid_viewed theirs since readers receipt answer.1,
  )
  answers_viewed theirs since readers at all fresh freed opened opened' is (Err refusal) new answer = (
    answer.0,
    subst (λ o. RefusesCommit o (StandsForSome outer old) (viewed theirs since readers (state_of plain)) (submitted prepared who) refusal.0 (viewed theirs since readers (state_of new)))
        (sym opened')
        (refuses_viewed theirs since readers plain at (StandsForSome inner plain) (StandsForSome outer old) (submitted prepared who) refusal.0 new fresh freed
        (subst (λ o. RefusesCommit o (StandsForSome inner plain) (state_of plain) (submitted prepared who) refusal.0 (state_of new)) opened answer.1)),
  )

  -- the runs go on that do in the engine in memory
  pub runs_viewed : (result : Result Receipt (CommitFault × Prepared M)) (new : E) (plain' : PlainState)
      → ((first : PageMap) → inner.stands_from plain' first → outer.stands_from new first)
      → CommitKeepsRuns means inner plain pin prepared result plain' → CommitKeepsRuns means outer old pin prepared result new
  runs_viewed (Ok (At number)) new plain' on keeps = λ first runs good. on first (keeps first (stands first runs)
      (subst (λ (map : Option PageMap). IfSome map (λ snapshot. IsGood (means.sound first) (means.leads first) snapshot prepared)) (sym same_map) good))
  runs_viewed (Ok (ReadOnly n)) new plain' on keeps = λ first runs. on first (keeps first (stands first runs))
  runs_viewed (Err refusal) new plain' on keeps = λ first runs. on first (keeps first (stands first runs))
