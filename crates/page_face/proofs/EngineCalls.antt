-- Calls of an engine that nothing changed, and two calls in a row.
use Rattle.std.proofs.Common.{◌≡◌, ◌∙◌, refl, false, Result, Ok, Err}
use Rattle.std.specs.Prelude.{IfOk, IfErr, MatchResult}
use Rattle.engine_spec.specs.declared.pins.Pin.{Pin}
use Rattle.engine_spec.specs.declared.commits.Who.{Who}
use Rattle.engine_spec.specs.declared.commits.Receipt.{Receipt}
use Rattle.engine_spec.specs.declared.commits.Receipt.TheVariants.{ReadOnly}
use Rattle.engine_spec.specs.declared.commits.CommitFault.{CommitFault}
use Rattle.engine_spec.specs.Events.{AcceptsCommit, RefusesCommit}
use Rattle.engine_spec.proofs.Here.{during_here}
use Rattle.page_face.specs.declared.prepared.Prepared.{Prepared}
use Rattle.page_face.specs.declared.means.Means.{Ghosts as Meaning}
use Rattle.page_face.specs.declared.engine_tells.EngineTells.{Ghosts}
use Rattle.page_face.specs.Pins.{IsLive}
use Rattle.page_face.specs.Prepared.{submitted, IsHandedBack}
use Rattle.page_face.specs.Calls.{Stays, HasCommitted, CommitAnswers, IsLaidOnEach, StandsForSome}

module _ {E M : Type 0} (told : Ghosts E M) where
  -- an engine stays as it is
  pub stays_same : (engine : E) → Stays told engine engine
  stays_same engine = record {
    pins = record { hold = λ pins live. live; maps = λ pin live. refl };
    may_begin = λ may. may;
    opened = λ opening opened. opened;
    loans = refl;
  }

  -- a pin that holds goes on to
  pub holds_on : (old new : E) → Stays told old new → (pin : Pin) → IsLive told.live old pin → IsLive told.live new pin
  holds_on old new stays pin live = (live.0, stays.pins.hold live.0 live.1, live.2)

  -- two calls in a row
  pub stays_join : (old mid new : E) → Stays told old mid → Stays told mid new → Stays told old new
  stays_join old mid new one two = record {
    pins = record {
      hold = λ pins live. two.pins.hold pins (one.pins.hold pins live);
      maps = λ pin live. two.pins.maps pin (holds_on old mid one pin live) ∙ one.pins.maps pin live;
    };
    may_begin = λ may. two.may_begin (one.may_begin may);
    opened = λ opening opened. two.opened opening (one.opened opening opened);
    loans = two.loans ∙ one.loans;
  }

module _ {E M : Type 0} (means : Meaning M) (told : Ghosts E M) (old : E) (pin : Pin) (prepared : Prepared M) (who : Who) where
  -- a commit that is answered at once
  pub answered_so : (result : Result Receipt (CommitFault × Prepared M)) (new : E)
      → MatchResult result
      (λ receipt. AcceptsCommit (told.opened old) (told.state old) (submitted prepared who) receipt (told.state new)
      × IsLaidOnEach means told old pin prepared receipt (told.state old))
      (λ refusal. IsHandedBack prepared refusal
      × RefusesCommit (told.opened old) (StandsForSome told old) (told.state old) (submitted prepared who) refusal.0 (told.state new))
      → CommitAnswers means told old pin prepared who result (told.state new)
  answered_so (Ok receipt) new answer =
      during_here (told.state old) (λ mid. AcceptsCommit (told.opened old) mid (submitted prepared who) receipt (told.state new)
      × IsLaidOnEach means told old pin prepared receipt mid) answer
  answered_so (Err refusal) new answer = (
    answer.0,
    during_here (told.state old)
        (λ mid. RefusesCommit (told.opened old) (StandsForSome told old) mid (submitted prepared who) refusal.0 (told.state new)) answer.1,
  )

  -- a transaction that wrote nothing, on an engine that it leaves as it is
  pub reads_only : prepared.wrote ≡ false → HasCommitted means told old pin prepared who (Ok (ReadOnly prepared.snap)) old
  reads_only wrote = record {
    answer = answered_so (Ok (ReadOnly prepared.snap)) old ((wrote, refl, refl), tt);
    runs = λ first stands. stands;
    stays = stays_same told old;
  }

  -- a commit that is refused and leaves the engine as it is
  pub refused_so : (why : CommitFault)
      → RefusesCommit (told.opened old) (StandsForSome told old) (told.state old) (submitted prepared who) why (told.state old)
      → HasCommitted means told old pin prepared who (Err (why, prepared)) old
  refused_so why refuses = record {
    answer = answered_so (Err (why, prepared)) old (refl, refuses);
    runs = λ first stands. stands;
    stays = stays_same told old;
  }

-- what holds of each answer
pub of_both : {A B : Type 0} (result : Result A B) (P P' : A → Type 0) (Q Q' : B → Type 0) → IfOk result P → IfErr result Q
    → ((x : A) → P x → P' x) → ((y : B) → Q y → Q' y) → MatchResult result P' Q'
of_both (Ok x) P P' Q Q' ok err one two = one x ok
of_both (Err y) P P' Q Q' ok err one two = two y err
