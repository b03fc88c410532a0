-- What calls on a transaction's pages leave of what stands behind them: the engine, and what the transaction is.
use Rattle.std.specs.Prelude.{◌≡◌, ℕ, ◌≤◌, is_some, true}
use Rattle.engine_spec.specs.State.{EngineState, During}
use Rattle.engine_spec.specs.Change.{image_of}
use Rattle.page_face.specs.declared.engine_tells.EngineTells.{Ghosts}
use Rattle.page_face.specs.Calls.{Stays, KeepsRuns}
use Rattle.overlay.specs.Overlay.{OverlayState}

-- nothing changed, but that the count of faults may have risen
abbrev pub CountsAtMost : EngineState → EngineState → Type 0
CountsAtMost before after = (before.faults ≤ after.faults) × (after ≡ record before { faults = after.faults })

-- What reading leaves of an engine: its pins, its runs, and all that it tells but for what others did meanwhile and for its count of faults.
pub record WasRead {E M : Type 0} (told : Ghosts E M) (old new : E) : Type 0 where
  pub stays : Stays told old new
  pub runs : KeepsRuns told old new
  pub state : During (told.state old) (λ mid. CountsAtMost mid (told.state new))

-- the transaction is the same but for what it read and changed, and no page that was put since the mark is forgotten
pub record IsStill (old new : OverlayState) : Type 0 where
  pub snap : new.snap ≡ old.snap
  pub mode : new.change.mode ≡ old.change.mode
  pub base : new.change.base ≡ old.change.base
  pub marked : new.marked ≡ old.marked
  pub since : (page : ℕ) → is_some (image_of old.since page) ≡ true → is_some (image_of new.since page) ≡ true
  pub wrote : new.wrote ≡ old.wrote
