-- An engine in memory to which others commit inside its owner's calls.
use Rattle.std.specs.Prelude.{◌≡◌, ℕ, ◌≤◌, ◌==◌, true, false, if◌then◌else◌, zero, suc, List, [], ◌∷◌, ◌++◌, length, slice_get, Option, Some, None, IfSome, All, Result, Ok, Err}
use Rattle.std.specs.List.{list_any}
use Rattle.crash_spec.specs.Opening.{Opening}
use Rattle.page_spec.specs.PageMap.{PageMap}
use Rattle.engine_spec.specs.declared.pins.Pin.{Pin}
use Rattle.engine_spec.specs.declared.commits.Receipt.{Receipt}
use Rattle.engine_spec.specs.declared.commits.Receipt.TheVariants.{At, ReadOnly}
use Rattle.engine_spec.specs.TwoLogs.{TwoLogs}
use Rattle.engine_spec.specs.State.{EngineState, Later}
use Rattle.engine_spec.specs.Written.{Submitted}
use Rattle.engine_spec.specs.Events.{IsCommitted}
use Rattle.page_face.specs.Pins.{KeepsPins}
use Rattle.page_face.specs.Prepared.{IsFit, IsGood}
use Rattle.page_face.specs.declared.means.Means.{Ghosts as Meaning}
use Rattle.memory_engine.specs.Plain.{PlainState, PlainLive, PlainRuns, no_readers, state_of}
use Rattle.witnesses.specs.declared.shared.Waiting.{Waiting}
use Rattle.witnesses.specs.declared.shared.Shared.{Shared}

-- the numbers from 1 to this one that aren't among these
abbrev pub numbers_but : List ℕ → ℕ → List ℕ
numbers_but theirs zero = []
numbers_but theirs (suc number) =
    if list_any (λ n. n == suc number) theirs then numbers_but theirs number else numbers_but theirs number ++ suc number ∷ []

-- log 1 is current and holds the commits since this one; the other is done, so nothing waits to be copied
abbrev pub log_since : ℕ → TwoLogs
log_since since = record { current = 1; generation = 1; since = since; other_since = 0; done = true; copied = 0; limit = 1 }

-- What an engine tells of which this one is a view: the commits of others aren't its own, it can't always begin, it isn't alone, and it
-- keeps a log.
abbrev pub viewed : List ℕ → ℕ → ℕ → EngineState → EngineState
viewed theirs since readers state = record state {
  own = numbers_but theirs (length state.history);
  always_begins = false;
  alone = false;
  logs = Some (log_since since);
  readers = record no_readers { part1 = readers };
}

-- what the view tells
abbrev pub shared_state : {M : Type 0} → Shared M → EngineState
shared_state shared = viewed shared.theirs.items shared.since shared.readers (state_of shared.plain)

-- the map of a pin in the engine in memory, and in the view
abbrev pub plain_map : PlainState → Pin → Option PageMap
plain_map plain pin = slice_get plain.maps pin.n

abbrev pub shared_map : {M : Type 0} → Shared M → Pin → Option PageMap
shared_map shared pin = slice_get shared.plain.maps pin.n

-- the pin of a transaction that waits
abbrev pub pin_of : {M : Type 0} → Option (Waiting M) → List Pin
pin_of None = []
pin_of (Some waiting) = waiting.pin ∷ []

-- The view is whole and these pins hold: with that of what waits they do in the engine in memory; what waits fits; the commits are
-- counted, and those of others and the log's are among them.
pub record SharedLive {M : Type 0} (shared : Shared M) (pins : List Pin) : Type 0 where
  pub plain : PlainLive shared.plain (pin_of shared.waiting ++ pins)
  pub fit : IfSome shared.waiting (λ waiting. IsFit (state_of shared.plain) waiting.pin waiting.prepared)
  pub commits : shared.commits ≡ length shared.plain.history
  pub theirs : All (λ number. number ≤ shared.commits) shared.theirs.items
  pub since : shared.since ≤ shared.commits

-- It stands for each run for which the engine in memory does and what waits is good.
pub record SharedRuns {M : Type 0} (sound : PageMap → Type 0) (leads : PageMap → List (List ℕ) → PageMap → Type 0) (first : PageMap)
    (shared : Shared M) : Type 0 where
  pub plain : PlainRuns sound leads first shared.plain
  pub good : IfSome shared.waiting (λ waiting. IfSome (plain_map shared.plain waiting.pin)
      (λ snapshot. IsGood sound leads snapshot waiting.prepared))

-- the number of the commit that was answered, if one was
abbrev pub number_in : {W : Type 0} → Result Receipt W → Option ℕ
number_in (Ok (At number)) = Some number
number_in (Ok (ReadOnly n)) = None
number_in (Err why) = None

-- some transaction became the commit of this number
abbrev pub SomeCommitted : PlainState → ℕ → PlainState → Type 0
SomeCommitted old number new = (asked : Submitted) × IsCommitted (λ (opening : Opening). Unit {0}) (state_of old) asked number (state_of new)

-- What waited is gone, and may have become a commit: pins hold with the same maps, and runs go on.
pub record TheirsCame {M : Type 0} (means : Meaning M) (old new : Shared M) : Type 0 where
  pub later : Later (shared_state old) (shared_state new)
  pub pins : KeepsPins SharedLive shared_map old new
  pub runs : (first : PageMap) → SharedRuns (means.sound first) (means.leads first) first old
      → SharedRuns (means.sound first) (means.leads first) first new
  pub none : new.waiting ≡ None
  pub barred : new.barred ≡ old.barred

-- so it is, and the log begins anew
pub record OthersCame {M : Type 0} (means : Meaning M) (old new : Shared M) : Type 0 where
  pub came : TheirsCame means old new
  pub since : new.since ≡ new.commits
