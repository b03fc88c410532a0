-- What the steps of a store do: what it keeps after each, by what the calls on the disk were answered.
use Rattle.std.specs.Prelude.{◌≡◌, ℕ, ◌+◌, Bool, true, false, if◌then◌else◌, List, [], ◌∷◌, ◌++◌, length, Option, Some, Result, IfOk, OnErr}
use Rattle.disk_face.specs.declared.Failed.{Failed}
use Rattle.disk_face.specs.declared.step.Step.TheVariants.{Synced}
use Rattle.disk_face.specs.Steps.{History, after}
use Rattle.log_spec.specs.Checksum.{Sum}
use Rattle.log_spec.specs.Accept.{Frame, page_numbers}
use Rattle.crash_spec.specs.Opening.{Opening, Since}
use Rattle.crash_spec.specs.Store.{StoreView, Holds, KeepsStore}
use Rattle.engine_spec.specs.declared.commits.Commit.{Commit}
use Rattle.engine_spec.specs.declared.commits.PageImage.{PageImage}
use Rattle.engine_spec.specs.declared.pins.Ckpt.{Ckpt}
use Rattle.engine_spec.specs.declared.pins.Readers.{Readers}
use Rattle.wal_index.specs.Index.{Indexed, IndexedLog, log_in}
use Rattle.wal_rules.specs.declared.state.LogState.{LogState}
use Rattle.log_pair.specs.Pair.{PairView, other_number, current_file, current_header}
use Rattle.log_pair.specs.Appending.{IsReached}
use Rattle.log_pair.specs.Switch.{Switches}
use Rattle.log_commit.specs.GoesBy.{GoesBy}
use Rattle.log_commit.specs.Commit.{WritesCommit, IsCommitStep}
use Rattle.checkpoint.specs.Steps.{DoesStep, FailsIn, pages_behind, readers_behind}
use Rattle.store_spec.specs.Store.{StoreData, KeptStop}

-- A step of a checkpoint was answered so, and left the logs in this state.
pub record HasTakenStep (kept : StoreData) (readers : Readers) (result : Result Ckpt Failed) (state : LogState) (old new : Option History) : Type 0 where
  pub does : IfOk result (λ answer. (bytes : List ℕ) × DoesStep kept.pair (pages_behind kept.index kept.state) kept.state readers answer state bytes old new)
  pub refused : OnErr result (state ≡ kept.state)
  pub fails : OnErr result (FailsIn (pages_behind kept.index kept.state) kept.state kept.page_size old new)
  pub unheld : OnErr result ((kept.state.done ≡ false) × (readers_behind kept.state readers ≡ 0))
  pub moments : (opening : Opening) (view : StoreView) → Since opening.start (Holds opening view) old → view.size ≡ kept.page_size
      → page_numbers view.other ≡ pages_behind kept.index kept.state → KeepsStore opening view old new

abbrev pub stepped : StoreData → LogState → StoreData
stepped kept state = record kept { state = state }

-- a log of the index holds the same
pub record IsSameLog (old new : IndexedLog) : Type 0 where
  pub pages : new.pages ≡ old.pages
  pub numbers : new.numbers ≡ old.numbers
  pub ends : new.ends ≡ old.ends
  pub tails : new.tails ≡ old.tails

-- The index has this commit, the next one, in the current log.
pub record HasIndexed (kept : StoreData) (commit : Commit) (index : Indexed) : Type 0 where
  pub pages : (log_in index kept.pair.current).pages ≡ (log_in kept.index kept.pair.current).pages ++ commit.wrote
  pub numbers : (log_in index kept.pair.current).numbers ≡ (log_in kept.index kept.pair.current).numbers ++ (length kept.history + 1) ∷ []
  pub ends : (log_in index kept.pair.current).ends ≡ (log_in kept.index kept.pair.current).ends ++ length ((log_in kept.index kept.pair.current).pages ++ commit.wrote) ∷ []
  pub tails : (log_in index kept.pair.current).tails
      ≡ (if commit.tail then (log_in kept.index kept.pair.current).tails ++ (length kept.history + 1) ∷ [] else (log_in kept.index kept.pair.current).tails)
  pub other : IsSameLog (log_in kept.index (other_number kept.pair.current)) (log_in index (other_number kept.pair.current))

abbrev pub committed : StoreData → PairView → Indexed → Commit → StoreData
committed kept pair index commit = record kept { pair = pair; index = index; history = kept.history ++ commit ∷ [] }

-- a log write failed; the pair may count frames that are on their way
abbrev pub stopped : StoreData → PairView → KeptStop → StoreData
stopped kept pair stop = record kept { pair = pair; stop = Some stop }

-- The index has no frame of the other log.
pub record HasCleared (kept : StoreData) (index : Indexed) : Type 0 where
  pub pages : (log_in index (other_number kept.pair.current)).pages ≡ []
  pub numbers : (log_in index (other_number kept.pair.current)).numbers ≡ []
  pub ends : (log_in index (other_number kept.pair.current)).ends ≡ []
  pub tails : (log_in index (other_number kept.pair.current)).tails ≡ []
  pub current : IsSameLog (log_in kept.index kept.pair.current) (log_in index kept.pair.current)

-- the other log is current, and the one that was current waits to be copied
abbrev pub gone_over : StoreData → PairView → Indexed → StoreData
gone_over kept pair index = record kept { pair = pair; index = index; state = record { current = other_number kept.pair.current; done = false; copied = 0 } }

-- A switch was answered so.
pub record HasSwitched (kept : StoreData) (ok : Bool) (pair : PairView) (salt2 : ℕ) (old new : Option History) : Type 0 where
  pub bytes : List ℕ
  pub sum : Sum
  pub switches : Switches ok kept.pair pair salt2 old new bytes sum
  pub reached : ok ≡ true → IsReached new pair

-- The frames of a commit were written to the current log and sealed, or a call failed.
pub record HasWritten (kept : StoreData) (ok : Bool) (images : List PageImage) (pair : PairView) (old new : Option History) : Type 0 where
  pub more : List Frame
  pub writes : WritesCommit ok kept.pair pair images kept.size more old new
  pub steps : GoesBy (IsCommitStep (current_file kept.pair) (current_header kept.pair)) old new
  pub synced : ok ≡ true → (mid : Option History) × (new ≡ after (Synced (current_file kept.pair)) mid)
      × GoesBy (IsCommitStep (current_file kept.pair) (current_header kept.pair)) old mid
  pub reached : ok ≡ true → IsReached new pair
