-- What a commit does, said from what the store kept and its disk told before.
use Rattle.std.specs.Prelude.{◌≡◌, ℕ, List, ◌++◌, Contains, Option, None, IfSome, Result, Ok, Err}
use Rattle.disk_face.specs.declared.tells.DiskTells.{Ghosts as DiskGhosts}
use Rattle.disk_face.specs.Steps.{History}
use Rattle.page_spec.specs.PageMap.{PageMap}
use Rattle.crash_spec.specs.Opening.{Opening}
use Rattle.engine_spec.specs.declared.pins.Pin.{Pin}
use Rattle.engine_spec.specs.declared.pins.Readers.{Readers}
use Rattle.engine_spec.specs.declared.commits.Who.{Who}
use Rattle.engine_spec.specs.declared.commits.Receipt.{Receipt}
use Rattle.engine_spec.specs.declared.commits.Receipt.TheVariants.{At, ReadOnly}
use Rattle.engine_spec.specs.declared.commits.CommitFault.{CommitFault}
use Rattle.engine_spec.specs.State.{EngineState, During}
use Rattle.engine_spec.specs.Events.{AcceptsCommit, RefusesCommit}
use Rattle.page_face.specs.declared.means.Means.{Ghosts as Meaning}
use Rattle.page_face.specs.declared.prepared.Prepared.{Prepared}
use Rattle.page_face.specs.Prepared.{submitted, IsGood, IsHandedBack}
use Rattle.page_face.specs.Calls.{IsLaidOn}
use Rattle.store_spec.specs.Store.{StoreData, pin_told, store_state}
use Rattle.store_spec.specs.Standing.{IsLiveStore, StandsFrom, IsOpenedAt}
use Rattle.store_spec.specs.Steady.{IsSteady, HasBegun}
use Rattle.store_spec.specs.Pins.{IsOfCurrent}
use Rattle.store_spec.proofs.CommitAnswers.{IsReadied}
use Rattle.store_spec.proofs.SteadyLaws.{IsSteadyBut}
use Rattle.store.specs.declared.store.Store.{Store}
use Rattle.store.specs.Kept.{kept_of, state_of, IsLiveIn}

-- What a store was before: what it kept, what its disk told and how often that had failed, and the names of the references that it held.
pub record Before : Type 0 where
  pub kept : StoreData
  pub told : Option History
  pub faults : ℕ
  pub names : List ℕ

abbrev pub before_of : {D W M : Type 0} → DiskGhosts D → (W → List ℕ) → Store D W M → Before
before_of disk loans store = record { kept = kept_of store; told = disk.told store.disk; faults = disk.faults store.disk; names = disk.loans store.disk ++ loans store.salts }

abbrev pub state_before : Before → Readers → EngineState
state_before before readers = store_state before.told before.faults before.kept readers

-- it stood for a run from the first map
abbrev pub StoodFrom : {M : Type 0} → Meaning M → Before → Readers → PageMap → Type 0
StoodFrom means before readers first = StandsFrom (means.sound first) (means.leads first) first before.told before.kept readers

abbrev pub LaidOnEach : {M : Type 0} → Meaning M → Before → Readers → Pin → Prepared M → Receipt → EngineState → Type 0
LaidOnEach means before readers pin prepared (ReadOnly n) mid = Unit {0}
LaidOnEach means before readers pin prepared (At number) mid = (first : PageMap) → StoodFrom means before readers first
    → IfSome mid.newest (IsLaidOn (means.sound first) (means.leads first first) (pin_told before.kept before.told pin) prepared mid)

-- what the commit is answered
abbrev pub AnswersFrom : {M : Type 0} → Meaning M → Before → Readers → Pin → Prepared M → Who → Result Receipt (CommitFault × Prepared M) → EngineState → Type 0
AnswersFrom means before readers pin prepared who (Ok receipt) after =
    During (state_before before readers) (λ mid. AcceptsCommit (λ opening. IsOpenedAt opening before.kept before.told) mid (submitted prepared who) receipt after
    × LaidOnEach means before readers pin prepared receipt mid)
AnswersFrom means before readers pin prepared who (Err refusal) after =
    IsHandedBack prepared refusal
    × During (state_before before readers) (λ mid. RefusesCommit (λ opening. IsOpenedAt opening before.kept before.told) ((first : PageMap) × StoodFrom means before readers first) mid
    (submitted prepared who) refusal.0 after)

-- the runs that go on
abbrev pub KeepsRunsFrom : {D W M : Type 0} → DiskGhosts D → Meaning M → Before → Readers → Pin → Prepared M → Result Receipt (CommitFault × Prepared M) → Store D W M → Type 0
KeepsRunsFrom disk means before readers pin prepared (Ok (At number)) new = (first : PageMap) → StoodFrom means before readers first
    → IfSome (pin_told before.kept before.told pin) (λ snapshot. IsGood (means.sound first) (means.leads first) snapshot prepared)
    → StandsFrom (means.sound first) (means.leads first) first (disk.told new.disk) (kept_of new) readers
KeepsRunsFrom disk means before readers pin prepared (Ok (ReadOnly n)) new = (first : PageMap) → StoodFrom means before readers first
    → StandsFrom (means.sound first) (means.leads first) first (disk.told new.disk) (kept_of new) readers
KeepsRunsFrom disk means before readers pin prepared (Err refusal) new = (first : PageMap) → StoodFrom means before readers first
    → StandsFrom (means.sound first) (means.leads first) first (disk.told new.disk) (kept_of new) readers

-- What a commit leaves: the pins that held, with their maps, the openings, and the names.
pub record LeavesFrom {D W M : Type 0} (disk : DiskGhosts D) (loans : W → List ℕ) (before : Before) (readers : Readers) (new : Store D W M) : Type 0 where
  pub hold : (pins : List Pin) → IsLiveStore before.told before.kept readers pins → IsSteady before.told before.kept readers pins → IsLiveIn disk new readers pins
  pub maps : (pins : List Pin) (pin : Pin) → IsLiveStore before.told before.kept readers pins → IsSteady before.told before.kept readers pins → Contains pins pin
      → pin_told (kept_of new) (disk.told new.disk) pin ≡ pin_told before.kept before.told pin
  pub opened : (opening : Opening) → IsOpenedAt opening before.kept before.told → IsOpenedAt opening (kept_of new) (disk.told new.disk)
  pub names : disk.loans new.disk ++ loans new.salts ≡ before.names

pub record CommittedFrom {D W M : Type 0} (disk : DiskGhosts D) (loans : W → List ℕ) (means : Meaning M) (before : Before) (readers : Readers) (pin : Pin) (prepared : Prepared M) (who : Who)
    (result : Result Receipt (CommitFault × Prepared M)) (new : Store D W M) : Type 0 where
  pub answer : AnswersFrom means before readers pin prepared who result (state_of disk new readers)
  pub runs : KeepsRunsFrom disk means before readers pin prepared result new
  pub leaves : LeavesFrom disk loans before readers new

-- A store that is ready to write a commit: as it was before, or gone over to its other log, where the rule has it so.
pub record IsReadyFrom {D W M : Type 0} (disk : DiskGhosts D) (loans : W → List ℕ) (means : Meaning M) (before : Before) (readers : Readers) (mid : Store D W M) : Type 0 where
  pub readied : IsReadied before.kept (kept_of mid) readers before.told (disk.told mid.disk)
  pub live : (pins : List Pin) → IsLiveStore before.told before.kept readers pins → IsSteady before.told before.kept readers pins → IsLiveStore (disk.told mid.disk) (kept_of mid) readers pins
  pub steady : (pins : List Pin) → IsLiveStore before.told before.kept readers pins → IsSteady before.told before.kept readers pins → IsSteadyBut (disk.told mid.disk) (kept_of mid) readers pins
  pub begun : (pins : List Pin) → IsLiveStore before.told before.kept readers pins → IsSteady before.told before.kept readers pins → (pin : Pin) → Contains pins pin
      → IsOfCurrent (kept_of mid) pin → HasBegun (kept_of mid)
  pub maps : (pins : List Pin) (pin : Pin) → IsLiveStore before.told before.kept readers pins → IsSteady before.told before.kept readers pins → Contains pins pin
      → pin_told (kept_of mid) (disk.told mid.disk) pin ≡ pin_told before.kept before.told pin
  pub runs : (pins : List Pin) → IsLiveStore before.told before.kept readers pins → IsSteady before.told before.kept readers pins → (first : PageMap) → StoodFrom means before readers first
      → StandsFrom (means.sound first) (means.leads first) first (disk.told mid.disk) (kept_of mid) readers
  pub running : mid.stop ≡ None
  pub faults : disk.faults mid.disk ≡ before.faults
  pub names : disk.loans mid.disk ++ loans mid.salts ≡ before.names
