-- What each call does to an engine, said of all that it tells at once.
use Rattle.std.specs.Prelude.{◌≡◌, ℕ, false, List, Option, IfSome, Result, Ok, Err, OnOk}
use Rattle.disk_face.specs.declared.Failed.{Failed}
use Rattle.page_spec.specs.PageMap.{PageMap, page_at}
use Rattle.crash_spec.specs.Opening.{Opening}
use Rattle.engine_spec.specs.declared.pins.Pin.{Pin}
use Rattle.engine_spec.specs.declared.pins.Ckpt.{Ckpt}
use Rattle.engine_spec.specs.declared.pins.Logs.{Logs}
use Rattle.engine_spec.specs.declared.commits.Who.{Who}
use Rattle.engine_spec.specs.declared.commits.Receipt.{Receipt}
use Rattle.engine_spec.specs.declared.commits.Receipt.TheVariants.{At, ReadOnly}
use Rattle.engine_spec.specs.declared.commits.CommitFault.{CommitFault}
use Rattle.engine_spec.specs.declared.commits.FetchFault.{FetchFault}
use Rattle.engine_spec.specs.History.{statements_of}
use Rattle.engine_spec.specs.TwoLogs.{told_logs}
use Rattle.engine_spec.specs.State.{EngineState, Later, During}
use Rattle.engine_spec.specs.Events.{Begins, Ends, Fetches, AcceptsCommit, RefusesCommit, TakesStep}
use Rattle.engine_spec.specs.Good.{MayLayOn}
use Rattle.page_face.specs.declared.means.Means.{Ghosts as Meaning}
use Rattle.page_face.specs.declared.engine_tells.EngineTells.{Ghosts}
use Rattle.page_face.specs.declared.prepared.Prepared.{Prepared}
use Rattle.page_face.specs.Pins.{KeepsPins, AddsPin, TakesPin}
use Rattle.page_face.specs.Prepared.{submitted, IsGood, IsHandedBack}

-- the engine is whole, whatever pins hold in it
abbrev pub IsWholeEngine : {E M : Type 0} → Ghosts E M → E → Type 0
IsWholeEngine told engine = (pins : List Pin) × told.live engine pins

-- it stands for some run
abbrev pub StandsForSome : {E M : Type 0} → Ghosts E M → E → Type 0
StandsForSome told engine = (first : PageMap) × told.stands_from engine first

-- each opening since which the disk holds what the engine holds is still one
abbrev pub KeepsOpenings : {E M : Type 0} → Ghosts E M → E → E → Type 0
KeepsOpenings told old new = (opening : Opening) → told.opened old opening → told.opened new opening

-- each run for which it stands goes on
abbrev pub KeepsRuns : {E M : Type 0} → Ghosts E M → E → E → Type 0
KeepsRuns told old new = (first : PageMap) → told.stands_from old first → told.stands_from new first

-- What every call but `begin` and `end` leaves: the pins that hold, with their maps, that a transaction may begin, the openings, and
-- the names of the references that the engine holds.
pub record Stays {E M : Type 0} (told : Ghosts E M) (old new : E) : Type 0 where
  pub pins : KeepsPins told.live told.map_at old new
  pub may_begin : told.may_begin old → told.may_begin new
  pub opened : KeepsOpenings told old new
  pub loans : told.loans new ≡ told.loans old

-- `begin`: the pin is of the newest map of some moment of the call, and others may have come after it too
pub record HasBegun {E M : Type 0} (told : Ghosts E M) (old : E) (pin : Pin) (new : E) : Type 0 where
  pub event : During (told.state old) (λ mid. (after : EngineState) × Begins mid pin after × Later after (told.state new)
      × (told.map_at new pin ≡ mid.newest))
  pub pins : AddsPin told.live told.map_at old pin new
  pub runs : KeepsRuns told old new
  pub opened : KeepsOpenings told old new
  pub loans : told.loans new ≡ told.loans old

-- `fetch`: an answer that goes well is the page of the pin's map
pub record HasFetched {E M : Type 0} (told : Ghosts E M) (old : E) (pin : Pin) (page : ℕ) (result : Result Unit FetchFault) (bytes : List ℕ) (new : E) : Type 0 where
  pub page_is : OnOk result (IfSome (told.map_at old pin) (λ pages. bytes ≡ page_at pages page))
  pub event : During (told.state old) (λ mid. Fetches mid result (told.state new))
  pub stays : Stays told old new
  pub runs : KeepsRuns told old new

-- the transaction's change is good, over the pin's map, for each run for which the engine stands
abbrev pub IsGoodForEach : {E M : Type 0} → Meaning M → Ghosts E M → E → Pin → Prepared M → Type 0
IsGoodForEach means told engine pin prepared = (first : PageMap) → told.stands_from engine first
    → IfSome (told.map_at engine pin) (λ snapshot. IsGood (means.sound first) (means.leads first) snapshot prepared)

-- What a commit asks of the change's meaning: nothing of an engine to whose store nobody else commits. Of another one it is good for
-- each run, since whoever shares the store goes on to stand for these.
abbrev pub IsGoodForOthers : {E M : Type 0} → Meaning M → Ghosts E M → E → Pin → Prepared M → Type 0
IsGoodForOthers means told engine pin prepared = (told.state engine).alone ≡ false → IsGoodForEach means told engine pin prepared

-- The map on which a commit was laid: it is sound, the statements of the history before the commit lead to it, and the change may
-- be laid on it.
pub record IsLaidOn {M : Type 0} (sound : PageMap → Type 0) (leads : List (List ℕ) → PageMap → Type 0) (snapshot : Option PageMap)
    (prepared : Prepared M) (mid : EngineState) (pages : PageMap) : Type 0 where
  pub is_sound : sound pages
  pub led : leads (statements_of mid.history) pages
  pub may_lay : IfSome snapshot (λ snapshot. MayLayOn prepared.mode snapshot prepared.reads pages)

-- so it is for each first map from which the engine stood, where the transaction became a commit
abbrev pub IsLaidOnEach : {E M : Type 0} → Meaning M → Ghosts E M → E → Pin → Prepared M → Receipt → EngineState → Type 0
IsLaidOnEach means told old pin prepared (ReadOnly n) mid = Unit {0}
IsLaidOnEach means told old pin prepared (At number) mid = (first : PageMap) → told.stands_from old first
    → IfSome mid.newest (IsLaidOn (means.sound first) (means.leads first first) (told.map_at old pin) prepared mid)

-- what a commit is answered
abbrev pub CommitAnswers : {E M : Type 0} → Meaning M → Ghosts E M → E → Pin → Prepared M → Who → Result Receipt (CommitFault × Prepared M) → EngineState → Type 0
CommitAnswers means told old pin prepared who (Ok receipt) new =
    During (told.state old) (λ mid. AcceptsCommit (told.opened old) mid (submitted prepared who) receipt new
    × IsLaidOnEach means told old pin prepared receipt mid)
CommitAnswers means told old pin prepared who (Err refusal) new =
    IsHandedBack prepared refusal
    × During (told.state old) (λ mid. RefusesCommit (told.opened old) (StandsForSome told old) mid (submitted prepared who) refusal.0 new)

-- The runs that go on: each for which the change is good, and where the transaction became no commit all of them.
abbrev pub CommitKeepsRuns : {E M : Type 0} → Meaning M → Ghosts E M → E → Pin → Prepared M → Result Receipt (CommitFault × Prepared M) → E → Type 0
CommitKeepsRuns means told old pin prepared (Ok (At number)) new = (first : PageMap) → told.stands_from old first
    → IfSome (told.map_at old pin) (λ snapshot. IsGood (means.sound first) (means.leads first) snapshot prepared) → told.stands_from new first
CommitKeepsRuns means told old pin prepared (Ok (ReadOnly n)) new = KeepsRuns told old new
CommitKeepsRuns means told old pin prepared (Err refusal) new = KeepsRuns told old new

-- `commit`
pub record HasCommitted {E M : Type 0} (means : Meaning M) (told : Ghosts E M) (old : E) (pin : Pin) (prepared : Prepared M) (who : Who)
    (result : Result Receipt (CommitFault × Prepared M)) (new : E) : Type 0 where
  pub answer : CommitAnswers means told old pin prepared who result (told.state new)
  pub runs : CommitKeepsRuns means told old pin prepared result new
  pub stays : Stays told old new

-- `ckpt`
pub record HasStepped {E M : Type 0} (told : Ghosts E M) (old : E) (result : Result Ckpt Failed) (new : E) : Type 0 where
  pub answer : During (told.state old) (λ mid. TakesStep (told.opened old) mid result (told.state new))
  pub stays : Stays told old new
  pub runs : KeepsRuns told old new

-- `logs`: they stand so at some moment of the call, and the engine tells what it then is
pub record HasToldLogs {E M : Type 0} (told : Ghosts E M) (old : E) (logs : Logs) (new : E) : Type 0 where
  pub answer : During (told.state old) (λ mid. (logs ≡ told_logs mid.logs mid.history) × (told.state new ≡ mid))
  pub stays : Stays told old new
  pub runs : KeepsRuns told old new

-- `end`: the engine looks at nothing, so it tells what it told
pub record HasEnded {E M : Type 0} (told : Ghosts E M) (old : E) (pin : Pin) (new : E) : Type 0 where
  pub event : Ends (told.state old) pin (told.state new)
  pub pins : TakesPin told.live told.map_at old pin new
  pub runs : KeepsRuns told old new
  pub opened : KeepsOpenings told old new
  pub may_begin : told.may_begin new
  pub loans : told.loans new ≡ told.loans old
