-- What a run of page lines over the files of a path comes to.
use Rattle.std.specs.Prelude.{◌≡◌, ◌⊎◌, ◌≤◌, ℕ, Bool, true, false, List, [], ◌∷◌, ◌++◌, Option, Some, None, IfSome, codes}
use Rattle.disk_face.specs.Faults.{Rose}
use Rattle.disk_face.specs.Files.{Files}
use Rattle.disk_face.specs.Stays.{OnlyNames}
use Rattle.disk_face.specs.Steps.{History, reads}
use Rattle.disk_face.specs.Told.{IsNamed}
use Rattle.disk_face.specs.declared.tells.DiskTells as disks
use Rattle.disk_face.specs.declared.source.Source as sources
use Rattle.disk_face.specs.declared.sink.Sink as sinks
use Rattle.page_spec.specs.PageMap.{PageMap}
use Rattle.log_spec.specs.LogHeader.{last_generation}
use Rattle.crash_spec.specs.Known.{IsWithoutChance}
use Rattle.crash_spec.specs.Opening.{Opening, opening_at}
use Rattle.crash_spec.specs.Moments.{AtEachMoment}
use Rattle.opening_spec.specs.Begins.{MayOpen, view_at}
use Rattle.opening_spec.specs.Found.{OpeningView}
use Rattle.opening_spec.specs.States.{LeftAtStart, all_synced}
use Rattle.engine_spec.specs.declared.pins.Lock.TheVariants.{Part1}
use Rattle.engine_spec.specs.declared.pins.Pin.{Pin}
use Rattle.engine_spec.specs.declared.pins.Readers.{Readers}
use Rattle.engine_spec.specs.Leaves.{AtEach}
use Rattle.engine_spec.specs.State.{EngineState}
use Rattle.engine_spec.specs.TwoLogs.{TwoLogs}
use Rattle.page_lines.specs.declared.lines.Act.{Act}
use Rattle.page_lines.specs.declared.lines.Told.{Told}
use Rattle.page_lines.specs.Exchanges.{exchanged}
use Rattle.page_lines.specs.Legal.{IsLegalFrom}
use Rattle.page_lines.specs.Logged.{LoggedWorld, DiskPast, Lines, logged_answers, may_leave_since}
use Rattle.page_lines.specs.Serial.{IsSerial}
use Rattle.page_lines.specs.World.{world_over}
use Rattle.acts.specs.Pagers.{Plays}
use Rattle.recover.specs.Ready.{LeavesSettling}
use Rattle.recover.specs.Seeing.{generation_opened}
use Rattle.recover.specs.declared.setup.StoreKind.{StoreKind}
use Rattle.recover.specs.declared.setup.StoreKind.TheVariants.{Pages}
use Rattle.store.specs.Opening.{AreOpened, MaySettle, RefusesOpen, map_begun, map_opened, size_opened}
use Rattle.store.specs.Texts.{open_text}
use Rattle.store.specs.declared.open_fault.OpenFault.{OpenFault}
use Rattle.store.specs.declared.open_fault.OpenFault.TheVariants as refusal
use Rattle.page_runs.specs.declared.status.Status.{Status}
use Rattle.page_runs.specs.declared.status.Status.TheVariants as status
use Rattle.page_runs.specs.Outcome.{RunEnds, SaysLast}

-- the last line of a run whose disk failed before the script was begun
abbrev pub disk_failed : List ℕ
disk_failed = codes "disk failed" ++ 10 ∷ []

-- the last line of a run whose database isn't opened, by the fault
abbrev pub database_refused : OpenFault → List ℕ
database_refused why = codes "database refused: " ++ (open_text why ++ 10 ∷ [])

-- the last line was written, or there was no memory for it
abbrev pub SaysReason : {K : Type 0} → sinks.Ghosts K → OpenFault → Status → K → K → Type 0
SaysReason sink why ended out out' =
    SaysLast sink (database_refused why) status.DatabaseRefused ended out out' ⊎ ((ended ≡ status.NoMemory) × (out' ≡ out))

-- How a run ends whose database wasn't opened, by the fault.
abbrev pub SaysWhy : {K : Type 0} → sinks.Ghosts K → OpenFault → Status → K → K → Type 0
SaysWhy sink (refusal.Look why) ended out out' = SaysReason sink (refusal.Look why) ended out out'
SaysWhy sink (refusal.NotPages pages byte) ended out out' = SaysReason sink (refusal.NotPages pages byte) ended out out'
SaysWhy sink (refusal.Check why) ended out out' = SaysReason sink (refusal.Check why) ended out out'
SaysWhy sink refusal.Disk ended out out' = SaysLast sink disk_failed status.DiskFailed ended out out'
SaysWhy sink refusal.Memory ended out out' = (ended ≡ status.NoMemory) × (out' ≡ out)

-- the logs of a store as it begins: log 1 is current, with this generation and no frames, and log 2 is done
abbrev pub first_logs : (generation limit : ℕ) → TwoLogs
first_logs generation limit = record {
  current = 1;
  generation = generation;
  since = 0;
  other_since = 0;
  done = true;
  copied = 0;
  limit = limit;
}

-- nobody reads
abbrev pub nobody : Readers
nobody = record { part1 = 0; part1_full2 = 0; part2 = 0; part2_full1 = 0 }

-- a run over this map as it begins
abbrev pub first_world : PageMap → (generation limit : ℕ) → LoggedWorld
first_world pages generation limit = record {
  world = world_over pages;
  logs = first_logs generation limit;
  readers = nobody;
  locks = λ session. Part1;
  stopped = None;
}

-- The opening of which the run's images are spoken: the one at which the disk told this, where its premises hold.
abbrev pub opened_by : (new_size : ℕ) → History → Opening → Type 0
opened_by new_size told opening = (opening ≡ opening_at told) × MayOpen (size_opened new_size (reads told)) told

-- A store as a run begins on it, whatever its disk tells: without a commit and a reader, and alone.
pub record BeginsEmpty (generation limit : ℕ) (disk : DiskPast) (seen : EngineState) : Type 0 where
  pub history : seen.history ≡ []
  pub size : seen.size ≡ 16
  pub stopped : seen.stopped ≡ None
  pub faults : seen.faults ≡ disk.faults
  pub past : seen.disk ≡ disk.past
  pub always : seen.always_begins ≡ true
  pub alone : seen.alone ≡ true
  pub logs : seen.logs ≡ Some (first_logs generation limit)
  pub readers : seen.readers ≡ nobody

-- no opening: of what a crash leaves nothing is said
abbrev pub no_opening : Opening → Type 0
no_opening opening = ⊥

-- These acts were answered so by sessions over such a store, each answer with its exact cause, also where the disk tells no bytes; and
-- then the disk was so.
pub record IsPlayed (generation limit : ℕ) (begun ended : DiskPast) (acts : List Act) (answers : List Told) : Type 0 where
  pub seen : EngineState
  pub begins : BeginsEmpty generation limit begun seen
  pub map_at : Pin → Option PageMap
  pub last : EngineState
  pub plays : Plays no_opening seen map_at [] acts answers last
  pub faults : last.faults ≡ ended.faults
  pub past : last.disk ≡ ended.past

-- What a crash left is opened: where nothing in it is as it is by chance; where the generations leave room for the headers of the next
-- opening; and whatever the journal answers but that it is hot.
abbrev pub OpensAgain : Opening → History → Files → Type 0
OpensAgain opening told image =
    IsWithoutChance opening told image → generation_opened image ≤ last_generation
    → (hot : Option Bool) → (hot ≡ Some true → ⊥) → AreOpened hot image

-- And where the files are told: the answers are those of a run over the map with which the store began, and over its two logs; they are a
-- function of the acts where no fault was counted. That run is serial, its history is legal, and at each moment of it a crash leaves one of
-- its maps, or that of the one commit whose log write failed, and what it leaves is opened again.
pub record IsRunFrom (new_size generation limit : ℕ) (told : History) (begun ended : DiskPast) (acts : List Act) (answers : List Told) : Type 0 where
  pub after : LoggedWorld
  pub lines : Lines (opened_by new_size told) (first_world (map_opened new_size (reads told)) generation limit) begun acts answers after ended
  pub functional : (Rose begun.faults ended.faults → ⊥)
      → answers ≡ logged_answers (first_world (map_opened new_size (reads told)) generation limit) acts
  pub serial : IsSerial (map_opened new_size (reads told)) (exchanged acts answers)
  pub legal : IsLegalFrom (map_opened new_size (reads told)) after.world
  pub images : AtEach (opened_by new_size told) (may_leave_since 0 after) begun.past ended.past
  pub opens : (opening : Opening) → opened_by new_size told opening → AtEachMoment opening (OpensAgain opening) begun.past ended.past

-- both
abbrev pub IsAnsweredOnDisk : (new_size generation limit : ℕ) → Option History → (begun ended : DiskPast) → List Act → List Told → Type 0
IsAnsweredOnDisk new_size generation limit told begun ended acts answers = IsPlayed generation limit begun ended acts answers
    × IfSome told (λ told. IsRunFrom new_size generation limit told begun ended acts answers)

-- While a store of this kind is opened, a crash leaves at each moment the map before, or the one with which the store begins; before the logs are
-- synced, what it might have left at the start.
abbrev pub Settles : StoreKind → (new_size : ℕ) → Option History → Option History → Type 0
Settles kind new_size old new = (told : History) → old ≡ Some told → MayOpen (size_opened new_size (reads told)) told → MaySettle (reads told)
    → AtEachMoment (opening_at told) (LeavesSettling (view_at (size_opened new_size (reads told)) told) (map_begun kind new_size (reads told))) old new

-- What a crash leaves then is opened again; or a log that isn't empty wasn't synced yet, and the crash leaves what it might have left at the
-- start.
abbrev pub OpensSettling : OpeningView → History → Files → Type 0
OpensSettling view told image = OpensAgain view.opening told image ⊎ ((all_synced told ≡ false) × LeftAtStart view told image)

-- While a page store is opened whose files at the start nothing bars, so is at each moment what a crash leaves.
abbrev pub Reopens : (new_size : ℕ) → Option History → Option History → Type 0
Reopens new_size old new =
    (told : History) → old ≡ Some told → MayOpen (size_opened new_size (reads told)) told → (hot : Option Bool) → AreOpened hot (reads told)
    → AtEachMoment (opening_at told) (OpensSettling (view_at (size_opened new_size (reads told)) told)) old new

-- The files couldn't be named.
pub record Unnamed {D K : Type 0} (disk : disks.Ghosts D) (sink : sinks.Ghosts K) (ended : Status) (d : D) (out : K) (d' : D) (out' : K) : Type 0 where
  pub rose : Rose (disk.faults d) (disk.faults d')
  pub named : disk.named d' ≡ disk.named d
  pub stays : OnlyNames disk d d'
  pub says : SaysLast sink disk_failed status.DiskFailed ended out out'

-- The files weren't opened as a store of this kind.
pub record Unopened {D K : Type 0} (disk : disks.Ghosts D) (sink : sinks.Ghosts K) (kind : StoreKind) (new_size : ℕ) (ended : Status) (d : D) (out : K) (d' : D)
    (out' : K) : Type 0 where
  pub why : OpenFault
  pub refused : RefusesOpen kind (disk.faults d) (disk.faults d') (disk.told d) (disk.told d') (disk.journal_answer d) why
  pub moments : Settles kind new_size (disk.told d) (disk.told d')
  pub says : SaysWhy sink why ended out out'

-- For a run: the store wasn't opened, and nothing of the script was taken.
pub record RunsNothing {D S K : Type 0} (disk : disks.Ghosts D) (sink : sinks.Ghosts K) (new_size : ℕ) (ended : Status) (d : D) (src : S) (out : K) (d' : D)
    (src' : S) (out' : K) : Type 0 where
  pub unopened : Unopened disk sink Pages new_size ended d out d' out'
  pub reopens : Reopens new_size (disk.told d) (disk.told d')
  pub untaken : src' ≡ src

-- It was opened, and the script ran over it: what its lines write, and what they do to the files.
pub record RunsStore {D S K : Type 0} (disk : disks.Ghosts D) (source : sources.Ghosts S) (sink : sinks.Ghosts K) (new_size limit : ℕ) (ended : Status)
    (d : D) (src : S) (out : K) (d' : D) (src' : S) (out' : K) : Type 0 where
  pub begun : DiskPast
  pub generation : ℕ
  pub generation_is : IfSome (disk.told d) (λ told. generation ≡ generation_opened (reads told))
  pub faults : begun.faults ≡ disk.faults d
  pub opened : IfSome (disk.told d) (λ told. AreOpened (disk.journal_answer d) (reads told))
  pub moments : Settles Pages new_size (disk.told d) begun.past
  pub reopens : Reopens new_size (disk.told d) begun.past
  pub run : RunEnds source sink
      (IsAnsweredOnDisk new_size generation limit (disk.told d) begun (record { faults = disk.faults d'; past = disk.told d' })) ended src out src' out'

-- A run over files that are named: the store wasn't opened, or it was.
abbrev pub RunsOpened : {D S K : Type 0} → disks.Ghosts D → sources.Ghosts S → sinks.Ghosts K → (new_size limit : ℕ) → Status → D → S → K → D → S → K → Type 0
RunsOpened disk source sink new_size limit ended d src out d' src' out' =
    RunsNothing disk sink new_size ended d src out d' src' out' ⊎ RunsStore disk source sink new_size limit ended d src out d' src' out'

-- The files of this path were named, and then the run was over them.
pub record RunsNamed {D S K : Type 0} (disk : disks.Ghosts D) (source : sources.Ghosts S) (sink : sinks.Ghosts K) (path : List ℕ) (new_size limit : ℕ)
    (ended : Status) (d : D) (src : S) (out : K) (d' : D) (src' : S) (out' : K) : Type 0 where
  pub attached : D
  pub named : IsNamed (disk.named attached) path
  pub stays : OnlyNames disk d attached
  pub faults : disk.faults attached ≡ disk.faults d
  pub runs : RunsOpened disk source sink new_size limit ended attached src out d' src' out'

-- A run over the files of a path, with this page size for a new database and this limit on the frames of a log: they couldn't be named, or
-- they were.
abbrev pub RunsOnDisk : {D S K : Type 0} → disks.Ghosts D → sources.Ghosts S → sinks.Ghosts K → (path : List ℕ) (new_size limit : ℕ) → Status
    → D → S → K → D → S → K → Type 0
RunsOnDisk disk source sink path new_size limit ended d src out d' src' out' =
    (Unnamed disk sink ended d out d' out' × (src' ≡ src)) ⊎ RunsNamed disk source sink path new_size limit ended d src out d' src' out'
