-- What an opening asks of a database's files, and how a store begins.
use Rattle.std.specs.Prelude.{◌≡◌, ◌⊎◌, ℕ, ◌+◌, ◌-◌, ◌*◌, ◌≤◌, ◌==◌, max, Bool, true, false, ◌&&◌, ◌||◌, not, if◌then◌else◌, [], length, slice_index, Option, Some, None, IfSome, Result, Ok, Err}
use Rattle.disk_face.specs.Faults.{Rose}
use Rattle.disk_face.specs.Files.{Files}
use Rattle.disk_face.specs.Steps.{History, reads}
use Rattle.page_spec.specs.Header.{database_limit, fields_of, pages_in}
use Rattle.page_spec.specs.PageMap.{PageMap, page_at}
use Rattle.page_spec.specs.View.{view_of}
use Rattle.check_spec.specs.Walk.{Database}
use Rattle.check_spec.specs.declared.fault.CheckFault.{CheckFault}
use Rattle.check_spec.specs.declared.fault.CheckFault.TheVariants as fault
use Rattle.check_spec.specs.declared.fault.Count.{Count}
use Rattle.tree_check.specs.Checking.{IsCounted, IsShown}
use Rattle.wal_frames.specs.declared.header.Front.{Front}
use Rattle.wal_frames.specs.Front.{front_of}
use Rattle.crash_spec.specs.Opening.{Opening}
use Rattle.crash_spec.specs.Recovered.{recovered}
use Rattle.opening_spec.specs.Found.{OpeningView}
use Rattle.engine_spec.specs.declared.pins.Readers.{Readers}
use Rattle.wal_index.specs.Index.{Indexed, IndexedLog}
use Rattle.wal_rules.specs.declared.state.LogState.{LogState}
use Rattle.recover.specs.NewPages.{new_count, new_pages, migrated}
use Rattle.recover.specs.Ready.{IsNewPair, IsReady}
use Rattle.recover.specs.Seeing.{SeenView, is_new_in, is_ours_in, size_in, first_in, two_in, map_found, fault_of, files_told, is_front_ours, RefusesLook}
use Rattle.recover.specs.declared.setup.StoreKind.{StoreKind}
use Rattle.recover.specs.declared.setup.StoreKind.TheVariants.{Pages, Tables}
use Rattle.recover.specs.declared.seen.LookFault.{LookFault}
use Rattle.recover.specs.declared.seen.LookFault.TheVariants as look
use Rattle.store_spec.specs.Store.{StoreData}
use Rattle.store_spec.specs.Standing.{StandsOn}
use Rattle.store.specs.Kept.{kept_of}
use Rattle.store.specs.declared.open_fault.OpenFault.{OpenFault}
use Rattle.store.specs.declared.open_fault.OpenFault.TheVariants.{Look, NotPages, Check, Disk, Memory}
use Rattle.store.specs.declared.store.Store.{Store}

-- how many pages a page store has
abbrev pub page_count : ℕ
page_count = 16

-- a map of so many pages, whose page 1 names so many and has this byte at 100, is a page store's
abbrev pub are_pages : (pages named byte : ℕ) → Bool
are_pages pages named byte = pages == page_count && named == page_count && byte == 0

-- the first of the two counts that isn't a page store's
abbrev pub wrong_count : (pages named : ℕ) → ℕ
wrong_count pages named = if pages == page_count then named else pages

abbrev pub fault_by : (new : Bool) → (pages named byte : ℕ) → Option OpenFault
fault_by new pages named byte = if new || are_pages pages named byte then None else Some (NotPages (wrong_count pages named) byte)

-- why what was seen isn't a page store
abbrev pub fault_seen : SeenView → Option OpenFault
fault_seen seen = fault_by seen.is_new (length seen.places) seen.named seen.byte

-- And why these files aren't one: by how many pages the recovered map has, how many its page 1 names once Main has them all, and its byte 100.
abbrev pub named_in : Files → ℕ
named_in files = pages_in (first_in files) (max (length files.main) (length (map_found files) * size_in files))

abbrev pub byte_in : Files → ℕ
byte_in files = slice_index (page_at (map_found files) 1) 100

abbrev pub pages_fault : Files → Option OpenFault
pages_fault files = fault_by (is_new_in files) (length (map_found files)) (named_in files) (byte_in files)

-- The versions of a database that is there aren't this program's while log 2 begins with a header of ours. No file that only this program and programs
-- that know one log worked on is like that: log 2 gets its first header after Main has this program's versions.
abbrev pub is_mixed_by : (new ours : Bool) → (two : Front) → Bool
is_mixed_by new ours two = not new && not ours && is_front_ours two

-- by what was seen, and of these files
abbrev pub is_mixed_seen : SeenView → Bool
is_mixed_seen seen = is_mixed_by seen.is_new seen.is_ours seen.two

abbrev pub is_mixed : Files → Bool
is_mixed files = is_mixed_by (is_new_in files) (is_ours_in files) (front_of 2 files.log2)

-- the page size of a database as it is opened: a new one gets this one
abbrev pub size_opened : (new_size : ℕ) → Files → ℕ
size_opened new_size files = if is_new_in files then new_size else size_in files

-- The map with which a store of this kind begins: the pages of a new database, the recovered map, or that with this program's versions.
abbrev pub map_begun : StoreKind → (new_size : ℕ) → Files → PageMap
map_begun kind new_size files =
    if is_new_in files then new_pages kind new_size else (if is_ours_in files then recovered files else migrated (recovered files))

-- and a page store
abbrev pub map_opened : (new_size : ℕ) → Files → PageMap
map_opened new_size files = map_begun Pages new_size files

-- how many pages a store of this kind begins with, by what was seen
abbrev pub count_begun : StoreKind → SeenView → ℕ
count_begun kind seen = if seen.is_new then new_count kind else length seen.places

-- Where the versions aren't this program's, log 2 has no accepted frame: so it is on files on which only this program and others that know one log worked.
abbrev pub MaySettle : Files → Type 0
MaySettle files = (is_ours_in files ≡ true) ⊎ ((two_in files).frames ≡ [])

-- nobody reads
abbrev pub no_readers : Readers
no_readers = record { part1 = 0; part1_full2 = 0; part2 = 0; part2_full1 = 0 }

-- the index of two logs without frames
abbrev pub no_log : IndexedLog
no_log = record { pages = []; numbers = []; ends = []; tails = []; room = 0; seals = 0 }

abbrev pub no_frames : Indexed
no_frames = record { log1 = no_log; log2 = no_log; last = 1 }

-- log 1 is current, and the other one, which has no frames, is done
abbrev pub first_state : LogState
first_state = record { current = 1; done = true; copied = 0 }

-- A store as it begins, without a commit: of so many pages of this size, of which so much is in use, and with this limit on the frames of a log.
pub record BeginsWith (count bytes used most : ℕ) (kept : StoreData) : Type 0 where
  pub page_size : kept.page_size ≡ bytes
  pub usable : kept.usable ≡ used
  pub size : kept.size ≡ count
  pub limit : kept.limit ≡ most
  pub pair : IsNewPair bytes kept.pair
  pub index : kept.index ≡ no_frames
  pub state : kept.state ≡ first_state
  pub history : kept.history ≡ []
  pub stop : kept.stop ≡ None

-- a page store as it begins
abbrev pub IsBeginning : (bytes used most : ℕ) → StoreData → Type 0
IsBeginning bytes used most kept = BeginsWith page_count bytes used most kept

-- and one of this kind: tables have as many pages as they have
abbrev pub BeginsAs : StoreKind → (bytes used most : ℕ) → StoreData → Type 0
BeginsAs Pages bytes used most kept = IsBeginning bytes used most kept
BeginsAs Tables bytes used most kept = BeginsWith kept.size bytes used most kept

-- The database that is checked before it is opened: the recovered map of these files.
abbrev pub database_in : Files → Database
database_in files = record {
  page_size = size_in files;
  usable = size_in files - (fields_of (first_in files)).reserved;
  last = length (map_found files);
  view = view_of (map_found files);
}

-- Main can hold the recovered map: page 1 names just its pages once Main has them all, and they are no more than a database has. It can't only where
-- the count on page 1 doesn't count, so that Main's length is it, and a log's last commit names another one.
pub record MayHold (files : Files) : Type 0 where
  pub named : named_in files ≡ length (map_found files)
  pub fits : length (map_found files) * size_in files ≤ database_limit

-- the same of what was seen, which has a page
pub record MayHoldSeen (seen : SeenView) : Type 0 where
  pub some : 1 ≤ length seen.places
  pub named : seen.named ≡ length seen.places
  pub fits : length seen.places * seen.page_size ≤ database_limit

-- A database of tables is refused by this fault: a check shows it; or the check shows none, but Main can't hold the map, which is told as a wrong
-- count on page 1.
abbrev pub IsUnsound : Files → CheckFault → Type 0
IsUnsound files why = IsShown (database_in files) why
    ⊎ ((count : Count) × IsCounted (database_in files) count × (MayHold files → ⊥) × (why ≡ fault.Page 1 28))

-- a new database of tables: page 1 with its tree
abbrev pub first_counts : Count
first_counts = record { pages = 1; trees = 1; free = 0 }

-- What an opening counts in these files.
pub record IsCountOf (files : Files) (count : Count) : Type 0 where
  pub new : is_new_in files ≡ true → count ≡ first_counts
  pub counted : is_new_in files ≡ false → IsCounted (database_in files) count

-- What was seen is a map of so many pages with which a store of tables may begin.
pub record HasTables (seen : SeenView) (count : ℕ) : Type 0 where
  pub counts : count_begun Tables seen ≡ count
  pub named : seen.is_new ≡ false → seen.named ≡ length seen.places
  pub some : 1 ≤ count
  pub fits : count * seen.page_size ≤ database_limit

-- the disk behind an answer
abbrev pub disk_of : {D W M : Type 0} → Result (Store D W M) (OpenFault × D) → D
disk_of (Ok store) = store.disk
disk_of (Err (fault, disk)) = disk

-- the answer without what was counted
abbrev pub uncounted : {D W M : Type 0} → Result (Store D W M × Count) (OpenFault × D) → Result (Store D W M) (OpenFault × D)
uncounted (Ok (store, count)) = Ok store
uncounted (Err refused) = Err refused

-- where a store was answered, its pair is ready, and it stands on the disk
abbrev pub ReadyAs : {D W M : Type 0} → Result (Store D W M) (OpenFault × D) → OpeningView → PageMap → History → Type 0
ReadyAs (Ok store) view later told = IsReady view later store.pair told
ReadyAs (Err refused) view later told = Unit {0}

abbrev pub StandsAs : {D W M : Type 0} → Result (Store D W M) (OpenFault × D) → Opening → History → Type 0
StandsAs (Ok store) opening told = StandsOn opening (kept_of store) told
StandsAs (Err refused) opening told = Unit {0}

-- An opening's writes failed, or memory was wanting before them.
abbrev pub FailsToSettle : (before after : ℕ) → (old new : Option History) → OpenFault → Type 0
FailsToSettle before after old new (Look why) = ⊥
FailsToSettle before after old new (NotPages pages byte) = ⊥
FailsToSettle before after old new (Check why) = ⊥
FailsToSettle before after old new Disk = Rose before after
FailsToSettle before after old new Memory = (new ≡ old) × (after ≡ before)

-- a fault of a look at the files, as an opening tells it, and one of a check
abbrev pub of_look : LookFault → OpenFault
of_look look.Disk = Disk
of_look look.Memory = Memory
of_look why = Look why

abbrev pub of_check : CheckFault → OpenFault
of_check fault.Disk = Disk
of_check fault.Memory = Memory
of_check why = Check why

-- the fault is one of the files, or of the journal
abbrev pub IsOfFiles : LookFault → Type 0
IsOfFiles look.Disk = ⊥
IsOfFiles look.Memory = ⊥
IsOfFiles why = Unit {0}

-- and one of the pages
abbrev pub IsOfPages : CheckFault → Type 0
IsOfPages fault.Disk = ⊥
IsOfPages fault.Memory = ⊥
IsOfPages why = Unit {0}

-- A look at these files, beside a journal that answers so, finds no fault.
pub record AreFine (hot : Option Bool) (files : Files) : Type 0 where
  pub asked : IfSome hot (λ hot. fault_of files hot ≡ None)
  pub fine : fault_of files false ≡ None

-- Files are no page store, told by this count and this byte 100: a count or that byte isn't a page store's, or their versions and log 2 don't go together.
abbrev pub IsRefusedBy : Files → (pages byte : ℕ) → Type 0
IsRefusedBy files pages byte =
    (pages_fault files ≡ Some (NotPages pages byte))
    ⊎ ((pages_fault files ≡ None) × (is_mixed files ≡ true) × (pages ≡ length (map_found files)) × (byte ≡ byte_in files))

-- What is said of a store of one kind comes at that kind alone.
abbrev pub OfPages : StoreKind → Type 0 → Type 0
OfPages Pages Says = Says
OfPages Tables Says = ⊥

abbrev pub OfTables : StoreKind → Type 0 → Type 0
OfTables Pages Says = ⊥
OfTables Tables Says = Says

-- An opening as this kind was refused. Before it wrote anything where the files show why, each fault exactly where it is the first one, or memory was
-- wanting; and a disk has failed only where its count rose.
abbrev pub RefusesOpen : StoreKind → (before after : ℕ) → (old new : Option History) → (hot : Option Bool) → OpenFault → Type 0
RefusesOpen kind before after old new hot (Look why) = IsOfFiles why × RefusesLook before after (files_told old) hot why × (new ≡ old) × (after ≡ before)
RefusesOpen kind before after old new hot (NotPages pages byte) =
    OfPages kind (IfSome old (λ told. AreFine hot (reads told) × IsRefusedBy (reads told) pages byte) × (new ≡ old) × (after ≡ before))
RefusesOpen kind before after old new hot (Check why) =
    OfTables kind (IsOfPages why × IfSome old (λ told. AreFine hot (reads told) × (is_new_in (reads told) ≡ false) × IsUnsound (reads told) why) × (new ≡ old) × (after ≡ before))
RefusesOpen kind before after old new hot Disk = Rose before after
RefusesOpen kind before after old new hot Memory = (new ≡ old) × (after ≡ before)

-- What was seen isn't a sound database of tables: the same without what a look says.
abbrev pub RefusesTables : (before after : ℕ) → (old : Option History) → OpenFault → Type 0
RefusesTables before after old (Look why) = ⊥
RefusesTables before after old (NotPages pages byte) = ⊥
RefusesTables before after old (Check why) = IsOfPages why × IfSome old (λ told. (is_new_in (reads told) ≡ false) × IsUnsound (reads told) why) × (after ≡ before)
RefusesTables before after old Disk = Rose before after
RefusesTables before after old Memory = after ≡ before

-- And they are opened: nothing bars it. As pages:
pub record AreOpened (hot : Option Bool) (files : Files) : Type 0 where
  pub look : AreFine hot files
  pub pages : pages_fault files ≡ None
  pub settles : is_mixed files ≡ false

-- as tables: a database that is there is sound, and Main can hold it;
pub record AreTables (hot : Option Bool) (files : Files) : Type 0 where
  pub look : AreFine hot files
  pub sound : is_new_in files ≡ false → (count : Count) × IsCounted (database_in files) count
  pub holds : is_new_in files ≡ false → MayHold files

-- and as this kind.
abbrev pub AreOpenedAs : StoreKind → (hot : Option Bool) → Files → Type 0
AreOpenedAs Pages hot files = AreOpened hot files
AreOpenedAs Tables hot files = AreTables hot files

-- a store has the sizes of these files, where a new one gets this page size
pub record HasSizesOf (new_size : ℕ) (files : Files) (kept : StoreData) : Type 0 where
  pub page_size : kept.page_size ≡ size_opened new_size files
  pub usable : kept.page_size ≡ kept.usable + (if is_new_in files then 0 else (fields_of (first_in files)).reserved)
