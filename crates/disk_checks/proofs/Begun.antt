-- After files were opened, what a crash leaves is the map with which the store begins.
use Rattle.std.proofs.Common.{◌≡◌, ℕ, Bool, true, List, [], ◌∷◌, ◌++◌, Option, None, Some, option_map, IfSome, refl, sym, subst}
use Rattle.disk_face.specs.Steps.{History, reads}
use Rattle.disk_face.specs.declared.tells.DiskTells as disks
use Rattle.disk_face.specs.declared.sink.Sink as sinks
use Rattle.page_spec.specs.Header.{is_page_size}
use Rattle.page_spec.specs.PageMap.{PageMap}
use Rattle.crash_spec.specs.Opening.{Opening, opening_at}
use Rattle.crash_spec.specs.Passes.{Passes}
use Rattle.opening_spec.specs.Begins.{MayOpen, view_at}
use Rattle.engine_spec.specs.Leaves.{RecoversNow, may_recover, if_told, kept_map}
use Rattle.check_spec.specs.declared.fault.Count.{Count}
use Rattle.recover.specs.Ready.{LeavesSettling}
use Rattle.recover.specs.declared.setup.StoreKind.TheVariants.{Tables}
use Rattle.store_spec.specs.Store.{StoreData, newest_told, stop_told, store_state}
use Rattle.store_spec.specs.Standing.{IsOpenedAt, StandsOn}
use Rattle.store_spec.proofs.EngineLaws.{recovers}
use Rattle.store.specs.Kept.{kept_of}
use Rattle.store.specs.Opening.{AreTables, IsCountOf, MaySettle, map_begun, no_readers, size_opened}
use Rattle.store.specs.declared.store.Store.{Store}
use Rattle.page_runs.specs.declared.status.Status.{Status}
use Rattle.page_lines.specs.Logged.{DiskPast}
use Rattle.tree_check.specs.Checking.{IsCounted}
use Rattle.sound_begins.specs.Begun.{database_begun}
use Rattle.sound_begins.proofs.Counts.{begun_counts}
use Rattle.disk_checks.specs.Checks.{LeavesBegun, SaysCount, TellsCount, page_size_checked, past_of}

pub checked_size_legal : is_page_size page_size_checked ≡ true
unfolding is_page_size
checked_size_legal = refl

-- a store without a failed write, whose newest map is this one
newest_left : (kept : StoreData) (told : Option History) (map : PageMap) (opening : Opening) → kept.stop ≡ None → newest_told kept told ≡ Some map
    → IsOpenedAt opening kept told → RecoversNow opening (map ∷ []) told
newest_left kept told map opening none newest opened =
    let is : may_recover (store_state told 0 kept no_readers) ≡ map ∷ [] = λ i. if_told (newest i) ++ kept_map (option_map (stop_told kept told) (none i)) in
    subst (λ (maps : List PageMap). RecoversNow opening maps told) is (recovers told 0 kept no_readers opening opened)

-- what an opening passes: each of its moments, and what it leaves
abbrev Opens : (new_size : ℕ) → StoreData → Option History → Option History → Type 0
Opens new_size kept old new = (told : History) → old ≡ Some told → MayOpen (size_opened new_size (reads told)) told → MaySettle (reads told)
    → Passes (opening_at told) (LeavesSettling (view_at (size_opened new_size (reads told)) told) (map_begun Tables new_size (reads told))) (StandsOn (opening_at told) kept) old new

-- the newest map of the store is the one with which it begins
abbrev IsNewest : (new_size : ℕ) → StoreData → Option History → Option History → Type 0
IsNewest new_size kept old new = IfSome old (λ told. MaySettle (reads told) → newest_told kept new ≡ Some (map_begun Tables new_size (reads told)))

leaves_begun : (new_size : ℕ) (kept : StoreData) (old new : Option History) → Opens new_size kept old new → kept.stop ≡ None → IsNewest new_size kept old new → LeavesBegun new_size old new
leaves_begun new_size kept old new opens none newest told is may settle =
    let same : IsNewest new_size kept (Some told) new = subst (λ (o : Option History). IsNewest new_size kept o new) is newest in
    newest_left kept new (map_begun Tables new_size (reads told)) (opening_at told) none (same settle) (opens told is may settle).holds

-- what was counted before the opening's writes is what the database has with which the store begins
has_counts : (new_size : ℕ) (count : Count) (old : Option History) → is_page_size new_size ≡ true → IfSome old (λ told. IsCountOf (reads told) count)
    → IfSome old (λ told. IsCounted (database_begun new_size (reads told)) count)
has_counts new_size count None legal counted = counted
has_counts new_size count (Some told) legal counted = begun_counts new_size (reads told) count legal counted.new counted.counted

-- a store that was opened, of which the count is told, and which gives its disk back
pub tells_count : {D W M K : Type 0} (disk : disks.Ghosts D) (sink : sinks.Ghosts K) (new_size : ℕ) (ended : Status) (d : D) (out : K) (after : D) (out' : K) (store : Store D W M) (count : Count)
    → is_page_size new_size ≡ true
    → after ≡ store.disk → (kept_of store).stop ≡ None → IfSome (disk.told d) (λ told. AreTables (disk.journal_answer d) (reads told)) → IfSome (disk.told d) (λ told. IsCountOf (reads told) count)
    → IsNewest new_size (kept_of store) (disk.told d) (disk.told store.disk) → Opens new_size (kept_of store) (disk.told d) (disk.told store.disk)
    → disk.faults store.disk ≡ disk.faults d → SaysCount sink count ended out out'
    → TellsCount sink new_size (disk.journal_answer d) (past_of disk d) (past_of disk after) ended out out'
tells_count disk sink new_size ended d out after out' store count legal given none opened counted newest opens faults says =
    subst (λ it. TellsCount sink new_size (disk.journal_answer d) (past_of disk d) (past_of disk it) ended out out') (sym given) (record {
      count = count;
      opened = opened;
      counted = counted;
      has = has_counts new_size count (disk.told d) legal counted;
      faults = faults;
      moments = λ told is may settle. (opens told is may settle).each_moment;
      begun = leaves_begun new_size (kept_of store) (disk.told d) (disk.told store.disk) opens none newest;
      says = says;
    })
