-- A run over a store that was just opened is a run over the map with which it began, and over its two logs.
use Rattle.std.proofs.Common.{◌≡◌, ◌∙◌, ℕ, true, List, [], Some, None, Ok, IfSome, refl, sym, ap, subst}
use Rattle.std.specs.Prelude.{Bool, Option}
use Rattle.disk_face.specs.Steps.{History, reads}
use Rattle.disk_face.specs.declared.tells.DiskTells as disks
use Rattle.disk_face.specs.declared.source.Source as sources
use Rattle.disk_face.specs.declared.sink.Sink as sinks
use Rattle.page_spec.specs.Header.{is_page_size}
use Rattle.page_spec.specs.PageMap.{PageMap, page_size_of}
use Rattle.crash_spec.specs.Opening.{Opening, opening_at}
use Rattle.crash_spec.specs.Passes.{Passes}
use Rattle.opening_spec.specs.Begins.{MayOpen, view_at}
use Rattle.engine_spec.specs.declared.pins.Lock.TheVariants.{Part1}
use Rattle.engine_spec.specs.Leaves.{AtEach, RecoversNow}
use Rattle.engine_spec.specs.State.{EngineState}
use Rattle.engine_spec.specs.TwoLogs.{TwoLogs}
use Rattle.page_face.specs.declared.means.Means.{Ghosts as Meaning}
use Rattle.page_lines.specs.declared.lines.Act.{Act}
use Rattle.page_lines.specs.declared.lines.Told.{Told}
use Rattle.page_lines.specs.PageLines.{IsPageStore}
use Rattle.page_lines.specs.Range.{AreInRange}
use Rattle.page_lines.specs.Logged.{DiskPast, Lines, may_leave, may_leave_since}
use Rattle.page_lines.proofs.Alone.{IsStore}
use Rattle.page_lines.proofs.LoggedAnswers.{logged_functional}
use Rattle.page_lines.proofs.LoggedLeaves.{lines_leave}
use Rattle.page_lines.proofs.LoggedRuns.{logged_serial, logged_legal}
use Rattle.acts.specs.Logged.{StandsLogged, past_of}
use Rattle.acts.specs.Pagers.{LeavesItsMaps}
use Rattle.acts.proofs.LoggedPlays.{RunsLogged, begins_logged, runs_logged, plays_logged}
use Rattle.recover.specs.Ready.{LeavesSettling}
use Rattle.recover.specs.declared.setup.StoreKind.TheVariants.{Pages}
use Rattle.store_spec.specs.Store.{StoreData, two_logs}
use Rattle.store.specs.Kept.{kept_of, state_of}
use Rattle.recover.specs.Seeing.{generation_opened}
use Rattle.store.specs.Opening.{AreOpened, IsBeginning, MaySettle, StandsAs, map_opened, size_opened, no_readers}
use Rattle.store.specs.declared.solo.Solo.{Solo}
use Rattle.store.specs.Solo.{solo_tells, store_of}
use Rattle.store.specs.Solo.{as_store}
use Rattle.store.proofs.Mixed.{opened_settles}
use Rattle.store.proofs.OpenedStores.{ArePages, BeginsState, begins_logs, begins_state, opened_with_sizes}
use Rattle.reopening.proofs.FirstMap.{opened_own}
use Rattle.disk_runs.specs.OnDisk.{BeginsEmpty, IsPlayed, IsRunFrom, IsAnsweredOnDisk, RunsStore, Settles, first_logs, first_world, no_opening, opened_by}
use Rattle.disk_runs.specs.Opened.{IsRunOf}
use Rattle.page_runs.specs.declared.status.Status.{Status}
use Rattle.page_runs.specs.Outcome.{RunEnds}
use Rattle.page_runs.proofs.Memory.{ends_as}
use Rattle.disk_runs.proofs.Plays.{plays_under}
use Rattle.disk_runs.proofs.OwnMaps.{moments_open, run_own}
use Rattle.disk_runs.proofs.Openings.{reopens_settling}

-- the logs of a store as it begins
logs_are : (bytes used most : ℕ) (kept : StoreData) → IsBeginning bytes used most kept → two_logs kept ≡ first_logs (two_logs kept).generation most
logs_are bytes used most kept b =
    let logs = begins_logs bytes used most kept b in
    fields (two_logs kept) logs.current logs.since logs.other_since logs.done logs.copied logs.limit
  where
    fields : (logs : TwoLogs) → logs.current ≡ 1 → logs.since ≡ 0 → logs.other_since ≡ 0 → logs.done ≡ true → logs.copied ≡ 0 → logs.limit ≡ most
        → logs ≡ first_logs logs.generation most
    fields logs current since other_since done copied limit = λ i. record {
      current = current i;
      generation = logs.generation;
      since = since i;
      other_since = other_since i;
      done = done i;
      copied = copied i;
      limit = limit i;
    }

module _ {D W M : Type 0} (disk : disks.Ghosts D) (loans : W → List ℕ) (means : Meaning M) (new_size most : ℕ) (legal : is_page_size new_size ≡ true) (hot : Option Bool)
    (faults : ℕ) (solo : Solo D W M) (b : IsBeginning (store_of solo).page_size (store_of solo).usable most (kept_of (store_of solo)))
    (state : (solo_tells disk loans means).state solo ≡ state_of disk (store_of solo) no_readers)
    (live : (solo_tells disk loans means).live solo []) (same_faults : disk.faults (store_of solo).disk ≡ faults) where
  abbrev seen : EngineState
  seen = (solo_tells disk loans means).state solo

  abbrev kept : StoreData
  kept = kept_of (store_of solo)

  abbrev generation : ℕ
  generation = (two_logs kept).generation

  abbrev begun : DiskPast
  begun = record { faults = faults; past = disk.told (store_of solo).disk }

  -- what the engine tells as the run begins
  known : BeginsState (store_of solo).page_size (store_of solo).usable (disk.told (store_of solo).disk) (disk.faults (store_of solo).disk) kept seen
  known = subst (BeginsState (store_of solo).page_size (store_of solo).usable (disk.told (store_of solo).disk) (disk.faults (store_of solo).disk) kept) (sym state)
      (begins_state (store_of solo).page_size (store_of solo).usable most (disk.told (store_of solo).disk) (disk.faults (store_of solo).disk) kept b)

  has_logs : seen.logs ≡ Some (first_logs generation most)
  has_logs = known.logs ∙ ap Some (logs_are (store_of solo).page_size (store_of solo).usable most kept b)

  begins_empty : BeginsEmpty generation most begun seen
  begins_empty = record {
    history = known.history_is;
    size = known.size;
    stopped = known.stopped;
    faults = known.faults ∙ same_faults;
    past = known.disk;
    always = known.always_begins;
    alone = known.alone;
    logs = has_logs;
    readers = known.readers;
  }

  past_is : past_of seen ≡ begun
  past_is = λ i. record { faults = (known.faults ∙ same_faults) i; past = known.disk i }

  -- whatever the disk tells
  played : (after : D) (acts : List Act) (answers : List Told) → IsRunOf disk loans means solo after acts answers
      → IsPlayed generation most begun (record { faults = disk.faults after; past = disk.told after }) acts answers
  played after acts answers run = record {
    seen = seen;
    begins = begins_empty;
    map_at = (solo_tells disk loans means).map_at solo;
    last = run.last;
    plays = plays_under no_opening ((solo_tells disk loans means).opened solo) (λ one never. absurd never) seen ((solo_tells disk loans means).map_at solo) [] acts answers
        run.last run.plays;
    faults = run.faults;
    past = run.past;
  }

  -- and where it tells its files
  module _ (told : History) (is_opened : AreOpened hot (reads told)) (newest : seen.newest ≡ Some (map_opened new_size (reads told)))
      (holds : (opening : Opening) → opened_by new_size told opening → (solo_tells disk loans means).opened solo opening) where
    abbrev first : PageMap
    first = map_opened new_size (reads told)

    are_pages : ArePages seen.page_size first
    are_pages = opened_with_sizes new_size seen.size seen.page_size hot (reads told) is_opened known.size
        ((solo_tells disk loans means).newest_sizes solo [] first live newest) ((solo_tells disk loans means).legal solo [] live).0

    is_store : IsPageStore first
    is_store = record { count = are_pages.count; size = are_pages.size; each = are_pages.each; no_tree = are_pages.no_tree }

    leaves : LeavesItsMaps (opened_by new_size told) seen
    leaves opening is = (solo_tells disk loans means).recovers solo opening (holds opening is)

    stands : StandsLogged seen ((solo_tells disk loans means).map_at solo) [] (first_world first generation most)
    stands = subst (λ readers. StandsLogged seen ((solo_tells disk loans means).map_at solo) [] (record (first_world first generation most) { readers = readers })) known.readers
        (begins_logged seen ((solo_tells disk loans means).map_at solo) first (first_logs generation most) (λ session. Part1) known.history_is newest is_store known.size
        (sym are_pages.size_is) known.stopped has_logs)

    runs : RunsLogged (opened_by new_size told) seen ((solo_tells disk loans means).map_at solo) [] (first_world first generation most)
    runs = runs_logged (opened_by new_size told) seen ((solo_tells disk loans means).map_at solo) (first_world first generation most) known.alone known.always_begins stands leaves

    run_from : (after : D) (acts : List Act) (answers : List Told) → AreInRange acts → IsRunOf disk loans means solo after acts answers
        → IsRunFrom new_size generation most told begun (record { faults = disk.faults after; past = disk.told after }) acts answers
    run_from after acts answers range run =
        let plays = plays_under (opened_by new_size told) ((solo_tells disk loans means).opened solo) holds seen ((solo_tells disk loans means).map_at solo) [] acts answers run.last
        run.plays in
        let led = plays_logged (opened_by new_size told) seen ((solo_tells disk loans means).map_at solo) [] acts answers run.last (first_world first generation most) range runs plays in
        let ended : DiskPast = record { faults = disk.faults after; past = disk.told after } in
        let last_is : past_of run.last ≡ ended = λ i. record { faults = run.faults i; past = run.past i } in
        let lines : Lines (opened_by new_size told) (first_world first generation most) begun acts answers led.0 ended =
        subst (λ (now : DiskPast). Lines (opened_by new_size told) (first_world first generation most) begun acts answers led.0 now) last_is
        (subst (λ (old : DiskPast). Lines (opened_by new_size told) (first_world first generation most) old acts answers led.0 (past_of run.last)) past_is led.1) in
        let sound : IsStore (page_size_of first) first = record { store = is_store; size = refl } in
        let images : AtEach (opened_by new_size told) (may_leave_since 0 led.0) begun.past ended.past =
        lines_leave (opened_by new_size told) (first_world first generation most) begun ended acts answers led.0 refl
        (λ opening is. subst (RecoversNow opening (may_leave (first_world first generation most))) known.disk (runs.recovers opening is)) lines in
        record {
          after = led.0;
          lines = lines;
          functional = logged_functional (opened_by new_size told) (first_world first generation most) begun ended acts answers led.0 lines;
          serial = logged_serial (page_size_of first) first sound (opened_by new_size told) (first_world first generation most) refl begun ended acts answers led.0 range lines;
          legal = logged_legal (page_size_of first) first sound (opened_by new_size told) (first_world first generation most) refl begun ended acts answers led.0 range lines;
          images = images;
          opens = λ opening is.
              moments_open (page_size_of first) opening (may_leave_since 0 led.0) begun.past ended.past
              (run_own (page_size_of first) first sound (opened_own new_size hot (reads told) legal is_opened) (opened_by new_size told) (first_world first generation most) refl refl begun ended acts answers led.0 range lines)
              (images opening is);
        }

  -- both
  answered : (before : Option History) (after : D) (acts : List Act) (answers : List Told) → IfSome before (λ told. AreOpened hot (reads told))
      → IfSome before (λ told. seen.newest ≡ Some (map_opened new_size (reads told)))
      → ((told : History) → before ≡ Some told → (opening : Opening) → opened_by new_size told opening → (solo_tells disk loans means).opened solo opening)
      → AreInRange acts → IsRunOf disk loans means solo after acts answers
      → IsAnsweredOnDisk new_size generation most before begun (record { faults = disk.faults after; past = disk.told after }) acts answers
  answered None after acts answers opened newest holds range run = (played after acts answers run, tt)
  answered (Some told) after acts answers opened newest holds range run = (
    played after acts answers run,
    run_from told opened newest (holds told refl) after acts answers range run,
  )

-- the store may settle what it opened
pub settles_told : (hot : Option Bool) (before : Option History) → IfSome before (λ told. AreOpened hot (reads told)) → IfSome before (λ told. MaySettle (reads told))
settles_told hot None opened = tt
settles_told hot (Some told) opened = opened_settles hot (reads told) opened

-- and what follows from that holds
told_once_settled : (hot : Option Bool) (Follows : History → Type 0) (before : Option History) → IfSome before (λ told. AreOpened hot (reads told))
    → IfSome before (λ told. MaySettle (reads told) → Follows told) → IfSome before Follows
told_once_settled hot Follows None opened follows = tt
told_once_settled hot Follows (Some told) opened follows = follows (opened_settles hot (reads told) opened)

-- what a crash leaves while the store is opened, and since which opening the disk holds what it holds
module _ {D W M : Type 0} (disk : disks.Ghosts D) (loans : W → List ℕ) (means : Meaning M) (new_size : ℕ) (hot : Option Bool) (d : D) (solo : Solo D W M)
    (moments : (told : History) → disk.told d ≡ Some told → MayOpen (size_opened new_size (reads told)) told → MaySettle (reads told)
    → Passes (opening_at told) (LeavesSettling (view_at (size_opened new_size (reads told)) told) (map_opened new_size (reads told)))
    (StandsAs (as_store {D = D} {W = W} {M = M} (Ok solo)) (opening_at told)) (disk.told d) (disk.told (store_of solo).disk)) where
  pub settles_moments : Settles Pages new_size (disk.told d) (disk.told (store_of solo).disk)
  settles_moments told is may settles = (moments told is may settles).each_moment

  pub opened_since : IfSome (disk.told d) (λ told. AreOpened hot (reads told)) → (told : History) → disk.told d ≡ Some told → (opening : Opening)
      → opened_by new_size told opening → (solo_tells disk loans means).opened solo opening
  opened_since opened told is opening by =
      let settles : MaySettle (reads told) = subst (λ (o : Option History). IfSome o (λ told. MaySettle (reads told))) is (settles_told hot (disk.told d) opened) in
      subst ((solo_tells disk loans means).opened solo) (sym by.0) (moments told is by.1 settles).holds

-- A run over a store that was just opened.
pub runs_store : {D W M S K : Type 0} (disk : disks.Ghosts D) (source : sources.Ghosts S) (sink : sinks.Ghosts K) (loans : W → List ℕ) (means : Meaning M)
    (new_size most : ℕ) (status : Status) (d : D) (src : S) (out : K) (after : D) (src' : S) (out' : K) (solo : Solo D W M)
    → is_page_size new_size ≡ true → IsBeginning (store_of solo).page_size (store_of solo).usable most (kept_of (store_of solo))
    → IfSome (disk.told d) (λ told. (two_logs (kept_of (store_of solo))).generation ≡ generation_opened (reads told))
    → (solo_tells disk loans means).state solo ≡ state_of disk (store_of solo) no_readers
    → (IfSome (disk.told d) (λ told. MaySettle (reads told)) → (solo_tells disk loans means).live solo [])
    → IfSome (disk.told d) (λ told. MaySettle (reads told) → ((solo_tells disk loans means).state solo).newest ≡ Some (map_opened new_size (reads told)))
    → ((told : History) → disk.told d ≡ Some told → MayOpen (size_opened new_size (reads told)) told → MaySettle (reads told)
    → Passes (opening_at told) (LeavesSettling (view_at (size_opened new_size (reads told)) told) (map_opened new_size (reads told)))
    (StandsAs (as_store {D = D} {W = W} {M = M} (Ok solo)) (opening_at told)) (disk.told d) (disk.told (store_of solo).disk))
    → IfSome (disk.told d) (λ told. AreOpened (disk.journal_answer d) (reads told)) → disk.faults (store_of solo).disk ≡ disk.faults d
    → RunEnds source sink (IsRunOf disk loans means solo after) status src out src' out'
    → RunsStore disk source sink new_size most status d src out after src' out'
runs_store disk source sink loans means new_size most status d src out after src' out' solo legal begins generation state live newest moments opened faults run =
    let hot = disk.journal_answer d in
    let held = live (settles_told hot (disk.told d) opened) in
    record {
      begun = record { faults = disk.faults d; past = disk.told (store_of solo).disk };
      generation = (two_logs (kept_of (store_of solo))).generation;
      generation_is = generation;
      faults = refl;
      opened = opened;
      moments = settles_moments disk loans means new_size hot d solo moments;
      reopens = reopens_settling new_size legal (disk.told d) (disk.told (store_of solo).disk) (settles_moments disk loans means new_size hot d solo moments);
      run = ends_as source sink (IsRunOf disk loans means solo after) _ status src out src' out' (λ acts answers range one.
          answered disk loans means new_size most legal hot (disk.faults d) solo begins state held faults (disk.told d) after acts answers opened
          (told_once_settled hot (λ told. ((solo_tells disk loans means).state solo).newest ≡ Some (map_opened new_size (reads told))) (disk.told d) opened newest)
          (opened_since disk loans means new_size hot d solo moments opened) range one) run;
    }
