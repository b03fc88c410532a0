-- What an engine needs of a commit whose frames were written, or failed in writing, where the store may have gone over to its other log before.
use Rattle.std.proofs.Common.{◌≡◌, ◌∙◌, ℕ, ◌+◌, Bool, true, false, if◌then◌else◌, List, [], ◌∷◌, ◌++◌, length, drop, append-nil, add-one, refl, sym, ap, subst, arith, Option, Some, None, Contains}
use Rattle.std.specs.Prelude.{IfSome}
use Rattle.std.specs.Option.{option_map}
use Rattle.std.proofs.lemmas.List.Elements.{Contains-append_left}
use Rattle.disk_face.specs.Files.{Files}
use Rattle.disk_face.specs.Steps.{History, reads}
use Rattle.page_spec.specs.PageMap.{PageMap}
use Rattle.log_spec.specs.Accept.{Frame}
use Rattle.log_spec.specs.Frames.{place_behind}
use Rattle.crash_spec.specs.Moments.{AtEachMoment}
use Rattle.crash_spec.specs.Opening.{Opening}
use Rattle.crash_spec.specs.Recovered.{recovered}
use Rattle.crash_spec.proofs.Passing.{passes_still, since_join}
use Rattle.engine_spec.specs.declared.commits.Commit.{Commit}
use Rattle.engine_spec.specs.declared.commits.PageImage.{PageImage}
use Rattle.engine_spec.specs.declared.pins.Pin.{Pin}
use Rattle.engine_spec.specs.declared.pins.Readers.{Readers}
use Rattle.engine_spec.specs.Change.{Change, laid}
use Rattle.engine_spec.specs.Events.{IsClear, IsCommitted, IsStopped, map_after}
use Rattle.engine_spec.specs.Leaves.{RecoversOneOf, may_recover, if_told, kept_map}
use Rattle.engine_spec.specs.State.{Stop}
use Rattle.engine_spec.specs.TwoLogs.{to_write, may_switch, switched, frames_of, current_frames}
use Rattle.engine_spec.specs.TwoLogs.IsStopPlace.{AtFrame}
use Rattle.engine_spec.specs.Written.{Submitted, Writes, numbers_from}
use Rattle.wal_index.specs.Index.{Indexed}
use Rattle.log_pair.specs.Pair.{PairView, log_of, current_file, current_header}
use Rattle.log_commit.specs.Commit.{IsCommitStep, map_under}
use Rattle.store_spec.specs.Store.{StoreData, KeptStop, current_read, newest_in, newest_told, stop_told, store_state, two_logs, since_of}
use Rattle.store_spec.specs.Standing.{IsWholeStore, IsLiveStore, IsOpenedAt, StandsOn}
use Rattle.store_spec.specs.Steps.{HasIndexed, committed, stopped}
use Rattle.store_spec.proofs.EngineLaws.{leaves_now}
use Rattle.store_spec.proofs.Runs.{counted_of}
use Rattle.store_spec.proofs.Commits.{logs_same, one_longer, numbers-more}
use Rattle.store_spec.proofs.Committed.{still_told, either_map, newest_committed, newest_stopped, stop_is_laid}
use Rattle.store_spec.proofs.Committing.{IsCommitting, goes_stopped, read_committed, read_stopped}
use Rattle.store_spec.proofs.CommitLive.{stopped_logs}
use Rattle.store_spec.proofs.FramesStand.{since_told}
use Rattle.store_spec.proofs.Writing.{IsPairOf, pair_more, pair_appended, current_header_of}

-- Before the frames of a commit are written the store is as it was, or has gone over to its other log, as the switch rule says.
pub record IsReadied (kept ready : StoreData) (readers : Readers) (old mid : Option History) : Type 0 where
  pub running : kept.stop ≡ None
  pub history : ready.history ≡ kept.history
  pub size : ready.size ≡ kept.size
  pub page_size : ready.page_size ≡ kept.page_size
  pub usable : ready.usable ≡ kept.usable
  pub logs : two_logs ready ≡ to_write (two_logs kept) readers kept.history
  pub newest : newest_told ready mid ≡ newest_told kept old
  pub opened : (opening : Opening) → IsOpenedAt opening kept old → IsOpenedAt opening ready mid
  pub moments : (opening : Opening) → IsOpenedAt opening kept old → AtEachMoment opening (RecoversOneOf opening (if_told (newest_told kept old))) old mid

-- the place of a failed log write, by what the files hold
abbrev place_in : StoreData → Files → KeptStop → Stop
place_in kept files stop = record { log = stop.log; at = stop.at; map = Some (map_under (newest_in kept.pair files) stop.images stop.size) }

-- a store that is running leaves its newest map, while nothing is done
still_moments : (kept : StoreData) → kept.stop ≡ None → (opening : Opening) (old : Option History) → IsOpenedAt opening kept old
    → AtEachMoment opening (RecoversOneOf opening (if_told (newest_told kept old))) old old
still_moments kept none opening None opened = tt
still_moments kept none opening (Some told) opened =
    (passes_still opening (RecoversOneOf opening (newest_in kept.pair (reads told) ∷ [])) (λ t. StandsOn opening kept t × (reads t ≡ reads told))
    (λ t (stands, same) image left chance.
    let leaves = leaves_now opening kept t stands image left chance in (
      subst (λ (files : Files). Contains (newest_in kept.pair files ∷ []) (recovered image)) same
          (subst (λ (stop : Option KeptStop). Contains (newest_in kept.pair (reads t) ∷ kept_map (option_map (place_in kept (reads t)) stop)) (recovered image)) none leaves.0),
      leaves.1,
      leaves.2,
    )) (Some told) (since_told opening.start (StandsOn opening kept) told opened)).each_moment

pub readied_still : (kept : StoreData) (readers : Readers) (old : Option History) → kept.stop ≡ None → may_switch (two_logs kept) readers kept.history ≡ false → IsReadied kept kept readers old old
readied_still kept readers old none stays = record {
  running = none;
  history = refl;
  size = refl;
  page_size = refl;
  usable = refl;
  logs = sym (ap (λ (may : Bool). if may then switched (two_logs kept) kept.history else two_logs kept) stays);
  newest = refl;
  opened = λ opening opened. opened;
  moments = λ opening opened. still_moments kept none opening old opened;
}

-- one of some maps is one of more
at_wider : (opening : Opening) (maps more : List PageMap) (old new : Option History) → AtEachMoment opening (RecoversOneOf opening maps) old new
    → AtEachMoment opening (RecoversOneOf opening (maps ++ more)) old new
at_wider opening maps more None None each = tt
at_wider opening maps more None (Some new) each = absurd each
at_wider opening maps more (Some old) None each = absurd each
at_wider opening maps more (Some old) (Some new) (since, steps, is, same, all) = (
  since,
  steps,
  is,
  same,
  λ ago most image left chance. let leaves = all ago most image left chance in (Contains-append_left maps more (recovered image) leaves.0, leaves.1, leaves.2),
)

-- the maps that a commit may leave
abbrev both_maps : Option PageMap → Change → List PageMap
both_maps newest change = if_told newest ++ if_told (option_map (λ pages. laid pages change) newest)

maps_are : (kept : StoreData) (old : Option History) (faults : ℕ) (readers : Readers) (change : Change) → kept.stop ≡ None
    → may_recover (store_state old faults kept readers) ++ if_told (map_after (store_state old faults kept readers) change) ≡ both_maps (newest_told kept old) change
maps_are kept old faults readers change none =
    ap (λ (stop : Option KeptStop). (if_told (newest_told kept old) ++ kept_map (option_map (stop_told kept old) stop)) ++ if_told (option_map (λ pages. laid pages change) (newest_told kept old))) none
    ∙ ap (λ (maps : List PageMap). maps ++ if_told (option_map (λ pages. laid pages change) (newest_told kept old))) (append-nil (if_told (newest_told kept old)))

-- At each moment of the whole commit a crash leaves the map before it or the one after.
pub commit_moments : (kept ready : StoreData) (ok : Bool) (images : List PageImage) (pair : PairView) (asked : Submitted) (commit : Commit) (readers : Readers) (old mid new : Option History) (faults : ℕ)
    → IsReadied kept ready readers old mid → IsCommitting ready ok images pair asked commit mid new → (opening : Opening) → IsOpenedAt opening kept old
    → AtEachMoment opening (RecoversOneOf opening (may_recover (store_state old faults kept readers) ++ if_told (map_after (store_state old faults kept readers) asked.change))) old new
commit_moments kept ready ok images pair asked commit readers old mid new faults r c opening opened =
    subst (λ (maps : List PageMap). AtEachMoment opening (RecoversOneOf opening maps) old new) (sym (maps_are kept old faults readers asked.change r.running))
    (since_join opening (RecoversOneOf opening (both_maps (newest_told kept old) asked.change)) old mid new
    (at_wider opening (if_told (newest_told kept old)) (if_told (option_map (λ pages. laid pages asked.change) (newest_told kept old))) old mid (r.moments opening opened))
    (subst (λ (newest : Option PageMap). AtEachMoment opening (RecoversOneOf opening (both_maps newest asked.change)) mid new) r.newest
    (subst (λ (maps : List PageMap). AtEachMoment opening (RecoversOneOf opening maps) mid new) (maps_are ready mid faults readers asked.change c.may.running)
    (either_map ready images pair asked.change commit c.may ok mid new faults readers c.has c.lays opening (r.opened opening opened)))))

-- how many frames the current log has
frames_count : (kept : StoreData) → IsWholeStore kept → (log_of kept.pair kept.pair.current).frames ≡ length (frames_of (drop (since_of kept) kept.history))
frames_count kept whole = sym (counted_of kept kept.pair.current whole whole.pair.which).counted ∙ ap length whole.index.current.pages

-- COMMIT went well.
pub committed_law : (kept ready : StoreData) (images : List PageImage) (pair : PairView) (index : Indexed) (asked : Submitted) (commit : Commit) (readers : Readers) (pins : List Pin)
    (old mid new : Option History) (faults : ℕ) → IsReadied kept ready readers old mid → IsCommitting ready true images pair asked commit mid new → HasIndexed ready commit index
    → IsLiveStore mid ready readers pins → IsClear (store_state old faults kept readers) asked
    → IsCommitted (λ opening. IsOpenedAt opening kept old) (store_state old faults kept readers) asked (length kept.history + 1) (store_state new faults (committed ready pair index commit) readers)
committed_law kept ready images pair index asked commit readers pins old mid new faults r c indexed live clear = record {
  clear = clear;
  number_is = refl;
  pages = commit.wrote;
  wrote = subst (λ (newest : Option PageMap). Writes newest kept.size asked.change commit.wrote) r.newest
      (subst (λ (size : ℕ). Writes (newest_told ready mid) size asked.change commit.wrote) r.size c.wrote);
  moments = λ opening opened. commit_moments kept ready true images pair asked commit readers old mid new faults r c opening opened;
  after_is = λ i. record {
    history = r.history i ++ c.is i ∷ [];
    own = own i;
    newest = newest i;
    size = size i;
    stopped = none i;
    faults = faults;
    page_size = r.page_size i;
    usable = r.usable i;
    always_begins = true;
    alone = true;
    logs = Some (logs i);
    readers = readers;
    disk = new;
  };
}
  where
    own : numbers_from 1 (length (ready.history ++ commit ∷ [])) ≡ numbers_from 1 (length kept.history) ++ (length kept.history + 1) ∷ []
    own = ap (numbers_from 1) (one_longer ready.history commit ∙ ap (λ (h : List Commit). length h + 1) r.history ∙ add-one (length kept.history))
        ∙ numbers-more 1 (length kept.history) ∙ ap (λ (n : ℕ). numbers_from 1 (length kept.history) ++ n ∷ []) (omega arith)

    newest : newest_told (committed ready pair index commit) new ≡ option_map (λ pages. laid pages asked.change) (newest_told kept old)
    newest = newest_committed ready images pair asked.change commit c.may index mid new c.has c.lays indexed live.opening live.opened
        ∙ ap (option_map (λ pages. laid pages asked.change)) r.newest

    size : ready.size ≡ kept.size + length asked.change.fresh
    size = omega (arith, r.size, ap length c.whole.fresh)

    none : option_map (stop_told (committed ready pair index commit) new) ready.stop ≡ option_map (stop_told kept old) kept.stop
    none = ap (option_map (stop_told (committed ready pair index commit) new)) c.may.running ∙ sym (ap (option_map (stop_told kept old)) r.running)

    logs : two_logs (committed ready pair index commit) ≡ to_write (two_logs kept) readers kept.history
    logs =
        let same = (pair_more ready.pair pair (length images) c.has.writes.becomes).0 in
        logs_same ready pair commit index same.current (current_header_of ready.pair pair same) indexed ∙ r.logs

-- A write or sync of the log failed: the place of the commit's first frame is kept.
pub stopped_law : (kept ready : StoreData) (images : List PageImage) (pair : PairView) (stop : KeptStop) (asked : Submitted) (commit : Commit) (readers : Readers) (pins : List Pin)
    (old mid new : Option History) (faults after : ℕ) → IsReadied kept ready readers old mid → IsCommitting ready false images pair asked commit mid new → stop.images ≡ images → stop.size ≡ ready.size
    → stop.log ≡ ready.pair.current → stop.at ≡ place_behind kept.page_size (log_of ready.pair ready.pair.current).frames → IsLiveStore mid ready readers pins
    → IsStopped (λ opening. IsOpenedAt opening kept old) (store_state old faults kept readers) asked (store_state new after (stopped ready pair stop) readers)
stopped_law kept ready images pair stop asked commit readers pins old mid new faults after r c is_images is_size is_log is_at live = record {
  stop = stop_told (stopped ready pair stop) new stop;
  map = stop_is_laid ready images pair asked.change commit c.may stop mid new c.has c.lays is_images is_size live.opening live.opened ∙ ap (option_map (λ pages. laid pages asked.change)) r.newest;
  place = AtFrame (logs ∙ r.logs) (is_log ∙ sym same.current) (is_at ∙ ap (place_behind kept.page_size) (frames_count ready live.whole ∙ counted));
  moments = λ opening opened. commit_moments kept ready false images pair asked commit readers old mid new faults r c opening opened;
  after_is = λ i. record {
    history = r.history i;
    own = numbers_from 1 (length (r.history i));
    newest = newest i;
    size = r.size i;
    stopped = Some (stop_told (stopped ready pair stop) new stop);
    faults = after;
    page_size = r.page_size i;
    usable = r.usable i;
    always_begins = true;
    alone = true;
    logs = Some (two_logs (stopped ready pair stop));
    readers = readers;
    disk = new;
  };
}
  where
    same : IsPairOf ready.pair pair
    same = (pair_appended ready.pair pair c.has.writes.becomes).0

    logs : two_logs (stopped ready pair stop) ≡ two_logs ready
    logs = stopped_logs ready pair stop same (goes_stopped ready images pair stop asked commit mid new c)

    counted : length (frames_of (drop (since_of ready) ready.history)) ≡ length (current_frames (two_logs (stopped ready pair stop)) kept.history)
    counted = λ i. length (current_frames (sym logs i) (r.history i))

    newest : newest_told (stopped ready pair stop) new ≡ newest_told kept old
    newest = newest_stopped ready images pair asked.change commit c.may stop mid new c.has c.lays live.opening live.opened ∙ r.newest

-- what holds of the frames of the current log, and of those that were written behind them
pub frames_committed : (P : List Frame → Type 0) (kept : StoreData) (images : List PageImage) (pair : PairView) (index : Indexed) (asked : Submitted) (commit : Commit) (old new : Option History) (opening : Opening)
    (c : IsCommitting kept true images pair asked commit old new) → HasIndexed kept commit index → IsOpenedAt opening kept old → ((frames : List Frame) → P frames → P (frames ++ c.has.more))
    → IfSome old (λ told. P (current_read kept.pair (reads told))) → IfSome new (λ told. P (current_read pair (reads told)))
frames_committed P kept images pair index asked commit None new opening c indexed opened law before =
    subst (λ (t : Option History). IfSome t (λ told. P (current_read pair (reads told)))) (sym c.has.steps) tt
frames_committed P kept images pair index asked commit (Some told) new opening c indexed opened law before =
    still_told (IsCommitStep (current_file kept.pair) (current_header kept.pair)) told (λ (t : Option History). IfSome t (λ told. P (current_read pair (reads told)))) new c.has.steps
    (λ later is. subst P (sym (read_committed opening kept images pair index asked commit told later new c indexed opened is).0.current) (law (current_read kept.pair (reads told)) before))

pub frames_stopped : (P : List Frame → Type 0) (kept : StoreData) (images : List PageImage) (pair : PairView) (stop : KeptStop) (asked : Submitted) (commit : Commit) (old new : Option History) (opening : Opening)
    (c : IsCommitting kept false images pair asked commit old new) → IsOpenedAt opening kept old
    → IfSome old (λ told. P (current_read kept.pair (reads told))) → IfSome new (λ told. P (current_read pair (reads told)))
frames_stopped P kept images pair stop asked commit None new opening c opened before =
    subst (λ (t : Option History). IfSome t (λ told. P (current_read pair (reads told)))) (sym c.has.steps) tt
frames_stopped P kept images pair stop asked commit (Some told) new opening c opened before =
    still_told (IsCommitStep (current_file kept.pair) (current_header kept.pair)) told (λ (t : Option History). IfSome t (λ told. P (current_read pair (reads told)))) new c.has.steps
    (λ later is.
    subst P (sym ((read_stopped opening kept images pair stop asked commit told later new c opened is).0.current ∙ append-nil (current_read kept.pair (reads told)))) before)
