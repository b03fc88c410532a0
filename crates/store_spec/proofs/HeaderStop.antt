-- What an engine needs of a commit that goes over to the other log: a store that is ready for its frames, or one that stopped at the header.
use Rattle.std.proofs.Common.{◌≡◌, ◌∙◌, ℕ, true, false, List, length, refl, ap, Option, Some, None}
use Rattle.std.specs.Prelude.{IfSome}
use Rattle.std.specs.Option.{option_map}
use Rattle.disk_face.specs.Steps.{History, reads}
use Rattle.page_spec.specs.PageMap.{PageMap}
use Rattle.engine_spec.specs.declared.commits.PageImage.{PageImage}
use Rattle.engine_spec.specs.declared.pins.Pin.{Pin}
use Rattle.engine_spec.specs.declared.pins.Readers.{Readers}
use Rattle.engine_spec.specs.Change.{Change, laid}
use Rattle.engine_spec.specs.Events.{IsStopped, map_after}
use Rattle.engine_spec.specs.Leaves.{may_recover, if_told}
use Rattle.engine_spec.specs.TwoLogs.{may_switch}
use Rattle.engine_spec.specs.TwoLogs.IsStopPlace.{AtHeader}
use Rattle.engine_spec.specs.Written.{Submitted, numbers_from}
use Rattle.wal_index.specs.Index.{Indexed}
use Rattle.log_pair.specs.Pair.{PairView, other_number}
use Rattle.log_commit.specs.Commit.{map_under}
use Rattle.store_spec.specs.Store.{StoreData, KeptStop, newest_in, newest_told, stop_map, stop_told, store_state, two_logs}
use Rattle.store_spec.specs.Standing.{IsLiveStore, IsOpenedAt}
use Rattle.store_spec.specs.Steps.{HasCleared, HasSwitched, gone_over, stopped}
use Rattle.store_spec.proofs.CommitAnswers.{IsReadied}
use Rattle.store_spec.proofs.Switching.{at_more}
use Rattle.store_spec.proofs.SwitchIndex.{other_is_3}
use Rattle.store_spec.proofs.SwitchLaws.{switch_moments, switch_leaves, gone_opened, gone_logs, gone_newest, failed_logs, failed_newest}

-- the map of a kept stop, by the newest one
stop_map_is : (kept : StoreData) (stop : KeptStop) (told : Option History) → stop_map kept stop told ≡ option_map (λ pages. map_under pages stop.images stop.size) (newest_told kept told)
stop_map_is kept stop None = refl
stop_map_is kept stop (Some told) = refl

-- images that make what laying the change makes
lies_told : (kept : StoreData) (images : List PageImage) (change : Change) (told : Option History)
    → IfSome told (λ told. map_under (newest_in kept.pair (reads told)) images kept.size ≡ laid (newest_in kept.pair (reads told)) change)
    → option_map (λ pages. map_under pages images kept.size) (newest_told kept told) ≡ option_map (λ pages. laid pages change) (newest_told kept told)
lies_told kept images change None lies = refl
lies_told kept images change (Some told) lies = ap (λ (pages : PageMap). Some pages) lies

-- What is kept of a commit whose header failed: the front of the other log, and what the commit would have written.
pub record IsHeaderStop (kept : StoreData) (images : List PageImage) (stop : KeptStop) : Type 0 where
  pub log : stop.log ≡ other_number kept.pair.current
  pub at : stop.at ≡ 0
  pub writes : stop.images ≡ images
  pub size : stop.size ≡ kept.size

module _ (kept : StoreData) (readers : Readers) (pins : List Pin) (salt2 : ℕ) (old new : Option History) (live : IsLiveStore old kept readers pins) (none : kept.stop ≡ None)
    (may : may_switch (two_logs kept) readers kept.history ≡ true) where
  -- The switch was done: the store is ready for the frames.
  pub gone_readied : (pair : PairView) (index : Indexed) → HasCleared kept index → HasSwitched kept true pair salt2 old new → IsReadied kept (gone_over kept pair index) readers old new
  gone_readied pair index cleared has = record {
    running = none;
    history = refl;
    size = refl;
    page_size = refl;
    usable = refl;
    logs = gone_logs kept readers pins salt2 old new live none may pair index cleared has;
    newest = gone_newest kept readers pins salt2 old new live none may pair index cleared has;
    opened = gone_opened kept readers pins salt2 old new live none may pair index cleared has;
    moments = switch_moments kept readers pins salt2 old new live none may true pair has;
  }

  -- The switch failed: the front of the other log is kept as the place of the failed write.
  pub header_stopped_law : (images : List PageImage) (pair : PairView) (stop : KeptStop) (asked : Submitted) (faults after : ℕ) → HasSwitched kept false pair salt2 old new → IsHeaderStop kept images stop
      → IfSome old (λ told. map_under (newest_in kept.pair (reads told)) images kept.size ≡ laid (newest_in kept.pair (reads told)) asked.change)
      → IsStopped (λ opening. IsOpenedAt opening kept old) (store_state old faults kept readers) asked (store_state new after (stopped kept pair stop) readers)
  header_stopped_law images pair stop asked faults after has is lies = record {
    stop = stop_told (stopped kept pair stop) new stop;
    map = stop_map_is (stopped kept pair stop) stop new ∙ ap (option_map (λ pages. map_under pages stop.images stop.size)) newest
        ∙ (λ i. option_map (λ pages. map_under pages (is.writes i) (is.size i)) (newest_told kept old)) ∙ lies_told kept images asked.change old lies;
    place = AtHeader may (is.log ∙ other_is_3 kept.pair.current live.whole.pair.which) is.at (failed_logs kept readers pins salt2 old new live none may pair stop has);
    moments = λ opening opened.
        at_more opening (may_recover (store_state old faults kept readers)) (if_told (map_after (store_state old faults kept readers) asked.change)) old new
        (switch_leaves kept readers pins salt2 old new live none may false pair faults has opening opened);
    after_is = λ i. record {
      history = kept.history;
      own = numbers_from 1 (length kept.history);
      newest = newest i;
      size = kept.size;
      stopped = Some (stop_told (stopped kept pair stop) new stop);
      faults = after;
      page_size = kept.page_size;
      usable = kept.usable;
      always_begins = true;
      alone = true;
      logs = Some (two_logs (stopped kept pair stop));
      readers = readers;
      disk = new;
    };
  }
    where
      newest : newest_told (stopped kept pair stop) new ≡ newest_told kept old
      newest = failed_newest kept readers pins salt2 old new live none may pair stop has
