-- What an engine needs of a switch, by the switch rule and what the switch was answered.
use Rattle.std.proofs.Common.{◌≡◌, ℕ, Bool, true, false, List, sym, ap, subst, Contains, Option, None}
use Rattle.std.specs.Prelude.{IfSome}
use Rattle.std.proofs.lemmas.List.Elements.{All-contains}
use Rattle.disk_face.specs.Steps.{History, reads}
use Rattle.page_spec.specs.PageMap.{PageMap}
use Rattle.crash_spec.specs.Moments.{AtEachMoment}
use Rattle.crash_spec.specs.Opening.{Opening}
use Rattle.engine_spec.specs.declared.pins.Pin.{Pin}
use Rattle.engine_spec.specs.declared.pins.Readers.{Readers}
use Rattle.engine_spec.specs.Leaves.{RecoversOneOf, if_told, may_recover}
use Rattle.engine_spec.specs.TwoLogs.{may_switch, to_write}
use Rattle.wal_index.specs.Index.{Indexed}
use Rattle.log_pair.specs.Pair.{PairView}
use Rattle.store_spec.specs.Store.{StoreData, KeptStop, current_read, newest_told, pin_told, store_state, two_logs}
use Rattle.store_spec.specs.Pins.{PinHolds}
use Rattle.store_spec.specs.Steps.{HasCleared, HasSwitched, gone_over, stopped}
use Rattle.store_spec.specs.Standing.{IsOpenedAt, IsLiveStore, StandsFrom}
use Rattle.store_spec.proofs.Named.{AllName}
use Rattle.store_spec.proofs.Switching.{allowed, moments, moments_so}
use Rattle.store_spec.proofs.Switched.{FrontAlone, BothTold, switch_keeps}
use Rattle.store_spec.proofs.SwitchIndex.{logs_to_write}
use Rattle.store_spec.proofs.SwitchLive.{live_over, live_torn}
use Rattle.store_spec.proofs.SwitchOpened.{IsReady, files_ready, opened_over, opened_torn}
use Rattle.store_spec.proofs.SwitchPins.{of_front, newest_over_told, newest_torn_told, pin_over_told, pin_torn_told}
use Rattle.store_spec.proofs.SwitchRuns.{runs_over, runs_torn}

-- all but the other log's front stays, whatever the answer
kept_alone : (kept : StoreData) (ok : Bool) (pair : PairView) (salt2 : ℕ) (old new : Option History) → HasSwitched kept ok pair salt2 old new → BothTold (FrontAlone kept.pair) old new
kept_alone kept ok pair salt2 old new has = switch_keeps ok kept.pair has.bytes old new has.switches.is.whole has.switches.steps

module _ (kept : StoreData) (readers : Readers) (pins : List Pin) (salt2 : ℕ) (old new : Option History) (live : IsLiveStore old kept readers pins) (none : kept.stop ≡ None)
    (may : may_switch (two_logs kept) readers kept.history ≡ true) where
  -- Either answer: at each moment a crash leaves the newest map, for each opening since which the store stood.
  pub switch_moments : (ok : Bool) (pair : PairView) → HasSwitched kept ok pair salt2 old new → (opening : Opening) → IsOpenedAt opening kept old
      → AtEachMoment opening (RecoversOneOf opening (if_told (newest_told kept old))) old new
  switch_moments ok pair has opening opened =
      moments kept readers none live.whole (allowed kept readers may) ok pair salt2 has.bytes has.sum new opening old has.switches opened

  -- and so one of the maps that may be recovered of the store before
  pub switch_leaves : (ok : Bool) (pair : PairView) (faults : ℕ) → HasSwitched kept ok pair salt2 old new → (opening : Opening) → IsOpenedAt opening kept old
      → AtEachMoment opening (RecoversOneOf opening (may_recover (store_state old faults kept readers))) old new
  switch_leaves ok pair faults has opening opened =
      moments_so kept readers none live.whole (allowed kept readers may) ok pair salt2 has.bytes has.sum new opening old faults has.switches opened

  -- The switch was done.
  module _ (pair : PairView) (index : Indexed) (cleared : HasCleared kept index) (has : HasSwitched kept true pair salt2 old new) where
    ready : IfSome old (λ told. IsReady kept (reads told))
    ready = files_ready kept readers none live.whole (allowed kept readers may) live.opening old live.opened

    -- the openings since which the store stood stay, the logs are those that the commit goes to, and the newest map is the same
    pub gone_opened : (opening : Opening) → IsOpenedAt opening kept old → IsOpenedAt opening (gone_over kept pair index) new
    gone_opened opening opened = opened_over kept readers none live.whole (allowed kept readers may) opening pair salt2 index old new cleared has opened

    pub gone_logs : two_logs (gone_over kept pair index) ≡ to_write (two_logs kept) readers kept.history
    gone_logs = subst (λ (p : PairView). two_logs (gone_over kept p index) ≡ to_write (two_logs kept) readers kept.history) (sym has.switches.becomes)
        (logs_to_write kept readers live.whole (allowed kept readers may) salt2 has.sum index cleared may)

    pub gone_newest : newest_told (gone_over kept pair index) new ≡ newest_told kept old
    gone_newest = subst (λ (p : PairView). newest_told (gone_over kept p index) new ≡ newest_told kept old) (sym has.switches.becomes)
        (newest_over_told kept readers live.whole (allowed kept readers may) salt2 has.sum index cleared old new (kept_alone kept true pair salt2 old new has) ready)

    -- with frames of page 1 that name the page size
    module _ (named : IfSome old (λ told. AllName kept.page_size (current_read kept.pair (reads told)))) where
      pub gone_pin : (pin : Pin) → Contains pins pin → pin_told (gone_over kept pair index) new pin ≡ pin_told kept old pin
      gone_pin pin there =
          let holds = All-contains (PinHolds old kept) pins pin live.hold there in
          let (current, part) = of_front kept readers live.whole (allowed kept readers may) pins live.counted pin there holds.place in
          subst (λ (p : PairView). pin_told (gone_over kept p index) new pin ≡ pin_told kept old pin) (sym has.switches.becomes)
          (pin_over_told kept readers live.whole (allowed kept readers may) salt2 has.sum index cleared pin current old new (kept_alone kept true pair salt2 old new has) ready named)

      pub gone_live : IsLiveStore new (gone_over kept pair index) readers pins
      gone_live = live_over kept readers pins salt2 old new live none (allowed kept readers may) pair index cleared has named

      pub gone_runs : (sound : PageMap → Type 0) (leads : PageMap → List (List ℕ) → PageMap → Type 0) (first : PageMap) → StandsFrom sound leads first old kept readers
          → StandsFrom sound leads first new (gone_over kept pair index) readers
      gone_runs sound leads first stands = runs_over sound leads first kept readers pins salt2 old new live none (allowed kept readers may) stands pair index cleared has named

  -- The switch failed.
  module _ (pair : PairView) (stop : KeptStop) (has : HasSwitched kept false pair salt2 old new) where
    pub failed_opened : (opening : Opening) → IsOpenedAt opening kept old → IsOpenedAt opening (stopped kept pair stop) new
    failed_opened opening opened = opened_torn kept readers none live.whole (allowed kept readers may) opening pair salt2 stop old new has opened

    pub failed_logs : two_logs (stopped kept pair stop) ≡ two_logs kept
    failed_logs = ap (λ (p : PairView). two_logs (stopped kept p stop)) has.switches.becomes

    pub failed_newest : newest_told (stopped kept pair stop) new ≡ newest_told kept old
    failed_newest = subst (λ (p : PairView). newest_told (stopped kept p stop) new ≡ newest_told kept old) (sym has.switches.becomes)
        (newest_torn_told kept stop old new (kept_alone kept false pair salt2 old new has))

    pub failed_pin : (pin : Pin) → pin_told (stopped kept pair stop) new pin ≡ pin_told kept old pin
    failed_pin pin = subst (λ (p : PairView). pin_told (stopped kept p stop) new pin ≡ pin_told kept old pin) (sym has.switches.becomes)
        (pin_torn_told kept stop pin old new (kept_alone kept false pair salt2 old new has))

    pub failed_live : IsLiveStore new (stopped kept pair stop) readers pins
    failed_live = live_torn kept readers pins salt2 old new live none (allowed kept readers may) pair stop has

    pub failed_runs : (sound : PageMap → Type 0) (leads : PageMap → List (List ℕ) → PageMap → Type 0) (first : PageMap) → StandsFrom sound leads first old kept readers
        → StandsFrom sound leads first new (stopped kept pair stop) readers
    failed_runs sound leads first stands = runs_torn sound leads first kept readers pins salt2 old new live none (allowed kept readers may) stands pair stop has
