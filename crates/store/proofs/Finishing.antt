-- A commit whose frames were written, and one whose write failed, from a store that is ready.
use Rattle.std.proofs.Common.{◌≡◌, ◌∙◌, inr, ℕ, ◌+◌, ◌≤◌, List, ◌++◌, length, Bool, true, false, refl, sym, ap, subst, arith, Contains, Option, Some, None, Ok, Err}
use Rattle.std.specs.Prelude.{IfSome}
use Rattle.std.proofs.lemmas.List.Elements.{All-contains}
use Rattle.disk_face.specs.declared.tells.DiskTells.{Ghosts as DiskGhosts}
use Rattle.disk_face.specs.Faults.{Rose}
use Rattle.disk_face.specs.Steps.{History}
use Rattle.page_spec.specs.PageMap.{PageMap, page_at}
use Rattle.log_spec.specs.Frames.{place_behind}
use Rattle.engine_spec.specs.declared.commits.Commit.{Commit}
use Rattle.engine_spec.specs.declared.commits.CommitFault.TheVariants as fault
use Rattle.engine_spec.specs.declared.commits.PageImage.{PageImage}
use Rattle.engine_spec.specs.declared.commits.Receipt.TheVariants.{At}
use Rattle.engine_spec.specs.declared.commits.Who.{Who}
use Rattle.engine_spec.specs.declared.pins.Pin.{Pin}
use Rattle.engine_spec.specs.declared.pins.Readers.{Readers}
use Rattle.engine_spec.specs.Change.{laid}
use Rattle.engine_spec.specs.Events.{IsClear, IsCommitted, IsStopped, AcceptsCommit, RefusesCommit}
use Rattle.engine_spec.specs.History.{NoConflict}
use Rattle.engine_spec.specs.Written.{Submitted, commit_of}
use Rattle.engine_spec.proofs.Here.{during_here}
use Rattle.log_pair.specs.Pair.{IsPair, log_of, current_header, next_place}
use Rattle.laying.specs.Order.{images_of}
use Rattle.page_face.specs.declared.means.Means.{Ghosts as Meaning}
use Rattle.page_face.specs.declared.prepared.Prepared.{Prepared}
use Rattle.page_face.specs.Calls.{IsLaidOn}
use Rattle.page_face.specs.Prepared.{IsFit, IsGood, change_in, submitted}
use Rattle.store_spec.specs.Store.{StoreData, KeptStop, newest_told, pin_told, store_state}
use Rattle.store_spec.specs.Pins.{PinHolds}
use Rattle.store_spec.specs.Standing.{IsLiveStore, StandsFrom, IsOpenedAt}
use Rattle.store_spec.specs.Steady.{IsSteady}
use Rattle.store_spec.specs.Steps.{HasWritten, HasIndexed, committed, stopped}
use Rattle.store_spec.proofs.EngineLaws.{held}
use Rattle.store_spec.proofs.Committed.{IsLaid, opened_committed, opened_stopped}
use Rattle.store_spec.proofs.Committing.{IsCommitting, pin_committed, pin_stopped}
use Rattle.store_spec.proofs.CommitAnswers.{committed_law, stopped_law}
use Rattle.store_spec.proofs.CommitGood.{runs_laid}
use Rattle.store_spec.proofs.CommitLive.{live_committed, live_stopped}
use Rattle.store_spec.proofs.CommitRuns.{runs_stopped}
use Rattle.store_spec.proofs.CommitSalts.{may_write}
use Rattle.store_spec.proofs.SteadyLaws.{steady_committed, steady_stopped}
use Rattle.store.specs.declared.plan.Plan.{Plan}
use Rattle.store.specs.declared.store.Store.{Store}
use Rattle.store.specs.Planning.{IsPlanOf}
use Rattle.store.specs.Kept.{kept_of, bare, state_of, IsAble}
use Rattle.store.specs.Committing.{kept_stop}
use Rattle.store.specs.CommittedFrom.{Before, state_before, StoodFrom, LaidOnEach, IsReadyFrom, CommittedFrom}
use Rattle.store.proofs.Laid.{is_laid, is_whole, wrote_is}
use Rattle.store.proofs.Readying.{none_kept}

module _ {D W M : Type 0} (disk : DiskGhosts D) (loans : W → List ℕ) (means : Meaning M) (readers : Readers) (before : Before) (mid new : Store D W M) (pins : List Pin) (pin : Pin) (plan : Plan)
    (prepared : Prepared M) (who : Who) (live : IsLiveStore before.told before.kept readers pins) (steady : IsSteady before.told before.kept readers pins) (there : Contains pins pin)
    (ready : IsReadyFrom disk loans means before readers mid) (fit : IsFit (state_before before readers) pin prepared) (clear : IsClear (state_before before readers) (submitted prepared who))
    (is : IsPlanOf prepared.changed plan)
    (is_first : IfSome (newest_told before.kept before.told) (λ pages. mid.buf.items ≡ page_at (laid pages (change_in prepared)) 1)) (legal : IsPair new.pair) where
  abbrev kept : StoreData
  kept = kept_of mid

  abbrev told : Option History
  told = disk.told mid.disk

  abbrev later : Option History
  later = disk.told new.disk

  abbrev asked : Submitted
  asked = submitted prepared who

  abbrev commit : Commit
  commit = commit_of (submitted prepared who) plan.wrote

  abbrev images : List PageImage
  images = images_of mid.buf.items prepared.changed plan.order.items

  none_is : (kept_of mid).stop ≡ None
  none_is = none_kept mid.page_size mid.spare mid.stop ready.running

  smaller : pin.size ≤ mid.size
  smaller = All-contains (λ (one : Pin). one.size ≤ mid.size) pins pin (ready.steady pins live steady).smaller there

  pub is_laid_now : IsLaid (kept_of mid) (disk.told mid.disk) (images_of mid.buf.items prepared.changed plan.order.items) (change_in prepared) (commit_of (submitted prepared who) plan.wrote)
  is_laid_now =
      is_laid kept (state_before before readers) pin prepared plan mid.buf.items (sym ready.readied.page_size) fit smaller is told readers pins commit (ready.live pins live steady) (ready.steady pins live steady).named
      (subst (λ (newest : Option PageMap). IfSome newest (λ pages. mid.buf.items ≡ page_at (laid pages (change_in prepared)) 1)) (sym ready.readied.newest) is_first) refl

  -- what it is to commit, whether or not a write failed
  pub committing : (ok : Bool) → HasWritten (kept_of mid) ok (images_of mid.buf.items prepared.changed plan.order.items) new.pair (disk.told mid.disk) (disk.told new.disk)
      → IsCommitting (kept_of mid) ok (images_of mid.buf.items prepared.changed plan.order.items) new.pair (submitted prepared who) (commit_of (submitted prepared who) plan.wrote) (disk.told mid.disk) (disk.told new.disk)
  committing ok has = record {
    may = may_write kept none_is (ready.live pins live steady).whole (ready.steady pins live steady).salts;
    has = has;
    lays = is_laid_now;
    is = refl;
    whole = is_whole kept (state_before before readers) pin prepared plan mid.buf.items (sym ready.readied.page_size) fit smaller is;
    wrote = wrote_is kept (state_before before readers) pin prepared plan mid.buf.items (sym ready.readied.page_size) fit smaller is (newest_told kept told);
    legal = legal;
  }

  holds : PinHolds before.told before.kept pin
  holds = held before.told before.kept readers pins pin live there

  laid_each : (now : Option History) (kept : StoreData) (faults : ℕ) (first : PageMap) → PinHolds now kept pin → NoConflict prepared.mode prepared.reads prepared.snap kept.history
      → StandsFrom (means.sound first) (means.leads first) first now kept readers
      → IfSome (newest_told kept now) (IsLaidOn (means.sound first) (means.leads first first) (pin_told kept now pin) prepared (store_state now faults kept readers))
  laid_each None seen faults first pinned free stands = tt
  laid_each (Some now) seen faults first pinned free stands = record {
    is_sound = stands.newest.0;
    led = stands.newest.1;
    may_lay = pinned.agrees prepared.mode prepared.reads (subst (λ (n : ℕ). NoConflict prepared.mode prepared.reads n seen.history) fit.snap free) fit.first_page;
  }

  -- the frames were written, and the commit was entered
  module _ (number : ℕ) (has : HasWritten (kept_of mid) true (images_of mid.buf.items prepared.changed plan.order.items) new.pair (disk.told mid.disk) (disk.told new.disk))
      (becomes : kept_of new ≡ committed (kept_of mid) new.pair (bare new.index) (commit_of (submitted prepared who) plan.wrote))
      (indexed : HasIndexed (kept_of mid) (commit_of (submitted prepared who) plan.wrote) (bare new.index)) (numbered : number ≡ length mid.commits.commits + 1)
      (faults : disk.faults new.disk ≡ disk.faults mid.disk) (able : IsAble disk new) (names : disk.loans new.disk ++ loans new.salts ≡ disk.loans mid.disk ++ loans mid.salts) where
    c : IsCommitting (kept_of mid) true (images_of mid.buf.items prepared.changed plan.order.items) new.pair (submitted prepared who) (commit_of (submitted prepared who) plan.wrote) (disk.told mid.disk) (disk.told new.disk)
    c = committing true has

    number_is : number ≡ length before.kept.history + 1
    number_is = numbered ∙ ap (λ (history : List Commit). length history + 1) ready.readied.history

    accepted : IsCommitted (λ opening. IsOpenedAt opening before.kept before.told) (state_before before readers) (submitted prepared who) number (state_of disk new readers)
    accepted =
        subst (λ (n : ℕ). IsCommitted (λ opening. IsOpenedAt opening before.kept before.told) (state_before before readers) asked n (state_of disk new readers)) (sym number_is)
        (subst (λ (k : StoreData). IsCommitted (λ opening. IsOpenedAt opening before.kept before.told) (state_before before readers) asked (length before.kept.history + 1) (store_state later (disk.faults new.disk) k readers)) (sym becomes)
        (subst (λ (f : ℕ). IsCommitted (λ opening. IsOpenedAt opening before.kept before.told) (state_before before readers) asked (length before.kept.history + 1)
        (store_state later f (committed kept new.pair (bare new.index) commit) readers)) (sym (faults ∙ ready.faults))
        (committed_law before.kept kept images new.pair (bare new.index) asked commit readers pins before.told told later before.faults ready.readied c indexed (ready.live pins live steady) clear)))

    pub finish_ok : CommittedFrom disk loans means before readers pin prepared who (Ok (At number)) new
    finish_ok = record {
      answer = during_here (state_before before readers)
          (λ mid. AcceptsCommit (λ opening. IsOpenedAt opening before.kept before.told) mid (submitted prepared who) (At number) (state_of disk new readers)
          × LaidOnEach means before readers pin prepared (At number) mid)
          (accepted, λ first stood. laid_each before.told before.kept before.faults first holds clear.free stood);
      runs = λ first stood good. subst (λ (k : StoreData). StandsFrom (means.sound first) (means.leads first) first later k readers) (sym becomes)
          (runs_laid (means.sound first) (means.leads first) first (means.joins first) kept images new.pair (bare new.index) asked commit readers pins pin told later c indexed
          (ready.live pins live steady) there fit.snap (subst (NoConflict prepared.mode prepared.reads prepared.snap) (sym ready.readied.history) clear.free) fit.first_page
          (ready.live pins live steady).whole.fits
          (subst (λ (pages : Option PageMap). IfSome pages (λ snapshot. IsGood (means.sound first) (means.leads first) snapshot prepared)) (sym (ready.maps pins pin live steady there)) good)
          (ready.runs pins live steady first stood));
      leaves = record {
        hold = λ others lives stays. record {
          able = able;
          live = subst (λ (k : StoreData). IsLiveStore later k readers others) (sym becomes)
              (live_committed kept images new.pair (bare new.index) asked commit readers others told later c indexed (ready.begun others lives stays) (ready.live others lives stays));
          steady = subst (λ (k : StoreData). IsSteady later k readers others) (sym becomes)
              (steady_committed kept images new.pair (bare new.index) asked commit readers others told later c indexed (ready.live others lives stays) (ready.steady others lives stays));
        };
        maps = λ others one lives stays at. ap (λ (k : StoreData). pin_told k later one) becomes
            ∙ (pin_committed kept images new.pair (bare new.index) asked commit readers others told later c indexed (ready.live others lives stays) one (ready.begun others lives stays one at)
            (held told kept readers others one (ready.live others lives stays) at)).1
            ∙ ready.maps others one lives stays at;
        opened = λ opening opened. subst (λ (k : StoreData). IsOpenedAt opening k later) (sym becomes)
            (opened_committed kept images new.pair (change_in prepared) commit c.may (bare new.index) told later c.has c.lays indexed opening (ready.readied.opened opening opened));
        names = names ∙ ready.names;
      };
    }

  -- a write or sync of the log failed
  module _ (has : HasWritten (kept_of mid) false (images_of mid.buf.items prepared.changed plan.order.items) new.pair (disk.told mid.disk) (disk.told new.disk))
      (becomes : kept_of new ≡ stopped (kept_of mid) new.pair (kept_stop mid.pair.current (next_place mid.pair) mid.size (images_of mid.buf.items prepared.changed plan.order.items)))
      (rose : Rose (disk.faults mid.disk) (disk.faults new.disk)) (able : IsAble disk new) (names : disk.loans new.disk ++ loans new.salts ≡ disk.loans mid.disk ++ loans mid.salts) where
    broken : IsCommitting (kept_of mid) false (images_of mid.buf.items prepared.changed plan.order.items) new.pair (submitted prepared who) (commit_of (submitted prepared who) plan.wrote) (disk.told mid.disk) (disk.told new.disk)
    broken = committing false has

    abbrev stop : KeptStop
    stop = kept_stop mid.pair.current (next_place mid.pair) mid.size (images_of mid.buf.items prepared.changed plan.order.items)

    place_is : next_place mid.pair ≡ place_behind before.kept.page_size (log_of mid.pair mid.pair.current).frames
    place_is =
        let whole = (ready.live pins live steady).whole in
        ap (λ (n : ℕ). place_behind (current_header mid.pair).page_size n) (ap (λ (n : ℕ). (log_of mid.pair mid.pair.current).frames + n) (whole.sealed none_is) ∙ omega arith)
        ∙ ap (λ (n : ℕ). place_behind n (log_of mid.pair mid.pair.current).frames) (whole.page_size ∙ ready.readied.page_size)

    is_stopped : IsStopped (λ opening. IsOpenedAt opening before.kept before.told) (state_before before readers) (submitted prepared who) (state_of disk new readers)
    is_stopped =
        subst (λ (k : StoreData). IsStopped (λ opening. IsOpenedAt opening before.kept before.told) (state_before before readers) asked (store_state later (disk.faults new.disk) k readers)) (sym becomes)
        (stopped_law before.kept kept images new.pair stop asked commit readers pins before.told told later before.faults (disk.faults new.disk) ready.readied broken refl refl refl place_is (ready.live pins live steady))

    pub finish_stopped : CommittedFrom disk loans means before readers pin prepared who (Err (fault.Disk, prepared)) new
    finish_stopped = record {
      answer = (
        refl,
        during_here (state_before before readers)
            (λ mid. RefusesCommit (λ opening. IsOpenedAt opening before.kept before.told) ((first : PageMap) × StoodFrom means before readers first) mid (submitted prepared who) fault.Disk (state_of disk new readers))
            (clear, subst (λ (f : ℕ). Rose f (disk.faults new.disk)) ready.faults rose, inr is_stopped),
      );
      runs = λ first stood. subst (λ (k : StoreData). StandsFrom (means.sound first) (means.leads first) first later k readers) (sym becomes)
          (runs_stopped (means.sound first) (means.leads first) first kept images new.pair stop asked commit readers pins told later broken (ready.live pins live steady) (ready.runs pins live steady first stood));
      leaves = record {
        hold = λ others lives stays. record {
          able = able;
          live = subst (λ (k : StoreData). IsLiveStore later k readers others) (sym becomes)
              (live_stopped kept images new.pair stop asked commit readers others told later broken refl refl (ready.live others lives stays));
          steady = subst (λ (k : StoreData). IsSteady later k readers others) (sym becomes)
              (steady_stopped kept images new.pair stop asked commit readers others told later broken (ready.live others lives stays) (ready.steady others lives stays));
        };
        maps = λ others one lives stays at. ap (λ (k : StoreData). pin_told k later one) becomes
            ∙ (pin_stopped kept images new.pair stop asked commit readers others told later broken (ready.live others lives stays) one (held told kept readers others one (ready.live others lives stays) at)).1
            ∙ ready.maps others one lives stays at;
        opened = λ opening opened. subst (λ (k : StoreData). IsOpenedAt opening k later) (sym becomes)
            (opened_stopped kept images new.pair (change_in prepared) commit broken.may stop told later broken.has broken.lays refl refl opening (ready.readied.opened opening opened));
        names = names ∙ ready.names;
      };
    }
