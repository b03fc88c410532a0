-- A commit whose switch to the other log failed.
use Rattle.std.proofs.Common.{◌≡◌, ◌∙◌, ℕ, List, ◌++◌, true, false, refl, sym, ap, subst, inr, Option, None, Err}
use Rattle.std.specs.Prelude.{IfSome}
use Rattle.disk_face.specs.declared.tells.DiskTells.{Ghosts as DiskGhosts}
use Rattle.disk_face.specs.Faults.{Rose}
use Rattle.disk_face.specs.Steps.{History, reads}
use Rattle.engine_spec.specs.declared.commits.CommitFault.TheVariants as fault
use Rattle.engine_spec.specs.declared.commits.PageImage.{PageImage}
use Rattle.engine_spec.specs.declared.commits.Who.{Who}
use Rattle.engine_spec.specs.declared.pins.Pin.{Pin}
use Rattle.engine_spec.specs.declared.pins.Readers.{Readers}
use Rattle.engine_spec.specs.Change.{laid}
use Rattle.engine_spec.specs.Events.{IsClear, IsStopped, RefusesCommit}
use Rattle.engine_spec.specs.TwoLogs.{may_switch}
use Rattle.engine_spec.proofs.Here.{during_here}
use Rattle.log_commit.specs.Commit.{map_under}
use Rattle.log_pair.specs.Pair.{other_number}
use Rattle.page_spec.specs.PageMap.{PageMap}
use Rattle.page_face.specs.declared.means.Means.{Ghosts as Meaning}
use Rattle.page_face.specs.declared.prepared.Prepared.{Prepared}
use Rattle.page_face.specs.Prepared.{change_in, submitted}
use Rattle.store_spec.specs.Store.{StoreData, KeptStop, newest_in, pin_told, store_state, two_logs}
use Rattle.store_spec.specs.Standing.{IsLiveStore, StandsFrom, IsOpenedAt}
use Rattle.store_spec.specs.Steady.{IsSteady}
use Rattle.store_spec.specs.Steps.{HasSwitched, stopped}
use Rattle.store_spec.proofs.SteadyLaws.{steady_but, steady_failed}
use Rattle.store_spec.proofs.HeaderStop.{header_stopped_law}
use Rattle.store_spec.proofs.SwitchLaws.{failed_opened, failed_pin, failed_live, failed_runs}
use Rattle.store.specs.declared.store.Store.{Store}
use Rattle.store.specs.Kept.{kept_of, state_of, IsAble, IsLiveIn}
use Rattle.store.specs.Committing.{kept_stop}
use Rattle.store.specs.CommittedFrom.{before_of, StoodFrom, CommittedFrom}
use Rattle.store.proofs.Readying.{none_kept}

pub torn_from : {D W M : Type 0} (disk : DiskGhosts D) (loans : W → List ℕ) (means : Meaning M) (readers : Readers) (old new : Store D W M) (pins : List Pin) (pin : Pin) (salt2 : ℕ)
    (images : List PageImage) (prepared : Prepared M) (who : Who) → IsLiveIn disk old readers pins → old.stop ≡ None → may_switch (two_logs (kept_of old)) readers (kept_of old).history ≡ true
    → HasSwitched (kept_of old) false new.pair salt2 (disk.told old.disk) (disk.told new.disk)
    → kept_of new ≡ stopped (kept_of old) new.pair (kept_stop (other_number old.pair.current) 0 old.size images)
    → IfSome (disk.told old.disk) (λ told. map_under (newest_in old.pair (reads told)) images old.size ≡ laid (newest_in old.pair (reads told)) (change_in prepared))
    → IsClear (state_of disk old readers) (submitted prepared who) → Rose (disk.faults old.disk) (disk.faults new.disk) → IsAble disk new
    → disk.loans new.disk ++ loans new.salts ≡ disk.loans old.disk ++ loans old.salts
    → CommittedFrom disk loans means (before_of disk loans old) readers pin prepared who (Err (fault.Disk, prepared)) new
torn_from disk loans means readers old new pins pin salt2 images prepared who is none may has becomes lies clear rose able names = record {
  answer = (
    refl,
    during_here (state_of disk old readers)
        (λ mid. RefusesCommit (λ opening. IsOpenedAt opening kept told) ((first : PageMap) × StoodFrom means (before_of disk loans old) readers first) mid (submitted prepared who) fault.Disk (state_of disk new readers)) (
          clear,
          rose,
          inr (subst (λ (k : StoreData). IsStopped (λ opening. IsOpenedAt opening kept told) (state_of disk old readers) (submitted prepared who) (store_state later (disk.faults new.disk) k readers))
              (sym becomes)
              (header_stopped_law kept readers pins salt2 told later is.live none_is may images new.pair stop (submitted prepared who) (disk.faults old.disk) (disk.faults new.disk) has
              (record { log = refl; at = refl; writes = refl; size = refl }) lies)),
        ),
  );
  runs = λ first stood. subst (λ (k : StoreData). StandsFrom (means.sound first) (means.leads first) first later k readers) (sym becomes)
      (failed_runs kept readers pins salt2 told later is.live none_is may new.pair stop has (means.sound first) (means.leads first) first stood);
  leaves = record {
    hold = λ others live steady. record {
      able = able;
      live = subst (λ (k : StoreData). IsLiveStore later k readers others) (sym becomes) (failed_live kept readers others salt2 told later live none_is may new.pair stop has);
      steady = subst (λ (k : StoreData). IsSteady later k readers others) (sym becomes)
          (steady_failed kept readers others salt2 told later live none_is (steady_but told kept readers others steady) new.pair stop has);
    };
    maps = λ others one live steady there. ap (λ (k : StoreData). pin_told k later one) becomes ∙ failed_pin kept readers others salt2 told later live none_is may new.pair stop has one;
    opened = λ opening opened. subst (λ (k : StoreData). IsOpenedAt opening k later) (sym becomes) (failed_opened kept readers pins salt2 told later is.live none_is may new.pair stop has opening opened);
    names = names;
  };
}
  where
    kept : StoreData
    kept = kept_of old

    told : Option History
    told = disk.told old.disk

    later : Option History
    later = disk.told new.disk

    stop : KeptStop
    stop = kept_stop (other_number old.pair.current) 0 old.size images

    none_is : (kept_of old).stop ≡ None
    none_is = none_kept old.page_size old.spare old.stop none
