-- A store that is ready to write a commit.
use Rattle.std.proofs.Common.{◌≡◌, ◌∙◌, ℕ, List, ◌++◌, true, false, refl, sym, ap, subst, Option, Some, None}
use Rattle.std.specs.Option.{option_map}
use Rattle.disk_face.specs.declared.tells.DiskTells.{Ghosts as DiskGhosts}
use Rattle.disk_face.specs.Steps.{History}
use Rattle.engine_spec.specs.declared.pins.Pin.{Pin}
use Rattle.engine_spec.specs.declared.pins.Readers.{Readers}
use Rattle.engine_spec.specs.TwoLogs.{may_switch}
use Rattle.page_face.specs.declared.means.Means.{Ghosts as Meaning}
use Rattle.store_spec.specs.Store.{StoreData, two_logs, pin_told}
use Rattle.store_spec.specs.Pins.{IsOfCurrent}
use Rattle.store_spec.specs.Standing.{IsLiveStore, StandsFrom}
use Rattle.store_spec.specs.Steady.{HasBegun}
use Rattle.store_spec.specs.Steps.{HasSwitched, HasCleared, gone_over}
use Rattle.store_spec.proofs.CommitAnswers.{IsReadied, readied_still}
use Rattle.store_spec.proofs.SteadyLaws.{IsSteadyBut, steady_but, kept_begun, gone_begun, steady_gone}
use Rattle.store_spec.proofs.HeaderStop.{gone_readied}
use Rattle.store_spec.proofs.SwitchLaws.{gone_live, gone_pin, gone_runs}
use Rattle.store.specs.declared.store.Halt.{Halt}
use Rattle.store.specs.declared.store.Store.{Store}
use Rattle.store.specs.Halts.{KeptPages}
use Rattle.store.specs.Kept.{kept_of, stop_of, bare, IsLiveIn}
use Rattle.store.specs.CommittedFrom.{before_of, IsReadyFrom}

-- nothing is kept of a write that failed where none did
pub none_kept : (page_size : ℕ) (spare : KeptPages) (stop : Option Halt) → stop ≡ None → option_map (stop_of page_size spare) stop ≡ None
none_kept page_size spare stop is = ap (option_map (stop_of page_size spare)) is

pub none_stopped : (page_size : ℕ) (spare : KeptPages) (stop : Option Halt) → option_map (stop_of page_size spare) stop ≡ None → stop ≡ None
none_stopped page_size spare None is = refl
none_stopped page_size spare (Some halt) is = absurd cc

module _ {D W M : Type 0} (disk : DiskGhosts D) (loans : W → List ℕ) (means : Meaning M) (readers : Readers) where
  pub ready_still : (old : Store D W M) → old.stop ≡ None → may_switch (two_logs (kept_of old)) readers (kept_of old).history ≡ false
      → IsReadyFrom disk loans means (before_of disk loans old) readers old
  ready_still old none stays = record {
    readied = readied_still (kept_of old) readers (disk.told old.disk) (none_kept old.page_size old.spare old.stop none) stays;
    live = λ pins live steady. live;
    steady = λ pins live steady. steady_but (disk.told old.disk) (kept_of old) readers pins steady;
    begun = λ pins live steady pin there. kept_begun (disk.told old.disk) (kept_of old) readers pins (none_kept old.page_size old.spare old.stop none) steady pin there;
    maps = λ pins pin live steady there. refl;
    runs = λ pins live steady first stood. stood;
    running = none;
    faults = refl;
    names = refl;
  }

  pub ready_over : (old new : Store D W M) (pins : List Pin) (salt2 : ℕ) → IsLiveIn disk old readers pins → old.stop ≡ None → may_switch (two_logs (kept_of old)) readers (kept_of old).history ≡ true
      → HasSwitched (kept_of old) true new.pair salt2 (disk.told old.disk) (disk.told new.disk) → HasCleared (kept_of old) (bare new.index)
      → kept_of new ≡ gone_over (kept_of old) new.pair (bare new.index) → disk.faults new.disk ≡ disk.faults old.disk
      → disk.loans new.disk ++ loans new.salts ≡ disk.loans old.disk ++ loans old.salts → IsReadyFrom disk loans means (before_of disk loans old) readers new
  ready_over old new pins salt2 is none may has cleared becomes faults names = record {
    readied = subst (λ (k : StoreData). IsReadied kept k readers told later) (sym becomes) (gone_readied kept readers pins salt2 told later is.live none_is may new.pair (bare new.index) cleared has);
    live = λ pins live steady. subst (λ (k : StoreData). IsLiveStore later k readers pins) (sym becomes)
        (gone_live kept readers pins salt2 told later live none_is may new.pair (bare new.index) cleared has steady.frames);
    steady = λ pins live steady. subst (λ (k : StoreData). IsSteadyBut later k readers pins) (sym becomes)
        (steady_gone kept readers pins salt2 told later live none_is (steady_but told kept readers pins steady) may new.pair (bare new.index) cleared has);
    begun = λ pins live steady pin there. subst (λ (k : StoreData). IsOfCurrent k pin → HasBegun k) (sym becomes)
        (gone_begun kept readers pins salt2 told later live none_is new.pair (bare new.index) has pin there);
    maps = λ pins pin live steady there. ap (λ (k : StoreData). pin_told k later pin) becomes
        ∙ gone_pin kept readers pins salt2 told later live none_is may new.pair (bare new.index) cleared has steady.frames pin there;
    runs = λ pins live steady first stood. subst (λ (k : StoreData). StandsFrom (means.sound first) (means.leads first) first later k readers) (sym becomes)
        (gone_runs kept readers pins salt2 told later live none_is may new.pair (bare new.index) cleared has steady.frames (means.sound first) (means.leads first) first stood);
    running = none_stopped new.page_size new.spare new.stop (ap (λ (k : StoreData). k.stop) becomes ∙ none_is);
    faults = faults;
    names = names;
  }
    where
      kept : StoreData
      kept = kept_of old

      told : Option History
      told = disk.told old.disk

      later : Option History
      later = disk.told new.disk

      none_is : (kept_of old).stop ≡ None
      none_is = none_kept old.page_size old.spare old.stop none
