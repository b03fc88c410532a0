-- A step of a checkpoint of a store, as a step of the engine over it.
use Rattle.std.proofs.Common.{◌≡◌, ◌∙◌, ℕ, List, ◌++◌, refl, sym, ap, subst, Option, Some, None, Result, Ok, Err}
use Rattle.std.specs.Prelude.{IfSome, IfOk, is_ok}
use Rattle.std.specs.Option.{option_map}
use Rattle.disk_face.specs.declared.Failed.{Failed}
use Rattle.disk_face.specs.declared.tells.DiskTells.{Ghosts as DiskGhosts}
use Rattle.disk_face.specs.Faults.{Counts}
use Rattle.disk_face.specs.Stays.{OnlyWrites}
use Rattle.disk_face.specs.Steps.{History, reads}
use Rattle.log_spec.specs.Accept.{Frame}
use Rattle.engine_spec.specs.declared.pins.Ckpt.{Ckpt}
use Rattle.engine_spec.specs.declared.pins.Pin.{Pin}
use Rattle.engine_spec.specs.declared.pins.Readers.{Readers}
use Rattle.engine_spec.specs.Events.{TakesStep}
use Rattle.engine_spec.specs.TwoLogs.{TwoLogs, Steps}
use Rattle.engine_spec.proofs.Here.{during_here}
use Rattle.page_face.specs.declared.means.Means.{Ghosts as Meaning}
use Rattle.page_face.specs.Pins.{IsLive}
use Rattle.page_face.specs.Calls.{HasStepped}
use Rattle.wal_rules.specs.declared.state.LogState.{LogState}
use Rattle.store_spec.specs.Store.{StoreData, current_read, newest_told, pin_told, stop_told, store_state, two_logs}
use Rattle.store_spec.specs.Steady.{IsSteady, AllName}
use Rattle.store_spec.specs.Standing.{IsLiveStore, IsOpenedAt, StandsFrom}
use Rattle.store_spec.specs.Steps.{HasTakenStep, stepped}
use Rattle.store_spec.proofs.CheckpointLaws.{step_newest, step_stop, step_opened, step_moments}
use Rattle.store_spec.proofs.PinLaws.{step_pin, step_live, step_named, step_from}
use Rattle.store_spec.proofs.Standing.{read_same}
use Rattle.store_spec.proofs.Taken.{Taken, Stays, Goes, taken}
use Rattle.store.specs.declared.store.Store.{Store}
use Rattle.store.specs.Kept.{kept_of, state_of, IsAble, IsLiveIn}
use Rattle.store.specs.Solo.{solo_tells}

-- the current log has the same frames
frames_taken : (kept : StoreData) (readers : Readers) (state : LogState) (old new : Option History) → Taken kept readers state old new
    → IfSome old (λ told. AllName kept.page_size (current_read kept.pair (reads told))) → IfSome new (λ told. AllName kept.page_size (current_read kept.pair (reads told)))
frames_taken kept readers state old new (Stays is same) all = subst (λ (t : Option History). IfSome t (λ told. AllName kept.page_size (current_read kept.pair (reads told)))) (sym same) all
frames_taken kept readers state None new (Goes step same unfinished free current goes) all =
    subst (λ (t : Option History). IfSome t (λ told. AllName kept.page_size (current_read kept.pair (reads told)))) (sym same) tt
frames_taken kept readers state (Some told) new (Goes step same unfinished free current goes) all =
    subst (λ (t : Option History). IfSome t (λ told. AllName kept.page_size (current_read kept.pair (reads told)))) (sym same)
    (subst (λ (frames : List Frame). AllName kept.page_size frames) (sym (read_same kept state told step (goes told told refl refl) kept.pair.current)) all)

-- A step keeps what holds besides of a store.
step_steady : (kept : StoreData) (readers : Readers) (pins : List Pin) (result : Result Ckpt Failed) (state : LogState) (old new : Option History)
    → IsLiveStore old kept readers pins → IsSteady old kept readers pins → HasTakenStep kept readers result state old new → IsSteady new (stepped kept state) readers pins
step_steady kept readers pins result state old new live steady has = record {
  named = step_named kept readers pins result state old new live steady.named has;
  frames = frames_taken kept readers state old new (taken kept readers pins result state old new live has) steady.frames;
  salts = steady.salts;
  begun = steady.begun;
  smaller = steady.smaller;
}

-- What the store tells after it: the logs and the disk's past, and its count of faults.
tells_after : (kept later : StoreData) (readers : Readers) (pins : List Pin) (result : Result Ckpt Failed) (state : LogState) (old new : Option History) (faults more : ℕ)
    → IsLiveStore old kept readers pins → HasTakenStep kept readers result state old new → later ≡ stepped kept state
    → store_state new more later readers ≡ record (store_state old faults kept readers) { faults = more; logs = Some (two_logs later); disk = new }
tells_after kept later readers pins result state old new faults more live has is =
    subst (λ (k : StoreData). store_state new more k readers ≡ record (store_state old faults kept readers) { faults = more; logs = Some (two_logs k); disk = new }) (sym is)
    (let newest : newest_told (stepped kept state) new ≡ newest_told kept old = step_newest kept readers pins result state old new live has in
    let stop : option_map (stop_told (stepped kept state) new) kept.stop ≡ option_map (stop_told kept old) kept.stop = step_stop kept readers pins result state old new live has in
    λ i. record (store_state old faults kept readers) { newest = newest i; stopped = stop i; faults = more; logs = Some (two_logs (stepped kept state)); disk = new })

module _ {D W M : Type 0} (disk : DiskGhosts D) (loans : W → List ℕ) (means : Meaning M) (store new : Store D W M) (readers : Readers) where
  takes : (result : Result Ckpt Failed) (pins : List Pin) → IsLiveIn disk store readers pins
      → HasTakenStep (kept_of store) readers result new.state (disk.told store.disk) (disk.told new.disk) → kept_of new ≡ stepped (kept_of store) new.state
      → IfOk result (λ answer. Steps (two_logs (kept_of store)) readers (kept_of store).history answer (two_logs (kept_of new)))
      → Counts (is_ok result) (disk.faults store.disk) (disk.faults new.disk)
      → TakesStep (λ opening. IsOpenedAt opening (kept_of store) (disk.told store.disk)) (state_of disk store readers) result (state_of disk new readers)
  takes (Ok answer) pins live has becomes logs counts = record {
    steps = logs;
    moments = step_moments (kept_of store) readers pins (Ok answer) new.state (disk.told store.disk) (disk.told new.disk) (disk.faults store.disk) live.live has;
    after_is = tells_after (kept_of store) (kept_of new) readers pins (Ok answer) new.state (disk.told store.disk) (disk.told new.disk) (disk.faults store.disk) (disk.faults new.disk) live.live has becomes
        ∙ ap (λ (n : ℕ). record (state_of disk store readers) { faults = n; logs = Some (two_logs (kept_of new)); disk = disk.told new.disk }) counts;
  }
  takes (Err why) pins live has becomes logs counts = record {
    rose = counts;
    moments = step_moments (kept_of store) readers pins (Err why) new.state (disk.told store.disk) (disk.told new.disk) (disk.faults store.disk) live.live has;
    after_is = tells_after (kept_of store) (kept_of new) readers pins (Err why) new.state (disk.told store.disk) (disk.told new.disk) (disk.faults store.disk) (disk.faults new.disk) live.live has becomes
        ∙ ap (λ (l : TwoLogs). record (state_of disk store readers) { faults = disk.faults new.disk; logs = Some l; disk = disk.told new.disk }) same;
  }
    where
      same : two_logs (kept_of new) ≡ two_logs (kept_of store)
      same = ap (λ (k : StoreData). two_logs k) becomes ∙ ap (λ (s : LogState). two_logs (stepped (kept_of store) s)) has.refused

  live_on : (result : Result Ckpt Failed) (pins : List Pin) → IsLiveIn disk store readers pins
      → HasTakenStep (kept_of store) readers result new.state (disk.told store.disk) (disk.told new.disk) → kept_of new ≡ stepped (kept_of store) new.state → IsAble disk new
      → IsLiveIn disk new readers pins
  live_on result pins live has becomes able = record {
    able = able;
    live = subst (λ (k : StoreData). IsLiveStore (disk.told new.disk) k readers pins) (sym becomes)
        (step_live (kept_of store) readers pins result new.state (disk.told store.disk) (disk.told new.disk) live.live live.steady.named has);
    steady = subst (λ (k : StoreData). IsSteady (disk.told new.disk) k readers pins) (sym becomes)
        (step_steady (kept_of store) readers pins result new.state (disk.told store.disk) (disk.told new.disk) live.live live.steady has);
  }

  map_on : (result : Result Ckpt Failed) (pin : Pin) → IsLive (λ store pins. IsLiveIn disk store readers pins) store pin
      → HasTakenStep (kept_of store) readers result new.state (disk.told store.disk) (disk.told new.disk) → kept_of new ≡ stepped (kept_of store) new.state
      → pin_told (kept_of new) (disk.told new.disk) pin ≡ pin_told (kept_of store) (disk.told store.disk) pin
  map_on result pin (pins, live, there) has becomes =
      ap (λ (k : StoreData). pin_told k (disk.told new.disk) pin) becomes
      ∙ subst (λ (p : Pin). pin_told (stepped (kept_of store) new.state) (disk.told new.disk) p ≡ pin_told (kept_of store) (disk.told store.disk) p) there.2
      (step_pin (kept_of store) readers pins result new.state (disk.told store.disk) (disk.told new.disk) there.0 pin live.live live.steady.named has there.1).0

  pub steps_so : (result : Result Ckpt Failed) (pins : List Pin) → IsLiveIn disk store readers pins
      → HasTakenStep (kept_of store) readers result new.state (disk.told store.disk) (disk.told new.disk) → kept_of new ≡ stepped (kept_of store) new.state
      → IfOk result (λ answer. Steps (two_logs (kept_of store)) readers (kept_of store).history answer (two_logs (kept_of new)))
      → IsAble disk new → OnlyWrites disk store.disk new.disk → new.salts ≡ store.salts → Counts (is_ok result) (disk.faults store.disk) (disk.faults new.disk)
      → HasStepped (solo_tells disk loans means) (record { store = store; readers = readers }) result (record { store = new; readers = readers })
  steps_so result pins live has becomes logs able stays salts counts = record {
    answer = during_here (state_of disk store readers)
        (λ mid. TakesStep (λ opening. IsOpenedAt opening (kept_of store) (disk.told store.disk)) mid result (state_of disk new readers)) (takes result pins live has becomes logs counts);
    stays = record {
      pins = record {
        hold = λ others held. live_on result others held has becomes able;
        maps = λ pin held. map_on result pin held has becomes;
      };
      may_begin = λ may. may;
      opened = λ opening opened. subst (λ (k : StoreData). IsOpenedAt opening k (disk.told new.disk)) (sym becomes)
          (step_opened (kept_of store) readers pins result new.state (disk.told store.disk) (disk.told new.disk) opening live.live has opened);
      loans = λ i. stays.loans i ++ loans (salts i);
    };
    runs = λ first stands. subst (λ (k : StoreData). StandsFrom (means.sound first) (means.leads first) first (disk.told new.disk) k readers) (sym becomes)
        (step_from (means.sound first) (means.leads first) first (kept_of store) readers pins result new.state (disk.told store.disk) (disk.told new.disk) live.live live.steady.named has stands);
  }
