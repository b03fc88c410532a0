-- Calls of a store that become calls of the engine over it: a page that is read, how the logs stand, a commit.
use Rattle.std.proofs.Common.{◌≡◌, ◌∙◌, ℕ, List, ◌++◌, refl, sym, ap, subst, Option, Some, Result, Ok, Err}
use Rattle.std.specs.Prelude.{OnOk, IfSome, IfErr, is_ok}
use Rattle.disk_face.specs.declared.tells.DiskTells.{Ghosts as DiskGhosts}
use Rattle.disk_face.specs.Faults.{Counts}
use Rattle.disk_face.specs.Stays.{OnlyReads}
use Rattle.disk_face.specs.Steps.{History}
use Rattle.page_spec.specs.PageMap.{page_at}
use Rattle.engine_spec.specs.declared.commits.CommitFault.{CommitFault}
use Rattle.engine_spec.specs.declared.commits.FetchFault.{FetchFault}
use Rattle.engine_spec.specs.declared.commits.FetchFault.TheVariants as fault
use Rattle.engine_spec.specs.declared.commits.Receipt.{Receipt}
use Rattle.engine_spec.specs.declared.commits.Receipt.TheVariants.{At, ReadOnly}
use Rattle.engine_spec.specs.declared.commits.Who.{Who}
use Rattle.engine_spec.specs.declared.pins.Logs.{Logs}
use Rattle.engine_spec.specs.declared.pins.Pin.{Pin}
use Rattle.engine_spec.specs.declared.pins.Readers.{Readers}
use Rattle.engine_spec.specs.Events.{Fetches}
use Rattle.engine_spec.specs.State.{EngineState}
use Rattle.engine_spec.specs.TwoLogs.{told_logs}
use Rattle.engine_spec.proofs.Here.{during_here}
use Rattle.page_face.specs.declared.means.Means.{Ghosts as Meaning}
use Rattle.page_face.specs.declared.prepared.Prepared.{Prepared}
use Rattle.page_face.specs.Calls.{HasFetched, HasToldLogs, HasCommitted, CommitAnswers, CommitKeepsRuns}
use Rattle.page_face.proofs.EngineCalls.{stays_same}
use Rattle.store_spec.specs.Steady.{IsSteady}
use Rattle.store_spec.specs.Store.{pin_told, store_state, two_logs}
use Rattle.store_spec.specs.Standing.{IsLiveStore, IsOpenedAt, StandsFrom}
use Rattle.store.specs.declared.store.Store.{Store}
use Rattle.store.specs.Kept.{kept_of, state_of, IsLiveIn}
use Rattle.store.specs.Solo.{solo_tells}
use Rattle.store.specs.Tells.{store_tells}

module _ {D W M : Type 0} (disk : DiskGhosts D) (loans : W → List ℕ) (means : Meaning M) where
  -- a disk that was only read holds the same store
  read_live : (store : Store D W M) (later : D) (readers : Readers) (pins : List Pin) → OnlyReads disk store.disk later → IsLiveIn disk store readers pins
      → IsLiveIn disk (record store { disk = later }) readers pins
  read_live store later readers pins reads live = record {
    able = record { attached = reads.attached ∙ live.able.attached; room = live.able.room; none_kept = live.able.none_kept };
    live = subst (λ (t : Option History). IsLiveStore t (kept_of store) readers pins) (sym reads.told) live.live;
    steady = subst (λ (t : Option History). IsSteady t (kept_of store) readers pins) (sym reads.told) live.steady;
  }

  read_event : (result : Result Unit FetchFault) (store : Store D W M) (later : D) (readers : Readers) → IfErr result (λ why. why ≡ fault.Disk) → OnlyReads disk store.disk later
      → Counts (is_ok result) (disk.faults store.disk) (disk.faults later) → Fetches (state_of disk store readers) result (state_of disk (record store { disk = later }) readers)
  read_event (Ok done) store later readers cause reads counts = λ i. store_state (reads.told i) (counts i) (kept_of store) readers
  read_event (Err why) store later readers cause reads counts = (cause, (counts, λ i. store_state (reads.told i) (disk.faults later) (kept_of store) readers))

  fetches : (result : Result Unit FetchFault) (store : Store D W M) (later : D) (readers : Readers) (pin : Pin) (page : ℕ) (bytes : List ℕ)
      → OnOk result (IfSome (pin_told (kept_of store) (disk.told store.disk) pin) (λ pages. bytes ≡ page_at pages page)) → IfErr result (λ why. why ≡ fault.Disk)
      → OnlyReads disk store.disk later → Counts (is_ok result) (disk.faults store.disk) (disk.faults later)
      → HasFetched (solo_tells disk loans means) (record { store = store; readers = readers }) pin page result bytes (record { store = record store { disk = later }; readers = readers })
  fetches result store later readers pin page bytes is cause reads counts = record {
    page_is = is;
    event = during_here (state_of disk store readers) (λ mid. Fetches mid result (state_of disk (record store { disk = later }) readers)) (read_event result store later readers cause reads counts);
    stays = record {
      pins = record {
        hold = λ pins live. read_live store later readers pins reads live;
        maps = λ other live. ap (λ (t : Option History). pin_told (kept_of store) t other) reads.told;
      };
      may_begin = λ may. may;
      opened = λ opening opened. subst (λ (t : Option History). IsOpenedAt opening (kept_of store) t) (sym reads.told) opened;
      loans = ap (λ (names : List ℕ). names ++ loans store.salts) reads.loans;
    };
    runs = λ first stands. subst (λ (t : Option History). StandsFrom (means.sound first) (means.leads first) first t (kept_of store) readers) (sym reads.told) stands;
  }

  pub fetches_so : (result : Result Unit FetchFault) (store new : Store D W M) (readers : Readers) (pin : Pin) (page : ℕ) (bytes : List ℕ)
      → OnOk result (IfSome (pin_told (kept_of store) (disk.told store.disk) pin) (λ pages. bytes ≡ page_at pages page)) → IfErr result (λ why. why ≡ fault.Disk)
      → new ≡ record store { disk = new.disk } → OnlyReads disk store.disk new.disk → Counts (is_ok result) (disk.faults store.disk) (disk.faults new.disk)
      → HasFetched (solo_tells disk loans means) (record { store = store; readers = readers }) pin page result bytes (record { store = new; readers = readers })
  fetches_so result store new readers pin page bytes is cause same reads counts =
      subst (λ (s : Store D W M). HasFetched (solo_tells disk loans means) (record { store = store; readers = readers }) pin page result bytes (record { store = s; readers = readers })) (sym same)
      (fetches result store new.disk readers pin page bytes is cause reads counts)

  -- how the logs stand
  pub tells_logs : (store : Store D W M) (readers : Readers) (logs : Logs) → logs ≡ told_logs (Some (two_logs (kept_of store))) (kept_of store).history
      → HasToldLogs (solo_tells disk loans means) (record { store = store; readers = readers }) logs (record { store = store; readers = readers })
  tells_logs store readers logs is = record {
    answer = during_here (state_of disk store readers) (λ mid. (logs ≡ told_logs mid.logs mid.history) × (state_of disk store readers ≡ mid)) (is, refl);
    stays = stays_same (solo_tells disk loans means) (record { store = store; readers = readers });
    runs = λ first stands. stands;
  }

  -- a commit of the store with these readers
  commit_answer : (store : Store D W M) (readers : Readers) (pin : Pin) (prepared : Prepared M) (who : Who) (result : Result Receipt (CommitFault × Prepared M)) (after : EngineState)
      → CommitAnswers means (store_tells disk loans means readers) store pin prepared who result after
      → CommitAnswers means (solo_tells disk loans means) (record { store = store; readers = readers }) pin prepared who result after
  commit_answer store readers pin prepared who (Ok (ReadOnly n)) after answer = answer
  commit_answer store readers pin prepared who (Ok (At number)) after answer = answer
  commit_answer store readers pin prepared who (Err refusal) after answer = answer

  commit_runs : (store new : Store D W M) (readers : Readers) (pin : Pin) (prepared : Prepared M) (result : Result Receipt (CommitFault × Prepared M))
      → CommitKeepsRuns means (store_tells disk loans means readers) store pin prepared result new
      → CommitKeepsRuns means (solo_tells disk loans means) (record { store = store; readers = readers }) pin prepared result (record { store = new; readers = readers })
  commit_runs store new readers pin prepared (Ok (ReadOnly n)) runs = runs
  commit_runs store new readers pin prepared (Ok (At number)) runs = runs
  commit_runs store new readers pin prepared (Err refusal) runs = runs

  pub commits_so : (store new : Store D W M) (readers : Readers) (pin : Pin) (prepared : Prepared M) (who : Who) (result : Result Receipt (CommitFault × Prepared M))
      → HasCommitted means (store_tells disk loans means readers) store pin prepared who result new
      → HasCommitted means (solo_tells disk loans means) (record { store = store; readers = readers }) pin prepared who result (record { store = new; readers = readers })
  commits_so store new readers pin prepared who result has = record {
    answer = commit_answer store readers pin prepared who result (state_of disk new readers) has.answer;
    runs = commit_runs store new readers pin prepared result has.runs;
    stays = record {
      pins = record { hold = has.stays.pins.hold; maps = has.stays.pins.maps };
      may_begin = has.stays.may_begin;
      opened = has.stays.opened;
      loans = has.stays.loans;
    };
  }
