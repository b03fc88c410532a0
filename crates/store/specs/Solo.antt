-- What a store with its readers beside it tells, as an engine.
use Rattle.std.specs.Prelude.{ℕ, List, Result, Ok, Err}
use Rattle.disk_face.specs.declared.tells.DiskTells.{Ghosts as DiskGhosts}
use Rattle.page_spec.specs.PageMap.{PageMap}
use Rattle.engine_spec.specs.Good.{RunsFrom}
use Rattle.page_face.specs.declared.means.Means.{Ghosts as Meaning}
use Rattle.page_face.specs.declared.engine_tells.EngineTells.{Ghosts}
use Rattle.page_face.specs.Pins.{IsLive}
use Rattle.store_spec.proofs.Runs.{runs}
use Rattle.store.specs.declared.open_fault.OpenFault.{OpenFault}
use Rattle.store.specs.declared.store.Store.{Store}
use Rattle.store.specs.declared.solo.Solo.{Solo}
use Rattle.store.specs.Kept.{kept_of}
pub use Rattle.store.specs.Opening.{no_readers}
use Rattle.store.specs.Tells.{store_tells}

-- the store of an engine
abbrev pub store_of : {D W M : Type 0} → Solo D W M → Store D W M
store_of solo = solo.store

-- the answer to an opening, said of the store
abbrev pub as_store : {D W M : Type 0} → Result (Solo D W M) (OpenFault × D) → Result (Store D W M) (OpenFault × D)
as_store (Ok solo) = Ok solo.store
as_store (Err refused) = Err refused

-- It tells what its store does with the readers that it counts.
abbrev pub solo_tells : {D W M : Type 0} → DiskGhosts D → (W → List ℕ) → Meaning M → Ghosts (Solo D W M) M
solo_tells disk loans means = record {
  state = λ solo. (store_tells disk loans means solo.readers).state solo.store;
  live = λ solo pins. (store_tells disk loans means solo.readers).live solo.store pins;
  map_at = λ solo pin. (store_tells disk loans means solo.readers).map_at solo.store pin;
  stands_from = λ solo first. (store_tells disk loans means solo.readers).stands_from solo.store first;
  opened = λ solo opening. (store_tells disk loans means solo.readers).opened solo.store opening;
  may_begin = λ solo. (store_tells disk loans means solo.readers).may_begin solo.store;
  loans = λ solo. (store_tells disk loans means solo.readers).loans solo.store;
  newest_sizes = λ solo pins pages live told. (store_tells disk loans means solo.readers).newest_sizes solo.store pins pages live told;
  pinned_sizes = λ solo pin pages live told. (store_tells disk loans means solo.readers).pinned_sizes solo.store pin pages live told;
  tells = λ solo pin live told. (store_tells disk loans means solo.readers).tells solo.store pin live told;
  bounds = λ solo pin live. (store_tells disk loans means solo.readers).bounds solo.store pin live;
  own_there = λ solo pins number live there. (store_tells disk loans means solo.readers).own_there solo.store pins number live there;
  legal = λ solo pins live. (store_tells disk loans means solo.readers).legal solo.store pins live;
  are_logs = λ solo pins logs live told. (store_tells disk loans means solo.readers).are_logs solo.store pins logs live told;
  begins_now = λ solo always. (store_tells disk loans means solo.readers).begins_now solo.store always;
  recovers = λ solo opening opened. (store_tells disk loans means solo.readers).recovers solo.store opening opened;
}

-- what it means that it stands for a run
pub solo_run : {D W M : Type 0} (disk : DiskGhosts D) (loans : W → List ℕ) (means : Meaning M) (solo : Solo D W M) (first : PageMap)
    → (solo_tells disk loans means).stands_from solo first
    → RunsFrom (means.sound first) (means.leads first) first ((solo_tells disk loans means).state solo) (IsLive (solo_tells disk loans means).live solo) ((solo_tells disk loans means).map_at solo)
solo_run disk loans means solo first stands =
    runs (means.sound first) (means.leads first) first (kept_of solo.store) solo.readers (disk.told solo.store.disk) (disk.faults solo.store.disk)
    (IsLive (solo_tells disk loans means).live solo) (λ pin live. (live.0, live.1.live, live.2)) stands
