-- What a store tells, with the readers beside it.
use Rattle.std.specs.Prelude.{ℕ, List, ◌++◌, length}
use Rattle.disk_face.specs.declared.tells.DiskTells.{Ghosts as DiskGhosts}
use Rattle.engine_spec.specs.declared.pins.Readers.{Readers}
use Rattle.engine_spec.specs.Good.{HasSizes}
use Rattle.page_face.specs.declared.means.Means.{Ghosts as Meaning}
use Rattle.page_face.specs.declared.engine_tells.EngineTells.{Ghosts}
use Rattle.store_spec.specs.Store.{newest_told, pin_told}
use Rattle.store_spec.specs.Standing.{StandsFrom, IsOpenedAt}
use Rattle.store_spec.proofs.EngineLaws.{of_some, held, pinned_sizes, pin_is_told, bounds, own_in, recovers, are_logs}
use Rattle.store.specs.declared.store.Store.{Store}
use Rattle.store.specs.Kept.{kept_of, state_of, IsLiveIn}

-- Its maps are those of its pins; it stands for a run, and is opened, as what it keeps does.
abbrev pub store_tells : {D W M : Type 0} → DiskGhosts D → (W → List ℕ) → Meaning M → Readers → Ghosts (Store D W M) M
store_tells disk loans means readers = record {
  state = λ store. state_of disk store readers;
  live = λ store pins. IsLiveIn disk store readers pins;
  map_at = λ store pin. pin_told (kept_of store) (disk.told store.disk) pin;
  stands_from = λ store first. StandsFrom (means.sound first) (means.leads first) first (disk.told store.disk) (kept_of store) readers;
  opened = λ store opening. IsOpenedAt opening (kept_of store) (disk.told store.disk);
  may_begin = λ store. Unit {0};
  loans = λ store. disk.loans store.disk ++ loans store.salts;
  newest_sizes = λ store pins pages live told. of_some (newest_told (kept_of store) (disk.told store.disk)) pages (λ map. HasSizes map store.size store.page_size) live.live.sizes told;
  pinned_sizes = λ store pin pages live told. pinned_sizes (disk.told store.disk) (kept_of store) pin pages (held (disk.told store.disk) (kept_of store) readers live.0 pin live.1.live live.2) told;
  tells = λ store pin live told. pin_is_told (disk.told store.disk) (kept_of store) pin told;
  bounds = λ store pin live. bounds (disk.told store.disk) (kept_of store) pin (held (disk.told store.disk) (kept_of store) readers live.0 pin live.1.live live.2);
  own_there = λ store pins number live there. own_in (length (kept_of store).history) number there;
  legal = λ store pins live. (live.live.whole.legal, live.live.whole.usable.0, live.live.whole.usable.1);
  are_logs = λ store pins logs live told. are_logs (kept_of store) logs live.live.whole told;
  begins_now = λ store always. tt;
  recovers = λ store opening opened. recovers (disk.told store.disk) (disk.faults store.disk) (kept_of store) readers opening opened;
}
