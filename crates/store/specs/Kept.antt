-- What a store keeps, by its fields.
use Rattle.std.specs.Prelude.{◌≡◌, ℕ, true, List, [], length, None}
use Rattle.std.specs.Option.{option_map}
use Rattle.disk_face.specs.declared.tells.DiskTells.{Ghosts as DiskGhosts}
use Rattle.engine_spec.specs.declared.pins.Pin.{Pin}
use Rattle.engine_spec.specs.declared.pins.Readers.{Readers}
use Rattle.engine_spec.specs.State.{EngineState}
use Rattle.wal_index.specs.Index.{Indexed, IndexedLog}
use Rattle.store_spec.specs.Store.{KeptStop, StoreData, store_state}
use Rattle.store_spec.specs.Steady.{IsSteady}
use Rattle.store_spec.specs.Standing.{IsLiveStore}
use Rattle.store.specs.Halts.{KeptPages, images_in}
use Rattle.store.specs.declared.store.Store.{Store}
use Rattle.store.specs.declared.store.Halt.{Halt}

-- the place of a failed write, with the pages of its commit
abbrev pub stop_of : ℕ → KeptPages → Halt → KeptStop
stop_of page_size pages halt = record { log = halt.log; at = halt.at; images = images_in page_size pages.pages pages.bytes; size = halt.size }

-- what the index holds, whatever room it has
abbrev pub bare_log : IndexedLog → IndexedLog
bare_log log = record { pages = log.pages; numbers = log.numbers; ends = log.ends; tails = log.tails; room = 0; seals = 0 }

abbrev pub bare : Indexed → Indexed
bare index = record { log1 = bare_log index.log1; log2 = bare_log index.log2; last = 1 }

abbrev pub kept_of : {D W M : Type 0} → Store D W M → StoreData
kept_of store = record {
  page_size = store.page_size;
  usable = store.usable;
  size = store.size;
  limit = store.limit;
  pair = store.pair;
  index = bare store.index;
  state = store.state;
  history = store.commits.commits;
  stop = option_map (stop_of store.page_size store.spare) store.stop;
}

-- The disk is attached, the buffer has one page, and no page is kept as long as no write failed.
pub record IsAble {D W M : Type 0} (disk : DiskGhosts D) (store : Store D W M) : Type 0 where
  pub attached : disk.attached store.disk ≡ true
  pub room : length store.buf.items ≡ store.page_size
  pub none_kept : store.stop ≡ None → (store.spare.pages ≡ []) × (store.spare.bytes ≡ [])

-- The store is whole, and these pins hold in it, which are counted among the readers.
pub record IsLiveIn {D W M : Type 0} (disk : DiskGhosts D) (store : Store D W M) (readers : Readers) (pins : List Pin) : Type 0 where
  pub able : IsAble disk store
  pub live : IsLiveStore (disk.told store.disk) (kept_of store) readers pins
  pub steady : IsSteady (disk.told store.disk) (kept_of store) readers pins

-- what the store tells, with its readers beside it
abbrev pub state_of : {D W M : Type 0} → DiskGhosts D → Store D W M → Readers → EngineState
state_of disk store readers = store_state (disk.told store.disk) (disk.faults store.disk) (kept_of store) readers
