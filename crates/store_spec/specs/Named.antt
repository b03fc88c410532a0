-- The maps that stand on the logs name the page size of the store.
use Rattle.std.specs.Prelude.{◌≡◌, ℕ, ◌<◌, [], take, Option, IfSome}
use Rattle.disk_face.specs.Steps.{History, reads}
use Rattle.crash_spec.specs.Store.{named_size}
use Rattle.engine_spec.specs.declared.pins.Readers.{Readers}
use Rattle.engine_spec.specs.TwoLogs.{holders}
use Rattle.store_spec.specs.Store.{StoreData, current_read, other_read, two_logs, since_of, other_since_of}
use Rattle.store_spec.specs.Pins.{IsFront, IsOlderFront, mark_at}

-- Each map that stands on the current log names the page size in its page 1; so does each on the other log, as long as readers hold them.
pub record AreNamed (told : Option History) (kept : StoreData) (readers : Readers) : Type 0 where
  pub fronts : IfSome told (λ told. (n : ℕ) → IsFront kept n
      → named_size (reads told).main (other_read kept.pair (reads told)) (take (mark_at kept.history (since_of kept) n) (current_read kept.pair (reads told))) ≡ kept.page_size)
  pub older : 0 < holders (two_logs kept) readers → IfSome told (λ told. (n : ℕ) → IsOlderFront kept n
      → named_size (reads told).main [] (take (mark_at kept.history (other_since_of kept) n) (other_read kept.pair (reads told))) ≡ kept.page_size)
