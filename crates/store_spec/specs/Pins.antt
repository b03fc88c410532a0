-- The pins that hold in a store.
--
-- A pin is of a moment at which its log was the current one. Its lock says which of the logs it reads: Part of a log reads a front of that log
-- over Main, Full also all of the other one between them.
use Rattle.std.specs.Prelude.{◌≡◌, ◌⊎◌, ℕ, ◌+◌, ◌<◌, ◌≤◌, ◌==◌, Bool, true, false, if◌then◌else◌, List, [], ◌∷◌, length, take, drop, Option, Some, IfSome, Contains}
use Rattle.disk_face.specs.Faults.{last_count}
use Rattle.disk_face.specs.Steps.{History, reads}
use Rattle.engine_spec.specs.declared.commits.Commit.{Commit}
use Rattle.engine_spec.specs.declared.commits.Mode.{Mode}
use Rattle.engine_spec.specs.declared.commits.Mode.TheVariants.{Plain}
use Rattle.engine_spec.specs.declared.pins.Pin.{Pin}
use Rattle.engine_spec.specs.declared.pins.Lock.{Lock}
use Rattle.engine_spec.specs.declared.pins.Lock.TheVariants.{Part1, Part1Full2, Part2, Part2Full1}
use Rattle.engine_spec.specs.declared.pins.Readers.{Readers}
use Rattle.engine_spec.specs.Good.{HasSizes, MayLayOn}
use Rattle.engine_spec.specs.History.{NoConflict}
use Rattle.engine_spec.specs.Events.{frames_now}
use Rattle.engine_spec.specs.TwoLogs.{frames_of, readers_of, lock_of}
use Rattle.log_pair.specs.Pair.{current_header, other_number}
use Rattle.store_spec.specs.Store.{StoreData, newest_in, pin_map_in, since_of, other_since_of, two_logs}

-- the lock on a front of a log, and the one on all of the other log too
abbrev pub part_of : ℕ → Lock
part_of log = if log == 1 then Part1 else Part2

abbrev pub full_of : ℕ → Lock
full_of log = if log == 1 then Part1Full2 else Part2Full1

-- how many frames a log has up to the n-th commit, where so many commits stand before its first
abbrev pub mark_at : List Commit → (since n : ℕ) → ℕ
mark_at history since n = length (frames_of (drop since (take n history)))

-- The map after the n-th commit stands on the current log: it holds that commit, or there was none before its first, or it has none yet.
pub record IsFront (kept : StoreData) (n : ℕ) : Type 0 where
  pub least : since_of kept ≤ n
  pub most : n ≤ length kept.history
  pub held : (since_of kept < n) ⊎ (since_of kept ≡ 0) ⊎ (n ≡ length kept.history)

-- And on the other log.
pub record IsOlderFront (kept : StoreData) (n : ℕ) : Type 0 where
  pub least : other_since_of kept ≤ n
  pub most : n ≤ since_of kept
  pub held : (other_since_of kept < n) ⊎ (other_since_of kept ≡ 0)

-- a pin of the current log, and of the other one
pub record IsOfCurrent (kept : StoreData) (pin : Pin) : Type 0 where
  pub generation : pin.generation ≡ (current_header kept.pair).generation
  pub front : IsFront kept pin.n
  pub mark : pin.mark ≡ mark_at kept.history (since_of kept) pin.n
  pub lock : (pin.lock ≡ part_of kept.pair.current) ⊎ (pin.lock ≡ full_of kept.pair.current)

pub record IsOfOther (kept : StoreData) (pin : Pin) : Type 0 where
  pub generation : pin.generation + 1 ≡ (current_header kept.pair).generation
  pub front : IsOlderFront kept pin.n
  pub mark : pin.mark ≡ mark_at kept.history (other_since_of kept) pin.n
  pub lock : pin.lock ≡ part_of (other_number kept.pair.current)

-- A pin holds: its map has whole pages, and agrees with the newest one on what no later commit wrote.
pub record PinHolds (told : Option History) (kept : StoreData) (pin : Pin) : Type 0 where
  pub place : IsOfCurrent kept pin ⊎ IsOfOther kept pin
  pub some : 1 ≤ pin.size
  pub sizes : IfSome told (λ told. HasSizes (pin_map_in kept.pair pin (reads told)) pin.size kept.page_size)
  pub agrees : IfSome told (λ told. (mode : Mode) (numbers : List ℕ) → NoConflict mode numbers pin.n kept.history → (mode ≡ Plain → Contains numbers 1)
      → MayLayOn mode (pin_map_in kept.pair pin (reads told)) numbers (newest_in kept.pair (reads told)))

-- how many of these pins have a lock
abbrev pub same_lock : Lock → Lock → Bool
same_lock Part1 Part1 = true
same_lock Part1Full2 Part1Full2 = true
same_lock Part2 Part2 = true
same_lock Part2Full1 Part2Full1 = true
same_lock lock other = false

abbrev pub pins_with : Lock → List Pin → ℕ
pins_with lock [] = 0
pins_with lock (pin ∷ pins) = (if same_lock pin.lock lock then 1 else 0) + pins_with lock pins

-- each pin is counted among the readers of its lock; a count at its last value stays there
abbrev pub AreCounted : Readers → List Pin → Type 0
AreCounted readers pins = (lock : Lock) → (pins_with lock pins ≤ readers_of readers lock) ⊎ (readers_of readers lock ≡ last_count)

-- the pin of a reader that comes now: it is of the newest map
abbrev pub newest_pin : StoreData → Pin
newest_pin kept = record {
  n = length kept.history;
  size = kept.size;
  lock = lock_of (two_logs kept);
  generation = (current_header kept.pair).generation;
  mark = frames_now (Some (two_logs kept)) kept.history;
}
