-- The pin of a reader that comes now, and the two logs as the rules see them, from what is counted.
use Rattle.std.proofs.Common.{◌≡◌, ◌∙◌, ℕ, length, sym, ap}
use Rattle.engine_spec.specs.declared.pins.Pin.{Pin}
use Rattle.engine_spec.specs.declared.pins.Lock.{Lock}
use Rattle.engine_spec.specs.TwoLogs.{lock_of, current_frames}
use Rattle.wal_rules.specs.Rules.{logs_with, logs_within}
use Rattle.log_pair.specs.Pair.{log_of, current_header}
use Rattle.store_spec.specs.Store.{StoreData, two_logs}
use Rattle.store_spec.specs.Pins.{newest_pin}
use Rattle.store_spec.specs.Standing.{IsWholeStore}
use Rattle.store_spec.proofs.Runs.{counted_of}

-- the current log's frames are as many as its commits wrote pages
pub frames_count : (kept : StoreData) → IsWholeStore kept → (log_of kept.pair kept.pair.current).frames ≡ length (current_frames (two_logs kept) kept.history)
frames_count kept whole = sym (counted_of kept kept.pair.current whole whole.pair.which).counted ∙ ap length whole.index.current.pages

-- the state of the logs tells what the store tells of them
pub state_is : (kept : StoreData) → IsWholeStore kept → logs_with kept.state (two_logs kept) ≡ two_logs kept
state_is kept whole = λ i. record {
  current = whole.current i;
  generation = (two_logs kept).generation;
  since = (two_logs kept).since;
  other_since = (two_logs kept).other_since;
  done = kept.state.done;
  copied = kept.state.copied;
  limit = kept.limit;
}

pub state_within : (kept : StoreData) → IsWholeStore kept → logs_within kept.state kept.limit (current_header kept.pair).generation (two_logs kept) ≡ two_logs kept
state_within kept whole = λ i. record {
  current = whole.current i;
  generation = (two_logs kept).generation;
  since = (two_logs kept).since;
  other_since = (two_logs kept).other_since;
  done = kept.state.done;
  copied = kept.state.copied;
  limit = kept.limit;
}

pub pin_is : (kept : StoreData) → IsWholeStore kept → (n generation mark : ℕ) (lock : Lock) → n ≡ length kept.history → generation ≡ (current_header kept.pair).generation
    → mark ≡ (log_of kept.pair kept.pair.current).frames → lock ≡ lock_of (logs_with kept.state (two_logs kept))
    → ◌≡◌ {A = Pin} (record { n = n; size = kept.size; lock = lock; generation = generation; mark = mark }) (newest_pin kept)
pin_is kept whole n generation mark lock n_is generation_is mark_is lock_is =
    let counted : mark ≡ length (current_frames (two_logs kept) kept.history) = mark_is ∙ frames_count kept whole in
    let held : lock ≡ lock_of (two_logs kept) = lock_is ∙ ap lock_of (state_is kept whole) in
    λ i. record { n = n_is i; size = kept.size; lock = held i; generation = generation_is i; mark = counted i }
