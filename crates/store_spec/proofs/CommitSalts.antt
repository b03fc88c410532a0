-- The first salts of both logs are of 32 bits, and stay so.
use Rattle.std.proofs.Common.{◌≡◌, ℕ, ◌+◌, ◌%◌, ◌^◌, ◌<◌, ◌==◌, Bool, true, false, if◌then◌else◌, sym, subst, arith, None}
use Rattle.log_spec.specs.LogHeader.{LogFields}
use Rattle.log_spec.specs.Checksum.{Sum}
use Rattle.log_pair.specs.Pair.{PairView, log_of, other_number, switched_pair}
use Rattle.log_pair.specs.Switch.{next_header}
use Rattle.store_spec.specs.Store.{StoreData}
use Rattle.store_spec.specs.Standing.{IsWholeStore}
use Rattle.store_spec.proofs.Writing.{IsPairOf}
use Rattle.store_spec.proofs.Committed.{MayWriteOn}
pub use Rattle.store_spec.specs.Steady.{AreSalts}

-- of each log
pub salt_in : (pair : PairView) (log : ℕ) → AreSalts pair → (log_of pair log).header.salt1 < 2 ^ 32
salt_in pair log salts = by (log == 1)
  where
    by : (first : Bool) → (if first then pair.one else pair.two).header.salt1 < 2 ^ 32
    by true = salts.0
    by false = salts.1

-- a store that is running can be written to
pub may_write : (kept : StoreData) → kept.stop ≡ None → IsWholeStore kept → AreSalts kept.pair → MayWriteOn kept
may_write kept none whole salts = record { running = none; which = whole.pair.which; salt = salt_in kept.pair kept.pair.current salts }

-- after a commit
pub salts_on : (old new : PairView) → IsPairOf old new → AreSalts old → AreSalts new
salts_on old new same salts = (
  subst (λ (h : LogFields). h.salt1 < 2 ^ 32) (sym same.one) salts.0,
  subst (λ (h : LogFields). h.salt1 < 2 ^ 32) (sym same.two) salts.1,
)

-- and after a switch
pub salts_switched : (pair : PairView) (salt2 : ℕ) (sum : Sum) → AreSalts pair → AreSalts (switched_pair pair (next_header pair salt2 sum))
salts_switched pair salt2 sum salts = (one (pair.current == 1), two (pair.current == 1))
  where
    small : (n : ℕ) → (n + 1) % 2 ^ 32 < 2 ^ 32
    small n = omega arith

    one : (first : Bool) → (if (if first then 2 else 1) == 1 then (record { header = next_header pair salt2 sum; frames = 0 }) else pair.one).header.salt1 < 2 ^ 32
    one true = salts.0
    one false = small (log_of pair (other_number pair.current)).header.salt1

    two : (first : Bool) → (if (if first then 2 else 1) == 1 then pair.two else (record { header = next_header pair salt2 sum; frames = 0 })).header.salt1 < 2 ^ 32
    two true = small (log_of pair (other_number pair.current)).header.salt1
    two false = salts.1
