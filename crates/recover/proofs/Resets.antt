-- A log's new header was written and synced, or one of both calls failed.
use Rattle.std.proofs.lemmas.Bool.Decides.{nat_tests}
use Rattle.recover.specs.Headers.{next_even}
use Rattle.recover.specs.Seeing.{next_odd}
use Rattle.std.proofs.Common.{arith, ◌≤◌, ◌≡◌, ◌⊎◌, inl, inr, ℕ, ◌+◌, ◌%◌, ◌^◌, ◌<◌, Bool, true, false, List, Option, refl, sym, ◌∙◌, ap, subst}
use Rattle.disk_face.specs.declared.disk.File.{File}
use Rattle.disk_face.specs.declared.disk.File.TheVariants.{Log2}
use Rattle.disk_face.specs.Steps.{History}
use Rattle.log_spec.specs.LogHeader.{LogFields, log_fields, is_generation, last_generation, IsOurs}
use Rattle.log_spec.specs.Written.{IsHeaderOf}
use Rattle.crash_spec.specs.Marks.{IsLog, number_of}
use Rattle.crash_spec.specs.Opening.{Since}
use Rattle.crash_spec.specs.Passes.{Passes, WhereDone}
use Rattle.opening_spec.specs.Found.{OpeningView, FoundLog, IsNextHeader, found_log}
use Rattle.opening_spec.specs.States.{IsResetting, HasReset, MayBeOurs, LeavesMap}
use Rattle.opening_spec.proofs.Resetting.{header_done, header_unsynced, header_refused}
use Rattle.log_pair.specs.Switch.{WritesAndSyncs, front_piece}
use Rattle.wal_frames.specs.Found.{log_file}
use Rattle.wal_frames.specs.Front.{fields_for}
use Rattle.wal_frames.specs.declared.header.LogHeader.{LogHeader}
use Rattle.log_pair.specs.Header.{IsSigned}
use Rattle.log_pair.specs.declared.header.NewHeader.{NewHeader}
use Rattle.page_spec.specs.Header.{is_page_size}

pub header_passes : (ok : Bool) (view : OpeningView) (log : File) (one two : FoundLog) (beside : Option LogFields) (bytes : List ℕ) → IsNextHeader log (found_log log one two) bytes → (log ≡ Log2 → MayBeOurs view)
    → (old new : Option History) → Since view.opening.start (IsResetting view log one two beside) old → WritesAndSyncs ok (front_piece log bytes) old new
    → Passes view.opening (LeavesMap view) (WhereDone ok (HasReset view log (log_fields bytes) one two beside)) old new
header_passes true view log one two beside bytes next owns old new h done = header_done view log one two beside bytes next owns old _ new h refl done
header_passes false view log one two beside bytes next owns old new h (inl refused) = header_refused view log one two beside bytes next owns old new h refused
header_passes false view log one two beside bytes next owns old new h (inr wrote) = header_unsynced view log one two beside bytes next owns old _ new h refl wrote

-- a header that was signed is a next one
pub next_is : (log : ℕ) (has : FoundLog) (header : LogFields) (bytes : List ℕ) (last : ℕ) → (log ≡ 1) ⊎ (log ≡ 2) → IsHeaderOf log header bytes
    → has.salt ≡ last % 2 ^ 32 → header.salt1 ≡ (last + 1) % 2 ^ 32 → has.most + 1 < 2 ^ 32 → has.most + 1 ≤ header.generation → IsNextHeader (log_file log) has bytes
next_is log has header bytes last which is same salt few risen =
    let at = log_is log which in
    record {
      is_log = at.0;
      long = is.whole;
      ours = subst (λ (n : ℕ). IsOurs n bytes) (sym at.1) is.ours;
      salt = ap (λ (fields : LogFields). fields.salt1) is.told ∙ salt ∙ rest last ∙ ap (λ (n : ℕ). (n + 1) % 2 ^ 32) (sym same);
      few = few;
      risen = subst (λ (fields : LogFields). has.most + 1 ≤ fields.generation) (sym is.told) risen;
    }
  where
    rest : (n : ℕ) → (n + 1) % 2 ^ 32 ≡ (n % 2 ^ 32 + 1) % 2 ^ 32
    rest n = omega arith

    log_is : (log : ℕ) → (log ≡ 1) ⊎ (log ≡ 2) → IsLog (log_file log) × (number_of (log_file log) ≡ log)
    log_is log (inl is) = subst (λ (n : ℕ). IsLog (log_file n) × (number_of (log_file n) ≡ n)) (sym is) (tt, refl)
    log_is log (inr is) = subst (λ (n : ℕ). IsLog (log_file n) × (number_of (log_file n) ≡ n)) (sym is) (tt, refl)

-- a header that was signed, by what it was made of
pub signed_is : (log : ℕ) (made : LogHeader) (new : NewHeader) → new.header ≡ record made { sum = new.header.sum } → is_page_size made.page_size ≡ true → is_generation log made.generation ≡ true → IsSigned new
    → IsHeaderOf log (fields_for new.header) new.bytes
signed_is log made new is size generation signed =
    signed log (ap (λ (h : LogHeader). is_page_size h.page_size) is ∙ size) (ap (λ (h : LogHeader). is_generation log h.generation) is ∙ generation)

-- the generations of both logs' next headers
pub next_even_is : (newest : ℕ) → newest + 4 ≤ last_generation → is_generation 2 (next_even newest) ≡ true
unfolding is_generation
next_even_is newest room = grind (arith, nat_tests)

pub next_odd_is : (newest : ℕ) → newest + 4 ≤ last_generation → is_generation 1 (next_even newest + 1) ≡ true
unfolding is_generation
next_odd_is newest room = grind (arith, nat_tests)

-- and that of a first header of log 1
pub first_odd_is : (newest : ℕ) → newest + 3 ≤ last_generation → is_generation 1 (next_odd newest) ≡ true
unfolding is_generation
first_odd_is newest room = grind (arith, nat_tests)

-- they are large enough for the second header of this opening
pub even_room : (newest even : ℕ) → even ≡ next_even newest → 2 ≤ even
even_room newest even is = omega (arith, is)

pub odd_room : (newest odd : ℕ) → odd ≡ next_odd newest → 1 ≤ odd
odd_room newest odd is = omega (arith, is)
