-- Counts of faults through the calls of a run.
use Rattle.std.proofs.Common.{◌≡◌, ℕ, ◌<◌, subst, ◌||◌, ◌==◌, nat_lt}
use Rattle.std.proofs.lemmas.Bool.{lt-ltb, or_left}
use Rattle.disk_face.specs.Faults.{Counts}

-- a put of some bytes counts no fault
pub some_put : (count size before after : ℕ) → 0 < count → Counts (nat_lt 0 count || size == 0) before after → after ≡ before
some_put count size before after some counts =
    subst (λ b. Counts b before after) (or_left (nat_lt 0 count) (size == 0) (lt-ltb 0 count some)) counts
