-- Numbers that follow one another, and a transaction's first reads.
use Rattle.std.proofs.Common.{◌≡◌, ℕ, ◌+◌, zero, List, [], ◌∷◌, refl, sym, subst, arith}
use Rattle.std.specs.Prelude.{Contains}
use Rattle.engine_spec.specs.declared.commits.Mode.{Mode}
use Rattle.engine_spec.specs.declared.commits.Mode.TheVariants.{Plain, Concurrent}
use Rattle.overlay.specs.Places.{RisesFrom, AreNumbered}
use Rattle.overlay.specs.Overlay.{first_reads}

-- numbers that follow one rise from it
pub numbered_rise : (base : ℕ) (pages : List ℕ) → AreNumbered base pages → RisesFrom base pages
numbered_rise base [] numbered = tt
numbered_rise base (page ∷ pages) numbered =
    let first = numbered.0 in
    (omega arith, subst (λ (n : ℕ). RisesFrom n pages) (sym first) (numbered_rise (base + 1) pages numbered.1))

-- a plain transaction has read page 1 from the start
pub first_there : (mode : Mode) → mode ≡ Plain → Contains (first_reads mode) 1
first_there Plain plain = (zero, omega arith, refl)
first_there Concurrent plain = absurd cc
