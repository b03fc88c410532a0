-- Checks in their order: all of them hold exactly where there is no fault.
use Rattle.std.proofs.Common.{◌≡◌, ℕ, zero, suc, ◌+◌, ◌<◌, Bool, true, false, Option, None, Some, refl, subst, inl, inr, arith}
use Rattle.std.proofs.lemmas.Bool.{cases_lt}
use Rattle.node_spec.specs.Faults.{unless, or_else, first_fault}

pub unless_none : (holds : Bool) (field : ℕ) → unless holds field ≡ None → holds ≡ true
unless_none true field e = refl
unless_none false field e = cc

pub or_none : (a b : Option ℕ) → or_else a b ≡ None → (a ≡ None) × (b ≡ None)
or_none None b e = (refl, e)
or_none (Some fault) b e = cc

-- the first of so many is none where each is
pub none_first : (n : ℕ) (fault_at : ℕ → Option ℕ) → ((i : ℕ) → i < n → fault_at i ≡ None) → first_fault n fault_at ≡ None
unfolding first_fault
none_first zero fault_at none = refl
none_first (suc n) fault_at none = rw (none_first n fault_at (λ i l. none i (omega arith)), none n (omega arith)) refl

pub first_none : (n : ℕ) (fault_at : ℕ → Option ℕ) → first_fault n fault_at ≡ None → (i : ℕ) → i < n → fault_at i ≡ None
unfolding first_fault
first_none zero fault_at none i less = absurd (omega arith)
first_none (suc n) fault_at none i less =
    let parts = or_none (first_fault n fault_at) (fault_at n) none in
    elim (cases_lt i n) [
      | inl l ↦ first_none n fault_at parts.0 i l
      | inr g ↦ let is : n ≡ i = omega arith in subst (λ j. fault_at j ≡ None) is parts.1
    ]

-- and is one where the ones before it are none
pub first_some : (n : ℕ) (fault_at : ℕ → Option ℕ) (i fault : ℕ) → i < n → first_fault i fault_at ≡ None → fault_at i ≡ Some fault
    → first_fault n fault_at ≡ Some fault
unfolding first_fault
first_some zero fault_at i fault less none here = absurd (omega arith)
first_some (suc n) fault_at i fault less none here =
    elim (cases_lt i n) [
      | inl l ↦ rw (first_some n fault_at i fault l none here) refl
      | inr g ↦ let is : i ≡ n = omega arith in rw (subst (λ j. first_fault j fault_at ≡ None) is none, subst (λ j. fault_at j ≡ Some fault) is here) refl
    ]

-- with one more that is none
pub first_more : (n : ℕ) (fault_at : ℕ → Option ℕ) → first_fault n fault_at ≡ None → fault_at n ≡ None → first_fault (n + 1) fault_at ≡ None
first_more n fault_at none here =
    none_first (n + 1) fault_at (λ i l. elim (cases_lt i n) [
      | inl less ↦ first_none n fault_at none i less
      | inr g ↦ let is : n ≡ i = omega arith in subst (λ j. fault_at j ≡ None) is here
    ])
