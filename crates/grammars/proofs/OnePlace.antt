-- Tokens go wrong at one place alone, and not where they are derived.
use Rattle.std.proofs.Common.{◌≡◌, List, [], ◌∷◌, ◌++◌, refl, sym, ◌∙◌, ap, subst, append_assoc, ◌⊎◌, inl, inr}
use Rattle.std.proofs.lemmas.List.{append-nil}
use Rattle.grammars.specs.Grammar.{Grammar, Derives, Begins}
use Rattle.grammars.specs.Exact.{IsStuck, GoesWrong}

-- the second front goes further than the first
abbrev Further : {T : Type 0} → List T → List T → List T → Type 0
Further {T} one a two = (t : T) × (more : List T) × (after : List T) × (two ≡ one ++ t ∷ more) × (a ≡ t ∷ after)

fronts : {T : Type 0} (one a two b : List T) → one ++ a ≡ two ++ b → (a ≡ b) ⊎ (Further one a two ⊎ Further two b one)
fronts [] a [] b e = inl e
fronts [] a (t ∷ two) b e = inr (inl (t, two, two ++ b, refl, e))
fronts (t ∷ one) a [] b e = inr (inr (t, one, one ++ a, refl, sym e))
fronts (t ∷ one) a (u ∷ two) b e =
    let same : t ≡ u = cc in
    let rest : one ++ a ≡ two ++ b = cc in
    elim (fronts one a two b rest) [
      | inl h ↦ inl h
      | inr h ↦ elim h [
        | inl f ↦ inr (inl (f.0, f.1, f.2, (λ i. sym same i ∷ f.3 i), f.4))
        | inr f ↦ inr (inr (f.0, f.1, f.2, (λ i. same i ∷ f.3 i), f.4))
      ]
    ]

no_further : {T A : Type 0} (g : Grammar T A) (one a two : List T) → Further one a two → Begins g two → IsStuck g one a → ⊥
no_further g one a two (t, more, after, longer, is) (rest, u, derived) stuck =
    let stuck' : Begins g (one ++ t ∷ []) → ⊥ = subst (IsStuck g one) is stuck in
    stuck' (more ++ rest, u, subst (λ x. Derives g x u) (ap (λ x. x ++ rest) longer ∙ (append_assoc one (t ∷ more) rest ∙ sym (append_assoc one (t ∷ []) (more ++ rest)))) derived)

pub one_place : {T A : Type 0} (g : Grammar T A) (ts a b : List T) → GoesWrong g ts a → GoesWrong g ts b → a ≡ b
one_place g ts a b (one, is_one, begun_one, stuck_one) (two, is_two, begun_two, stuck_two) =
    elim (fronts one a two b (sym is_one ∙ is_two)) [
      | inl h ↦ h
      | inr h ↦ elim h [ inl f ↦ absurd (no_further g one a two f begun_two stuck_one) | inr f ↦ absurd (no_further g two b one f begun_one stuck_two) ]
    ]

-- tokens that are derived go wrong nowhere
pub derived_nowhere : {T A : Type 0} (g : Grammar T A) (ts rest : List T) (u : A) → Derives g ts u → GoesWrong g ts rest → ⊥
derived_nowhere g ts [] u derived (front, is, begun, stuck) = stuck u (subst (λ x. Derives g x u) (is ∙ append-nil front) derived)
derived_nowhere g ts (t ∷ rest) u derived (front, is, begun, stuck) =
    stuck (rest, u, subst (λ x. Derives g x u) (is ∙ sym (append_assoc front (t ∷ []) rest)) derived)
