-- A page is met: its bit is set, so one page more is.
use Rattle.std.proofs.Common.{◌≡◌, ℕ, zero, suc, ◌+◌, ◌/◌, ◌<◌, ◌≤◌, true, false, List, [], ◌∷◌, ◌++◌, length, refl, sym, subst, ap, ◌∙◌, arith, inl, inr, eq-eqb}
use Rattle.std.proofs.lemmas.Bool.{cases_eq, ne_eqb}
use Rattle.std.proofs.lemmas.List.{length-append}
use Rattle.tree_spec.specs.Layout.{times}
use Rattle.tree_spec.proofs.Lists.{times-append}
use Rattle.tree_check.specs.Met.{is_met, met_up_to, ShowMet}
use Rattle.tree_check.specs.declared.walk.Walk.{Walk}
use Rattle.tree_check.specs.Walking.{HasMet}

-- pages whose bits stayed are as many
met_same : (old new : List ℕ) (n : ℕ) → ((other : ℕ) → other ≤ n → is_met new other ≡ is_met old other) → met_up_to new n ≡ met_up_to old n
met_same old new zero same = refl
met_same old new (suc n) same =
    rw (same (suc n) (omega arith), met_same old new n (λ other most. same other (omega (arith, most)))) refl

-- a bit that is set now makes one more
met_more : (old new : List ℕ) (page n : ℕ) → 1 ≤ page → page ≤ n → is_met old page ≡ false → is_met new page ≡ true
    → ((other : ℕ) → other ≤ n → (other ≡ page → ⊥) → is_met new other ≡ is_met old other) → met_up_to new n ≡ met_up_to old n + 1
met_more old new page zero least most was now same = absurd (omega (arith, least, most))
met_more old new page (suc n) least most was now same =
    elim (cases_eq (suc n) page) [
      | inl is ↦
          let below : met_up_to new n ≡ met_up_to old n = met_same old new n (λ other less. same other (omega (arith, less)) (λ e. omega (arith, e, is, less))) in
          let was_here : is_met old (suc n) ≡ false = subst (λ (p : ℕ). is_met old p ≡ false) (sym is) was in
          let now_here : is_met new (suc n) ≡ true = subst (λ (p : ℕ). is_met new p ≡ true) (sym is) now in
          rw (was_here, now_here) (omega (arith, below))
      | inr apart ↦
          let below : met_up_to new n ≡ met_up_to old n + 1 =
          met_more old new page n least (omega (arith, most, apart)) was now (λ other less. same other (omega (arith, less))) in
          rw (same (suc n) (omega arith) apart) (omega (arith, below))
    ]

once_more : (met : List ℕ) (page : ℕ) → times (met ++ page ∷ []) page ≡ times met page + 1
once_more met page = let sum = times-append met (page ∷ []) page in let there = rw (eq-eqb page page refl) at sum in omega (arith, there)

not_more : (met : List ℕ) (page other : ℕ) → (other ≡ page → ⊥) → times (met ++ page ∷ []) other ≡ times met other
not_more met page other apart =
    let sum = times-append met (page ∷ []) other in
    let there = rw (ne_eqb page other (λ e. apart (sym e))) at sum in omega (arith, there)

-- the bits of the pages that were met, with this one
pub show_more : (old new : List ℕ) (page last : ℕ) (met : List ℕ) → 1 ≤ page → page ≤ last → is_met old page ≡ false → is_met new page ≡ true
    → ((other : ℕ) → other ≤ last → (other ≡ page → ⊥) → is_met new other ≡ is_met old other) → ShowMet old last met → ShowMet new last (met ++ page ∷ [])
show_more old new page last met least most was now same shown = record {
  set = λ other inside is.
      elim (cases_eq other page) [
        | inl here ↦ subst (λ (n : ℕ). 1 ≤ times (met ++ page ∷ []) n) (sym here) (omega (arith, once_more met page))
        | inr apart ↦ omega (arith, not_more met page other apart, shown.set other inside (sym (same other inside apart) ∙ is))
      ];
  unset = λ other inside is.
      elim (cases_eq other page) [
        | inl here ↦ let there : is_met new other ≡ true = subst (λ (n : ℕ). is_met new n ≡ true) (sym here) now in let both = sym there ∙ is in cc
        | inr apart ↦ not_more met page other apart ∙ shown.unset other inside (sym (same other inside apart) ∙ is)
      ];
  counted = met_more old new page last least most was now same ∙ ap (λ (n : ℕ). n + 1) shown.counted ∙ sym (length-append met (page ∷ []));
}

-- a page whose bit wasn't set was met
pub has_met : (before : Walk) (page : ℕ) (walk : Walk) → 1 ≤ page → page ≤ before.last → length before.marks.bits.items ≡ before.last / 8 + 1
    → walk ≡ record before { marks = walk.marks } → length walk.marks.bits.items ≡ length before.marks.bits.items
    → is_met before.marks.bits.items page ≡ false → is_met walk.marks.bits.items page ≡ true
    → ((other : ℕ) → other / 8 < length before.marks.bits.items → (other ≡ page → ⊥) → is_met walk.marks.bits.items other ≡ is_met before.marks.bits.items other)
    → HasMet before page walk
has_met before page walk least most room same_is length_is was now others = record {
  same = same_is;
  room = length_is;
  was_not = λ past keeps. keeps.marks.unset page most was;
  is_now = λ past keeps. record {
    marks = subst (λ (n : ℕ). ShowMet walk.marks.bits.items n (past.met ++ page ∷ [])) (sym (ap (λ (w : Walk). w.last) same_is))
        (show_more before.marks.bits.items walk.marks.bits.items page before.last past.met least most was now
        (λ other inside apart. others other (omega (arith, inside, room)) apart) keeps.marks);
    leaves = ap (λ (w : Walk). w.leaves) same_is ∙ keeps.leaves;
  };
  counted = met_more before.marks.bits.items walk.marks.bits.items page before.last least most was now
      (λ other inside apart. others other (omega (arith, inside, room)) apart);
}
