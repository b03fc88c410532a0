-- All tokens are read exactly where the grammar derives them, and else the fault is where they go wrong.
use Rattle.std.proofs.Common.{◌≡◌, false, List, [], ◌∷◌, ◌++◌, Result, Ok, Err, refl, sym, ◌∙◌, ap, subst, append_assoc}
use Rattle.std.proofs.lemmas.List.{append-nil}
use Rattle.grammars.specs.Grammar.{Grammar, Derives, Begins}
use Rattle.grammars.specs.Reading.{Read, read}
use Rattle.grammars.specs.Lookahead.{Decides, Ends}
use Rattle.grammars.specs.Exact.{GoesWrong, all_read, read_all}
use Rattle.grammars.proofs.Complete.{complete}
use Rattle.grammars.proofs.Sound.{Tells, tells}

-- what reading all of it tells
abbrev pub Outcome : {T A : Type 0} → Grammar T A → List T → Result A (List T) → Type 0
Outcome g ts (Ok u) = Derives g ts u
Outcome g ts (Err rest) = GoesWrong g ts rest

pub all_complete : {T A : Type 0} (g : Grammar T A) → Decides g (λ _. false) → (ts : List T) (u : A) → Derives g ts u → read_all g ts ≡ Ok u
all_complete g d ts u derived =
    let read_so : read g ts ≡ Ok (u, []) = subst (λ x. read g x ≡ Ok (u, [])) (append-nil ts) (complete g (λ _. false) d ts [] u tt derived) in
    ap all_read read_so

-- a list that is read further on no token is no front of one that is derived
stuck_by : {T A : Type 0} (g : Grammar T A) → Decides g (λ _. false) → (front : List T) (t : T) → (r : List T → Read T A)
    → ((y : List T) → read g (front ++ t ∷ y) ≡ r y) → ((y : List T) (u : A) → all_read (r y) ≡ Ok u → ⊥) → Begins g (front ++ t ∷ []) → ⊥
stuck_by g d front t r same none (rest, u, derived) =
    let regrouped = append_assoc front (t ∷ []) rest in
    let whole : read_all g (front ++ t ∷ rest) ≡ Ok u = all_complete g d (front ++ t ∷ rest) u (subst (λ x. Derives g x u) regrouped derived) in
    none rest u (sym (ap all_read (same rest)) ∙ whole)

ok_err : {A E : Type 0} (a : A) (e : E) → Err e ≡ Ok a → ⊥
ok_err a e h = cc

outcome_of : {T A : Type 0} (g : Grammar T A) → Decides g (λ _. false) → (ts : List T) (r : Read T A) → read g ts ≡ r → Tells (read g) (Derives g) ts r
    → Outcome g ts (all_read r)
outcome_of g d ts (Ok (u, [])) is (front, same, derived, steady) = subst (λ x. Derives g x u) (sym (same ∙ append-nil front)) derived
outcome_of g d ts (Ok (u, t ∷ rest)) is (front, same, derived, steady) = (
  front,
  same,
  ([], u, subst (λ x. Derives g x u) (sym (append-nil front)) derived),
  stuck_by g d front t (λ y. Ok (u, t ∷ y)) (λ y. steady t rest y refl) (λ y v e. ok_err v (t ∷ y) e),
)
outcome_of g d ts (Err []) is (front, same, begun, steady) = (
  front,
  same,
  begun,
  λ u derived.
      let whole : read_all g ts ≡ Ok u = all_complete g d ts u (subst (λ x. Derives g x u) (sym (same ∙ append-nil front)) derived) in
      ok_err u [] (sym (ap all_read is) ∙ whole),
)
outcome_of g d ts (Err (t ∷ rest)) is (front, same, begun, steady) =
    (front, same, begun, stuck_by g d front t (λ y. Err (t ∷ y)) (λ y. steady t rest y refl) (λ y v e. ok_err v (t ∷ y) e))

pub outcome : {T A : Type 0} (g : Grammar T A) → Decides g (λ _. false) → Ends g → (ts : List T) → Outcome g ts (read_all g ts)
outcome g d e ts = outcome_of g d ts (read g ts) refl (tells g e ts)

ok_same : {A E : Type 0} (r : Result A E) (a b : A) → r ≡ Ok a → r ≡ Ok b → a ≡ b
ok_same r a b one two = cc

-- tokens have one value
pub one_value : {T A : Type 0} (g : Grammar T A) → Decides g (λ _. false) → (ts : List T) (u v : A) → Derives g ts u → Derives g ts v → u ≡ v
one_value g d ts u v one two = ok_same (read_all g ts) u v (all_complete g d ts u one) (all_complete g d ts v two)

pub all_sound : {T A : Type 0} (g : Grammar T A) → Decides g (λ _. false) → Ends g → (ts : List T) (u : A) → read_all g ts ≡ Ok u → Derives g ts u
all_sound g d e ts u is = subst (Outcome g ts) is (outcome g d e ts)

pub all_wrong : {T A : Type 0} (g : Grammar T A) → Decides g (λ _. false) → Ends g → (ts rest : List T) → read_all g ts ≡ Err rest → GoesWrong g ts rest
all_wrong g d e ts rest is = subst (Outcome g ts) is (outcome g d e ts)
