-- Which of a store's commits are a view's own.
use Rattle.std.proofs.Common.{◌≡◌, ◌∙◌, ℕ, ◌+◌, ◌<◌, ◌≤◌, true, false, List, [], ◌∷◌, ◌++◌, length, get_or, zero, suc, refl, sym, ap, subst, arith, length-append, eqb, eq-eqb}
use Rattle.std.specs.Prelude.{All}
use Rattle.std.specs.List.{list_any}
use Rattle.std.proofs.Math.Bool.{or-false, or-true}
use Rattle.std.proofs.lemmas.Bool.{ne_eqb}
use Rattle.std.proofs.lemmas.List.Folds.{list_any-append, list_any_none}
use Rattle.witnesses.specs.Shared.{numbers_but}

-- a number above all of these isn't among them
none_of : (theirs : List ℕ) (number n : ℕ) → All (λ t. t ≤ n) theirs → n < number → list_any (λ t. eqb t number) theirs ≡ false
none_of theirs number n all low =
    list_any_none (λ t. eqb t number) theirs
    (λ k d within. ne_eqb (get_or theirs k d) number (λ same. let bound = all k d within in omega (arith, same)))

-- with one number more among these, those below it are as before
but_beyond : (theirs : List ℕ) (more n : ℕ) → n < more → numbers_but (theirs ++ more ∷ []) n ≡ numbers_but theirs n
but_beyond theirs more zero low = refl
but_beyond theirs more (suc n) low =
    let any : list_any (λ t. eqb t (suc n)) (theirs ++ more ∷ []) ≡ list_any (λ t. eqb t (suc n)) theirs =
    list_any-append (λ t. eqb t (suc n)) theirs (more ∷ [])
    ∙ rw (ne_eqb more (suc n) (λ same. omega (arith, same))) (or-false (list_any (λ t. eqb t (suc n)) theirs)) in
    rw (any, but_beyond theirs more n (omega arith)) refl

-- the next commit is one's own
own_more : (theirs : List ℕ) (n : ℕ) → All (λ t. t ≤ n) theirs → numbers_but theirs (suc n) ≡ numbers_but theirs n ++ suc n ∷ []
own_more theirs n all = rw (none_of theirs (suc n) n all (omega arith)) refl

-- the next commit is theirs
theirs_more : (theirs : List ℕ) (n : ℕ) → numbers_but (theirs ++ suc n ∷ []) (suc n) ≡ numbers_but theirs n
theirs_more theirs n =
    let any : list_any (λ t. eqb t (suc n)) (theirs ++ suc n ∷ []) ≡ true =
    list_any-append (λ t. eqb t (suc n)) theirs (suc n ∷ [])
    ∙ rw (eq-eqb (suc n) (suc n) refl) (or-true (list_any (λ t. eqb t (suc n)) theirs)) in
    rw any (but_beyond theirs (suc n) n (omega arith))

-- a list with one more is one longer
pub one_longer : {X : Type 0} (xs : List X) (x : X) → length (xs ++ x ∷ []) ≡ suc (length xs)
one_longer xs x = omega (arith, length-append xs (x ∷ []))

-- the numbers of one's own commits after the next one, where it is one's own, and where it is theirs
pub numbers_after : {X : Type 0} (theirs : List ℕ) (history : List X) (commit : X) (number : ℕ) → number ≡ length history + 1
    → All (λ t. t ≤ length history) theirs
    → (numbers_but theirs (length (history ++ commit ∷ [])) ≡ numbers_but theirs (length history) ++ number ∷ [])
    × (numbers_but (theirs ++ number ∷ []) (length (history ++ commit ∷ [])) ≡ numbers_but theirs (length history))
numbers_after theirs history commit number next all =
    let longer : length (history ++ commit ∷ []) ≡ suc (length history) = one_longer history commit in
    let is : number ≡ suc (length history) = omega (arith, next) in (
      rw (longer, is) (own_more theirs (length history) all),
      subst (λ (n : ℕ). numbers_but (theirs ++ n ∷ []) (length (history ++ commit ∷ [])) ≡ numbers_but theirs (length history)) (sym is)
          (ap (numbers_but (theirs ++ suc (length history) ∷ [])) longer ∙ theirs_more theirs (length history)),
    )
