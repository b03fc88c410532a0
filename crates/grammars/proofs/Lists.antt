-- Lists with a token between: one token decides, they can be ended, and how a loop goes over them.
use Rattle.std.proofs.Common.{◌≡◌, ◌<◌, ◌≤◌, Bool, true, false, ◌||◌, List, [], ◌∷◌, ◌++◌, length, Option, Some, None, is_some, Ok, Err, refl, sym, ◌∙◌, ap, subst, arith}
use Rattle.std.proofs.lemmas.List.{length-append}
use Rattle.grammars.specs.Grammar.{Grammar, give, part, Derives}
use Rattle.grammars.specs.Reading.{Read, and_then, pick, beside, next, read}
use Rattle.grammars.specs.Lookahead.{Decides, Ends}
use Rattle.grammars.specs.Lists.{more_of, separated}
use Rattle.grammars.proofs.Sound.{many_step, tells, Tells}

-- ---- lengths

none_some : {A : Type 0} (a : A) → None ≡ Some a → ⊥
none_some a e = cc

-- the other tokens, where there are some
abbrev rest_of : {T B : Type 0} → Option (B × List T) → List T
rest_of None = []
rest_of (Some p) = p.1

head_shorter : {T B : Type 0} (ts : List T) (o : Option B) (p : B × List T) → beside ts o ≡ Some p → length p.1 ≤ length ts
head_shorter ts None p e = absurd (none_some p e)
head_shorter ts (Some c) p e = let same : ts ≡ p.1 = ap rest_of e in subst (λ r. length r ≤ length ts) same (omega arith)

pub next_shorter : {T B : Type 0} (f : T → Option B) (ts : List T) (p : B × List T) → next f ts ≡ Some p → length p.1 < length ts
next_shorter f [] p e = absurd (none_some p e)
next_shorter f (t ∷ ts) p e = let h = head_shorter ts (f t) p e in omega (arith, h)

pub read_shorter : {T A : Type 0} (g : Grammar T A) → Ends g → (ts : List T) (v : A) (rest : List T) → read g ts ≡ Ok (v, rest) → length rest ≤ length ts
read_shorter g e ts v rest is =
    let h : Tells (read g) (Derives g) ts (Ok (v, rest)) = subst (Tells (read g) (Derives g) ts) is (tells g e ts) in
    subst (λ x. length rest ≤ length x) (sym h.1) (omega (arith, length-append h.0 rest))

-- ---- lists

module _ {T A : Type 0} (comma : List A → T → Option (Unit {0})) (follow : T → Bool) (item : List A → Grammar T A) where
  pub separated_ends : ((found : List A) → Ends (item found)) → Ends (separated comma follow item)
  unfolding separated more_of
  separated_ends e = (e [], λ first found _. (e found, λ x. tt))

  pub separated_decides : (K : T → Bool) → ((found : List A) → Decides (item found) follow) → ((found : List A) (t : T) → K t ≡ true → comma found t ≡ None)
      → ((t : T) → K t ≡ true → follow t ≡ true) → ((found : List A) (t : T) → is_some (comma found t) ≡ true → follow t ≡ true) → Decides (separated comma follow item) K
  unfolding separated more_of
  separated_decides K d stops wide by = (
    d [],
    (λ first. ((λ found _. (d found, (λ x. tt), λ x t k. k)), stops, wide, λ found t _ takes. by found t (ap is_some takes))),
    λ first t k. started (first ∷ []) t k,
  )
    where
      started : (found : List A) (t : T) → (is_some (comma found t) || K t) ≡ true → follow t ≡ true
      started found t k = by_cases (is_some (comma found t)) refl k
        where
          by_cases : (b : Bool) → is_some (comma found t) ≡ b → (b || K t) ≡ true → follow t ≡ true
          by_cases true is k = by found t is
          by_cases false is k = wide t k

  grown : (found : List A) (r : Read T A) (P : List A → List T → Read T (List A))
      → and_then (and_then r (λ x ts. Ok (found ++ x ∷ [], ts))) P ≡ and_then r (λ x. P (found ++ x ∷ []))
  grown found (Ok p) P = refl
  grown found (Err e) P = refl

  module _ (e : (found : List A) → Ends (item found)) (found : List A) (ts : List T) where
    step : read (more_of comma follow item found) ts ≡ pick (next (comma found) ts) (Ok (found, ts))
        (λ p. and_then (and_then (read (item found) p.1) (λ x ts. Ok (found ++ x ∷ [], ts))) (λ v. read (more_of comma follow item v)))
    unfolding more_of
    step = many_step follow comma (λ found _. part follow (item found) (λ x. give (found ++ x ∷ []))) found (λ found _. (e found, λ x. tt)) ts

    pub list_over : next (comma found) ts ≡ None → read (more_of comma follow item found) ts ≡ Ok (found, ts)
    list_over none = step ∙ ap (λ o. pick o (Ok (found, ts)) (λ p. and_then (and_then (read (item found) p.1) (λ x ts. Ok (found ++ x ∷ [], ts))) (λ v. read (more_of comma follow item v)))) none

    list_more : (after : List T) → next (comma found) ts ≡ Some (tt, after)
        → read (more_of comma follow item found) ts ≡ and_then (read (item found) after) (λ x. read (more_of comma follow item (found ++ x ∷ [])))
    list_more after some =
        step ∙ (ap (λ o. pick o (Ok (found, ts)) (λ p. and_then (and_then (read (item found) p.1) (λ x ts. Ok (found ++ x ∷ [], ts))) (λ v. read (more_of comma follow item v)))) some
        ∙ grown found (read (item found) after) (λ v. read (more_of comma follow item v)))

    pub list_round : (after : List T) (x : A) (rest : List T) → next (comma found) ts ≡ Some (tt, after) → read (item found) after ≡ Ok (x, rest)
        → read (more_of comma follow item found) ts ≡ read (more_of comma follow item (found ++ x ∷ [])) rest
    list_round after x rest some is = list_more after some ∙ ap (λ r. and_then r (λ x. read (more_of comma follow item (found ++ x ∷ [])))) is

    pub list_fault : (after rest : List T) → next (comma found) ts ≡ Some (tt, after) → read (item found) after ≡ Err rest → read (more_of comma follow item found) ts ≡ Err rest
    list_fault after rest some is = list_more after some ∙ ap (λ r. and_then r (λ x. read (more_of comma follow item (found ++ x ∷ [])))) is
