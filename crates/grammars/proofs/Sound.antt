-- What is read is derived, what was read of a refused list begins some tokens of the grammar, and tokens after the next one don't matter.
use Rattle.std.proofs.Common.{◌≡◌, ◌≤◌, Bool, List, [], ◌∷◌, ◌++◌, length, Option, Some, None, Ok, Err, refl, sym, ◌∙◌, ap, subst, arith, append_assoc, inl, inr}
use Rattle.std.proofs.lemmas.List.{length-append}
use Rattle.grammars.specs.Grammar.{Grammar, give, must, may, part, many, Rounds, over, round, Derives}
use Rattle.grammars.specs.Reading.{Read, and_then, pick, beside, next, rounds, read}
use Rattle.grammars.specs.Lookahead.{Ends}

abbrev BeginsBy : {T A : Type 0} → (List T → A → Type 0) → List T → Type 0
BeginsBy {T} {A} D front = (rest : List T) × (u : A) × D (front ++ rest) u

-- what an answer of reading these tokens tells
abbrev pub Tells : {T A : Type 0} → (List T → Read T A) → (List T → A → Type 0) → List T → Read T A → Type 0
Tells {T} {A} R D ts (Ok p) =
    (front : List T) × (ts ≡ front ++ p.1) × D front p.0 × ((t : T) (r y : List T) → p.1 ≡ t ∷ r → R (front ++ t ∷ y) ≡ Ok (p.0, t ∷ y))
Tells {T} {A} R D ts (Err e) =
    (front : List T) × (ts ≡ front ++ e) × BeginsBy D front × ((t : T) (r y : List T) → e ≡ t ∷ r → R (front ++ t ∷ y) ≡ Err (t ∷ y))

nil_cons : {T : Type 0} (t : T) (r : List T) → [] ≡ t ∷ r → ⊥
nil_cons t r e = cc

heads : {T : Type 0} (t n : T) (ts r : List T) → t ∷ ts ≡ n ∷ r → t ≡ n
heads t n ts r e = cc

-- ---- one token more at the front

module _ {T A : Type 0} (R R' : List T → Read T A) (D D' : List T → A → Type 0) (t : T) (step : (y : List T) → R (t ∷ y) ≡ R' y)
    (more : (w : List T) (u : A) → D' w u → D (t ∷ w) u) where
  cons_tells : (ts : List T) (r : Read T A) → Tells R' D' ts r → Tells R D (t ∷ ts) r
  cons_tells ts (Ok p) (front, is, d, steady) =
      (t ∷ front, ap (λ x. t ∷ x) is, more front p.0 d, λ n r y e. step (front ++ n ∷ y) ∙ steady n r y e)
  cons_tells ts (Err e) (front, is, (rest, u, d), steady) =
      (t ∷ front, ap (λ x. t ∷ x) is, (rest, u, more (front ++ rest) u d), λ n r y e. step (front ++ n ∷ y) ∙ steady n r y e)

-- ---- nothing was read

done_tells : {T A : Type 0} (R : List T → Read T A) (D : List T → A → Type 0) (u : A) (ts : List T) → D [] u
    → ((t : T) (r y : List T) → ts ≡ t ∷ r → R (t ∷ y) ≡ Ok (u, t ∷ y)) → Tells R D ts (Ok (u, ts))
done_tells R D u ts d steady = ([], refl, d, steady)

fail_tells : {T A : Type 0} (R : List T → Read T A) (D : List T → A → Type 0) (ts : List T) → BeginsBy D []
    → ((t : T) (r y : List T) → ts ≡ t ∷ r → R (t ∷ y) ≡ Err (t ∷ y)) → Tells R D ts (Err ts)
fail_tells R D ts b steady = ([], refl, b, steady)

-- ---- one after the other

abbrev Both : {T A B : Type 0} → (List T → B → Type 0) → (B → List T → A → Type 0) → List T → A → Type 0
Both {T} {A} {B} D E ts u = (v : B) × (front : List T) × (rest : List T) × (ts ≡ front ++ rest) × D front v × E v rest u

module _ {T A B : Type 0} (R : List T → Read T B) (D : List T → B → Type 0) (S : B → List T → Read T A) (E : B → List T → A → Type 0)
    (ends : (v : B) → BeginsBy (E v) []) where
  middle : (v : B) (first second mid rest : List T) (t : T) (r y : List T)
      → ((t : T) (r y : List T) → mid ≡ t ∷ r → R (first ++ t ∷ y) ≡ Ok (v, t ∷ y)) → mid ≡ second ++ rest → rest ≡ t ∷ r
      → R (first ++ second ++ t ∷ y) ≡ Ok (v, second ++ t ∷ y)
  middle v first [] mid rest t r y steady is e = ap R (append_assoc first [] (t ∷ y)) ∙ steady t r y (is ∙ e)
  middle v first (c ∷ second) mid rest t r y steady is e =
      ap R (append_assoc first (c ∷ second) (t ∷ y)) ∙ steady c (second ++ rest) (second ++ t ∷ y) is

  second_tells : (ts : List T) (v : B) (mid : List T) (r : Read T A) → Tells R D ts (Ok (v, mid)) → Tells (S v) (E v) mid r
      → Tells (λ ts. and_then (R ts) S) (Both D E) ts r
  second_tells ts v mid (Ok p) (first, is, d, steady) (second, is', d', steady') = (
    first ++ second,
    is ∙ (ap (λ x. first ++ x) is' ∙ sym (append_assoc first second p.1)),
    (v, first, second, refl, d, d'),
    λ t r y e. ap (λ r. and_then r S) (middle v first second mid p.1 t r y steady is' e) ∙ steady' t r y e,
  )
  second_tells ts v mid (Err x) (first, is, d, steady) (second, is', (rest, u, d'), steady') = (
    first ++ second,
    is ∙ (ap (λ x. first ++ x) is' ∙ sym (append_assoc first second x)),
    (rest, u, (v, first, second ++ rest, append_assoc first second rest, d, d')),
    λ t r y e. ap (λ r. and_then r S) (middle v first second mid x t r y steady is' e) ∙ steady' t r y e,
  )

  both_tells : (ts : List T) (r : Read T B) → Tells R D ts r
      → ((v : B) (front mid : List T) → ts ≡ front ++ mid → Tells (S v) (E v) mid (S v mid))
      → Tells (λ ts. and_then (R ts) S) (Both D E) ts (and_then r S)
  both_tells ts (Ok p) h after = second_tells ts p.0 p.1 (S p.0 p.1) h (after p.0 h.0 p.1 h.1)
  both_tells ts (Err e) (front, is, (rest, v, d), steady) after =
      let end = ends v in (
        front,
        is,
        (rest ++ end.0, end.1, (v, front ++ rest, end.0, sym (append_assoc front rest end.0), d, end.2)),
        λ t r y e. ap (λ r. and_then r S) (steady t r y e),
      )

-- ---- rounds

pick_same : {T B C : Type 0} (ts : List T) (o : Option B) (c : C) (P Q : B → List T → C) → ((b : B) → P b ts ≡ Q b ts)
    → pick (beside ts o) c (λ p. P p.0 p.1) ≡ pick (beside ts o) c (λ p. Q p.0 p.1)
pick_same ts None c P Q same = refl
pick_same ts (Some b) c P Q same = same b

suffix_within : {T : Type 0} (ts front rest : List T) → ts ≡ front ++ rest → length rest ≤ length ts
suffix_within ts front rest is = subst (λ x. length rest ≤ length x) (sym is) (omega (arith, length-append front rest))

module _ {T A B : Type 0} (f : A → T → Option B) (R : A → B → List T → Read T A) (D : A → B → List T → A → Type 0)
    (each : (s : A) (b : B) (ts : List T) → Tells (R s b) (D s b) ts (R s b ts)) where
  Steps : A → List T → A → Type 0
  Steps s ts last = Rounds f D last s ts

  -- what a round leaves is no longer than what it was given
  Shorter : List T → Read T A → Type 0
  Shorter ts (Ok p) = length p.1 ≤ length ts
  Shorter ts (Err e) = Unit {0}

  shorter_of : (s : A) (b : B) (ts : List T) (r : Read T A) → Tells (R s b) (D s b) ts r → Shorter ts r
  unfolding Shorter
  shorter_of s b ts (Ok p) h = suffix_within ts h.0 p.1 h.1
  shorter_of s b ts (Err e) h = tt

  then_same : (ts : List T) (r : Read T A) → Shorter ts r → (P Q : A → List T → Read T A)
      → ((v : A) (mid : List T) → length mid ≤ length ts → P v mid ≡ Q v mid) → and_then r P ≡ and_then r Q
  unfolding Shorter
  then_same ts (Ok p) h P Q same = same p.0 p.1 h
  then_same ts (Err e) h P Q same = refl

  -- more fuel than tokens changes nothing
  fuel_free : (one two : List T) (s : A) (ts : List T) → length ts ≤ length one → length ts ≤ length two → rounds f R one s ts ≡ rounds f R two s ts
  unfolding rounds
  fuel_free [] [] s ts h h' = refl
  fuel_free [] (_ ∷ two) s [] h h' = refl
  fuel_free (_ ∷ one) [] s [] h h' = refl
  fuel_free [] (_ ∷ two) s (t ∷ ts) h h' = absurd (omega (arith, h))
  fuel_free (_ ∷ one) [] s (t ∷ ts) h h' = absurd (omega (arith, h'))
  fuel_free (_ ∷ one) (_ ∷ two) s [] h h' = refl
  fuel_free (_ ∷ one) (_ ∷ two) s (t ∷ ts) h h' = pick_same ts (f s t) (Ok (s, t ∷ ts)) (λ b ts. and_then (R s b ts) (rounds f R one)) (λ b ts. and_then (R s b ts) (rounds f R two)) (λ b.
      then_same ts (R s b ts) (shorter_of s b ts (R s b ts) (each s b ts)) (rounds f R one) (rounds f R two)
      (λ v mid short. fuel_free one two v mid (omega (arith, short, h)) (omega (arith, short, h'))))

  pub loop : A → List T → Read T A
  loop s ts = rounds f R ts s ts

  pub loop_end : (s : A) → loop s [] ≡ Ok (s, [])
  unfolding loop rounds
  loop_end s = refl

  loop_at : (s : A) (t : T) (ts : List T) → loop s (t ∷ ts) ≡ pick (beside ts (f s t)) (Ok (s, t ∷ ts)) (λ p. and_then (R s p.0 p.1) loop)
  unfolding loop rounds
  loop_at s t ts = pick_same ts (f s t) (Ok (s, t ∷ ts)) (λ b ts'. and_then (R s b ts') (rounds f R ts)) (λ b ts'. and_then (R s b ts') loop) (λ b.
      then_same ts (R s b ts) (shorter_of s b ts (R s b ts) (each s b ts)) (rounds f R ts) loop
      (λ v mid short. fuel_free ts mid v mid short (omega arith)))

  -- one round, and then the others
  pub loop_step : (s : A) (ts : List T) → loop s ts ≡ pick (next (f s) ts) (Ok (s, ts)) (λ p. and_then (R s p.0 p.1) loop)
  loop_step s [] = loop_end s
  loop_step s (t ∷ ts) = loop_at s t ts

  loop_round : (s : A) (t : T) (ts : List T) → ((v : A) (mid : List T) → length mid ≤ length ts → Tells (loop v) (Steps v) mid (loop v mid))
      → (o : Option B) → f s t ≡ o → Tells (loop s) (Steps s) (t ∷ ts) (pick (beside ts o) (Ok (s, t ∷ ts)) (λ p. and_then (R s p.0 p.1) loop))
  unfolding Steps
  loop_round s t ts again None takes =
      done_tells (loop s) (Steps s) s (t ∷ ts) (over s [] refl refl)
      (λ n r y e. loop_at s n y ∙ ap (λ o. pick (beside y o) (Ok (s, n ∷ y)) (λ p. and_then (R s p.0 p.1) loop)) (ap (f s) (sym (heads t n ts r e)) ∙ takes))
  loop_round s t ts again (Some b) takes =
      cons_tells (loop s) (λ ts. and_then (R s b ts) loop) (Steps s) (Both (D s b) Steps) t
      (λ y. loop_at s t y ∙ ap (λ o. pick (beside y o) (Ok (s, t ∷ y)) (λ p. and_then (R s p.0 p.1) loop)) takes)
      (λ w u h. round s h.0 t b h.1 h.2 (t ∷ w) (ap (λ x. t ∷ x) h.3) takes h.4 h.5)
      ts (and_then (R s b ts) loop)
      (both_tells (R s b) (D s b) loop Steps (λ v. ([], v, over v [] refl refl)) ts (R s b ts) (each s b ts)
      (λ v front mid is. again v mid (suffix_within ts front mid is)))

  -- what is left is at most as long as the bound
  loop_tells : (bound : List T) (s : A) (ts : List T) → length ts ≤ length bound → Tells (loop s) (Steps s) ts (loop s ts)
  unfolding Steps
  loop_tells bound s [] short =
      subst (Tells (loop s) (Steps s) []) (sym (loop_end s)) (done_tells (loop s) (Steps s) s [] (over s [] refl refl) (λ t r y e. absurd (nil_cons t r e)))
  loop_tells [] s (t ∷ ts) short = absurd (omega (arith, short))
  loop_tells (_ ∷ bound) s (t ∷ ts) short =
      subst (Tells (loop s) (Steps s) (t ∷ ts)) (sym (loop_at s t ts))
      (loop_round s t ts (λ v mid within. loop_tells bound v mid (omega (arith, within, short))) (f s t) refl)

-- ---- all of it

pub can_end : {T A : Type 0} (g : Grammar T A) → Ends g → BeginsBy (Derives g) []
can_end (give v) e = ([], v, (refl, refl))
can_end (must f g) (some, each) =
    let more = can_end (g some.1) (each some.1) in
    (some.0 ∷ more.0, more.1, (some.0, some.1, more.0, refl, some.2, more.2))
can_end (may f g q) (each, other) = let more = can_end q other in (more.0, more.1, inr more.2)
can_end (part follow p q) (first, second) =
    let one = can_end p first in
    let two = can_end (q one.1) (second one.1) in
    (one.0 ++ two.0, two.1, (one.1, one.0, two.0, refl, one.2, two.2))
can_end (many follow f g s) e = ([], s, over s [] refl refl)

taken_tells : {T A B : Type 0} (R : List T → Read T A) (D : List T → A → Type 0) (f : T → Option B) (g : B → Grammar T A) (t : T) (b : B) (ts : List T)
    → f t ≡ Some b → ((y : List T) → R (t ∷ y) ≡ read (g b) y)
    → ((w : List T) (u : A) → (t : T) × (b : B) × (rest : List T) × (w ≡ t ∷ rest) × (f t ≡ Some b) × Derives (g b) rest u → D w u)
    → Tells (read (g b)) (Derives (g b)) ts (read (g b) ts) → Tells R D (t ∷ ts) (read (g b) ts)
taken_tells R D f g t b ts takes step make h =
    cons_tells R (read (g b)) D (Derives (g b)) t step (λ w u d. make (t ∷ w) u (t, b, w, refl, takes, d)) ts (read (g b) ts) h

-- the tokens up to the next one begin with the first
from_front : {T A : Type 0} (R R' : List T → Read T A) (t : T) (ts : List T) → ((y : List T) → R (t ∷ y) ≡ R' (t ∷ y)) → (front : List T) (n : T) (rest r y : List T)
    → t ∷ ts ≡ front ++ rest → rest ≡ n ∷ r → R (front ++ n ∷ y) ≡ R' (front ++ n ∷ y)
from_front R R' t ts same [] n rest r y is e =
    let first : t ≡ n = heads t n ts r (is ∙ e) in
    subst (λ n. R (n ∷ y) ≡ R' (n ∷ y)) first (same y)
from_front R R' t ts same (c ∷ front) n rest r y is e =
    let first : t ≡ c = heads t c ts (front ++ rest) is in
    subst (λ c. R (c ∷ (front ++ n ∷ y)) ≡ R' (c ∷ (front ++ n ∷ y))) first (same (front ++ n ∷ y))

-- what reads the same tokens alike and derives what is derived
other_tells : {T A : Type 0} (R R' : List T → Read T A) (D D' : List T → A → Type 0) (t : T) (ts : List T) (r : Read T A) → ((y : List T) → R (t ∷ y) ≡ R' (t ∷ y))
    → ((w : List T) (u : A) → D' w u → D w u) → Tells R' D' (t ∷ ts) r → Tells R D (t ∷ ts) r
other_tells R R' D D' t ts (Ok p) same make (front, is, d, steady) =
    (front, is, make front p.0 d, λ n r y e. from_front R R' t ts same front n (p.1) r y is e ∙ steady n r y e)
other_tells R R' D D' t ts (Err x) same make (front, is, (rest, u, d), steady) =
    (front, is, (rest, u, make (front ++ rest) u d), λ n r y e. from_front R R' t ts same front n x r y is e ∙ steady n r y e)

must_tells : {T A B : Type 0} (f : T → Option B) (g : B → Grammar T A) → Ends (must f g) → (t : T) (ts : List T)
    → ((b : B) → Tells (read (g b)) (Derives (g b)) ts (read (g b) ts)) → (o : Option B) → f t ≡ o
    → Tells (read (must f g)) (Derives (must f g)) (t ∷ ts) (pick (beside ts o) (Err (t ∷ ts)) (λ p. read (g p.0) p.1))
must_tells f g e t ts each None takes =
    fail_tells (read (must f g)) (Derives (must f g)) (t ∷ ts) (can_end (must f g) e)
    (λ n r y same. ap (λ o. pick (beside y o) (Err (n ∷ y)) (λ p. read (g p.0) p.1)) (ap f (sym (heads t n ts r same)) ∙ takes))
must_tells f g e t ts each (Some b) takes =
    taken_tells (read (must f g)) (Derives (must f g)) f g t b ts takes (λ y. ap (λ o. pick (beside y o) (Err (t ∷ y)) (λ p. read (g p.0) p.1)) takes) (λ w u d. d) (each b)

may_tells : {T A B : Type 0} (f : T → Option B) (g : B → Grammar T A) (q : Grammar T A) (t : T) (ts : List T)
    → ((b : B) → Tells (read (g b)) (Derives (g b)) ts (read (g b) ts)) → Tells (read q) (Derives q) (t ∷ ts) (read q (t ∷ ts)) → (o : Option B) → f t ≡ o
    → Tells (read (may f g q)) (Derives (may f g q)) (t ∷ ts) (pick (beside ts o) (read q (t ∷ ts)) (λ p. read (g p.0) p.1))
may_tells f g q t ts each other None takes =
    other_tells (read (may f g q)) (read q) (Derives (may f g q)) (Derives q) t ts (read q (t ∷ ts))
    (λ y. ap (λ o. pick (beside y o) (read q (t ∷ y)) (λ p. read (g p.0) p.1)) takes) (λ w u d. inr d) other
may_tells f g q t ts each other (Some b) takes =
    taken_tells (read (may f g q)) (Derives (may f g q)) f g t b ts takes (λ y. ap (λ o. pick (beside y o) (read q (t ∷ y)) (λ p. read (g p.0) p.1)) takes) (λ w u d. inl d) (each b)

no_more : {T : Type 0} (front rest : List T) (n : T) (r : List T) → [] ≡ front ++ rest → rest ≡ n ∷ r → ⊥
no_more [] rest n r is e = nil_cons n r (is ∙ e)
no_more (c ∷ front) rest n r is e = nil_cons c (front ++ rest) is

may_none : {T A B : Type 0} (f : T → Option B) (g : B → Grammar T A) (q : Grammar T A) (r : Read T A) → Tells (read q) (Derives q) [] r
    → Tells (read (may f g q)) (Derives (may f g q)) [] r
may_none f g q (Ok p) (front, is, d, steady) = (front, is, inr d, λ n r y e. absurd (no_more front p.1 n r is e))
may_none f g q (Err x) (front, is, (rest, u, d), steady) = (front, is, (rest, u, inr d), λ n r y e. absurd (no_more front x n r is e))

pub tells : {T A : Type 0} (g : Grammar T A) → Ends g → (ts : List T) → Tells (read g) (Derives g) ts (read g ts)
unfolding rounds loop Steps
tells (give v) e ts = done_tells (read (give v)) (Derives (give v)) v ts (refl, refl) (λ t r y same. refl)
tells (must f g) e [] = fail_tells (read (must f g)) (Derives (must f g)) [] (can_end (must f g) e) (λ t r y same. absurd (nil_cons t r same))
tells (must f g) e (t ∷ ts) = must_tells f g e t ts (λ b. tells (g b) (e.1 b) ts) (f t) refl
tells (may f g q) e [] = may_none f g q (read q []) (tells q e.1 [])
tells (may f g q) e (t ∷ ts) = may_tells f g q t ts (λ b. tells (g b) (e.0 b) ts) (tells q e.1 (t ∷ ts)) (f t) refl
tells (part follow p q) e ts =
    both_tells (read p) (Derives p) (λ v. read (q v)) (λ v. Derives (q v)) (λ v. can_end (q v) (e.1 v)) ts (read p ts) (tells p e.0 ts)
    (λ v front mid is. tells (q v) (e.1 v) mid)
tells (many follow f g s) e ts =
    loop_tells f (λ s b. read (g s b)) (λ s b. Derives (g s b)) (λ s b ts. tells (g s b) (e s b) ts) ts s ts (omega arith)

-- ---- what a loop of the code goes by

-- a round of `many`, and then the others
pub many_step : {T A B : Type 0} (follow : T → Bool) (f : A → T → Option B) (g : A → B → Grammar T A) (s : A) → Ends (many follow f g s) → (ts : List T)
    → read (many follow f g s) ts ≡ pick (next (f s) ts) (Ok (s, ts)) (λ p. and_then (read (g s p.0) p.1) (λ v. read (many follow f g v)))
unfolding rounds loop
many_step follow f g s e ts = loop_step f (λ s b. read (g s b)) (λ s b. Derives (g s b)) (λ s b ts. tells (g s b) (e s b) ts) s ts
