-- What a grammar derives is read, where one token decides.
use Rattle.std.proofs.Common.{◌≡◌, ◌+◌, ◌≤◌, Bool, true, false, ◌||◌, List, [], ◌∷◌, ◌++◌, length, Option, Some, None, is_some, Ok, Err, refl, sym, ◌∙◌, ap, subst, arith, append_assoc, inl, inr}
use Rattle.std.proofs.lemmas.List.{length-append}
use Rattle.grammars.specs.Grammar.{Grammar, give, must, may, part, many, Rounds, over, round, Derives}
use Rattle.grammars.specs.Reading.{Read, and_then, pick, beside, rounds, read}
use Rattle.grammars.specs.Lookahead.{starts, Decides, Follows}

follows_weaken : {T : Type 0} (P Q : T → Bool) (x : List T) → ((t : T) → P t ≡ true → Q t ≡ true) → Follows P x → Follows Q x
follows_weaken P Q [] h p = tt
follows_weaken P Q (t ∷ ts) h p = h t p

or_right : (a b : Bool) → b ≡ true → (a || b) ≡ true
or_right true b h = refl
or_right false b h = h

rounds_starts : {T A B : Type 0} (f : A → T → Option B) (D : A → B → List T → A → Type 0) (K : T → Bool) (last s : A) (w x : List T) → Follows K x
    → Rounds f D last s w → Follows (λ t. is_some (f s t) || K t) (w ++ x)
rounds_starts f D K last s w x k (over _ _ is _) =
    subst (λ w. Follows (λ t. is_some (f s t) || K t) (w ++ x)) (sym is) (follows_weaken K (λ t. is_some (f s t) || K t) x (λ t h. or_right (is_some (f s t)) (K t) h) k)
rounds_starts f D K last s w x k (round _ next t b front rest _ is takes d more) =
    subst (λ w. Follows (λ t. is_some (f s t) || K t) (w ++ x)) (sym is) (ap (λ o. is_some o || K t) takes)

pub starts_at : {T A : Type 0} (g : Grammar T A) (K : T → Bool) (w x : List T) (u : A) → Decides g K → Derives g w u → Follows K x → Follows (starts g K) (w ++ x)
starts_at (give v) K w x u d (empty, is) k = subst (λ w. Follows K (w ++ x)) (sym empty) k
starts_at (must f g) K w x u d (t, b, rest, is, takes, derived) k = subst (λ w. Follows (λ t. is_some (f t)) (w ++ x)) (sym is) (ap is_some takes)
starts_at (may f g q) K w x u d (inl (t, b, rest, is, takes, derived)) k =
    subst (λ w. Follows (λ t. is_some (f t) || starts q K t) (w ++ x)) (sym is) (ap (λ o. is_some o || starts q K t) takes)
starts_at (may f g q) K w x u d (inr other) k =
    follows_weaken (starts q K) (λ t. is_some (f t) || starts q K t) (w ++ x) (λ t h. or_right (is_some (f t)) (starts q K t) h) (starts_at q K w x u d.1 other k)
starts_at (part follow p q) K w x u d (v, front, rest, is, first, second) k =
    let after : Follows follow (rest ++ x) = follows_weaken (starts (q v) K) follow (rest ++ x) (d.2 v) (starts_at (q v) K rest x u (d.1 v) second k) in
    subst (λ w. Follows (starts p follow) (w ++ x)) (sym is)
    (subst (Follows (starts p follow)) (sym (append_assoc front rest x)) (starts_at p follow front (rest ++ x) v d.0 first after))
starts_at (many follow f g s) K w x u d derived k = rounds_starts f (λ s b. Derives (g s b)) K u s w x k derived

-- ---- rounds

module _ {T A B : Type 0} (f : A → T → Option B) (D : A → B → List T → A → Type 0) (R : A → B → List T → Read T A) (follow K : T → Bool)
    (each : (s : A) (b : B) (w x : List T) (u : A) → Follows follow x → D s b w u → R s b (w ++ x) ≡ Ok (u, x))
    (stops : (s : A) (t : T) → K t ≡ true → f s t ≡ None)
    (wide : (t : T) → K t ≡ true → follow t ≡ true)
    (takes_wide : (s : A) (t : T) (b : B) → f s t ≡ Some b → follow t ≡ true) where
  rounds_stop : (fuel : List T) (s : A) (x : List T) → Follows K x → rounds f R fuel s x ≡ Ok (s, x)
  unfolding rounds
  rounds_stop [] s x k = refl
  rounds_stop (_ ∷ fuel) s [] k = refl
  rounds_stop (_ ∷ fuel) s (t ∷ ts) k = ap (λ o. pick (beside ts o) (Ok (s, t ∷ ts)) (λ p. and_then (R s p.0 p.1) (rounds f R fuel))) (stops s t k)

  rounds_follow : (last s : A) (w x : List T) → Follows K x → Rounds f D last s w → Follows follow (w ++ x)
  rounds_follow last s w x k (over _ _ is _) = subst (λ w. Follows follow (w ++ x)) (sym is) (follows_weaken K follow x wide k)
  rounds_follow last s w x k (round _ next t b front rest _ is takes d more) = subst (λ w. Follows follow (w ++ x)) (sym is) (takes_wide s t b takes)

  pub rounds_complete : (last : A) (fuel : List T) (s : A) (w x : List T) → Follows K x → length (w ++ x) ≤ length fuel → Rounds f D last s w
      → rounds f R fuel s (w ++ x) ≡ Ok (last, x)
  unfolding rounds
  rounds_complete last fuel s w x k enough (over _ _ is same) =
      subst (λ w. rounds f R fuel s (w ++ x) ≡ Ok (last, x)) (sym is) (rounds_stop fuel s x k ∙ ap (λ s. Ok (s, x)) same)
  rounds_complete last [] s w x k enough (round _ next t b front rest _ is takes d more) =
      let enough : length ((t ∷ (front ++ rest)) ++ x) ≤ 0 = subst (λ w. length (w ++ x) ≤ 0) is enough in
      absurd (omega (arith, enough))
  rounds_complete last (_ ∷ fuel) s w x k enough (round _ next t b front rest _ is takes d more) =
      let enough : length ((t ∷ (front ++ rest)) ++ x) ≤ length fuel + 1 = subst (λ w. length (w ++ x) ≤ length fuel + 1) is (omega (arith, enough)) in
      let within : length (rest ++ x) ≤ length fuel = omega (arith, enough, length-append (front ++ rest) x, length-append front rest, length-append rest x) in
      let one : R s b ((front ++ rest) ++ x) ≡ Ok (next, rest ++ x) =
      ap (R s b) (append_assoc front rest x) ∙ each s b front (rest ++ x) next (rounds_follow last next rest x k more) d in
      subst (λ w. rounds f R (t ∷ fuel) s (w ++ x) ≡ Ok (last, x)) (sym is)
      (ap (λ o. pick (beside ((front ++ rest) ++ x) o) (Ok (s, t ∷ ((front ++ rest) ++ x))) (λ p. and_then (R s p.0 p.1) (rounds f R fuel))) takes
      ∙ (ap (λ r. and_then r (rounds f R fuel)) one ∙ rounds_complete last fuel next rest x k within more))

-- ---- all of it

abbrev NotTaken : {T B : Type 0} → (T → Option B) → List T → Type 0
NotTaken f [] = Unit {0}
NotTaken f (t ∷ ts) = f t ≡ None

follows_not : {T A B : Type 0} (f : T → Option B) (q : Grammar T A) (K : T → Bool) (ts : List T) → ((t : T) → starts q K t ≡ true → f t ≡ None)
    → Follows (starts q K) ts → NotTaken f ts
follows_not f q K [] h s = tt
follows_not f q K (t ∷ ts) h s = h t s

other_read : {T A B : Type 0} (f : T → Option B) (g : B → Grammar T A) (q : Grammar T A) (ts : List T) (r : Read T A) → NotTaken f ts → read q ts ≡ r
    → read (may f g q) ts ≡ r
other_read f g q [] r n e = e
other_read f g q (t ∷ ts) r n e = ap (λ o. pick (beside ts o) (read q (t ∷ ts)) (λ p. read (g p.0) p.1)) n ∙ e

pub complete : {T A : Type 0} (g : Grammar T A) (K : T → Bool) → Decides g K → (w x : List T) (u : A) → Follows K x → Derives g w u → read g (w ++ x) ≡ Ok (u, x)
complete (give v) K d w x u k (empty, is) = subst (λ w. read (give v) (w ++ x) ≡ Ok (u, x)) (sym empty) (ap (λ v. Ok (v, x)) (sym is))
complete (must f g) K d w x u k (t, b, rest, is, takes, derived) =
    subst (λ w. read (must f g) (w ++ x) ≡ Ok (u, x)) (sym is)
    (ap (λ o. pick (beside (rest ++ x) o) (Err (t ∷ (rest ++ x))) (λ p. read (g p.0) p.1)) takes ∙ complete (g b) K (d b) rest x u k derived)
complete (may f g q) K d w x u k (inl (t, b, rest, is, takes, derived)) =
    subst (λ w. read (may f g q) (w ++ x) ≡ Ok (u, x)) (sym is)
    (ap (λ o. pick (beside (rest ++ x) o) (read q (t ∷ (rest ++ x))) (λ p. read (g p.0) p.1)) takes ∙ complete (g b) K (d.0 b) rest x u k derived)
complete (may f g q) K d w x u k (inr other) =
    other_read f g q (w ++ x) (Ok (u, x)) (follows_not f q K (w ++ x) d.2 (starts_at q K w x u d.1 other k)) (complete q K d.1 w x u k other)
complete (part follow p q) K d w x u k (v, front, rest, is, first, second) =
    let after : Follows follow (rest ++ x) = follows_weaken (starts (q v) K) follow (rest ++ x) (d.2 v) (starts_at (q v) K rest x u (d.1 v) second k) in
    let one : read p ((front ++ rest) ++ x) ≡ Ok (v, rest ++ x) =
    ap (read p) (append_assoc front rest x) ∙ complete p follow d.0 front (rest ++ x) v after first in
    subst (λ w. read (part follow p q) (w ++ x) ≡ Ok (u, x)) (sym is)
    (ap (λ r. and_then r (λ v. read (q v))) one ∙ complete (q v) K (d.1 v) rest x u k second)
complete (many follow f g s) K d w x u k derived =
    rounds_complete f (λ s b. Derives (g s b)) (λ s b. read (g s b)) follow K
    (λ s b w x u k h. complete (g s b) follow (d.0 s b) w x u k h) d.1 d.2 d.3 u (w ++ x) s w x k (omega arith) derived
