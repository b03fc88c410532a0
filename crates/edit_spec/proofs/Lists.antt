-- Lists of pages, counted, and what holds of each element of a list.
use Rattle.std.proofs.Common.{◌≡◌, ℕ, zero, suc, ◌+◌, ◌≤◌, Bool, true, false, List, [], ◌∷◌, ◌++◌, eqb, refl, sym, ap, ◌∙◌, arith, eq-eqb, append_assoc}
use Rattle.std.proofs.lemmas.Bool.{ne_eqb, eqb-true}
use Rattle.tree_spec.specs.Layout.{times, Each}
use Rattle.tree_spec.proofs.Lists.{times-append, Among}

pub each_first : {X : Type 0} (P : X → Type 0) (a b : List X) → Each P (a ++ b) → Each P a
each_first P [] b all = tt
each_first P (x ∷ xs) b all = (all.0, each_first P xs b all.1)

pub each_last : {X : Type 0} (P : X → Type 0) (a b : List X) → Each P (a ++ b) → Each P b
each_last P [] b all = all
each_last P (x ∷ xs) b all = each_last P xs b all.1

pub each_weaker : {X : Type 0} (P Q : X → Type 0) (xs : List X) → ((x : X) → P x → Q x) → Each P xs → Each Q xs
each_weaker P Q [] weaker all = tt
each_weaker P Q (x ∷ xs) weaker all = (weaker x all.0, each_weaker P Q xs weaker all.1)

-- a list in three parts, whose last one is divided
pub moved : {X : Type 0} (a b whole c d : List X) → whole ≡ c ++ d → a ++ (b ++ whole) ≡ (a ++ (b ++ c)) ++ d
moved a b whole c d is = ap (λ l. a ++ (b ++ l)) is ∙ (ap (λ l. a ++ l) (sym (append_assoc b c d)) ∙ sym (append_assoc a (b ++ c) d))

pub page_there : (n : ℕ) → 1 ≤ times (n ∷ []) n
page_there n = rw (eq-eqb n n refl) (omega arith)

pub cons_count : (head : ℕ) (tail : List ℕ) (n : ℕ) → times (head ∷ tail) n ≡ times (head ∷ []) n + times tail n
cons_count head tail n = omega arith

-- lists that are the same are counted alike
pub counts_same : (a b : List ℕ) (n : ℕ) → a ≡ b → times a n ≡ times b n
counts_same a b n is = ap (λ (l : List ℕ). times l n) is

pub three_counts : (own a b c : List ℕ) (n : ℕ) → own ≡ a ++ (b ++ c) → times own n ≡ times a n + (times b n + times c n)
three_counts own a b c n is = omega (arith, counts_same own (a ++ (b ++ c)) n is, times-append a (b ++ c) n, times-append b c n)

-- what stands once at most and in one of two lists doesn't stand in the other
pub apart_page : (page n : ℕ) → (page ≡ n → ⊥) → times (page ∷ []) n ≡ 0
apart_page page n apart = rw (ne_eqb page n apart) (omega arith)

-- a page that stands in a list of one is that one
pub the_page : (page n : ℕ) → 1 ≤ times (page ∷ []) n → page ≡ n
the_page page n there = by_test (eqb page n) refl
  where
    by_test : (test : Bool) → eqb page n ≡ test → page ≡ n
    by_test true same = eqb-true page n same
    by_test false not = absurd (let none : times (page ∷ []) n ≡ 0 = rw not (omega arith) in omega (arith, none, there))

-- a page that stands in none of a list stands in none of a part of it
pub none_among : (few own : List ℕ) (n : ℕ) → Among few own → times own n ≡ 0 → times few n ≡ 0
none_among few own n among none = by_count (times few n) refl
  where
    by_count : (count : ℕ) → times few n ≡ count → times few n ≡ 0
    by_count zero is = is
    by_count (suc k) is = absurd (omega (arith, among n (omega (arith, is)), none))

-- a page of two lists is of one or of the other
pub one_of_two : {X : Type 0} (a b : ℕ) → 1 ≤ a + b → (1 ≤ a → X) → (1 ≤ b → X) → X
one_of_two zero b some from_a from_b = from_b (omega (arith, some))
one_of_two (suc a) b some from_a from_b = from_a (omega arith)
