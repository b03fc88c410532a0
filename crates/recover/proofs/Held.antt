-- Which pages the logs hold, as a test and as a relation.
use Rattle.std.proofs.Common.{◌≡◌, ℕ, ◌==◌, ◌⊎◌, ◌||◌, ◌&&◌, not, Bool, true, false, if◌then◌else◌, List, [], ◌∷◌, ◌++◌, refl, sym, ◌∙◌, ap, arith, inl, inr}
use Rattle.std.specs.List.{list_any}
use Rattle.std.specs.Prelude.{Contains, nat_lt}
use Rattle.std.proofs.lemmas.Bool.{true≢false}
use Rattle.std.proofs.lemmas.Bool.Decides.{Decides-eqb}
use Rattle.std.proofs.lemmas.List.Folds.{list_any-append}
use Rattle.crash_spec.proofs.Pieces.{contains_cons, contains_tail}
use Rattle.disk_face.specs.declared.disk.File.TheVariants.{Log1, Log2}
use Rattle.wal_frames.specs.declared.found.Accepted.{Accepted}
use Rattle.recover.specs.Headers.{generation_in}
use Rattle.recover.specs.declared.place.Place.TheVariants.{InMain}
use Rattle.recover.specs.Looking.{place_over, place_in, page_size_of_log}
use Rattle.recover.proofs.PlacesHold.{is_in_main, after_main}

-- a number is among others
abbrev pub is_among : List ℕ → ℕ → Bool
is_among pages number = list_any (λ n. n == number) pages

pub among_then : (pages : List ℕ) (number : ℕ) → is_among pages number ≡ true → Contains pages number
among_then [] number is = cc
among_then (page ∷ rest) number is = by (page == number) (Decides-eqb page number) (λ later. among_then rest number later) is
  where
    by : (same : Bool) → (same ≡ true → page ≡ number) × (page ≡ number → same ≡ true) → (is_among rest number ≡ true → Contains rest number) → (same || list_any (λ n. n == number) rest) ≡ true
        → Contains (page ∷ rest) number
    by true decides later is = (0, omega arith, decides.0 refl)
    by false decides later is = contains_tail page rest number (later is)

pub then_among : (pages : List ℕ) (number : ℕ) → Contains pages number → is_among pages number ≡ true
then_among [] number (k, less, is) = absurd (omega arith)
then_among (page ∷ rest) number held = by (page == number) (Decides-eqb page number) (λ later. then_among rest number later) (contains_cons page rest number held)
  where
    by : (same : Bool) → (same ≡ true → page ≡ number) × (page ≡ number → same ≡ true) → (Contains rest number → is_among rest number ≡ true) → (page ≡ number) ⊎ Contains rest number
        → (same || list_any (λ n. n == number) rest) ≡ true
    by true decides more either = refl
    by false decides more (inl is) = absurd (true≢false (sym (decides.1 is)))
    by false decides more (inr later) = more later

neither : (a b : Bool) → ((true && not a) && not b) ≡ not (a || b)
neither true b = refl
neither false b = refl

nor : (a b : Bool) → ((true && not b) && not a) ≡ not (a || b)
nor true true = refl
nor true false = refl
nor false true = refl
nor false false = refl

-- a page stands in Main exactly where no log holds it
pub in_main_is : (one two : Accepted) (number : ℕ) → is_in_main (place_in one two number) ≡ not (is_among (one.pages.items ++ two.pages.items) number)
in_main_is one two number = by (nat_lt (generation_in one.front) (generation_in two.front)) ∙ ap (λ (held : Bool). not held) (sym (list_any-append (λ n. n == number) one.pages.items two.pages.items))
  where
    a1 : Bool
    a1 = is_among one.pages.items number

    a2 : Bool
    a2 = is_among two.pages.items number

    by : (first : Bool)
        → is_in_main (if first then place_over Log2 two number (place_over Log1 one number InMain) else place_over Log1 one number (place_over Log2 two number InMain)) ≡ not (a1 || a2)
    by true =
        after_main Log2 (page_size_of_log two.front) 0 two.pages.items number (place_over Log1 one number InMain)
        ∙ ap (λ (main : Bool). main && not a2) (after_main Log1 (page_size_of_log one.front) 0 one.pages.items number InMain) ∙ neither a1 a2
    by false =
        after_main Log1 (page_size_of_log one.front) 0 one.pages.items number (place_over Log2 two number InMain)
        ∙ ap (λ (main : Bool). main && not a1) (after_main Log2 (page_size_of_log two.front) 0 two.pages.items number InMain) ∙ nor a1 a2
