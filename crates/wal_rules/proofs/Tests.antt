-- Tests joined one after another.
use Rattle.std.proofs.Common.{◌≡◌, ◌∙◌, ℕ, Bool, true, false, refl, ap}
use Rattle.std.specs.Prelude.{◌&&◌, ◌==◌, not, nat_lt}

-- where the first four hold the fifth decides
pub all_of : (a b c d e : Bool) → (a && b && c && d) ≡ true → e ≡ (a && b && c && d && e)
all_of true true true true e is = refl
all_of true true true false e is = absurd cc
all_of true true false d e is = absurd cc
all_of true false c d e is = absurd cc
all_of false b c d e is = absurd cc

-- where one of them doesn't hold they don't
pub one_not : (a b c d e : Bool) → (a && b && c && d) ≡ false → false ≡ (a && b && c && d && e)
one_not true true true true e is = absurd cc
one_not true true true false e is = refl
one_not true true false d e is = refl
one_not true false c d e is = refl
one_not false b c d e is = refl

-- tests of the same numbers
pub same_tests : (done : Bool) (full held frames full' held' frames' limit : ℕ) (free : Bool) → full ≡ full' → held ≡ held' → frames ≡ frames'
    → free ≡ (done && (full == 0) && (held == 0) && not (nat_lt frames limit))
    → free ≡ (done && (full' == 0) && (held' == 0) && not (nat_lt frames' limit))
same_tests done full held frames full' held' frames' limit free e f g is =
    is ∙ ap (λ (n : ℕ). done && (n == 0) && (held == 0) && not (nat_lt frames limit)) e
    ∙ ap (λ (n : ℕ). done && (full' == 0) && (n == 0) && not (nat_lt frames limit)) f
    ∙ ap (λ (n : ℕ). done && (full' == 0) && (held' == 0) && not (nat_lt n limit)) g
