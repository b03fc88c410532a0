-- Numbers as their digits are read one by one.
use Rattle.std.proofs.Common.{◌≡◌, ℕ, ◌+◌, ◌-◌, ◌*◌, ◌<◌, ◌≤◌, true, false, not, ◌&&◌, cond, eqb, leb, List, [], ◌∷◌, length, get_or, drop, Option, Some, None, refl, ◌∙◌, inl, inr, arith, ne_eqb}
use Rattle.std.specs.Char.{is_ascii_digit}
use Rattle.std.specs.List.{list_all}
use Rattle.std.proofs.lemmas.Bool.{and_parts, and_right, cases_Bool, leb-false, lt-leb, le-leb, false≢true}
use Rattle.std.proofs.lemmas.List.{at_drop_more}
use Rattle.std.proofs.lemmas.Option.{none-some}
use Rattle.page_spec.specs.Header.{is_page_size}
use Rattle.std.proofs.lemmas.Bool.Decides.{nat_tests}
use Rattle.words.specs.Words.{number_after, number_spelled, is_number, is_limit, is_size}

-- what the digits that are left make of the number so far
abbrev pub spelled : ℕ → ℕ → List ℕ → Option ℕ
spelled most number digits = cond (list_all is_ascii_digit digits && leb (number_after number digits) most) (Some (number_after number digits)) None

-- more digits make no number less
pub number_after-least : (number : ℕ) (digits : List ℕ) → number ≤ number_after number digits
unfolding number_after
number_after-least number [] = omega arith
number_after-least number (digit ∷ digits) = omega (arith, number_after-least (number * 10 + (digit - 48)) digits)

-- the digits so far make too great a number
pub spelled-above : (most number : ℕ) (digits : List ℕ) → most < number → spelled most number digits ≡ None
spelled-above most number digits above =
    let beyond : leb (number_after number digits) most ≡ false = lt-leb (number_after number digits) most (omega (arith, number_after-least number digits)) in
    rw (and_right (list_all is_ascii_digit digits) (leb (number_after number digits) most) beyond) refl

-- one digit more
pub spelled-digit : (most number : ℕ) (text : List ℕ) (i : ℕ) → i < length text → is_ascii_digit (get_or text i 0) ≡ true
    → spelled most number (drop i text) ≡ spelled most (number * 10 + (get_or text i 0 - 48)) (drop (i + 1) text)
unfolding number_after
spelled-digit most number text i inside digit = at_drop_more (spelled most number) text i 0 inside ∙ rw digit refl

-- no digit is left
pub spelled-end : (most number : ℕ) → number ≤ most → spelled most number [] ≡ Some number
unfolding number_after
spelled-end most number below = rw (le-leb number most below) refl

-- a digit other than 0
pub digit-positive : (digit : ℕ) → is_ascii_digit digit ≡ true → not (eqb digit 48) ≡ true → 1 ≤ digit - 48
digit-positive digit is other = grind (arith, nat_tests)

-- a number is at least 1
pub is_number-positive : (text : List ℕ) → is_number text ≡ true → 1 ≤ number_spelled text
unfolding is_number number_after
is_number-positive [] is = absurd (false≢true is)
is_number-positive (digit ∷ digits) is =
    let parts = and_parts (not (eqb digit 48)) (list_all is_ascii_digit (digit ∷ digits)) is in
    let first = and_parts (is_ascii_digit digit) (list_all is_ascii_digit digits) parts.1 in
    omega (arith, number_after-least (0 * 10 + (digit - 48)) digits, digit-positive digit first.0 parts.0)

-- a limit is a number that isn't above the greatest one
pub limit_is : (text : List ℕ) → is_limit text ≡ (is_number text && leb (number_spelled text) 1000000)
unfolding is_limit
limit_is text =
    elim (cases_Bool (is_number text)) [
      | inl number ↦ let some : leb 1 (number_spelled text) ≡ true = le-leb 1 (number_spelled text) (is_number-positive text number) in rw (number, some) refl
      | inr other ↦ rw other refl
    ]

-- there is no greater page size
pub is_page_size-above : (n : ℕ) → 65536 < n → is_page_size n ≡ false
unfolding is_page_size
is_page_size-above n above =
    rw (
      ne_eqb n 512 (λ e. omega arith),
      ne_eqb n 1024 (λ e. omega arith),
      ne_eqb n 2048 (λ e. omega arith),
      ne_eqb n 4096 (λ e. omega arith),
      ne_eqb n 8192 (λ e. omega arith),
      ne_eqb n 16384 (λ e. omega arith),
      ne_eqb n 32768 (λ e. omega arith),
      ne_eqb n 65536 (λ e. omega arith),
    ) refl

-- what is no number up to the greatest page size is no page size
pub no_size : (text : List ℕ) → None ≡ cond (is_number text && leb (number_spelled text) 65536) (Some (number_spelled text)) None → is_size text ≡ false
unfolding is_size
no_size text none =
    elim (cases_Bool (is_number text)) [
      | inl number ↦ elim (cases_Bool (leb (number_spelled text) 65536)) [
        | inl small ↦ absurd (none-some (number_spelled text) (none ∙ rw (number, small) refl))
        | inr great ↦ rw (is_page_size-above (number_spelled text) (leb-false (number_spelled text) 65536 great)) (and_right (is_number text) false refl)
      ]
      | inr other ↦ rw other refl
    ]
