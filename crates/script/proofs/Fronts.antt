-- The front of a text and its number are read exactly as they are spelled.
use Rattle.std.proofs.Common.{◌≡◌, ℕ, ◌+◌, ◌-◌, ◌*◌, ◌/◌, ◌%◌, ◌<◌, ◌≤◌, zero, suc, Bool, true, false, cond, eqb, ltb, List, [], ◌∷◌, ◌++◌, length, take, drop, Some, None, refl, sym, ◌∙◌, ap, subst, arith, decimal, append_assoc, bytes_eq, ◌⊎◌, inl, inr}
use Rattle.std.specs.Char.{is_ascii_digit}
use Rattle.std.proofs.lemmas.Bool.{cases_lt}
use Rattle.std.proofs.lemmas.Bool.Decides.{nat_tests}
use Rattle.std.proofs.lemmas.Fmt.{decimal_digit, decimal_step}
use Rattle.std.proofs.lemmas.List.{take-append-drop}
use Rattle.std.proofs.lemmas.Option.{cond_some, none-some, some_pair_parts}
use Rattle.std.proofs.lemmas.Slice.Eq.{bytes_eq-Decides}
use Rattle.std.proofs.Math.Seq.{take-append_seam, drop-append_seam}
use Rattle.script.specs.Reading.{rest_after, digits_after, number_at}

-- which way a test went
pub chosen : {A : Type 0} (b : Bool) (x y z : A) → cond b x y ≡ z → ((b ≡ true) × (x ≡ z)) ⊎ ((b ≡ false) × (y ≡ z))
chosen true x y z e = inl (refl, e)
chosen false x y z e = inr (refl, e)

-- a test went one way or the other
pub tested : (b : Bool) → (b ≡ true) ⊎ (b ≡ false)
tested true = inl refl
tested false = inr refl

pub rest_after-found : (front text rest : List ℕ) → rest_after front text ≡ Some rest → text ≡ front ++ rest
unfolding rest_after
rest_after-found front text rest e =
    let parts = cond_some (bytes_eq (take (length front) text) front) (drop (length front) text) rest e in
    let begins : take (length front) text ≡ front = (bytes_eq-Decides (take (length front) text) front).0 parts.0 in
    sym (take-append-drop (length front) text) ∙ (ap (λ x. x ++ drop (length front) text) begins ∙ ap (λ x. front ++ x) parts.1)

pub rest_after-again : (front rest : List ℕ) → rest_after front (front ++ rest) ≡ Some rest
unfolding rest_after
rest_after-again front rest =
    let begins : bytes_eq (take (length front) (front ++ rest)) front ≡ true =
    (bytes_eq-Decides (take (length front) (front ++ rest)) front).1 (take-append_seam front rest) in
    rw (begins, drop-append_seam front rest) refl

-- a digit
pub record IsDigit (byte : ℕ) : Type 0 where
  pub low : 48 ≤ byte
  pub high : byte ≤ 57

pub IsDigit-from : (byte : ℕ) → is_ascii_digit byte ≡ true → IsDigit byte
IsDigit-from byte e = record { low = grind (arith, nat_tests); high = grind (arith, nat_tests) }

pub is_ascii_digit-add : (n : ℕ) → n < 10 → is_ascii_digit (48 + n) ≡ true
is_ascii_digit-add n h = grind (arith, nat_tests)

-- one more digit at the end of a number
pub decimal-more : (n byte : ℕ) (rest : List ℕ) → 0 < n → n ≤ 255 → IsDigit byte → decimal n ++ (byte ∷ rest) ≡ decimal (n * 10 + (byte - 48)) ++ rest
decimal-more n byte rest positive small digit =
    let longer = n * 10 + (byte - 48) in
    let step : decimal longer ≡ decimal (longer / 10) ++ ((48 + longer % 10) ∷ []) = decimal_step longer (omega (arith, digit.low, digit.high)) (omega (arith, digit.low, digit.high)) in
    let front : longer / 10 ≡ n = omega (arith, digit.low, digit.high) in
    let last : 48 + longer % 10 ≡ byte = omega (arith, digit.low, digit.high) in
    rw (step, front, last, append_assoc) refl

-- the number is spelled at the front, and this follows
pub record IsSpelledAt (text : List ℕ) (number : ℕ) (rest : List ℕ) : Type 0 where
  pub spelled : text ≡ decimal number ++ rest
  pub small : number ≤ 255

pub digits_after-found : (text : List ℕ) (n m : ℕ) (rest : List ℕ) → 0 < n → n ≤ 255 → digits_after n text ≡ Some (m, rest) → IsSpelledAt (decimal n ++ text) m rest
unfolding digits_after
digits_after-found [] n m rest positive small e =
    let parts = some_pair_parts n m [] rest e in
    record { spelled = rw (parts.0, parts.1) refl; small = subst (λ x. x ≤ 255) parts.0 small }
digits_after-found (byte ∷ text) n m rest positive small e =
    elim (chosen (is_ascii_digit byte) (cond (ltb 255 (n * 10 + (byte - 48))) None (digits_after (n * 10 + (byte - 48)) text)) (Some (n, byte ∷ text)) (Some (m, rest)) e) [
      | inl w ↦ elim (chosen (ltb 255 (n * 10 + (byte - 48))) None (digits_after (n * 10 + (byte - 48)) text) (Some (m, rest)) w.1) [
        | inl v ↦ absurd (none-some (m, rest) v.1)
        | inr v ↦
            let small' : n * 10 + (byte - 48) ≤ 255 = grind (arith, nat_tests) in
            let later = digits_after-found text (n * 10 + (byte - 48)) m rest (omega arith) small' v.1 in
            record { spelled = decimal-more n byte text positive small (IsDigit-from byte w.0) ∙ later.spelled; small = later.small }
      ]
      | inr w ↦
          let parts = some_pair_parts n m (byte ∷ text) rest w.1 in
          record { spelled = rw (parts.0, parts.1) refl; small = subst (λ x. x ≤ 255) parts.0 small }
    ]

pub number_at-found : (text : List ℕ) (m : ℕ) (rest : List ℕ) → number_at text ≡ Some (m, rest) → IsSpelledAt text m rest
unfolding number_at
number_at-found [] m rest e = absurd (none-some (m, rest) e)
number_at-found (byte ∷ text) m rest e =
    elim (chosen (is_ascii_digit byte) (cond (eqb byte 48) (Some (0, text)) (digits_after (byte - 48) text)) None (Some (m, rest)) e) [
      | inl w ↦
          let digit = IsDigit-from byte w.0 in
          elim (chosen (eqb byte 48) (Some (0, text)) (digits_after (byte - 48) text) (Some (m, rest)) w.1) [
            | inl v ↦
                let parts = some_pair_parts 0 m text rest v.1 in
                let zero_sign : byte ≡ 48 = grind (arith, nat_tests) in
                record { spelled = rw (zero_sign, ← parts.0, ← parts.1, decimal_digit 0 (omega arith)) refl; small = subst (λ x. x ≤ 255) parts.0 (omega arith) }
            | inr v ↦
                let other : 48 < byte = grind (arith, nat_tests, digit.low) in
                let below : byte - 48 < 10 = omega (arith, digit.high) in
                let front : decimal (byte - 48) ≡ byte ∷ [] = decimal_digit (byte - 48) below ∙ ap (λ x. x ∷ []) (omega (arith, digit.low)) in
                let later = digits_after-found text (byte - 48) m rest (omega arith) (omega arith) v.1 in
                record { spelled = ap (λ x. x ++ text) (sym front) ∙ later.spelled; small = later.small }
          ]
      | inr w ↦ absurd (none-some (m, rest) w.1)
    ]

-- no digit begins it
abbrev pub IsCut : List ℕ → Type 0
IsCut [] = Unit {0}
IsCut (byte ∷ rest) = is_ascii_digit byte ≡ false

pub digits_after-again : (n : ℕ) (rest : List ℕ) → IsCut rest → digits_after n rest ≡ Some (n, rest)
unfolding digits_after
digits_after-again n [] cut = refl
digits_after-again n (byte ∷ rest) cut = rw cut refl

-- a digit after a number that is not 0 makes it longer
pub digits_after-more : (n digit : ℕ) (rest : List ℕ) → n * 10 + digit ≤ 255 → digit < 10 → digits_after n ((48 + digit) ∷ rest) ≡ digits_after (n * 10 + digit) rest
unfolding digits_after
digits_after-more n digit rest small below =
    let back : (48 + digit) - 48 ≡ digit = omega arith in
    let within : ltb 255 (n * 10 + digit) ≡ false = grind (arith, nat_tests) in
    rw (is_ascii_digit-add digit below, back, within) refl

pub number_at-one : (m : ℕ) (rest : List ℕ) → 0 < m → m < 10 → number_at ((48 + m) ∷ rest) ≡ digits_after m rest
unfolding number_at
number_at-one m rest positive below =
    let back : (48 + m) - 48 ≡ m = omega arith in
    let other : eqb (48 + m) 48 ≡ false = grind (arith, nat_tests) in
    rw (is_ascii_digit-add m below, other, back) refl

-- a number of one more digit
pub number_at-longer : (m : ℕ) → ((rest : List ℕ) → number_at (decimal (m / 10) ++ rest) ≡ digits_after (m / 10) rest) → 10 ≤ m → m ≤ 255 → (rest : List ℕ) → number_at (decimal m ++ rest) ≡ digits_after m rest
number_at-longer m shorter long small rest =
    let whole : m / 10 * 10 + m % 10 ≡ m = omega arith in
    rw (decimal_step m long (omega arith), append_assoc) (
    shorter ((48 + m % 10) ∷ rest)
    ∙ digits_after-more (m / 10) (m % 10) rest (omega arith) (omega arith)
    ∙ ap (λ x. digits_after x rest) whole)

pub number_at-digit : (m : ℕ) → 0 < m → m < 10 → (rest : List ℕ) → number_at (decimal m ++ rest) ≡ digits_after m rest
number_at-digit m positive below rest = rw (decimal_digit m below) (number_at-one m rest positive below)

pub number_at-positive : (m : ℕ) → 0 < m → m ≤ 255 → (rest : List ℕ) → number_at (decimal m ++ rest) ≡ digits_after m rest
number_at-positive m positive small =
    elim (cases_lt m 10) [
      | inl one ↦ number_at-digit m positive one
      | inr more ↦ number_at-longer m (
          elim (cases_lt (m / 10) 10) [
            | inl two ↦ number_at-digit (m / 10) (omega arith) two
            | inr three ↦ number_at-longer (m / 10) (number_at-digit (m / 10 / 10) (omega arith) (omega arith)) three (omega arith)
          ]) more small
    ]

pub number_at-zero : (rest : List ℕ) → number_at (decimal 0 ++ rest) ≡ Some (0, rest)
unfolding number_at
number_at-zero rest = rw (decimal_digit 0 (omega arith)) refl

pub number_at-again : (m : ℕ) (rest : List ℕ) → m ≤ 255 → IsCut rest → number_at (decimal m ++ rest) ≡ Some (m, rest)
number_at-again zero rest small cut = number_at-zero rest
number_at-again (suc m) rest small cut = number_at-positive (suc m) (omega arith) small rest ∙ digits_after-again (suc m) rest cut
