-- Serial types: what so many bytes can spell, and that a written body reads back.
use Rattle.std.proofs.Common.{◌≡◌, ℕ, ◌+◌, ◌-◌, ◌*◌, ◌/◌, ◌%◌, ◌^◌, ◌<◌, ◌≤◌, ◌⊎◌, zero, suc, ℤ, pos, negsuc, SFits, w64, length, drop, refl, sym, ap, ◌∙◌, inl, inr, arith, pow-suc, mul_comm}
use Rattle.std.proofs.Math.Nat.{pow-le-pow_right}
use Rattle.std.proofs.Math.Arith.{mod-mul}
use Rattle.std.proofs.lemmas.Bool.Decides.{nat_tests}
use Rattle.std.proofs.lemmas.Bool.{cases_lt, lt-ltb, le-ltb}
use Rattle.std.specs.Int.{byte_at, bytes_high_first, cast_unsigned}
use Rattle.std.specs.Int.Digits.{number_from_digits, number_from_digits_after}
use Rattle.value_form.specs.declared.value.Value.{Value}
use Rattle.value_form.specs.declared.value.Value.TheVariants.{Null, Int, Text, Blob}
use Rattle.value_form.specs.Order.{integer}
use Rattle.value_form.specs.Serial.{body_size, signed, twos_complement, value_of, magnitude, integer_type, type_of, body_of}

-- a body as it is written has the size that its type says, and reads back
pub record IsBody (value : Value) : Type 0 where
  pub size : body_size (type_of value) ≡ length (body_of value)
  pub reads : value_of (type_of value) (body_of value) ≡ value

-- half of how many numbers so many bytes can spell, as a power of 2
pub half_of : (size : ℕ) → 0 < size → size ≤ 8 → (2 * ((1 * 2 ^ (8 * size - 1)) % 18446744073709551616) ≡ 256 ^ size) × ((1 * 2 ^ (8 * size - 1)) % 18446744073709551616 ≤ 2 ^ 63)
half_of zero some most = absurd (omega arith)
half_of (suc zero) some most = (refl, omega arith)
half_of (suc (suc zero)) some most = (refl, omega arith)
half_of (suc (suc (suc zero))) some most = (refl, omega arith)
half_of (suc (suc (suc (suc zero)))) some most = (refl, omega arith)
half_of (suc (suc (suc (suc (suc zero))))) some most = (refl, omega arith)
half_of (suc (suc (suc (suc (suc (suc zero)))))) some most = (refl, omega arith)
half_of (suc (suc (suc (suc (suc (suc (suc zero))))))) some most = (refl, omega arith)
half_of (suc (suc (suc (suc (suc (suc (suc (suc zero)))))))) some most = (refl, omega arith)
half_of (suc (suc (suc (suc (suc (suc (suc (suc (suc size))))))))) some most = absurd (omega arith)

-- one more byte in front of the low k bytes
byte_on : (k n high : ℕ) → (high * 256 + byte_at k n) * 256 ^ k + n % 256 ^ k ≡ high * 256 ^ suc k + n % 256 ^ suc k
byte_on zero n high = omega arith
byte_on (suc k) n high =
    let unit = 256 ^ suc k in
    let wider : 256 ^ suc (suc k) ≡ 256 * unit = pow-suc 256 (suc k) ∙ mul_comm unit 256 in
    let some : 0 < unit = pow-le-pow_right {n = 256} (omega arith) {i = 0} {j = suc k} (omega arith) in
    rw (wider, mod-mul n {m = 256} {c = unit} (omega arith) some) (omega arith)

bytes_read : (k n high : ℕ) → number_from_digits_after 256 high (bytes_high_first k n) ≡ high * 256 ^ k + n % 256 ^ k
bytes_read zero n high = omega arith
bytes_read (suc k) n high = bytes_read k n (high * 256 + byte_at k n) ∙ byte_on k n high

-- the lowest bytes of a number spell what is left of it
low_bytes : (k n : ℕ) → number_from_digits 256 (bytes_high_first k n) ≡ n % 256 ^ k
low_bytes k n = bytes_read k n 0 ∙ omega arith

-- an integer whose magnitude is below half the count reads back from its low bytes
sign_back : (z : ℤ) (count low : ℕ) → 2 * magnitude z < count → low ≡ cast_unsigned w64 z % count → (count ≡ 2 ^ 8) ⊎ ((count ≡ 2 ^ 16) ⊎ ((count ≡ 2 ^ 24)
    ⊎ ((count ≡ 2 ^ 32) ⊎ ((count ≡ 2 ^ 48) ⊎ (count ≡ 2 ^ 64))))) → signed count low ≡ z
sign_back (pos n) count low near is which =
    let same : low ≡ n = grind arith in
    rw (same, lt-ltb n (count / 2) (omega arith)) refl
sign_back (negsuc n) count low near is which =
    let same : low + n + 1 ≡ count = grind arith in
    rw (le-ltb low (count / 2) (omega arith)) (ap negsuc (omega arith))

-- an integer of so many bytes
at_size : (z : ℤ) (type size : ℕ) → integer_type z ≡ type → body_size type ≡ size → length (bytes_high_first size (cast_unsigned w64 z)) ≡ size
    → value_of type (bytes_high_first size (cast_unsigned w64 z)) ≡ Int z → IsBody (Int z)
at_size z type size is wide len reads = record { size = rw (is, wide) (sym len); reads = rw (is, wide) reads }

int_body : (z : ℤ) → SFits w64 z → IsBody (Int z)
unfolding body_size value_of integer_type twos_complement
int_body z fits =
    let low = λ (k : ℕ). low_bytes k (cast_unsigned w64 z) in
    let n = magnitude z in
    elim (cases_lt n (2 ^ 7)) [
      | inl a ↦ at_size z 1 1 (grind (arith, nat_tests)) refl refl (ap Int (sign_back z (2 ^ 8) _ (omega arith) (low 1) (inl refl)))
      | inr a ↦
          elim (cases_lt n (2 ^ 15)) [
            | inl b ↦ at_size z 2 2 (grind (arith, nat_tests)) refl refl (ap Int (sign_back z (2 ^ 16) _ (omega arith) (low 2) (inr (inl refl))))
            | inr b ↦
                elim (cases_lt n (2 ^ 23)) [
                  | inl c ↦ at_size z 3 3 (grind (arith, nat_tests)) refl refl (ap Int (sign_back z (2 ^ 24) _ (omega arith) (low 3) (inr (inr (inl refl)))))
                  | inr c ↦
                      elim (cases_lt n (2 ^ 31)) [
                        | inl d ↦ at_size z 4 4 (grind (arith, nat_tests)) refl refl (ap Int (sign_back z (2 ^ 32) _ (omega arith) (low 4) (inr (inr (inr (inl refl))))))
                        | inr d ↦
                            elim (cases_lt n (2 ^ 47)) [
                              | inl e ↦ at_size z 5 6 (grind (arith, nat_tests)) refl refl (ap Int (sign_back z (2 ^ 48) _ (omega arith) (low 6) (inr (inr (inr (inr (inl refl)))))))
                              | inr e ↦
                                  at_size z 6 8 (grind (arith, nat_tests)) refl refl (ap Int (sign_back z (2 ^ 64) _ (omega (arith, small z fits)) (low 8) (inr (inr (inr (inr (inr refl)))))))
                            ]
                      ]
                ]
          ]
    ]
  where
    small : (x : ℤ) → SFits w64 x → magnitude x < 2 ^ 63
    small (pos k) h = h.sfits
    small (negsuc k) h = h.sfits

pub written_body : (value : Value) → SFits w64 (integer value) → IsBody value
unfolding body_size value_of
written_body Null fits = record { size = refl; reads = refl }
written_body (Int z) fits = int_body z fits
written_body (Text t) fits = record { size = grind (arith, nat_tests); reads = grind (arith, nat_tests) }
written_body (Blob b) fits = record { size = grind (arith, nat_tests); reads = grind (arith, nat_tests) }

-- a value is written with a type that is allowed, and not with that of a float
pub written_type : (value : Value) → (type_of value ≡ 7 → ⊥) × (type_of value ≡ 10 → ⊥) × (type_of value ≡ 11 → ⊥)
unfolding integer_type
written_type Null = (λ e. omega arith, λ e. omega arith, λ e. omega arith)
written_type (Int z) = (grind (arith, nat_tests), grind (arith, nat_tests), grind (arith, nat_tests))
written_type (Text t) = (λ e. omega arith, λ e. omega arith, λ e. omega arith)
written_type (Blob b) = (λ e. omega arith, λ e. omega arith, λ e. omega arith)

narrow : (z : ℤ) → body_size (integer_type z) ≤ 8
unfolding body_size integer_type
narrow z = grind (arith, nat_tests)

-- the lowest of eight bytes
pub int_size : (z : ℤ) → (body_size (integer_type z) ≤ 8)
    × (drop (8 - body_size (integer_type z)) (bytes_high_first 8 (cast_unsigned w64 z)) ≡ bytes_high_first (body_size (integer_type z)) (cast_unsigned w64 z))
int_size z = at (body_size (integer_type z)) (narrow z)
  where
    at : (size : ℕ) → size ≤ 8
        → (size ≤ 8) × (drop (8 - size) (bytes_high_first 8 (cast_unsigned w64 z)) ≡ bytes_high_first size (cast_unsigned w64 z))
    at zero h = (h, refl)
    at (suc zero) h = (h, refl)
    at (suc (suc zero)) h = (h, refl)
    at (suc (suc (suc zero))) h = (h, refl)
    at (suc (suc (suc (suc zero)))) h = (h, refl)
    at (suc (suc (suc (suc (suc zero))))) h = (h, refl)
    at (suc (suc (suc (suc (suc (suc zero)))))) h = (h, refl)
    at (suc (suc (suc (suc (suc (suc (suc zero))))))) h = (h, refl)
    at (suc (suc (suc (suc (suc (suc (suc (suc zero)))))))) h = (h, refl)
    at (suc (suc (suc (suc (suc (suc (suc (suc (suc n))))))))) h = absurd (omega arith)
