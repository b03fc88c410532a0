-- Numbers that are cut short above 2^63, and texts without quotes.
use Rattle.std.proofs.Common.{◌≡◌, ℕ, ◌+◌, ◌-◌, ◌*◌, Bool, true, false, ◌||◌, List, [], ◌∷◌, refl, sym, ◌∙◌, ap, arith}
use Rattle.std.specs.Prelude.{nat_eq}
use Rattle.std.specs.List.{list_any}
use Rattle.sql_lexemes.specs.Values.{number_from, capped, single_quotes}

abbrev with_digit : ℕ → ℕ → ℕ
with_digit n digit = n * 10 + (digit - 48)

capped_step : (n digit : ℕ) → capped (with_digit n digit) ≡ capped (with_digit (capped n) digit)
capped_step n digit = omega arith

-- a number that is cut short goes on as it would
pub capped_from : (digits : List ℕ) (n m : ℕ) → capped n ≡ capped m → capped (number_from n digits) ≡ capped (number_from m digits)
unfolding number_from
capped_from [] n m same = same
capped_from (digit ∷ digits) n m same =
    capped_from digits (with_digit n digit) (with_digit m digit)
    (capped_step n digit ∙ (ap (λ n. capped (with_digit n digit)) same ∙ sym (capped_step m digit)))

either_false : (a b : Bool) → (a || b) ≡ false → (a ≡ false) × (b ≡ false)
either_false true b h = cc
either_false false b h = (refl, h)

-- a text without quotes is as it stands
pub no_quotes : (quote : ℕ) (bytes : List ℕ) → list_any (λ byte. nat_eq byte quote) bytes ≡ false → single_quotes quote false bytes ≡ bytes
unfolding single_quotes
no_quotes quote [] none = refl
no_quotes quote (byte ∷ bytes) none =
    let parts = either_false (nat_eq byte quote) (list_any (λ byte. nat_eq byte quote) bytes) none in
    ap (λ second. byte ∷ single_quotes quote second bytes) parts.0 ∙ ap (λ rest. byte ∷ rest) (no_quotes quote bytes parts.1)
