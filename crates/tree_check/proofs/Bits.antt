-- The bit of a page in its byte.
use Rattle.std.proofs.Common.{◌≡◌, ℕ, ◌/◌, ◌%◌, ◌^◌, ◌==◌, if◌then◌else◌, Bool, true, false, List, length, ◌<◌, bit_or, slice_set, ap, sym, ◌∙◌, arith, inl, inr}
use Rattle.std.proofs.lemmas.Nat.{and_le_l, and_or_self, and_or_apart, pow_apart}
use Rattle.std.proofs.lemmas.Bool.{cases_eq}
use Rattle.std.proofs.lemmas.Grind.{get_or-set_at}
use Rattle.std.proofs.lemmas.List.{get_or-set_same, get_or-set_other}
use Rattle.std.specs.Prelude.{slice_index}
use Rattle.std.specs.Int.RustNames.{bit_and}
use Rattle.tree_check.specs.Met.{is_met}

pub has_is : (bits : List ℕ) (page byte bit : ℕ) (result : Bool) → slice_index bits (page / 8) ≡ byte → bit ≡ 2 ^ (page % 8)
    → result ≡ (if bit_and byte bit == 0 then false else true) → result ≡ is_met bits page
unfolding is_met
has_is bits page byte bit result byte_is bit_is is =
    is ∙ ap (λ (b : ℕ). if bit_and b bit == 0 then false else true) (sym byte_is)
    ∙ ap (λ (b : ℕ). if bit_and (slice_index bits (page / 8)) b == 0 then false else true) bit_is

-- a byte that got the bit of a page has it
pub add_met : (bits : List ℕ) (page byte bit : ℕ) → page / 8 < length bits → bit ≡ 2 ^ (page % 8) → bit == 0 ≡ false
    → is_met (slice_set bits (page / 8) (bit_or byte bit)) page ≡ true
unfolding is_met
add_met bits page byte bit inside bit_is some =
    ap (λ (b : ℕ). if bit_and b (2 ^ (page % 8)) == 0 then false else true) (get_or-set_same bits (page / 8) (bit_or byte bit) 0 inside)
    ∙ ap (λ (p : ℕ). if bit_and (bit_or byte bit) p == 0 then false else true) (sym bit_is)
    ∙ ap (λ (n : ℕ). if n == 0 then false else true) (and_or_self bit byte)
    ∙ ap (λ (b : Bool). if b then false else true) some

-- the others keep theirs
pub add_others : (bits : List ℕ) (page other byte bit : ℕ) → page / 8 < length bits → bit ≡ 2 ^ (page % 8) → slice_index bits (page / 8) ≡ byte → (other ≡ page → ⊥)
    → is_met (slice_set bits (page / 8) (bit_or byte bit)) other ≡ is_met bits other
unfolding is_met
add_others bits page other byte bit inside bit_is byte_is apart =
    elim (cases_eq (other / 8) (page / 8)) [
      | inl same ↦
          let apart_bits : bit_and bit (2 ^ (other % 8)) ≡ 0 =
          ap (λ (b : ℕ). bit_and b (2 ^ (other % 8))) bit_is ∙ pow_apart (page % 8) (other % 8) (λ e. apart (omega (arith, same, e))) in
          ap (λ (b : ℕ). if bit_and b (2 ^ (other % 8)) == 0 then false else true) (get_or-set_at bits (page / 8) (other / 8) (bit_or byte bit) 0 same inside)
          ∙ ap (λ (n : ℕ). if n == 0 then false else true) (and_or_apart (2 ^ (other % 8)) byte bit apart_bits)
          ∙ ap (λ (b : ℕ). if bit_and b (2 ^ (other % 8)) == 0 then false else true) (sym byte_is ∙ ap (λ (k : ℕ). slice_index bits k) (sym same))
      | inr differ ↦
          ap (λ (b : ℕ). if bit_and b (2 ^ (other % 8)) == 0 then false else true) (get_or-set_other bits (page / 8) (other / 8) (bit_or byte bit) 0 differ)
    ]

-- a page whose byte is 0 wasn't met
pub none_met : (bits : List ℕ) (page : ℕ) → slice_index bits (page / 8) ≡ 0 → is_met bits page ≡ false
unfolding is_met
none_met bits page zero_is =
    ap (λ (b : ℕ). if bit_and b (2 ^ (page % 8)) == 0 then false else true) zero_is
    ∙ (let least = and_le_l 0 (2 ^ (page % 8)) in
    let none : bit_and 0 (2 ^ (page % 8)) ≡ 0 = omega (arith, least) in
    ap (λ (n : ℕ). if n == 0 then false else true) none)
