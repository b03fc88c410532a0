-- What two rows of bytes that differ only within some bounds have in common.
use Rattle.std.proofs.Common.{ap, set, slice_range, length-set, ◌-◌, ◌≡◌, ℕ, ◌+◌, ◌≤◌, List, take, drop, refl, sym, ◌∙◌, arith, length-drop, get_or-drop}
use Rattle.std.proofs.lemmas.List.{length-take, get_or-take, get_or-set_other}
use Rattle.std.proofs.lemmas.Slice.{between_is}
use Rattle.std.proofs.lemmas.Grind.{same_number_lists}
use Rattle.page_spec.specs.Bytes.{u16_at, u32_at, DiffersOnlyWithin}

-- a number below the bounds is the same
pub u16_at-below : {old new : List ℕ} {from to : ℕ} → DiffersOnlyWithin old new from to → (at : ℕ) → at + 2 ≤ from → u16_at new at ≡ u16_at old at
unfolding u16_at
u16_at-below d at below = rw (d.before at (omega arith), d.before (at + 1) (omega arith)) refl

pub u32_at-below : {old new : List ℕ} {from to : ℕ} → DiffersOnlyWithin old new from to → (at : ℕ) → at + 4 ≤ from → u32_at new at ≡ u32_at old at
unfolding u32_at
u32_at-below d at below =
    rw (d.before at (omega arith), d.before (at + 1) (omega arith), d.before (at + 2) (omega arith), d.before (at + 3) (omega arith)) refl

-- and so is one above them
pub u16_at-above : {old new : List ℕ} {from to : ℕ} → DiffersOnlyWithin old new from to → (at : ℕ) → to ≤ at → u16_at new at ≡ u16_at old at
unfolding u16_at
u16_at-above d at above = rw (d.after at (omega arith), d.after (at + 1) (omega arith)) refl

pub u32_at-above : {old new : List ℕ} {from to : ℕ} → DiffersOnlyWithin old new from to → (at : ℕ) → to ≤ at → u32_at new at ≡ u32_at old at
unfolding u32_at
u32_at-above d at above =
    rw (d.after at (omega arith), d.after (at + 1) (omega arith), d.after (at + 2) (omega arith), d.after (at + 3) (omega arith)) refl

-- two changes, seen as one within wider bounds
pub differs-trans : {old mid new : List ℕ} {from₁ to₁ from₂ to₂ : ℕ} → DiffersOnlyWithin old mid from₁ to₁ → DiffersOnlyWithin mid new from₂ to₂
    → (from to : ℕ) → from ≤ from₁ → from ≤ from₂ → to₁ ≤ to → to₂ ≤ to → DiffersOnlyWithin old new from to
differs-trans a b from to f₁ f₂ t₁ t₂ = record {
  same_length = b.same_length ∙ a.same_length;
  before = λ k h. b.before k (omega arith) ∙ a.before k (omega arith);
  after = λ k h. b.after k (omega arith) ∙ a.after k (omega arith);
}

pub take-below : {old new : List ℕ} {from to : ℕ} → DiffersOnlyWithin old new from to → (n : ℕ) → n ≤ from → take n new ≡ take n old
take-below {old} {new} d n below =
    same_number_lists _ _ (omega (arith, length-take n new, length-take n old, d.same_length))
    (λ k l. get_or-take n new k 0 (omega (arith, length-take n new)) ∙ d.before k (omega (arith, length-take n new)) ∙ sym (get_or-take n old k 0 (omega (arith, length-take n new))))

pub drop-above : {old new : List ℕ} {from to : ℕ} → DiffersOnlyWithin old new from to → (n : ℕ) → to ≤ n → drop n new ≡ drop n old
drop-above {old} {new} d n above =
    same_number_lists _ _ (omega (arith, length-drop n new, length-drop n old, d.same_length))
    (λ k l. get_or-drop n new k 0 ∙ d.after (n + k) (omega arith) ∙ sym (get_or-drop n old k 0))

-- one byte is written
pub differs-set : (bytes : List ℕ) (at byte : ℕ) → DiffersOnlyWithin bytes (set bytes at byte) at (at + 1)
differs-set bytes at byte = record {
  same_length = length-set bytes at byte;
  before = λ k h. get_or-set_other bytes at k byte 0 (omega arith);
  after = λ k h. get_or-set_other bytes at k byte 0 (omega arith);
}

pub slice_range-above : {old new : List ℕ} {from to : ℕ} → DiffersOnlyWithin old new from to → (start end : ℕ) → to ≤ start → slice_range new start end ≡ slice_range old start end
slice_range-above d start end above = ap (take (end - start)) (drop-above d start above)

pub slice_range-below : {old new : List ℕ} {from to : ℕ} → DiffersOnlyWithin old new from to → (start end : ℕ) → end ≤ from → slice_range new start end ≡ slice_range old start end
slice_range-below {old} {new} d start end below =
    between_is new start end ∙ ap (drop start) (take-below d end below) ∙ sym (between_is old start end)
