-- The freelist's fields of page 1: bytes that have the same fields name the same list.
use Rattle.std.proofs.Common.{◌≡◌, ◌∙◌, ℕ, ◌+◌, ◌<◌, List, drop, get_or, refl, sym, ap, ap₂, arith, get_or-drop, ◌++◌}
use Rattle.std.specs.Prelude.{slice_index}
use Rattle.std.proofs.lemmas.List.{get_or-take}
use Rattle.page_spec.specs.Bytes.{u32_at, DiffersOnlyWithin}
use Rattle.page_spec.specs.View.{freelist_fields, but_freelist}
use Rattle.page_spec.proofs.BytesLaws.{take-below, drop-above}
use Rattle.overlay.specs.FreeNumbers.{trunk_field, count_field}

byte_same : (a b : List ℕ) → freelist_fields a ≡ freelist_fields b → (k : ℕ) → k < 8 → slice_index a (32 + k) ≡ slice_index b (32 + k)
byte_same a b same k less =
    sym (get_or-take 8 (drop 32 a) k 0 less ∙ get_or-drop 32 a k 0)
    ∙ (ap (λ (l : List ℕ). get_or l k 0) same ∙ (get_or-take 8 (drop 32 b) k 0 less ∙ get_or-drop 32 b k 0))

pub trunk_same : (a b : List ℕ) → freelist_fields a ≡ freelist_fields b → u32_at a trunk_field ≡ u32_at b trunk_field
unfolding u32_at
trunk_same a b same =
    rw (byte_same a b same 0 (omega arith), byte_same a b same 1 (omega arith), byte_same a b same 2 (omega arith), byte_same a b same 3 (omega arith)) refl

pub count_same : (a b : List ℕ) → freelist_fields a ≡ freelist_fields b → u32_at a count_field ≡ u32_at b count_field
unfolding u32_at
count_same a b same =
    rw (byte_same a b same 4 (omega arith), byte_same a b same 5 (omega arith), byte_same a b same 6 (omega arith), byte_same a b same 7 (omega arith)) refl

-- bytes that differ in the fields alone
pub but_same : (old new : List ℕ) → DiffersOnlyWithin old new 32 40 → but_freelist new ≡ but_freelist old
but_same old new differs = ap₂ ◌++◌ (take-below differs 32 (omega arith)) (drop-above differs 40 (omega arith))
