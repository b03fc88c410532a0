-- Page 1 of a map that is laid over Main: the fields of its header stand in the first 100 bytes, so it names the page size that the map has.
use Rattle.std.proofs.Common.{◌≡◌, ℕ, ◌+◌, ◌-◌, ◌*◌, ◌≤◌, inl, inr, List, length, take, drop, refl, sym, ◌∙◌, ap, arith, get_or-take}
use Rattle.std.specs.Prelude.{◌⊎◌}
use Rattle.page_spec.specs.Bytes.{u16_at}
use Rattle.page_spec.specs.Header.{fields_of}
use Rattle.log_spec.specs.Accept.{Frame}
use Rattle.log_spec.proofs.HeaderLaws.{u32_at-take}
use Rattle.crash_spec.specs.Recovered.{main_page, page_after_frames}
use Rattle.crash_spec.proofs.Overlaid.{held_or_not}

-- the header's fields stand in the first 100 bytes
u16_at-take : (n : ℕ) (bytes : List ℕ) (at : ℕ) → at + 2 ≤ n → u16_at (take n bytes) at ≡ u16_at bytes at
unfolding u16_at
u16_at-take n bytes at within = rw (get_or-take n bytes at 0 (omega arith), get_or-take n bytes (at + 1) 0 (omega arith)) refl

pub header-take : (n : ℕ) (bytes : List ℕ) → 100 ≤ n → fields_of (take n bytes) ≡ fields_of bytes
unfolding fields_of
header-take n bytes long =
    rw (
      u16_at-take n bytes 16 (omega arith),
      get_or-take n bytes 18 0 (omega arith),
      get_or-take n bytes 19 0 (omega arith),
      get_or-take n bytes 20 0 (omega arith),
      u32_at-take n bytes 24 (omega arith),
      u32_at-take n bytes 28 (omega arith),
      u32_at-take n bytes 32 (omega arith),
      u32_at-take n bytes 36 (omega arith),
      u32_at-take n bytes 40 (omega arith),
      u32_at-take n bytes 44 (omega arith),
      u32_at-take n bytes 52 (omega arith),
      u32_at-take n bytes 56 (omega arith),
      u32_at-take n bytes 92 (omega arith),
    ) refl

pub page_1_is : (size : ℕ) (main : List ℕ) → main_page size main 1 ≡ take size main
page_1_is size main = ap (λ (n : ℕ). take size (drop n main)) no_place
  where
    no_place : (1 - 1) * size ≡ 0
    no_place = grind arith

-- what lies below frames bears on the fields of page 1 by its own alone
fields_through : (frames : List Frame) (below other : List ℕ) → fields_of below ≡ fields_of other → fields_of (page_after_frames frames 1 below) ≡ fields_of (page_after_frames frames 1 other)
fields_through frames below other is =
    elim (held_or_not frames 1) [
      | inl held ↦ ap (λ (bytes : List ℕ). fields_of bytes) (held below other)
      | inr (none, leaves) ↦ ap (λ (bytes : List ℕ). fields_of bytes) (leaves below) ∙ is ∙ sym (ap (λ (bytes : List ℕ). fields_of bytes) (leaves other))
    ]

-- so page 1 has the fields of the first 100 bytes
pub first_fields : (size : ℕ) (main : List ℕ) (older newer : List Frame) → 100 ≤ size
    → fields_of (page_after_frames newer 1 (page_after_frames older 1 (main_page size main 1))) ≡ fields_of (page_after_frames newer 1 (page_after_frames older 1 (take 100 main)))
first_fields size main older newer some =
    fields_through newer (page_after_frames older 1 (main_page size main 1)) (page_after_frames older 1 (take 100 main))
    (fields_through older (main_page size main 1) (take 100 main)
    (ap (λ (bytes : List ℕ). fields_of bytes) (page_1_is size main) ∙ header-take size main some ∙ sym (header-take 100 main (omega arith))))
