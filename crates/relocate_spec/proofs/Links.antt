-- A page of a chain with its pointer renumbered: it names the next page's new number, and holds the same bytes.
use Rattle.std.proofs.Common.{◌≡◌, ◌≢◌, ℕ, ◌+◌, ◌-◌, ◌^◌, ◌<◌, List, [], ◌∷◌, ◌++◌, Bool, take, drop, refl, sym, ap, ◌∙◌, arith, inl, inr, eq-eqb, ne_eqb}
use Rattle.std.specs.Prelude.{◌==◌, if◌then◌else◌, slice_index, false, Option, None}
use Rattle.std.proofs.lemmas.Bool.{cases_eq}
use Rattle.std.proofs.lemmas.Nat.{from_be_bytes-to_be_bytes_4}
use Rattle.page_spec.specs.Bytes.{u32_at}
use Rattle.tree_spec.specs.Shown.{Link, link_in}
use Rattle.tree_spec.specs.Renaming.{link_renamed}
use Rattle.node_spec.specs.declared.kinds.Kind.{Kind}
use Rattle.node_spec.specs.Kinds.{kind_of}
use Rattle.relocate_spec.specs.Pointers.{pointer_places, places_by_kind}
use Rattle.relocate_spec.specs.Renumbered.{with_number, number_renumbered, renumbered_at, page_renumbered}

-- a number written at the front is read there
front_read : (bytes : List ℕ) (number : ℕ) → number < 2 ^ 32 → u32_at (with_number bytes 0 number) 0 ≡ number
unfolding u32_at
front_read bytes number small = from_be_bytes-to_be_bytes_4 number small

pub link_moved : (name : ℕ → ℕ) (usable : ℕ) (bytes : List ℕ) → name (u32_at bytes 0) < 2 ^ 32
    → link_in usable (number_renumbered name 0 bytes) ≡ link_renamed name (link_in usable bytes)
link_moved name usable bytes small = elim (cases_eq (name (u32_at bytes 0)) (u32_at bytes 0)) [
  | inl same ↦
      ap (λ (b : Bool). link_in usable (if b then bytes else with_number bytes 0 (name (u32_at bytes 0)))) (eq-eqb (name (u32_at bytes 0)) (u32_at bytes 0) same)
      ∙ ap (λ (n : ℕ). record { next = n; bytes = take (usable - 4) (drop 4 bytes) }) (sym same)
  | inr other ↦
      ap (λ (b : Bool). link_in usable (if b then bytes else with_number bytes 0 (name (u32_at bytes 0)))) (ne_eqb (name (u32_at bytes 0)) (u32_at bytes 0) other)
      ∙ ap (λ (n : ℕ). record { next = n; bytes = take (usable - 4) (drop 4 bytes) }) (front_read bytes (name (u32_at bytes 0)) small)
]

-- The page of a chain that a commit lays: one whose first byte is no kind's flag.
pub link_page_moved : (name : ℕ → ℕ) (usable page : ℕ) (bytes : List ℕ) → page ≢ 1 → kind_of (slice_index bytes 0) ≡ None → name (u32_at bytes 0) < 2 ^ 32
    → link_in usable (page_renumbered name usable page bytes) ≡ link_renamed name (link_in usable bytes)
unfolding pointer_places
link_page_moved name usable page bytes other none small =
    ap (λ (first : Bool). link_in usable (renumbered_at name (pointer_places usable first bytes) bytes)) (ne_eqb page 1 other)
    ∙ ap (λ (kind : Option Kind). link_in usable (renumbered_at name (places_by_kind usable false kind bytes) bytes)) none
    ∙ link_moved name usable bytes small
