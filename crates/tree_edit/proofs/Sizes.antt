-- Cells of interior pages are small: a few of them have room in any page.
use Rattle.std.proofs.Common.{◌≡◌, ℕ, ◌+◌, ◌*◌, ◌-◌, ◌/◌, ◌≤◌, max, List, [], ◌∷◌, length, Bool, true, false, refl, arith, inl, inr, drop}
use Rattle.std.specs.Prelude.{nat_le, if◌then◌else◌, All}
use Rattle.std.proofs.lemmas.Grind.{common_steps}
use Rattle.std.proofs.lemmas.Bool.Decides.{nat_tests}
use Rattle.std.proofs.lemmas.List.Elements.{All-head, All-tail}
use Rattle.std.proofs.lemmas.List.Sums.{sum_by-cons}
use Rattle.page_spec.proofs.VarintLaws.{varint_size_bounds}
use Rattle.node_spec.specs.declared.kinds.Kind.{Kind}
use Rattle.node_spec.specs.declared.kinds.Kind.TheVariants.{IndexInner}
use Rattle.node_spec.specs.Kinds.{pointers_at}
use Rattle.node_spec.specs.Cells.{NodeCell, most_local, least_local, fitted_local, local_size, spills, stored_size, keys_size, payload_in, body_size, cell_size, IsOneCell, cell_in}
use Rattle.node_edit.specs.Runs.{weight_of, spelled_by}
use Rattle.tree_edit.specs.Roots.{inner_kind}

least_most : (usable : ℕ) → least_local usable ≤ most_local false usable
unfolding least_local most_local
least_most usable = omega arith

most_few : (usable : ℕ) → 480 ≤ usable → most_local false usable + 23 ≤ (usable - 12) * 64 / 255
unfolding most_local
most_few usable low = omega (arith, low)

no_payload : (usable : ℕ) → 480 ≤ usable → stored_size true usable 0 ≡ 0
unfolding stored_size local_size spills most_local
no_payload usable low = grind (arith, common_steps, nat_tests)

local_most : (usable payload : ℕ) → local_size false usable payload ≤ most_local false usable
unfolding local_size spills
local_most usable payload = by_spill (spills false usable payload) refl (least_most usable)
  where
    by_fitted : (fits : Bool) → nat_le (fitted_local usable payload) (most_local false usable) ≡ fits → spills false usable payload ≡ true → least_local usable ≤ most_local false usable
        → local_size false usable payload ≤ most_local false usable
    by_fitted true is large least =
        let most : fitted_local usable payload ≤ most_local false usable = grind (arith, common_steps, nat_tests) in rw (large, is) (omega (arith, most))
    by_fitted false is large least = rw (large, is) (omega (arith, least))

    by_spill : (large : Bool) → spills false usable payload ≡ large → least_local usable ≤ most_local false usable → local_size false usable payload ≤ most_local false usable
    by_spill true large least = by_fitted (nat_le (fitted_local usable payload) (most_local false usable)) refl large least
    by_spill false large least =
        let most : payload ≤ most_local false usable = grind (arith, common_steps, nat_tests) in rw (large) (omega (arith, most))

stored_most : (usable payload : ℕ) → stored_size false usable payload ≤ local_size false usable payload + 4
unfolding stored_size
stored_most usable payload = by_spill (spills false usable payload)
  where
    by_spill : (large : Bool) → local_size false usable payload + (if large then 4 else 0) ≤ local_size false usable payload + 4
    by_spill true = omega arith
    by_spill false = omega arith

-- a cell of an interior page takes at most so many bytes
cell_most : (table : Bool) (usable : ℕ) (text : List ℕ) → 480 ≤ usable → IsOneCell (inner_kind table) usable text → max 4 (length text) ≤ (usable - 12) * 64 / 255
unfolding cell_size body_size keys_size payload_in
cell_most true usable text low one =
    let size = (varint_size_bounds (drop 4 text)).1 in
    let none = no_payload usable low in
    elim one [ inl short ↦ omega (arith, short, size, none, low) | inr whole ↦ omega (arith, whole, size, none, low) ]
cell_most false usable text low one =
    let size = (varint_size_bounds (drop 4 text)).1 in
    let local = local_most usable (payload_in IndexInner (drop 4 text)) in
    let stored = stored_most usable (payload_in IndexInner (drop 4 text)) in
    let few = most_few usable low in
    elim one [ inl short ↦ omega (arith, short, size, local, stored, few, low) | inr whole ↦ omega (arith, whole, size, local, stored, few, low) ]

weight_more : (kind : Kind) (usable : ℕ) (text : List ℕ) (texts : List (List ℕ)) → weight_of (spelled_by kind usable (text ∷ texts)) ≡ (max 4 (length text) + 2) + weight_of (spelled_by kind usable texts)
unfolding cell_in
weight_more kind usable text texts =
    let sum = sum_by-cons (λ (cell : NodeCell). cell.size) (cell_in kind usable text) (spelled_by kind usable texts) in
    omega (arith, sum)

head_most : (table first : Bool) → pointers_at first (inner_kind table) ≤ 112
head_most true true = omega arith
head_most true false = omega arith
head_most false true = omega arith
head_most false false = omega arith

-- two cells have room in an interior page, also in page 1
pub room_inner : (table first : Bool) (usable : ℕ) (texts : List (List ℕ)) → 480 ≤ usable → length texts ≤ 2 → All (IsOneCell (inner_kind table) usable) texts
    → pointers_at first (inner_kind table) + weight_of (spelled_by (inner_kind table) usable texts) ≤ usable
room_inner table first usable [] low few are = omega (arith, head_most table first, low)
room_inner table first usable (a ∷ []) low few are =
    let one = cell_most table usable a low (All-head (IsOneCell (inner_kind table) usable) a [] are) in
    omega (arith, head_most table first, low, one, weight_more (inner_kind table) usable a [])
room_inner table first usable (a ∷ (b ∷ [])) low few are =
    let one = cell_most table usable a low (All-head (IsOneCell (inner_kind table) usable) a (b ∷ []) are) in
    let two = cell_most table usable b low (All-head (IsOneCell (inner_kind table) usable) b [] (All-tail (IsOneCell (inner_kind table) usable) a (b ∷ []) are)) in
    omega (arith, head_most table first, low, one, two, weight_more (inner_kind table) usable a (b ∷ []), weight_more (inner_kind table) usable b [])
room_inner table first usable (a ∷ (b ∷ (c ∷ texts))) low few are = absurd (omega (arith, few))
