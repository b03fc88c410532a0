-- What a page of a tree without a fault says of the numbers that it names: children are in range, and so is the first page of a chain where a payload
-- goes on.
use Rattle.std.proofs.Common.{◌≡◌, ℕ, suc, ◌+◌, ◌-◌, ◌*◌, ◌/◌, ◌<◌, ◌≤◌, ◌||◌, nat_le, if◌then◌else◌, Bool, true, false, List, [], ◌∷◌, length, take, drop, slice_range, None, Some, refl, sym, subst, inl, inr, arith}
use Rattle.std.specs.Prelude.{◌⊎◌}
use Rattle.std.specs.List.{slice_index_or}
use Rattle.std.proofs.lemmas.Bool.{cases_eq, ne_eqb}
use Rattle.std.proofs.lemmas.Bool.Decides.{nat_tests}
use Rattle.std.proofs.lemmas.Grind.{common_steps}
use Rattle.std.proofs.lemmas.List.{length-take}
use Rattle.std.proofs.Math.Nat.{div-le_of_le-mul}
use Rattle.page_spec.specs.Bytes.{u16_at, u32_at}
use Rattle.node_spec.specs.declared.kinds.Kind.{Kind}
use Rattle.node_spec.specs.Kinds.{is_leaf, is_table, header_at, pointers_at}
use Rattle.node_spec.specs.Cells.{NodeCell, most_local, least_local, fitted_local, local_size, spills, left_size, payload_in, payload_at, cell_in}
use Rattle.node_spec.specs.Layout.{Piece}
use Rattle.node_spec.specs.Nodes.{Node, node_of, cell_at, cells_of, no_cell}
use Rattle.node_spec.specs.Faults.{unless, first_fault}
use Rattle.node_spec.proofs.FaultLaws.{unless_none, or_none, first_none}
use Rattle.node_spec.proofs.NodeLaws.{node_shows}
use Rattle.tree_spec.specs.Layout.{Each}
use Rattle.check_spec.specs.Forms.{is_inside, is_inside_or_none, has_chain, cell_numbers_fault, numbers_fault}

-- a number is that of a page from 2 to the last one
abbrev pub IsNumberOf : (last number : ℕ) → Type 0
IsNumberOf last number = (2 ≤ number) × (number ≤ last)

pub inside_is : (last number : ℕ) → is_inside last number ≡ true → IsNumberOf last number
unfolding is_inside
inside_is last number is = (grind (arith, common_steps, nat_tests), grind (arith, common_steps, nat_tests))

pub inside_or_none_is : (last number : ℕ) → is_inside_or_none last number ≡ true → (number ≡ 0) ⊎ IsNumberOf last number
unfolding is_inside_or_none
inside_or_none_is last number is =
    elim (cases_eq number 0) [
      | inl none ↦ inl none
      | inr apart ↦ let there = rw (ne_eqb number 0 apart) at is in inr (inside_is last number there)
    ]

-- A cell's child, where it has one, is in range, and so is the first page of its chain; where it has no chain it names none.
pub record CellFits (last : ℕ) (leaf : Bool) (cell : NodeCell) : Type 0 where
  pub child : leaf ≡ false → IsNumberOf last cell.left
  pub chain : 0 < cell.payload - length cell.local → IsNumberOf last cell.overflow
  pub none : cell.payload - length cell.local ≡ 0 → cell.overflow ≡ 0

chain_there : (cell : NodeCell) → 0 < cell.payload - length cell.local → has_chain cell ≡ true
unfolding has_chain
chain_there cell more = let less : length cell.local < cell.payload = omega (arith, more) in grind (arith, common_steps, nat_tests)

cell_numbers : (last : ℕ) (kind : Kind) (start : ℕ) (cell : NodeCell) → cell_numbers_fault last kind start cell ≡ None
    → (is_leaf kind ≡ false → IsNumberOf last cell.left) × (0 < cell.payload - length cell.local → IsNumberOf last cell.overflow)
unfolding cell_numbers_fault
cell_numbers last kind start cell none =
    let parts = or_none (unless (is_leaf kind || is_inside last cell.left) start)
    (if has_chain cell then unless (is_inside last cell.overflow) (start + cell.size - 4) else None) none in (
      λ inner.
          let is = unless_none (is_leaf kind || is_inside last cell.left) start parts.0 in
          let there = rw inner at is in inside_is last cell.left there,
      λ more.
          let is = parts.1 in
          let there = rw (chain_there cell more) at is in
          inside_is last cell.overflow (unless_none (is_inside last cell.overflow) (start + cell.size - 4) there),
    )

-- A payload that is too large isn't stored whole.
least_most : (table : Bool) (usable : ℕ) → least_local usable ≤ most_local table usable
unfolding least_local most_local
least_most true usable =
    let part : (usable - 12) * 32 / 255 ≤ usable - 12 = div-le_of_le-mul 255 (omega arith) in omega (arith, part)
least_most false usable =
    let part : (usable - 12) * 32 / 255 ≤ (usable - 12) * 64 / 255 = omega arith in omega (arith, part)

pub local_less : (table : Bool) (usable payload : ℕ) → spills table usable payload ≡ true → local_size table usable payload < payload
unfolding local_size spills
local_less table usable payload large =
    let less : most_local table usable < payload = grind (arith, common_steps, nat_tests) in
    let least = least_most table usable in
    by_fitted (nat_le (fitted_local usable payload) (most_local table usable)) refl less least
  where
    by_fitted : (fits : Bool) → nat_le (fitted_local usable payload) (most_local table usable) ≡ fits → most_local table usable < payload
        → least_local usable ≤ most_local table usable → local_size table usable payload < payload
    by_fitted true is less least =
        let most : fitted_local usable payload ≤ most_local table usable = grind (arith, common_steps, nat_tests) in rw (large, is) (omega (arith, most, less))
    by_fitted false is less least = rw (large, is) (omega (arith, least, less))

pub take_short : (n : ℕ) (xs : List ℕ) → length (take n xs) ≤ n
take_short n xs = omega (arith, length-take n xs)

overflow_by : (table : Bool) (usable payload : ℕ) (text : List ℕ) (start number : ℕ)
    → payload - length (slice_range text start (start + local_size table usable payload)) ≡ 0 → (if spills table usable payload then number else 0) ≡ 0
overflow_by table usable payload text start number whole = by_size (spills table usable payload) refl
  where
    by_size : (large : Bool) → spills table usable payload ≡ large → (if spills table usable payload then number else 0) ≡ 0
    by_size false is = rw is refl
    by_size true is =
        let less = local_less table usable payload is in
        let short : length (slice_range text start (start + local_size table usable payload)) ≤ (start + local_size table usable payload) - start =
        take_short ((start + local_size table usable payload) - start) (drop start text) in
        absurd (omega (arith, whole, less, short))

overflow_none : (kind : Kind) (usable : ℕ) (text : List ℕ)
    → (cell_in kind usable text).payload - length (cell_in kind usable text).local ≡ 0 → (cell_in kind usable text).overflow ≡ 0
unfolding cell_in
overflow_none kind usable text whole =
    overflow_by (is_table kind) usable (payload_in kind (drop (left_size kind) text)) text (payload_at kind text)
    (u32_at text (payload_at kind text + local_size (is_table kind) usable (payload_in kind (drop (left_size kind) text)))) whole

-- what holds at each place holds of each element
each_at : {X : Type 0} (P : X → Type 0) (xs : List X) (d : X) → ((k : ℕ) → k < length xs → P (slice_index_or xs k d)) → Each P xs
each_at P [] d each = tt
each_at P (x ∷ xs) d each = (each 0 (omega arith), each_at P xs d (λ k less. each (suc k) (omega (arith, less))))

each_cell : (P : NodeCell → Type 0) (kind : Kind) (usable : ℕ) (pieces : List Piece) → ((text : List ℕ) → P (cell_in kind usable text)) → Each P (cells_of kind usable pieces)
each_cell P kind usable [] each = tt
each_cell P kind usable (piece ∷ pieces) each = (each piece.bytes, each_cell P kind usable pieces each)

fit_both : (last : ℕ) (leaf : Bool) (cells : List NodeCell)
    → Each (λ (cell : NodeCell). (leaf ≡ false → IsNumberOf last cell.left) × (0 < cell.payload - length cell.local → IsNumberOf last cell.overflow)) cells
    → Each (λ (cell : NodeCell). cell.payload - length cell.local ≡ 0 → cell.overflow ≡ 0) cells → Each (CellFits last leaf) cells
fit_both last leaf [] numbers none = tt
fit_both last leaf (cell ∷ cells) numbers none =
    (record { child = numbers.0.0; chain = numbers.0.1; none = none.0 }, fit_both last leaf cells numbers.1 none.1)

-- So each cell fits, and the right child is in range.
pub node_fits : (usable last : ℕ) (first : Bool) (page : List ℕ) (node : Node) → node_of usable first page ≡ Some node → numbers_fault last first page node ≡ None
    → Each (CellFits last (is_leaf node.kind)) node.cells × (is_leaf node.kind ≡ false → IsNumberOf last node.right)
unfolding numbers_fault
node_fits usable last first page node shows none =
    let shown = node_shows usable first page node shows in
    let start : ℕ → ℕ = λ k. u16_at page (pointers_at first node.kind + 2 * k) in
    let parts = or_none (unless (is_leaf node.kind || is_inside last node.right) (header_at first + 8))
    (first_fault (length node.cells) (λ k. cell_numbers_fault last node.kind (start k) (cell_at node k))) none in
    let overflows : Each (λ (cell : NodeCell). cell.payload - length cell.local ≡ 0 → cell.overflow ≡ 0) node.cells =
    subst (λ (cells : List NodeCell). Each (λ (cell : NodeCell). cell.payload - length cell.local ≡ 0 → cell.overflow ≡ 0) cells) (sym shown.cells_are)
    (each_cell (λ (cell : NodeCell). cell.payload - length cell.local ≡ 0 → cell.overflow ≡ 0) node.kind usable shown.cells (overflow_none node.kind usable)) in (
      fit_both last (is_leaf node.kind) node.cells
          (each_at
          (λ (cell : NodeCell). (is_leaf node.kind ≡ false → IsNumberOf last cell.left) × (0 < cell.payload - length cell.local → IsNumberOf last cell.overflow))
          node.cells no_cell
          (λ k less. cell_numbers last node.kind (start k) (cell_at node k)
          (first_none (length node.cells) (λ k. cell_numbers_fault last node.kind (start k) (cell_at node k)) parts.1 k less)))
          overflows,
      λ inner.
          let is = unless_none (is_leaf node.kind || is_inside last node.right) (header_at first + 8) parts.0 in
          let there = rw inner at is in inside_is last node.right there,
    )
