-- How much cells weigh, and at most: a cell of a page other than a leaf of a table less than half of page 1's room, any cell less than a page.
use Rattle.std.proofs.Common.{◌≡◌, ℕ, ◌+◌, ◌-◌, ◌*◌, ◌/◌, ◌<◌, ◌≤◌, ◌&&◌, max, Bool, true, false, nat_le, if◌then◌else◌, List, [], ◌∷◌, length, get_or, drop, All, refl, sym, ap, subst, ◌∙◌, inl, inr, arith}
use Rattle.std.proofs.lemmas.Bool.{cases_lt}
use Rattle.std.proofs.lemmas.Bool.Decides.{nat_tests}
use Rattle.std.proofs.lemmas.Grind.{common_steps}
use Rattle.std.proofs.Math.Nat.{div-le_of_le-mul}
use Rattle.page_spec.proofs.VarintLaws.{varint_size_bounds}
use Rattle.page_spec.specs.Varint.{varint_size}
use Rattle.node_spec.specs.declared.kinds.Kind.{Kind}
use Rattle.node_spec.specs.declared.kinds.Kind.TheVariants.{IndexInner, TableInner, IndexLeaf, TableLeaf}
use Rattle.node_spec.specs.Kinds.{is_leaf, is_table}
use Rattle.node_spec.specs.Cells.{NodeCell, IsOneCell, most_local, least_local, fitted_local, spills, local_size, stored_size, left_size, keys_size, payload_in, body_size, cell_size, cell_in}
use Rattle.node_edit.specs.declared.run.Run.{Run}
use Rattle.node_edit.specs.Runs.{IsRun, Spells, cell_of, weight_of, spelled_by}
use Rattle.node_edit.proofs.Rows.{row_length, row_front, row_news, row_back, weight_one, weight_join}
use Rattle.node_edit.proofs.UpKeys.{no_stored}

least_most : (table : Bool) (usable : ℕ) → least_local usable ≤ most_local table usable
unfolding least_local most_local
least_most true usable =
    let part : (usable - 12) * 32 / 255 ≤ usable - 12 = div-le_of_le-mul 255 (omega arith) in omega (arith, part)
least_most false usable =
    let part : (usable - 12) * 32 / 255 ≤ (usable - 12) * 64 / 255 = omega arith in omega (arith, part)

local_most : (table : Bool) (usable payload : ℕ) → local_size table usable payload ≤ most_local table usable
unfolding local_size spills
local_most table usable payload = by_spill (spills table usable payload) refl
  where
    by_fitted : (fits : Bool) → nat_le (fitted_local usable payload) (most_local table usable) ≡ fits
        → (if fits then fitted_local usable payload else least_local usable) ≤ most_local table usable
    by_fitted true is = grind (arith, common_steps, nat_tests)
    by_fitted false is = least_most table usable

    small : spills table usable payload ≡ false → payload ≤ most_local table usable
    small is = grind (arith, common_steps, nat_tests)

    by_spill : (b : Bool) → spills table usable payload ≡ b → (if b then (if nat_le (fitted_local usable payload) (most_local table usable) then fitted_local usable payload else least_local usable) else payload) ≤ most_local table usable
    by_spill true is = by_fitted (nat_le (fitted_local usable payload) (most_local table usable)) refl
    by_spill false is = small is

stored_most : (table : Bool) (usable payload : ℕ) → stored_size table usable payload ≤ most_local table usable + 4
unfolding stored_size
stored_most table usable payload = by_spill (spills table usable payload) (local_most table usable payload)
  where
    by_spill : (b : Bool) → local_size table usable payload ≤ most_local table usable → local_size table usable payload + (if b then 4 else 0) ≤ most_local table usable + 4
    by_spill true most = omega (arith, most)
    by_spill false most = omega (arith, most)

-- what a text's cell takes
one_size : (kind : Kind) (usable : ℕ) (text : List ℕ) → IsOneCell kind usable text → (cell_in kind usable text).size ≡ max 4 (left_size kind + body_size kind usable (drop (left_size kind) text))
unfolding cell_in cell_size
one_size kind usable text (inl plain) = omega (arith, plain)
one_size kind usable text (inr whole) = omega (arith, whole)

index_most : (usable : ℕ) → 480 ≤ usable → 2 * most_local false usable + 158 ≤ usable
unfolding most_local
index_most usable least =
    let part : (usable - 12) * 64 / 255 * 255 ≤ (usable - 12) * 64 = omega arith in omega (arith, part, least)

body_light : (kind : Kind) (usable : ℕ) (text : List ℕ) → is_leaf kind && is_table kind ≡ false → 480 ≤ usable
    → 2 * (left_size kind + body_size kind usable (drop (left_size kind) text)) + 116 ≤ usable
unfolding body_size keys_size payload_in
body_light IndexInner usable text other least =
    omega (arith, index_most usable least, stored_most false usable (payload_in IndexInner (drop 4 text)), (varint_size_bounds (drop 4 text)).1)
body_light TableInner usable text other least = omega (arith, (no_stored usable).0, (varint_size_bounds (drop 4 text)).1)
body_light IndexLeaf usable text other least =
    omega (arith, index_most usable least, stored_most false usable (payload_in IndexLeaf text), (varint_size_bounds text).1)
body_light TableLeaf usable text other least = absurd (cc)

pub light : (kind : Kind) (usable : ℕ) (text : List ℕ) → is_leaf kind && is_table kind ≡ false → 480 ≤ usable → IsOneCell kind usable text
    → 2 * ((cell_in kind usable text).size + 2) + 112 ≤ usable
light kind usable text other least one = omega (arith, one_size kind usable text one, body_light kind usable text other least)

table_most : (usable : ℕ) → 480 ≤ usable → most_local true usable + 35 ≤ usable
unfolding most_local
table_most usable least = omega (arith, least)

body_heavy : (usable : ℕ) (text : List ℕ) → 480 ≤ usable → body_size TableLeaf usable text + 13 ≤ usable
unfolding body_size keys_size payload_in
body_heavy usable text least =
    omega (arith, table_most usable least, stored_most true usable (payload_in TableLeaf text), (varint_size_bounds text).1, (varint_size_bounds (drop (varint_size text) text)).1)

pub heavy : (usable : ℕ) (text : List ℕ) → 480 ≤ usable → IsOneCell TableLeaf usable text → (cell_in TableLeaf usable text).size + 13 ≤ usable
heavy usable text least one = omega (arith, one_size TableLeaf usable text one, body_heavy usable text least)

-- each cell of a row has a text
pub record Spelled (run : Run) (cell : NodeCell) : Type 0 where
  pub text : List ℕ
  pub spells : Spells run.kind run.u text cell

pub run_spelled : (run : Run) (cells : List NodeCell) → IsRun run cells → (k : ℕ) → k < length cells → Spelled run (cell_of cells k)
run_spelled run cells is k less = elim (cases_lt k (length is.front)) [
  | inl here ↦
      let lies = is.front_lie.each k here in
      record { text = lies.text; spells = record { one = inr lies.stands.whole; is = lies.is ∙ sym (row_front run cells is k here) } }
  | inr past ↦ elim (cases_lt (k - length is.front) (length run.news.now)) [
    | inl here ↦
        let j = k - length is.front in
        record { text = get_or run.news.now j []; spells = record { one = is.news_are j [] here; is = sym (row_news run cells is k j (omega arith) here) } }
    | inr behind ↦
        let j = k - length is.front - length run.news.now in
        let all = row_length run cells is in
        let lies = is.back_lie.each j (omega (arith, all)) in
        record { text = lies.text; spells = record { one = inr lies.stands.whole; is = lies.is ∙ sym (row_back run cells is k j (omega arith)) } }
  ]
]

pub run_light : (run : Run) (cells : List NodeCell) → IsRun run cells → is_leaf run.kind && is_table run.kind ≡ false → (k : ℕ) → k < length cells → 2 * ((cell_of cells k).size + 2) + 112 ≤ run.u
run_light run cells is other k less =
    let s = run_spelled run cells is k less in
    subst (λ (c : NodeCell). 2 * (c.size + 2) + 112 ≤ run.u) s.spells.is (light run.kind run.u s.text other is.least s.spells.one)

pub run_heavy : (run : Run) (cells : List NodeCell) → IsRun run cells → run.kind ≡ TableLeaf → (k : ℕ) → k < length cells → (cell_of cells k).size + 13 ≤ run.u
run_heavy run cells is leaf k less =
    let s = run_spelled run cells is k less in
    let spells = subst (λ (kind : Kind). Spells kind run.u s.text (cell_of cells k)) leaf s.spells in
    subst (λ (c : NodeCell). c.size + 13 ≤ run.u) spells.is (heavy run.u s.text is.least spells.one)

weight_cons : (cell : NodeCell) (cells : List NodeCell) → weight_of (cell ∷ cells) ≡ (cell.size + 2) + weight_of cells
weight_cons cell cells = weight_join (cell ∷ []) cells ∙ ap (λ n. n + weight_of cells) (weight_one cell)

-- cells that don't fit are at least three where each weighs at most half, and at least two where each fits alone
pub three_of : (cells : List NodeCell) (room : ℕ) → ((k : ℕ) → k < length cells → 2 * ((cell_of cells k).size + 2) ≤ room) → room < weight_of cells → 3 ≤ length cells
three_of [] room each more = absurd (omega (arith, more))
three_of (x ∷ []) room each more = absurd (omega (arith, more, weight_one x, each 0 (omega arith)))
three_of (x ∷ y ∷ []) room each more = absurd (omega (arith, more, weight_cons x (y ∷ []), weight_one y, each 0 (omega arith), each 1 (omega arith)))
three_of (x ∷ y ∷ z ∷ rest) room each more = omega arith

pub two_of : (cells : List NodeCell) (room : ℕ) → ((k : ℕ) → k < length cells → (cell_of cells k).size + 2 ≤ room) → room < weight_of cells → 2 ≤ length cells
two_of [] room each more = absurd (omega (arith, more))
two_of (x ∷ []) room each more = absurd (omega (arith, more, weight_one x, each 0 (omega arith)))
two_of (x ∷ y ∷ rest) room each more = omega arith

-- one or two cells weigh at most as much as there is room
pub few_light : (kind : Kind) (usable : ℕ) (texts : List (List ℕ)) → is_leaf kind && is_table kind ≡ false → 480 ≤ usable → All (IsOneCell kind usable) texts → length texts ≤ 2
    → weight_of (spelled_by kind usable texts) + 112 ≤ usable
few_light kind usable [] other least news few = omega (arith, least)
few_light kind usable (x ∷ []) other least news few =
    omega (arith, weight_one (cell_in kind usable x), light kind usable x other least (news 0 [] (omega arith)))
few_light kind usable (x ∷ y ∷ []) other least news few =
    omega (
      arith,
      weight_cons (cell_in kind usable x) (cell_in kind usable y ∷ []),
      weight_one (cell_in kind usable y),
      light kind usable x other least (news 0 [] (omega arith)),
      light kind usable y other least (news 1 [] (omega arith)),
    )
few_light kind usable (x ∷ y ∷ z ∷ rest) other least news few = absurd (omega (arith, few))

pub one_heavy : (usable : ℕ) (texts : List (List ℕ)) → 480 ≤ usable → All (IsOneCell TableLeaf usable) texts → length texts ≡ 1 → weight_of (spelled_by TableLeaf usable texts) + 11 ≤ usable
one_heavy usable [] least news one = absurd (omega (arith, one))
one_heavy usable (x ∷ []) least news one = omega (arith, weight_one (cell_in TableLeaf usable x), heavy usable x least (news 0 [] (omega arith)))
one_heavy usable (x ∷ y ∷ rest) least news one = absurd (omega (arith, one))

-- one cell, by its text
pub weight_alone : (kind : Kind) (usable : ℕ) (texts : List (List ℕ)) (text : List ℕ) → length texts ≡ 1 → text ≡ get_or texts 0 []
    → weight_of (spelled_by kind usable texts) ≡ max 4 (length text) + 2
unfolding cell_in
weight_alone kind usable [] text one is = absurd (omega (arith, one))
weight_alone kind usable (x ∷ []) text one is = weight_one (cell_in kind usable x) ∙ ap (λ (t : List ℕ). max 4 (length t) + 2) (sym is)
weight_alone kind usable (x ∷ y ∷ rest) text one is = absurd (omega (arith, one))
