-- A key's place among the cells of a page: what stands before it and behind it.
use Rattle.std.proofs.Common.{◌≡◌, ℕ, zero, suc, ◌≤◌, ◌<◌, List, [], ◌∷◌, ◌++◌, length, take, drop, slice_index_or, refl, sym, subst, ap, ◌∙◌, arith, length-append}
use Rattle.std.proofs.lemmas.List.{length-drop}
use Rattle.node_spec.specs.Cells.{NodeCell}
use Rattle.node_spec.specs.Nodes.{Node, no_cell, cell_at}
use Rattle.tree_spec.specs.Layout.{Item}
use Rattle.tree_spec.specs.Shown.{Shown}
use Rattle.tree_spec.specs.Trees.{IsItem}
use Rattle.value_form.specs.declared.value.Value.{Value}
use Rattle.value_form.specs.Record.{IsRecord}
use Rattle.tree_read.specs.Payloads.{payload_bytes, IsFollowed}
use Rattle.tree_read.specs.Entries.{EntryStandsAt}
use Rattle.tree_read.proofs.Trees.{whole_payload}
use Rattle.tree_keys.specs.Keys.{entry_gap}

-- the cells of a page, cut at one of them
pub cut_at : (cells : List NodeCell) (k : ℕ) → k < length cells → cells ≡ take k cells ++ (slice_index_or cells k no_cell ∷ drop (suc k) cells)
cut_at [] k less = absurd (omega (arith, less))
cut_at (cell ∷ cells) zero less = refl
cut_at (cell ∷ cells) (suc k) less = ap (λ (l : List NodeCell). cell ∷ l) (cut_at cells k (omega (arith, less)))

pub take_more : (cells : List NodeCell) (k : ℕ) → k < length cells → take (suc k) cells ≡ take k cells ++ (slice_index_or cells k no_cell ∷ [])
take_more [] k less = absurd (omega (arith, less))
take_more (cell ∷ cells) zero less = refl
take_more (cell ∷ cells) (suc k) less = ap (λ (l : List NodeCell). cell ∷ l) (take_more cells k (omega (arith, less)))

pub drop_at : (cells : List NodeCell) (k : ℕ) → k < length cells → drop k cells ≡ slice_index_or cells k no_cell ∷ drop (suc k) cells
drop_at [] k less = absurd (omega (arith, less))
drop_at (cell ∷ cells) zero less = refl
drop_at (cell ∷ cells) (suc k) less = drop_at cells k (omega (arith, less))

pub drop_past : (cells : List NodeCell) (k : ℕ) → length cells ≤ k → drop k cells ≡ []
drop_past [] zero past = refl
drop_past [] (suc k) past = refl
drop_past (cell ∷ cells) zero past = absurd (omega (arith, past))
drop_past (cell ∷ cells) (suc k) past = drop_past cells k (omega (arith, past))

abbrev head_of : List NodeCell → NodeCell
head_of [] = no_cell
head_of (cell ∷ cells) = cell

abbrev last_of : List NodeCell → NodeCell
last_of [] = no_cell
last_of (cell ∷ []) = cell
last_of (cell ∷ (next ∷ cells)) = last_of (next ∷ cells)

last_is : (front : List NodeCell) (cell : NodeCell) → last_of (front ++ (cell ∷ [])) ≡ cell
last_is [] cell = refl
last_is (first ∷ []) cell = refl
last_is (first ∷ (next ∷ front)) cell = last_is (next ∷ front) cell

-- the cell before a place
pub before_is : (cells front : List NodeCell) (cell : NodeCell) (k : ℕ) → k < length cells → take (suc k) cells ≡ front ++ (cell ∷ []) → slice_index_or cells k no_cell ≡ cell
before_is cells front cell k less is =
    sym (last_is (take k cells) (slice_index_or cells k no_cell)) ∙ (ap last_of (sym (take_more cells k less) ∙ is) ∙ last_is front cell)

pub behind_is : (cells rest : List NodeCell) (cell : NodeCell) (k : ℕ) → k < length cells → drop k cells ≡ cell ∷ rest → slice_index_or cells k no_cell ≡ cell
behind_is cells rest cell k less is = ap head_of (sym (drop_at cells k less) ∙ is)

-- a compared cell's item has a row that compares so
compared_row : (usable last : ℕ) (shown : Shown) (cell : NodeCell) (chain : List ℕ) (next : ℕ) (row : List Value) (item : Item) → IsFollowed usable last shown cell chain next 0
    → IsRecord (payload_bytes usable shown cell chain) row → IsItem usable last shown cell item → IsRecord item.bytes row
compared_row usable last shown cell chain next row item followed is_record holds =
    subst (λ (b : List ℕ). IsRecord b row) (whole_payload usable last last shown cell chain next item followed holds) is_record

pub entry_before : (usable last : ℕ) (shown : Shown) (node : Node) (entry : List Value) (place : ℕ) → EntryStandsAt usable last shown node entry place
    → (front : List NodeCell) (cell : NodeCell) (item : Item) → take place node.cells ≡ front ++ (cell ∷ []) → IsItem usable last shown cell item → (entry_gap entry).Before item
entry_before usable last shown node entry zero stands front cell item is holds =
    absurd (omega (arith, ap (λ (l : List NodeCell). length l) is, length-append front (cell ∷ [])))
entry_before usable last shown node entry (suc k) stands front cell item is holds =
    let inside : k < length node.cells = omega (arith, stands.most) in
    let c = stands.above k refl in (
      c.row,
      (
        compared_row usable last shown (cell_at node k) c.chain c.next c.row item c.followed c.is_record
            (subst (λ (x : NodeCell). IsItem usable last shown x item) (sym (before_is node.cells front cell k inside is)) holds),
        sym c.order_is,
      ),
    )

pub entry_behind : (usable last : ℕ) (shown : Shown) (node : Node) (entry : List Value) (place : ℕ) → EntryStandsAt usable last shown node entry place
    → (cell : NodeCell) (rest : List NodeCell) (item : Item) → drop place node.cells ≡ cell ∷ rest → IsItem usable last shown cell item → (entry_gap entry).Behind item
entry_behind usable last shown node entry place stands cell rest item is holds =
    let inside : place < length node.cells = omega (arith, ap (λ (l : List NodeCell). length l) is, length-drop place node.cells) in
    let c = stands.below inside in (
      c.row,
      (
        compared_row usable last shown (cell_at node place) c.chain c.next c.row item c.followed c.is_record
            (subst (λ (x : NodeCell). IsItem usable last shown x item) (sym (behind_is node.cells rest cell place inside is)) holds),
        sym c.order_is,
      ),
    )
