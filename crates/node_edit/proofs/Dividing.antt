-- Parts of cells that divide a node.
use Rattle.std.proofs.Common.{◌≡◌, ℕ, ◌+◌, ◌-◌, ◌<◌, ◌≤◌, ◌&&◌, false, if◌then◌else◌, List, [], ◌∷◌, ◌++◌, length, drop, Some, refl, sym, ap, subst, ◌∙◌, inl, inr, arith}
use Rattle.std.proofs.lemmas.List.{append_assoc, get_or-take, get_or-drop}
use Rattle.node_spec.specs.declared.kinds.Kind.{Kind}
use Rattle.node_spec.specs.declared.kinds.Kind.TheVariants.{IndexInner, TableInner, IndexLeaf, TableLeaf}
use Rattle.node_spec.specs.Kinds.{is_leaf, is_table, pointers_at}
use Rattle.page_spec.specs.Bytes.{u32_at}
use Rattle.node_spec.specs.Cells.{NodeCell}
use Rattle.std.proofs.lemmas.Bool.{cases_lt}
use Rattle.node_spec.specs.Nodes.{no_cell, node_of}
use Rattle.node_edit.specs.Runs.{cell_of, part_of, weight_of}
use Rattle.node_edit.specs.Editing.{inner_node}
use Rattle.node_edit.specs.Dividing.{KeyDivides, IsRowKey, IsUpKey, IsCrowd, AreCuts, ShowTwo, ShowThree, CutsBetween, whole_of}
use Rattle.node_edit.specs.declared.crowd.Crowd.{Crowd}
use Rattle.node_edit.specs.declared.leaves.Cuts.TheVariants.{One, Both}
use Rattle.node_edit.proofs.UpKeys.{left_told}
use Rattle.node_edit.proofs.Weights.{run_spelled}
use Rattle.node_edit.proofs.KeyLaws.{key_leads}
use Rattle.node_edit.proofs.Rows.{part_cut, part_more, part_whole, part_none, weight_more, length_part}

part_cell : (cells : List NodeCell) (from to i : ℕ) → i < to - from → cell_of (part_of cells from to) i ≡ cell_of cells (from + i)
part_cell cells from to i less = get_or-take (to - from) (drop from cells) i no_cell less ∙ get_or-drop from cells i no_cell

-- a leaf of a table is divided before a cell
pub rows_keyed : (kind : Kind) (usable : ℕ) (cells : List NodeCell) (a b c r s t : ℕ) {key : List ℕ} → kind ≡ TableLeaf → a < b → b < c → c ≤ length cells
    → IsRowKey usable (cell_of cells (b - 1)) key
    → KeyDivides usable (inner_node kind (part_of cells a c) r) (inner_node kind (part_of cells a b) s) (inner_node kind (part_of cells b c) t) key
rows_keyed TableLeaf usable cells a b c r s t leaf low high within is = record {
  is_key = is.is_key;
  one = λ page text lead. key_leads lead TableInner usable refl is.is_key;
  divides = λ page text lead. record {
    left_kind = refl;
    rest_kind = refl;
    cells = part_cut cells a b c (omega arith) (omega arith);
    left_some = omega (arith, length_part cells a b (omega arith));
    rest_some = omega (arith, length_part cells b c within);
    last = b - a - 1;
    last_is = omega (arith, length_part cells a b (omega arith));
    rowid = is.rowid page text lead
        ∙ ap (λ (cell : NodeCell). cell.rowid) (ap (cell_of cells) (omega arith) ∙ sym (part_cell cells a b (b - a - 1) (omega arith)));
    no_payload = is.no_payload page text lead;
  };
}
rows_keyed IndexInner usable cells a b c r s t leaf low high within is = absurd (cc)
rows_keyed TableInner usable cells a b c r s t leaf low high within is = absurd (cc)
rows_keyed IndexLeaf usable cells a b c r s t leaf low high within is = absurd (cc)

-- another page is divided at a cell
cut_at : (cells : List NodeCell) (p : ℕ) → p < length cells → cells ≡ part_of cells 0 p ++ (cell_of cells p ∷ part_of cells (p + 1) (length cells))
cut_at cells p less =
    sym (part_whole cells (length cells) refl) ∙ part_cut cells 0 (p + 1) (length cells) (omega arith) (omega arith)
    ∙ ap (λ xs. xs ++ part_of cells (p + 1) (length cells)) (part_more cells 0 p (omega arith) less)
    ∙ append_assoc (part_of cells 0 p) (cell_of cells p ∷ []) (part_of cells (p + 1) (length cells))

pub between_keyed : (kind : Kind) (usable : ℕ) (cells : List NodeCell) (p r left : ℕ) {key : List ℕ} → is_leaf kind && is_table kind ≡ false → 1 ≤ p → p + 2 ≤ length cells
    → IsUpKey kind usable (cell_of cells p) key → (if is_leaf kind then 0 else left) ≡ (cell_of cells p).left
    → KeyDivides usable (inner_node kind cells r) (inner_node kind (part_of cells 0 p) left) (inner_node kind (part_of cells (p + 1) (length cells)) r) key
between_keyed IndexInner usable cells p r left other low high is child = record {
  is_key = is.is_key;
  one = λ page text lead. key_leads lead IndexInner usable refl is.is_key;
  divides = λ page text lead. record {
    left_kind = refl;
    rest_kind = refl;
    between = cell_of cells p;
    cells = cut_at cells p (omega arith);
    left_some = omega (arith, length_part cells 0 p (omega arith));
    rest_some = omega (arith, length_part cells (p + 1) (length cells) (omega arith));
    up_is = is.says page text lead;
    left_right = child;
    rest_right = refl;
  };
}
between_keyed TableInner usable cells p r left other low high is child = record {
  is_key = is.is_key;
  one = λ page text lead. key_leads lead TableInner usable refl is.is_key;
  divides = λ page text lead. record {
    left_kind = refl;
    rest_kind = refl;
    between = cell_of cells p;
    cells = cut_at cells p (omega arith);
    left_some = omega (arith, length_part cells 0 p (omega arith));
    rest_some = omega (arith, length_part cells (p + 1) (length cells) (omega arith));
    up_is = is.says page text lead;
    left_right = child;
    rest_right = refl;
  };
}
between_keyed IndexLeaf usable cells p r left other low high is child = record {
  is_key = is.is_key;
  one = λ page text lead. key_leads lead IndexInner usable refl is.is_key;
  divides = λ page text lead. record {
    left_kind = refl;
    rest_kind = refl;
    between = cell_of cells p;
    cells = cut_at cells p (omega arith);
    left_some = omega (arith, length_part cells 0 p (omega arith));
    rest_some = omega (arith, length_part cells (p + 1) (length cells) (omega arith));
    up_is = is.says page text lead;
    left_right = child;
    rest_right = refl;
  };
}
between_keyed TableLeaf usable cells p r left other low high is child = absurd (cc)

-- the pages that show the parts
pub two_rows : (crowd : Crowd) (cells : List NodeCell) (cut : ℕ) {key left bytes : List ℕ} → IsCrowd crowd cells → crowd.run.kind ≡ TableLeaf → AreCuts crowd.run.u cells (One cut)
    → IsRowKey crowd.run.u (cell_of cells (cut - 1)) key
    → node_of crowd.run.u false left ≡ Some (inner_node crowd.run.kind (part_of cells 0 cut) 0)
    → node_of crowd.run.u false bytes ≡ Some (inner_node crowd.run.kind (part_of cells cut crowd.count) 0)
    → ShowTwo crowd.run.u false (whole_of crowd cells) key left bytes
two_rows crowd cells cut {key} is leaf cuts keyed left bytes =
    let keys = rows_keyed crowd.run.kind crowd.run.u cells 0 cut (length cells) crowd.right 0 0 leaf cuts.0.some cuts.1.some (omega arith) keyed in
    record {
      left_part = inner_node crowd.run.kind (part_of cells 0 cut) 0;
      rest = inner_node crowd.run.kind (part_of cells cut crowd.count) 0;
      left_shows = left;
      rest_shows = bytes;
      divides = rw is.count (subst (λ (xs : List NodeCell). KeyDivides crowd.run.u (inner_node crowd.run.kind xs crowd.right) (inner_node crowd.run.kind (part_of cells 0 cut) 0) (inner_node crowd.run.kind (part_of cells cut (length cells)) 0) key)
          (part_whole cells (length cells) refl) keys);
    }

pub three_rows : (crowd : Crowd) (cells : List NodeCell) (low high : ℕ) {below above left middle bytes : List ℕ} → IsCrowd crowd cells → crowd.run.kind ≡ TableLeaf
    → AreCuts crowd.run.u cells (Both low high) → IsRowKey crowd.run.u (cell_of cells (low - 1)) below → IsRowKey crowd.run.u (cell_of cells (high - 1)) above
    → node_of crowd.run.u false left ≡ Some (inner_node crowd.run.kind (part_of cells 0 low) 0)
    → node_of crowd.run.u false middle ≡ Some (inner_node crowd.run.kind (part_of cells low high) 0)
    → node_of crowd.run.u false bytes ≡ Some (inner_node crowd.run.kind (part_of cells high crowd.count) 0)
    → ShowThree crowd.run.u false (whole_of crowd cells) below above left middle bytes
three_rows crowd cells low high {below} is leaf cuts low_keyed high_keyed left middle bytes =
    let first = rows_keyed crowd.run.kind crowd.run.u cells 0 low (length cells) crowd.right 0 0 leaf cuts.0.some (omega (arith, cuts.1.some, cuts.2.some)) (omega arith) low_keyed in
    let second = rows_keyed crowd.run.kind crowd.run.u cells low high (length cells) 0 0 0 leaf cuts.1.some cuts.2.some (omega arith) high_keyed in
    record {
      left_part = inner_node crowd.run.kind (part_of cells 0 low) 0;
      rest = inner_node crowd.run.kind (part_of cells low (length cells)) 0;
      left_shows = left;
      low_divides = subst (λ (xs : List NodeCell). KeyDivides crowd.run.u (inner_node crowd.run.kind xs crowd.right) (inner_node crowd.run.kind (part_of cells 0 low) 0) (inner_node crowd.run.kind (part_of cells low (length cells)) 0) below)
          (part_whole cells (length cells) refl) first;
      others = record {
        left_part = inner_node crowd.run.kind (part_of cells low high) 0;
        rest = inner_node crowd.run.kind (part_of cells high crowd.count) 0;
        left_shows = middle;
        rest_shows = bytes;
        divides = rw is.count second;
      };
    }

-- a page other than a leaf of a table is divided behind its first cell or later
pub cut_some : {crowd : Crowd} {cells : List NodeCell} {limit : ℕ} (cuts : CutsBetween crowd cells limit) (p : ℕ) → (p + 2 < length cells → limit < weight_of (part_of cells 0 (p + 1))) → 1 ≤ p
cut_some {crowd} {cells} {limit} cuts p next = elim (cases_lt p 1) [
  | inl none ↦
      let here : p + 1 ≡ 0 + 1 = omega (arith, none) in
      absurd (omega (
        arith,
        next (omega (arith, none, cuts.three)),
        ap (λ n. weight_of (part_of cells 0 n)) here,
        weight_more cells 0 0 (omega arith) (omega (arith, cuts.three)),
        ap weight_of (part_none cells 0),
        cuts.each 0 (omega (arith, cuts.three)),
      ))
  | inr some ↦ some
]

pub rest_room : {crowd : Crowd} {cells : List NodeCell} {limit : ℕ} (cuts : CutsBetween crowd cells limit) (p end : ℕ) → end ≡ length cells → p + 2 ≤ length cells
    → (p + 2 < length cells → limit < weight_of (part_of cells 0 (p + 1)))
    → pointers_at crowd.first crowd.run.kind + weight_of (part_of cells (p + 1) end) ≤ crowd.run.u
rest_room {crowd} {cells} {limit} cuts p end is within next = elim (cases_lt (p + 2) (length cells)) [
  | inl less ↦ rw is (cuts.rest p less (next less))
  | inr last ↦
      let here : end ≡ p + 1 + 1 = omega (arith, is, within, last) in
      omega (
        arith,
        ap (λ n. weight_of (part_of cells (p + 1) n)) here,
        weight_more cells (p + 1) (p + 1) (omega arith) (omega (arith, here, is)),
        ap weight_of (part_none cells (p + 1)),
        cuts.alone (p + 1) (omega (arith, here, is)),
      )
]

pub two_between : (crowd : Crowd) (cells : List NodeCell) (p : ℕ) {limit child : ℕ} {key left bytes : List ℕ} (cuts : CutsBetween crowd cells limit) → 1 ≤ p → p + 2 ≤ length cells
    → IsUpKey crowd.run.kind crowd.run.u (cell_of cells p) key → child ≡ (cell_of cells p).left
    → node_of crowd.run.u false left ≡ Some (inner_node crowd.run.kind (part_of cells 0 p) child)
    → node_of crowd.run.u crowd.first bytes ≡ Some (inner_node crowd.run.kind (part_of cells (p + 1) crowd.count) crowd.right)
    → ShowTwo crowd.run.u crowd.first (whole_of crowd cells) key left bytes
two_between crowd cells p {limit} {child} cuts low high keyed child_is left bytes =
    let is = cuts.is_crowd in
    let s = run_spelled crowd.run cells is.is_run p (omega (arith, high)) in
    record {
      left_part = inner_node crowd.run.kind (part_of cells 0 p) child;
      rest = inner_node crowd.run.kind (part_of cells (p + 1) crowd.count) crowd.right;
      left_shows = left;
      rest_shows = bytes;
      divides = rw is.count (between_keyed crowd.run.kind crowd.run.u cells p crowd.right child cuts.kind low high keyed (leaf_left crowd.run.kind (u32_at s.text 0) child_is (left_told s.spells)));
    }
  where
    leaf_left : (kind : Kind) {a b : ℕ} (x : ℕ) → a ≡ b → (if is_leaf kind then 0 else x) ≡ b → (if is_leaf kind then 0 else a) ≡ b
    leaf_left IndexInner x same told = same
    leaf_left TableInner x same told = same
    leaf_left IndexLeaf x same told = told
    leaf_left TableLeaf x same told = told
