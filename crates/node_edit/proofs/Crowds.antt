-- When the cells of a page that has no room for them can be divided.
use Rattle.std.proofs.Common.{◌≡◌, ℕ, ◌+◌, ◌-◌, ◌*◌, ◌<◌, ◌≤◌, ◌&&◌, Bool, true, false, List, ◌++◌, length, take, take_at, drop, refl, sym, ap, ◌∙◌, inl, inr, arith, length-append, take-append-drop}
use Rattle.std.specs.Prelude.{◌⊎◌}
use Rattle.std.proofs.lemmas.List.{append_assoc, length-take-le}
use Rattle.node_spec.specs.declared.kinds.Kind.{Kind}
use Rattle.node_spec.specs.declared.kinds.Kind.TheVariants.{IndexInner, TableInner, IndexLeaf, TableLeaf}
use Rattle.node_spec.specs.Kinds.{is_leaf, is_table, pointers_at}
use Rattle.node_spec.specs.Cells.{NodeCell}
use Rattle.edit_spec.specs.Nodes.{ByLeafOfTable, cells_with}
use Rattle.node_edit.specs.declared.crowd.Crowd.{Crowd}
use Rattle.node_edit.specs.Runs.{part_of, weight_of}
use Rattle.node_edit.specs.Dividing.{IsCrowd, CutsBetween, CutsRows}
use Rattle.node_edit.proofs.Rows.{part_cut, part_whole, weight_join, weight_taking, length_taking}
use Rattle.node_edit.proofs.Weights.{run_light, run_heavy, three_of, two_of}

-- how far the pointers of a page begin at most, and at least
pub pointers_bounds : (first : Bool) (kind : Kind) → (pointers_at false kind ≤ pointers_at first kind) × (pointers_at first kind ≤ 112)
pointers_bounds true IndexInner = (omega arith, omega arith)
pointers_bounds true TableInner = (omega arith, omega arith)
pointers_bounds true IndexLeaf = (omega arith, omega arith)
pointers_bounds true TableLeaf = (omega arith, omega arith)
pointers_bounds false IndexInner = (omega arith, omega arith)
pointers_bounds false TableInner = (omega arith, omega arith)
pointers_bounds false IndexLeaf = (omega arith, omega arith)
pointers_bounds false TableLeaf = (omega arith, omega arith)

-- at most two cells are put in
pub few_news : (kind : Kind) (first : Bool) (n : ℕ) → ByLeafOfTable (is_leaf kind && is_table kind) ((first ≡ false) × (n ≡ 1)) (n ≤ 2) → n ≤ 2
few_news IndexInner first n few = few
few_news TableInner first n few = few
few_news IndexLeaf first n few = few
few_news TableLeaf first n few = omega (arith, few.1)

-- what is behind a part weighs what the part leaves
weight_rest : (cells : List NodeCell) (p : ℕ) → p ≤ length cells → weight_of cells ≡ weight_of (part_of cells 0 p) + weight_of (part_of cells p (length cells))
weight_rest cells p within =
    ap weight_of (sym (part_whole cells (length cells) refl) ∙ part_cut cells 0 p (length cells) (omega arith) within) ∙ weight_join (part_of cells 0 p) (part_of cells p (length cells))

-- the cells of a page other than a leaf of a table, at the limit for cells that are put in at the right end or elsewhere
pub between_can : (crowd : Crowd) (cells : List NodeCell) (limit : ℕ) → IsCrowd crowd cells → is_leaf crowd.run.kind && is_table crowd.run.kind ≡ false
    → crowd.run.u < pointers_at crowd.first crowd.run.kind + weight_of cells → 2 * pointers_at crowd.first crowd.run.kind + weight_of cells ≤ 2 * crowd.run.u
    → ((limit + pointers_at false crowd.run.kind ≡ crowd.run.u) ⊎ ((2 * limit ≤ weight_of cells) × (weight_of cells ≤ 2 * limit + 1)))
    → CutsBetween crowd cells limit
between_can crowd cells limit is other more most (inl end) =
    let b = pointers_bounds crowd.first crowd.run.kind in
    record {
      is_crowd = is;
      kind = other;
      three = three_of cells (crowd.run.u - 112) (λ k less. omega (arith, run_light crowd.run cells is.is_run other k less)) (omega (arith, more, b.1, is.is_run.least));
      room = omega (arith, end);
      each = λ k less. omega (arith, run_light crowd.run cells is.is_run other k less, end, b);
      alone = λ k less. omega (arith, run_light crowd.run cells is.is_run other k less, b, is.is_run.least);
      rest = λ k less past. omega (arith, weight_rest cells (k + 1) (omega (arith, less)), past, end, most, b);
    }
between_can crowd cells limit is other more most (inr half) =
    let b = pointers_bounds crowd.first crowd.run.kind in
    record {
      is_crowd = is;
      kind = other;
      three = three_of cells (crowd.run.u - 112) (λ k less. omega (arith, run_light crowd.run cells is.is_run other k less)) (omega (arith, more, b.1, is.is_run.least));
      room = omega (arith, half.0, most, b);
      each = λ k less. omega (arith, run_light crowd.run cells is.is_run other k less, half.1, more, b);
      alone = λ k less. omega (arith, run_light crowd.run cells is.is_run other k less, b, is.is_run.least);
      rest = λ k less past. omega (arith, weight_rest cells (k + 1) (omega (arith, less)), past, half, most, b);
    }

-- which limit was taken
pub limit_is : {E H : Type 0} (b : Bool) → (b ≡ true → E) → (b ≡ false → H) → E ⊎ H
limit_is true at_end half = inl (at_end refl)
limit_is false at_end half = inr (half refl)

part_front : (xs ys : List NodeCell) (n : ℕ) → length xs ≡ n → part_of (xs ++ ys) 0 n ≡ xs
part_front xs ys n len = ap (λ m. take m (xs ++ ys)) (omega arith) ∙ take_at xs ys n len

-- the cells of a leaf of a table that takes one cell
pub rows_can : (crowd : Crowd) (cells news : List NodeCell) (at limit : ℕ) → IsCrowd crowd (cells_with cells at news) → crowd.run.kind ≡ TableLeaf → crowd.first ≡ false
    → at ≤ length cells → length news ≡ 1 → crowd.run.u < 8 + weight_of (cells_with cells at news) → 8 + weight_of cells ≤ crowd.run.u → weight_of news + 11 ≤ crowd.run.u
    → ((limit + 8 ≡ crowd.run.u) ⊎ ((2 * limit ≤ weight_of (cells_with cells at news)) × (weight_of (cells_with cells at news) ≤ 2 * limit + 1)))
    → CutsRows crowd (cells_with cells at news) at limit
rows_can crowd cells news at limit is leaf page place one more old new lim =
    let all = cells_with cells at news in
    let u = crowd.run.u in
    let front = take at cells in
    let rest = drop at cells in
    let heavy = λ (k : ℕ) (less : k < length all). run_heavy crowd.run all is.is_run leaf k less in
    let whole : weight_of front + weight_of rest ≡ weight_of cells = sym (weight_join front rest) ∙ ap weight_of (take-append-drop at cells) in
    let len : length front ≡ at = length-take-le at cells place in
    let count = length_taking cells at news place in
    let before : weight_of (part_of all 0 at) ≡ weight_of front = ap weight_of (part_front front (news ++ rest) at len) in
    let upto : weight_of (part_of all 0 (at + 1)) ≡ weight_of (front ++ news) =
    ap (λ xs. weight_of (part_of xs 0 (at + 1))) (sym (append_assoc front news rest)) ∙ ap weight_of (part_front (front ++ news) rest (at + 1) (omega (arith, len, one, length-append front news))) in
    record {
      is_crowd = is;
      leaf = rw leaf refl;
      table = rw leaf refl;
      page = page;
      two = two_of all (u - 8) (λ k less. omega (arith, heavy k less)) (omega (arith, more, is.is_run.least));
      place = omega (arith, count, one, place);
      room = elim lim [
        | inl end ↦ omega (arith, end)
        | inr half ↦ omega (arith, half.0, weight_taking cells at news, old, new)
      ];
      alone = λ k less. omega (arith, heavy k less);
      before = omega (arith, before, whole, old);
      behind = omega (arith, weight_rest all (at + 1) (omega (arith, count, one, place)), upto, weight_join front news, weight_taking cells at news, whole, old);
    }
