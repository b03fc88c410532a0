-- The rowids of a page's cells, cell by cell.
use Rattle.std.proofs.Common.{◌≡◌, ℕ, ℤ, suc, ◌+◌, ◌<◌, ◌≤◌, List, length, drop, Option, Some, sym, subst, arith}
use Rattle.std.proofs.lemmas.List.{drop_more, drop_all}
use Rattle.node_spec.specs.Cells.{NodeCell}
use Rattle.node_spec.specs.Nodes.{Node, cell_at, no_cell}
use Rattle.check_spec.specs.Forms.{IsAbove, IsAtMost, AreInOrder, BreaksOrder}

-- What the rowids from a cell on say, with the one before it, is what all of them say.
pub record RowidsFrom (before bound : Option ℤ) (cells : List NodeCell) (k : ℕ) (last : Option ℤ) : Type 0 where
  pub order : AreInOrder last bound (drop k cells) → AreInOrder before bound cells
  pub breaks : (j : ℕ) → BreaksOrder last bound (drop k cells) j → BreaksOrder before bound cells (k + j)

pub rowids_begin : (before bound : Option ℤ) (cells : List NodeCell) → RowidsFrom before bound cells 0 before
rowids_begin before bound cells = record { order = λ is. is; breaks = λ j is. subst (λ (n : ℕ). BreaksOrder before bound cells n) (let e : j ≡ 0 + j = omega arith in e) is }

-- one rowid more
pub rowids_more : (before bound : Option ℤ) (node : Node) (k : ℕ) (last : Option ℤ) → k < length node.cells → IsAbove last (cell_at node k).rowid
    → IsAtMost bound (cell_at node k).rowid → RowidsFrom before bound node.cells k last → RowidsFrom before bound node.cells (k + 1) (Some (cell_at node k).rowid)
rowids_more before bound node k last less above most so_far =
    let split = drop_more node.cells k no_cell less in
    record {
      order = λ is. so_far.order (subst (λ (l : List NodeCell). AreInOrder last bound l) (sym split) (above, most, is));
      breaks = λ j is. subst (λ (n : ℕ). BreaksOrder before bound node.cells n) (let e : k + suc j ≡ (k + 1) + j = omega arith in e)
          (so_far.breaks (suc j) (subst (λ (l : List NodeCell). BreaksOrder last bound l (suc j)) (sym split) (above, most, is)));
    }

-- a rowid that breaks the order
pub rowids_break : (before bound : Option ℤ) (node : Node) (k : ℕ) (last : Option ℤ) → k < length node.cells
    → (IsAbove last (cell_at node k).rowid × IsAtMost bound (cell_at node k).rowid → ⊥) → RowidsFrom before bound node.cells k last → BreaksOrder before bound node.cells k
rowids_break before bound node k last less never so_far =
    subst (λ (n : ℕ). BreaksOrder before bound node.cells n) (let e : k + 0 ≡ k = omega arith in e)
    (so_far.breaks 0 (subst (λ (l : List NodeCell). BreaksOrder last bound l 0) (sym (drop_more node.cells k no_cell less)) never))

-- all of them rise
pub rowids_end : (before bound : Option ℤ) (cells : List NodeCell) (k : ℕ) (last : Option ℤ) → length cells ≤ k → RowidsFrom before bound cells k last → AreInOrder before bound cells
rowids_end before bound cells k last most so_far = so_far.order (subst (λ (l : List NodeCell). AreInOrder last bound l) (sym (drop_all k cells most)) tt)
