use Rattle.std.proofs.Common.{ℕ, List, length, sym, ap, ◌∙◌, arith}
use Rattle.node_edit.proofs.DownCells.{above_long, down_leaf, down_inner, behind}
use Rattle.node_edit.proofs.KeyLaws.{leads_as}
use Rattle.node_edit.proofs.down.cell_down.Goals as goal

pub slice_bounds-key-count : goal.slice_bounds-key-count
slice_bounds-key-count c =
    let r = c.requires.cell in omega (arith, above_long c.args.kind r.0 c.args.cell.now r.1, ap (λ (l : List ℕ). length l) c.bytes.ensures)

pub slice_bounds-key-start : goal.slice_bounds-key-start
slice_bounds-key-start c =
    let r = c.requires.cell in omega (arith, above_long c.args.kind r.0 c.args.cell.now r.1, ap (λ (l : List ℕ). length l) c.bytes.ensures)

pub returns-then-is_leaf : goal.returns-then-is_leaf
returns-then-is_leaf c = record {
  down = λ usable one.
      down_leaf c.args.kind usable c.args.right c.args.cell.now c.in_ok-text.text (sym c.is_leaf.ensures ∙ c.if-is_leaf.true) c.requires.kind
      (c.in_ok-text.ensures ∙ behind c.bytes.result.now c.args.cell.now c.bytes.ensures) one;
}

pub returns : goal.returns
returns c = record {
  down = λ usable one.
      down_inner c.args.kind usable c.args.right c.args.cell.now c.from_vec.result (sym c.is_leaf.ensures ∙ c.if-is_leaf.false)
      (leads_as c.in_ok-text-2.ensures (behind c.bytes.result.now c.args.cell.now c.bytes.ensures) c.from_vec.ensures) one;
}
