use Rattle.std.proofs.Common.{◌∙◌, ◌-◌, arith, w64}
use Rattle.std.proofs.lemmas.Int.{to_z-of_z, ints}
use Rattle.tree_read.proofs.place.last_rowid.Goals as goal

pub returns-else-count-eq0 : goal.returns-else-count-eq0
returns-else-count-eq0 c = λ node read. (
  c.len-count.result - 1,
  (
    omega (arith, c.if-count-eq0.false, c.len-count.ensures, read.tells.count),
    to_z-of_z w64 c.read_cell.result.rowid (omega (arith, ints)) ∙ (c.read_cell.ensures node read).rowid,
  ),
)
