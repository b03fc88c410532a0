use Rattle.std.proofs.Common.{◌≡◌, w64, to_z, of_z, ℤ, ◌+◌, ◌<◌, ◌==◌, Some, length, refl, sym, subst, ◌∙◌, arith}
use Rattle.std.proofs.lemmas.Int.{to_z-of_z, ints}
use Rattle.check_spec.specs.Forms.{IsAbove, IsAtMost}
use Rattle.node_spec.specs.Nodes.{cell_at}
use Rattle.tree_check.proofs.Rowids.{RowidsFrom, rowids_more, rowids_break}
use Rattle.tree_check.proofs.tree.check_rowids.Goals as goal

pub returns-then-not-is_between-clause-cause : goal.returns-then-not-is_between-clause-cause
returns-then-not-is_between-clause-cause c = (
  c.loop-k.k,
  refl,
  λ told tells.
      let less : c.loop-k.k < length told.cells = omega (arith, c.loop-k-test.true, c.len-k-end.ensures, tells.count) in
      let rowid : to_z w64 (of_z w64 c.read_cell-rowid.result.rowid) ≡ (cell_at told c.loop-k.k).rowid =
      to_z-of_z w64 c.read_cell-rowid.result.rowid (omega (arith, ints))
      ∙ (c.read_cell-rowid.ensures told (record { first = c.args.page == 1; tells = tells })).rowid in
      rowids_break c.args.spot.now.before c.args.spot.now.bound told c.loop-k.k c.loop-k.before less
      (subst (λ (n : ℤ). IsAbove c.loop-k.before n × IsAtMost c.args.spot.now.bound n → ⊥) rowid (c.is_between.ensures.outside c.if-not-is_between.true))
      (c.loop-k.invariant told tells),
)

pub loop-k-preserved : goal.loop-k-preserved
loop-k-preserved c = λ told tells.
    let less : c.loop-k.k < length told.cells = omega (arith, c.loop-k-test.true, c.len-k-end.ensures, tells.count) in
    let rowid : to_z w64 (of_z w64 c.read_cell-rowid.result.rowid) ≡ (cell_at told c.loop-k.k).rowid =
    to_z-of_z w64 c.read_cell-rowid.result.rowid (omega (arith, ints))
    ∙ (c.read_cell-rowid.ensures told (record { first = c.args.page == 1; tells = tells })).rowid in
    let both = subst (λ (n : ℤ). IsAbove c.loop-k.before n × IsAtMost c.args.spot.now.bound n) rowid (c.is_between.ensures.inside c.if-not-is_between.false) in
    subst (λ (n : ℤ). RowidsFrom c.args.spot.now.before c.args.spot.now.bound told.cells (c.loop-k.k + 1) (Some n))
    (sym rowid)
    (rowids_more c.args.spot.now.before c.args.spot.now.bound told c.loop-k.k c.loop-k.before less both.0 both.1 (c.loop-k.invariant told tells))
