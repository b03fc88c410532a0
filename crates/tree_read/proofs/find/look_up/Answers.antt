use Rattle.std.proofs.Common.{arith, inl, inr}
use Rattle.engine_spec.specs.declared.commits.FetchFault.TheVariants as fault
use Rattle.tree_read.specs.declared.place.Aim.TheVariants.{Rowid}
use Rattle.tree_read.proofs.Descents.{root_outside, no_buffer, barred_row}
use Rattle.tree_read.proofs.find.look_up.Goals.{then-root-lt1-via-then-root-lt1, then-root-lt1-via-else-root-lt1+then-root-last}
use Rattle.tree_read.proofs.find.look_up.Goals as goal

pub returns-then-root-lt1-clause-looked : goal.returns-then-root-lt1-clause-looked
returns-then-root-lt1-clause-looked g c =
    barred_row g.P.PagesTells c.args.pages.now c.args.pages.now c.args.root c.args.rowid (fault.Corrupt c.args.root)
    (root_outside g.P.PagesTells c.args.pages.now c.args.root (Rowid c.args.rowid) (elim c.then-root-lt1.branch [
      | then-root-lt1-via-then-root-lt1 w ↦ inl w.if-root-lt1.true
      | then-root-lt1-via-else-root-lt1+then-root-last w ↦ inr (omega (arith, w.if-root-last.true, w.last.ensures))
    ]))

pub returns-in-Err-clause-looked : goal.returns-in-Err-clause-looked
returns-in-Err-clause-looked g c =
    barred_row g.P.PagesTells c.args.pages.now c.args.pages.now c.args.root c.args.rowid c.in-Err.why
    (no_buffer g.P.PagesTells c.args.pages.now c.args.root (Rowid c.args.rowid) c.in-Err.why c.in-Err.ensures.cause)
