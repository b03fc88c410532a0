use Rattle.std.proofs.Common.{arith, inl, inr}
use Rattle.engine_spec.specs.declared.commits.FetchFault.TheVariants as fault
use Rattle.tree_read.specs.declared.place.Aim.TheVariants.{Last}
use Rattle.tree_read.proofs.Descents.{root_outside, no_buffer, barred_last}
use Rattle.tree_read.proofs.last.look_last.Goals.{then-root-lt1-via-then-root-lt1, then-root-lt1-via-else-root-lt1+then-root-last}
use Rattle.tree_read.proofs.last.look_last.Goals as goal

pub returns-then-root-lt1-clause-looked : goal.returns-then-root-lt1-clause-looked
returns-then-root-lt1-clause-looked g c =
    barred_last g.P.PagesTells c.args.pages.now c.args.pages.now c.args.root (fault.Corrupt c.args.root)
    (root_outside g.P.PagesTells c.args.pages.now c.args.root Last (elim c.then-root-lt1.branch [
      | then-root-lt1-via-then-root-lt1 w ↦ inl w.if-root-lt1.true
      | then-root-lt1-via-else-root-lt1+then-root-last w ↦ inr (omega (arith, w.if-root-last.true, w.last.ensures))
    ]))

pub returns-in-Err-clause-looked : goal.returns-in-Err-clause-looked
returns-in-Err-clause-looked g c =
    barred_last g.P.PagesTells c.args.pages.now c.args.pages.now c.args.root c.in-Err.why
    (no_buffer g.P.PagesTells c.args.pages.now c.args.root Last c.in-Err.why c.in-Err.ensures.cause)
