use Rattle.std.proofs.Common.{subst}
use Rattle.node_edit.specs.declared.leaves.Cuts.{Cuts}
use Rattle.node_edit.specs.Dividing.{AreCuts}
use Rattle.node_edit.proofs.leaves.divide_rows.Goals as goal

pub returns-in_ok-divided-in-One-clause-parts : goal.returns-in_ok-divided-in-One-clause-parts
returns-in_ok-divided-in-One-clause-parts c = λ cells cuts.
    c.in_ok-divided-in-One.ensures.parts cells c.args.middle.now cuts.is_crowd (subst (λ (k : Cuts). AreCuts c.args.crowd.run.u cells k) c.in-One.is (c.cut_rows.ensures cells cuts))

pub returns-in_ok-divided-in-Both-clause-parts : goal.returns-in_ok-divided-in-Both-clause-parts
returns-in_ok-divided-in-Both-clause-parts c = λ cells cuts.
    c.in_ok-divided-in-Both.ensures.parts cells cuts.is_crowd (subst (λ (k : Cuts). AreCuts c.args.crowd.run.u cells k) c.in-Both.is (c.cut_rows.ensures cells cuts))
