use Rattle.std.proofs.Common.{◌≤◌, ℕ, List, length, subst, arith, inr}
use Rattle.std.proofs.lemmas.Grind.{common_steps}
use Rattle.std.proofs.lemmas.Bool.Decides.{nat_tests}
use Rattle.tree_edit.specs.Settling.{SettlesNode}
use Rattle.edit_spec.specs.Nodes.{node_taking}
use Rattle.node_edit.specs.Runs.{spelled_by}
use Rattle.tree_insert.proofs.descend.pass_up.Goals as goal

pub returns-in-Ok-clause-passed : goal.returns-in-Ok-clause-passed
returns-in-Ok-clause-passed g c = λ node shown.
    let some : 1 ≤ length c.args.news.items = grind (arith, common_steps, nat_tests, c.if-is_empty.false) in
    inr (
      some,
      λ world told neat used.
          subst (λ (l : List (List ℕ)). SettlesNode g.P.PagesTells c.args.pages.now c.args.page (node_taking node c.args.place (spelled_by node.kind (g.P.PagesTells.usable c.args.pages.now) l))
          c.in-Ok.siblings.items c.settle.new.pages world) c.as_slice.ensures.value (c.in-Ok.ensures.settled node shown world told neat used),
    )
