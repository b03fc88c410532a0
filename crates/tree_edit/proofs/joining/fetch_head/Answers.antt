use Rattle.std.proofs.Common.{◌≡◌, ◌==◌, subst, arith, Bool, false, Some}
use Rattle.std.proofs.lemmas.Bool.{ne_eqb}
use Rattle.node_spec.specs.Nodes.{node_of}
use Rattle.tree_edit.proofs.Edits.{read_one}
use Rattle.tree_edit.proofs.Joined.{read_some}
use Rattle.tree_edit.proofs.joining.fetch_head.Goals as goal

pub returns-in-Ok-clause-head : goal.returns-in-Ok-clause-head
returns-in-Ok-clause-head g c =
    let has = c.in-Ok.ensures.node in
    let other : (c.args.page == 1) ≡ false = ne_eqb c.args.page 1 (λ is. omega (arith, is, c.requires.page.0)) in
    record {
      node = has.node;
      is = subst (λ (b : Bool). node_of (g.P.PagesTells.usable c.args.pages.now) b c.fetch_node.new.buf ≡ Some has.node) other has.tells.shown;
      kind = has.tells.kind;
      child = has.tells.right;
      shown = has.shown;
    }

pub returns-in-Ok-clause-read : goal.returns-in-Ok-clause-read
returns-in-Ok-clause-read g c = read_one g.P.PagesTells c.args.pages.now c.fetch_node.new.pages c.args.page c.in-Ok.ensures.node.read

pub returns-in-Err-clause-read : goal.returns-in-Err-clause-read
returns-in-Err-clause-read g c = read_some g.P.PagesTells c.args.pages.now c.fetch_node.new.pages c.args.page c.in-Err.ensures.read
