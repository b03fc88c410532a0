use Rattle.std.proofs.Common.{◌==◌, Some, None, refl, subst, ap, ◌∙◌}
use Rattle.node_spec.specs.declared.kinds.Kind.{Kind}
use Rattle.node_spec.specs.Kinds.{is_leaf}
use Rattle.page_form.specs.Reading.{IsFault}
use Rattle.page_form.specs.declared.page.PageFault.{PageFault}
use Rattle.check_spec.specs.Walk.{leaves_at}
use Rattle.tree_check.proofs.Nodes.{leaves_is, then_is, fault_whole, fault_text}
use Rattle.tree_check.proofs.tree.node_in.Goals as goal

pub returns-in-Err-Bad-clause-cause : goal.returns-in-Err-Bad-clause-cause
returns-in-Err-Bad-clause-cause c = (
  refl,
  λ past same.
      fault_text c.args.walk.now.usable c.args.walk.now.last c.args.spot.now.table (leaves_at c.args.spot.now.level past) c.args.spot.now.level c.args.page c.in-Err-Bad.at
      c.args.buf.now (subst (λ (w : PageFault). IsFault c.args.walk.now.usable (c.args.page == 1) c.args.buf.now w) c.in-Err-Bad.field-0-is c.in-Err-Bad.ensures.refused).0,
)

pub returns-in-Some-clause-cause : goal.returns-in-Some-clause-cause
returns-in-Some-clause-cause c =
    let told = c.in-Ok.ensures.told in (
      refl,
      λ past same.
          fault_whole c.args.walk.now.usable c.args.walk.now.last c.args.spot.now.table c.leaves_before-leaves.result (leaves_at c.args.spot.now.level past) c.args.spot.now.level
          c.args.page c.args.buf.now told.0 (Some c.in-Some.at)
          (leaves_is c.args.spot.now.level past c.args.walk.now.leaves c.leaves_before-leaves.result same c.leaves_before-leaves.ensures.root c.leaves_before-leaves.ensures.below)
          told.1.shown (c.in-Some.ensures told.0 told.1),
    )

pub returns-clause-node : goal.returns-clause-node
returns-clause-node c =
    let told = c.in-Ok.ensures.told in
    record {
      told = told.0;
      tells = told.1;
      fits = λ past same.
          fault_whole c.args.walk.now.usable c.args.walk.now.last c.args.spot.now.table c.leaves_before-leaves.result (leaves_at c.args.spot.now.level past) c.args.spot.now.level
          c.args.page c.args.buf.now told.0 None
          (leaves_is c.args.spot.now.level past c.args.walk.now.leaves c.leaves_before-leaves.result same c.leaves_before-leaves.ensures.root c.leaves_before-leaves.ensures.below)
          told.1.shown (c.in_default.ensures told.0 told.1);
      leaves = λ past same.
          then_is (is_leaf told.0.kind) c.args.spot.now.level past c.leaves_before-leaves.result c.leaves_after-walk.result
          (leaves_is c.args.spot.now.level past c.args.walk.now.leaves c.leaves_before-leaves.result same c.leaves_before-leaves.ensures.root c.leaves_before-leaves.ensures.below)
          (λ is. c.leaves_after-walk.ensures.leaf (c.is_leaf.ensures ∙ ap (λ (kind : Kind). is_leaf kind) told.1.kind ∙ is))
          (λ is. c.leaves_after-walk.ensures.inner (c.is_leaf.ensures ∙ ap (λ (kind : Kind). is_leaf kind) told.1.kind ∙ is));
      same = refl;
    }
