use Rattle.std.proofs.Common.{◌++◌, false, subst, ◌∙◌, refl, arith}
use Rattle.node_spec.specs.Nodes.{Node}
use Rattle.edit_spec.specs.Nodes.{cells_with, node_taking}
use Rattle.node_edit.specs.Runs.{spelled_by}
use Rattle.node_edit.specs.Dividing.{ShowTwo, whole_of}
use Rattle.node_edit.proofs.Crowding.{ok_on, node_once}
use Rattle.node_edit.proofs.JoinedCuts.{wide, weight_low, cuts_joined}
use Rattle.node_edit.proofs.again.divide_joined.Goals as goal

pub copy_usable-requires : goal.copy_usable-requires
copy_usable-requires c =
    let r = c.requires.pages in
    let w = wide c.args.u c.args.between.now r.0 r.1 c.args.left.now c.args.right.now r.2 r.3 r.4 in
    record { long = (w.0, c.requires.long.0) }

pub copy_usable-requires-2 : goal.copy_usable-requires-2
copy_usable-requires-2 c =
    let r = c.requires.pages in
    let w = wide c.args.u c.args.between.now r.0 r.1 c.args.left.now c.args.right.now r.2 r.3 r.4 in
    record { long = (w.1, c.requires.long.1) }

pub crowd_joined-crowd-requires-clause-pages : goal.crowd_joined-crowd-requires-clause-pages
crowd_joined-crowd-requires-clause-pages c =
    let r = c.requires.pages in
    (r.0, c.copy_usable.ensures.same false ∙ r.2, r.4.cells, (r.1, c.copy_usable-2.ensures.same false ∙ r.3, r.4.kind))

pub crowd_joined-crowd-requires-clause-few : goal.crowd_joined-crowd-requires-clause-few
crowd_joined-crowd-requires-clause-few c = let r = c.requires.pages in omega (arith, r.4.few)

pub limit_of-limit-requires : goal.limit_of-limit-requires
limit_of-limit-requires c =
    let r = c.requires.pages in
    record {
      crowd = (
        cells_with r.1.cells 0 (r.0.cells ++ spelled_by r.0.kind c.args.u c.args.between.now),
        c.crowd_joined-crowd.ensures.crowd r.0 r.1 (c.copy_usable.ensures.same false ∙ r.2) (c.copy_usable-2.ensures.same false ∙ r.3),
        weight_low c.args.u c.args.between.now r.0 r.1 c.args.left.now c.args.right.now r.2 r.3 r.4,
      );
    }

pub divide_between-requires-clause-cuts : goal.divide_between-requires-clause-cuts
divide_between-requires-clause-cuts c =
    let r = c.requires.pages in
    let made = c.crowd_joined-crowd.ensures in
    let all = cells_with r.1.cells 0 (r.0.cells ++ spelled_by r.0.kind c.args.u c.args.between.now) in
    let shown = c.copy_usable.ensures.same false ∙ r.2 in
    let is = made.crowd r.0 r.1 shown (c.copy_usable-2.ensures.same false ∙ r.3) in
    (all, cuts_joined c.args.u c.args.between.now r.0 r.1 c.args.left.now c.args.right.now r.2 r.3 r.4 c.crowd_joined-crowd.result c.limit_of-limit.result made.usable made.page (made.kind r.0 shown) is (c.limit_of-limit.ensures.half refl all is))

pub divide_between-requires-clause-long : goal.divide_between-requires-clause-long
divide_between-requires-clause-long c =
    let r = c.requires.pages in
    let same = c.crowd_joined-crowd.ensures.usable in
    let w = wide c.args.u c.args.between.now r.0 r.1 c.args.left.now c.args.right.now r.2 r.3 r.4 in
    (omega (arith, same, w.0), omega (arith, same, w.1))

pub returns-clause-parts : goal.returns-clause-parts
returns-clause-parts c =
    let r = c.requires.pages in
    let made = c.crowd_joined-crowd.ensures in
    let crowd = c.crowd_joined-crowd.result in
    let all = cells_with r.1.cells 0 (r.0.cells ++ spelled_by r.0.kind c.args.u c.args.between.now) in
    let shown_low = c.copy_usable.ensures.same false ∙ r.2 in
    let shown_high = c.copy_usable-2.ensures.same false ∙ r.3 in
    let is = made.crowd r.0 r.1 shown_low shown_high in
    let cuts = cuts_joined c.args.u c.args.between.now r.0 r.1 c.args.left.now c.args.right.now r.2 r.3 r.4 crowd c.limit_of-limit.result made.usable made.page (made.kind r.0 shown_low) is (c.limit_of-limit.ensures.half refl all is) in
    ok_on _ _ c.divide_between.result (λ key says node other shown beside.
    subst (λ (n : Node). ShowTwo c.args.u false (node_taking other 0 (n.cells ++ spelled_by n.kind c.args.u c.args.between.now)) key c.divide_between.new.left c.divide_between.new.bytes)
    (node_once r.0 node _ r.2 shown)
    (subst (λ (n : Node). ShowTwo c.args.u false (node_taking n 0 (r.0.cells ++ spelled_by r.0.kind c.args.u c.args.between.now)) key c.divide_between.new.left c.divide_between.new.bytes)
    (node_once r.1 other _ r.3 beside)
    (subst (λ (whole : Node). ShowTwo c.args.u false whole key c.divide_between.new.left c.divide_between.new.bytes) (made.whole r.0 r.1 shown_low shown_high r.4.kind)
    (subst (λ f. ShowTwo c.args.u f (whole_of crowd all) key c.divide_between.new.left c.divide_between.new.bytes) made.page
    (subst (λ n. ShowTwo n crowd.first (whole_of crowd all) key c.divide_between.new.left c.divide_between.new.bytes) made.usable
    (says all cuts)))))) c.divide_between.ensures.parts
