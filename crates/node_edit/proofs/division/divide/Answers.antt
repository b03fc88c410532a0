use Rattle.std.proofs.Common.{◌≡◌, ◌&&◌, true, false, length, sym, ap, subst, ◌∙◌, inl, inr, arith}
use Rattle.std.proofs.lemmas.Bool.{true≢false}
use Rattle.node_spec.specs.declared.kinds.Kind.{Kind}
use Rattle.node_spec.specs.Kinds.{is_leaf, is_table}
use Rattle.node_spec.specs.Nodes.{Node}
use Rattle.edit_spec.specs.Nodes.{cells_with, node_taking}
use Rattle.node_edit.specs.Runs.{spelled_by}
use Rattle.node_edit.specs.Dividing.{ShowTwo, ShowParts, whole_of}
use Rattle.node_edit.proofs.Crowds.{few_news, limit_is}
use Rattle.node_edit.proofs.Crowding.{ok_on, node_once, both_true, not_both, wide, weight_few, cuts_between, cuts_rows, first_rows}
use Rattle.node_edit.proofs.division.divide.Goals as goal
use Rattle.node_edit.proofs.division.divide.Goals.{else-is_leaf-via-then-is_leaf+else-is_table, else-is_leaf-via-else-is_leaf}

pub copy_usable-requires : goal.copy_usable-requires
copy_usable-requires c =
    let r = c.requires.crowded in
    record { long = (wide c.args.u c.args.first c.args.at c.args.bytes.now c.args.news.now r.0 r.1 r.2, c.requires.long.2) }

pub crowd_of-crowd-requires-clause-shown : goal.crowd_of-crowd-requires-clause-shown
crowd_of-crowd-requires-clause-shown c =
    let r = c.requires.crowded in (r.0, c.copy_usable.ensures.same c.args.first ∙ r.1, r.2.place, r.2.cells)

pub crowd_of-crowd-requires-clause-few : goal.crowd_of-crowd-requires-clause-few
crowd_of-crowd-requires-clause-few c =
    let r = c.requires.crowded in omega (arith, few_news r.0.kind c.args.first (length c.args.news.now) r.2.few)

pub limit_of-limit-requires : goal.limit_of-limit-requires
limit_of-limit-requires c =
    let r = c.requires.crowded in
    let shown = c.copy_usable.ensures.same c.args.first ∙ r.1 in
    record {
      crowd = (
        cells_with r.0.cells c.args.at (spelled_by r.0.kind c.args.u c.args.news.now),
        c.crowd_of-crowd.ensures.crowd r.0 shown,
        weight_few c.args.u c.args.first c.args.at c.args.bytes.now c.args.news.now r.0 r.1 r.2,
      );
    }

pub divide_rows-requires-clause-cuts : goal.divide_rows-requires-clause-cuts
divide_rows-requires-clause-cuts c =
    let r = c.requires.crowded in
    let shown = c.copy_usable.ensures.same c.args.first ∙ r.1 in
    let crowd = c.crowd_of-crowd.result in
    let made = c.crowd_of-crowd.ensures in
    let all = cells_with r.0.cells c.args.at (spelled_by r.0.kind c.args.u c.args.news.now) in
    let kind = made.kind r.0 shown in
    let is = made.crowd r.0 shown in
    let taken = limit_is _ c.limit_of-limit.ensures.end (λ elsewhere. c.limit_of-limit.ensures.half elsewhere all is) in
    let rows : is_leaf r.0.kind && is_table r.0.kind ≡ true = ap (λ (k : Kind). is_leaf k && is_table k) (sym kind)
    ∙ both_true (is_leaf crowd.run.kind) (is_table crowd.run.kind) (sym c.is_leaf.ensures ∙ c.if-is_leaf.true) (sym c.is_table.ensures ∙ c.if-is_table.true) in
    (all, cuts_rows c.args.u c.args.first c.args.at c.args.bytes.now c.args.news.now r.0 r.1 r.2 crowd c.limit_of-limit.result made.usable made.page kind is taken rows)

pub divide_rows-requires-clause-long : goal.divide_rows-requires-clause-long
divide_rows-requires-clause-long c =
    let r = c.requires.crowded in
    let same = c.crowd_of-crowd.ensures.usable in
    let w = wide c.args.u c.args.first c.args.at c.args.bytes.now c.args.news.now r.0 r.1 r.2 in
    (omega (arith, same, c.requires.long.0), omega (arith, same, c.requires.long.1), omega (arith, same, w))

pub divide_between-requires-clause-long : goal.divide_between-requires-clause-long
divide_between-requires-clause-long c =
    let r = c.requires.crowded in
    let same = c.crowd_of-crowd.ensures.usable in
    let w = wide c.args.u c.args.first c.args.at c.args.bytes.now c.args.news.now r.0 r.1 r.2 in
    (omega (arith, same, c.requires.long.0), omega (arith, same, w))

pub divide_between-requires-clause-cuts : goal.divide_between-requires-clause-cuts
divide_between-requires-clause-cuts c =
    let r = c.requires.crowded in
    let shown = c.copy_usable.ensures.same c.args.first ∙ r.1 in
    let crowd = c.crowd_of-crowd.result in
    let made = c.crowd_of-crowd.ensures in
    let all = cells_with r.0.cells c.args.at (spelled_by r.0.kind c.args.u c.args.news.now) in
    let kind = made.kind r.0 shown in
    let is = made.crowd r.0 shown in
    let taken = limit_is _ c.limit_of-limit.ensures.end (λ elsewhere. c.limit_of-limit.ensures.half elsewhere all is) in
    let other : is_leaf crowd.run.kind && is_table crowd.run.kind ≡ false = not_both (is_leaf crowd.run.kind) (is_table crowd.run.kind) (elim c.else-is_leaf.branch [
      | else-is_leaf-via-then-is_leaf+else-is_table w ↦ inr (sym w.is_table.ensures ∙ w.if-is_table.false)
      | else-is_leaf-via-else-is_leaf w ↦ inl (sym c.is_leaf.ensures ∙ w.if-is_leaf.false)
    ]) in
    (all, cuts_between c.args.u c.args.first c.args.at c.args.bytes.now c.args.news.now r.0 r.1 r.2 crowd c.limit_of-limit.result made.usable made.page kind is taken other)

pub returns-then-is_table-clause-parts : goal.returns-then-is_table-clause-parts
returns-then-is_table-clause-parts c =
    let r = c.requires.crowded in
    let shown = c.copy_usable.ensures.same c.args.first ∙ r.1 in
    let crowd = c.crowd_of-crowd.result in
    let made = c.crowd_of-crowd.ensures in
    let all = cells_with r.0.cells c.args.at (spelled_by r.0.kind c.args.u c.args.news.now) in
    let kind = made.kind r.0 shown in
    let is = made.crowd r.0 shown in
    let taken = limit_is _ c.limit_of-limit.ensures.end (λ elsewhere. c.limit_of-limit.ensures.half elsewhere all is) in
    let rows : is_leaf r.0.kind && is_table r.0.kind ≡ true = ap (λ (k : Kind). is_leaf k && is_table k) (sym kind)
    ∙ both_true (is_leaf crowd.run.kind) (is_table crowd.run.kind) (sym c.is_leaf.ensures ∙ c.if-is_leaf.true) (sym c.is_table.ensures ∙ c.if-is_table.true) in
    ok_on _ _ c.divide_rows.result (λ divided says node also.
    subst (λ (n : Node). ShowParts c.args.u c.args.first (node_taking n c.args.at (spelled_by n.kind c.args.u c.args.news.now)) c.divide_rows.new.left c.divide_rows.new.middle c.divide_rows.new.bytes divided)
    (node_once r.0 node _ r.1 also)
    (subst (λ (whole : Node). ShowParts c.args.u c.args.first whole c.divide_rows.new.left c.divide_rows.new.middle c.divide_rows.new.bytes divided) (made.whole r.0 shown)
    (subst (λ f. ShowParts c.args.u f (whole_of crowd all) c.divide_rows.new.left c.divide_rows.new.middle c.divide_rows.new.bytes divided) (sym (first_rows c.args.u c.args.first c.args.at c.args.bytes.now c.args.news.now r.0 r.1 r.2 crowd c.limit_of-limit.result made.usable made.page kind is taken rows))
    (subst (λ n. ShowParts n false (whole_of crowd all) c.divide_rows.new.left c.divide_rows.new.middle c.divide_rows.new.bytes divided) made.usable
    (says all (cuts_rows c.args.u c.args.first c.args.at c.args.bytes.now c.args.news.now r.0 r.1 r.2 crowd c.limit_of-limit.result made.usable made.page kind is taken rows)))))) c.divide_rows.ensures.parts

pub returns-clause-parts : goal.returns-clause-parts
returns-clause-parts c =
    let r = c.requires.crowded in
    let shown = c.copy_usable.ensures.same c.args.first ∙ r.1 in
    let crowd = c.crowd_of-crowd.result in
    let made = c.crowd_of-crowd.ensures in
    let all = cells_with r.0.cells c.args.at (spelled_by r.0.kind c.args.u c.args.news.now) in
    let kind = made.kind r.0 shown in
    let is = made.crowd r.0 shown in
    let taken = limit_is _ c.limit_of-limit.ensures.end (λ elsewhere. c.limit_of-limit.ensures.half elsewhere all is) in
    let other : is_leaf crowd.run.kind && is_table crowd.run.kind ≡ false = not_both (is_leaf crowd.run.kind) (is_table crowd.run.kind) (elim c.else-is_leaf.branch [
      | else-is_leaf-via-then-is_leaf+else-is_table w ↦ inr (sym w.is_table.ensures ∙ w.if-is_table.false)
      | else-is_leaf-via-else-is_leaf w ↦ inl (sym c.is_leaf.ensures ∙ w.if-is_leaf.false)
    ]) in
    λ node also.
    subst (λ (n : Node). ShowTwo c.args.u c.args.first (node_taking n c.args.at (spelled_by n.kind c.args.u c.args.news.now)) c.in_ok-key.key c.divide_between.new.left c.divide_between.new.bytes)
    (node_once r.0 node _ r.1 also)
    (subst (λ (whole : Node). ShowTwo c.args.u c.args.first whole c.in_ok-key.key c.divide_between.new.left c.divide_between.new.bytes) (made.whole r.0 shown)
    (subst (λ f. ShowTwo c.args.u f (whole_of crowd all) c.in_ok-key.key c.divide_between.new.left c.divide_between.new.bytes) made.page
    (subst (λ n. ShowTwo n crowd.first (whole_of crowd all) c.in_ok-key.key c.divide_between.new.left c.divide_between.new.bytes) made.usable
    (c.in_ok-key.ensures.parts all (cuts_between c.args.u c.args.first c.args.at c.args.bytes.now c.args.news.now r.0 r.1 r.2 crowd c.limit_of-limit.result made.usable made.page kind is taken other)))))

pub returns-then-is_table-clause-two : goal.returns-then-is_table-clause-two
returns-then-is_table-clause-two c =
    let r = c.requires.crowded in
    let shown = c.copy_usable.ensures.same c.args.first ∙ r.1 in
    let crowd = c.crowd_of-crowd.result in
    let kind = c.crowd_of-crowd.ensures.kind r.0 shown in
    let rows : is_leaf r.0.kind && is_table r.0.kind ≡ true = ap (λ (k : Kind). is_leaf k && is_table k) (sym kind)
    ∙ both_true (is_leaf crowd.run.kind) (is_table crowd.run.kind) (sym c.is_leaf.ensures ∙ c.if-is_leaf.true) (sym c.is_table.ensures ∙ c.if-is_table.true) in
    ok_on _ _ c.divide_rows.result (λ divided says node also other.
    absurd (true≢false (sym rows ∙ (ap (λ (n : Node). is_leaf n.kind && is_table n.kind) (node_once r.0 node _ r.1 also) ∙ other)))) c.divide_rows.ensures.parts
