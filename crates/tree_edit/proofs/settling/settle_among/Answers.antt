use Rattle.std.proofs.Common.{◌≡◌, ◌==◌, ℕ, sym, subst, refl, Some, ◌∙◌}
use Rattle.std.specs.Prelude.{◌&&◌}
use Rattle.std.proofs.lemmas.Bool.{true_from_ne_false}
use Rattle.node_spec.specs.Kinds.{is_leaf, is_table}
use Rattle.node_spec.specs.Nodes.{node_of}
use Rattle.edit_spec.specs.Nodes.{node_taking}
use Rattle.node_edit.specs.declared.division.Divided.{Divided}
use Rattle.node_edit.specs.Runs.{spelled_by}
use Rattle.node_edit.specs.Dividing.{IsCrowded, ShowParts, AreTwo}
use Rattle.tree_edit.proofs.Settled.{siblings_of}
use Rattle.tree_edit.proofs.settling.settle_among.Goals as goal

pub divide-requires-clause-crowded : goal.divide-requires-clause-crowded
divide-requires-clause-crowded g c =
    let r = c.requires.crowded in (
      r.0,
      subst (λ (u : ℕ). node_of u (c.args.page == 1) c.args.bytes.now ≡ Some r.0) (sym c.usable_of-usable.ensures.value) r.1,
      subst (λ (u : ℕ). IsCrowded u (c.args.page == 1) r.0 c.args.at c.args.news.now) (sym c.usable_of-usable.ensures.value) r.2,
    )

pub settle_two-requires-clause-whole : goal.settle_two-requires-clause-whole
settle_two-requires-clause-whole g c = c.divide.ensures.rest.same_length ∙ c.requires.whole

pub settle_three-requires-clause-whole : goal.settle_three-requires-clause-whole
settle_three-requires-clause-whole g c = c.divide.ensures.rest.same_length ∙ c.requires.whole

pub returns-in-Ok-clause-settled : goal.returns-in-Ok-clause-settled
returns-in-Ok-clause-settled g c = λ node shown.
    let whole = node_taking node c.args.at (spelled_by node.kind (g.P.PagesTells.usable c.args.pages.now) c.args.news.now) in
    c.in-Ok.ensures.settled whole
    (subst (λ (u : ℕ). ShowParts u (c.args.page == 1) (node_taking node c.args.at (spelled_by node.kind u c.args.news.now)) c.divide.new.left c.divide.new.middle c.divide.new.bytes (Divided.Two c.in-Ok-Two.key))
    c.usable_of-usable.ensures.value
    (subst (λ (h : Divided). ShowParts c.usable_of-usable.result (c.args.page == 1) (node_taking node c.args.at (spelled_by node.kind c.usable_of-usable.result c.args.news.now)) c.divide.new.left c.divide.new.middle c.divide.new.bytes h)
    c.in-Ok-Two.field-0-is
    (c.in-Ok-Two.ensures.parts node (subst (λ (u : ℕ). node_of u (c.args.page == 1) c.args.bytes.now ≡ Some node) (sym c.usable_of-usable.ensures.value) shown))))

pub returns-in-Ok-clause-siblings : goal.returns-in-Ok-clause-siblings
returns-in-Ok-clause-siblings g c = λ node shown.
    let whole = node_taking node c.args.at (spelled_by node.kind (g.P.PagesTells.usable c.args.pages.now) c.args.news.now) in
    siblings_of _ _ node whole c.in-Ok.siblings.items refl
    (c.in-Ok.ensures.siblings whole
    (subst (λ (u : ℕ). ShowParts u (c.args.page == 1) (node_taking node c.args.at (spelled_by node.kind u c.args.news.now)) c.divide.new.left c.divide.new.middle c.divide.new.bytes (Divided.Two c.in-Ok-Two.key))
    c.usable_of-usable.ensures.value
    (subst (λ (h : Divided). ShowParts c.usable_of-usable.result (c.args.page == 1) (node_taking node c.args.at (spelled_by node.kind c.usable_of-usable.result c.args.news.now)) c.divide.new.left c.divide.new.middle c.divide.new.bytes h)
    c.in-Ok-Two.field-0-is
    (c.in-Ok-Two.ensures.parts node (subst (λ (u : ℕ). node_of u (c.args.page == 1) c.args.bytes.now ≡ Some node) (sym c.usable_of-usable.ensures.value) shown))))).0

pub returns-in-Ok-settle_three-clause-settled : goal.returns-in-Ok-settle_three-clause-settled
returns-in-Ok-settle_three-clause-settled g c = λ node shown.
    let whole = node_taking node c.args.at (spelled_by node.kind (g.P.PagesTells.usable c.args.pages.now) c.args.news.now) in
    c.in-Ok-settle_three.ensures.settled whole
    (subst (λ (u : ℕ). ShowParts u (c.args.page == 1) (node_taking node c.args.at (spelled_by node.kind u c.args.news.now)) c.divide.new.left c.divide.new.middle c.divide.new.bytes (Divided.Three c.in-Ok-Three.low c.in-Ok-Three.high))
    c.usable_of-usable.ensures.value
    (subst (λ (h : Divided). ShowParts c.usable_of-usable.result (c.args.page == 1) (node_taking node c.args.at (spelled_by node.kind c.usable_of-usable.result c.args.news.now)) c.divide.new.left c.divide.new.middle c.divide.new.bytes h)
    c.in-Ok-Three.field-0-is
    (c.in-Ok-Three.ensures.parts node (subst (λ (u : ℕ). node_of u (c.args.page == 1) c.args.bytes.now ≡ Some node) (sym c.usable_of-usable.ensures.value) shown))))

pub returns-in-Ok-settle_three-clause-siblings : goal.returns-in-Ok-settle_three-clause-siblings
returns-in-Ok-settle_three-clause-siblings g c = λ node shown.
    let whole = node_taking node c.args.at (spelled_by node.kind (g.P.PagesTells.usable c.args.pages.now) c.args.news.now) in
    let same = subst (λ (u : ℕ). node_of u (c.args.page == 1) c.args.bytes.now ≡ Some node) (sym c.usable_of-usable.ensures.value) shown in
    siblings_of _ _ node whole c.in-Ok-settle_three.siblings.items refl
    (c.in-Ok-settle_three.ensures.siblings whole
    (subst (λ (u : ℕ). ShowParts u (c.args.page == 1) (node_taking node c.args.at (spelled_by node.kind u c.args.news.now)) c.divide.new.left c.divide.new.middle c.divide.new.bytes (Divided.Three c.in-Ok-Three.low c.in-Ok-Three.high))
    c.usable_of-usable.ensures.value
    (subst (λ (h : Divided). ShowParts c.usable_of-usable.result (c.args.page == 1) (node_taking node c.args.at (spelled_by node.kind c.usable_of-usable.result c.args.news.now)) c.divide.new.left c.divide.new.middle c.divide.new.bytes h)
    c.in-Ok-Three.field-0-is
    (c.in-Ok-Three.ensures.parts node same)))
    (true_from_ne_false (is_leaf node.kind && is_table node.kind) (λ other. subst (λ (h : Divided). AreTwo h) c.in-Ok-Three.field-0-is (c.in-Ok-Three.ensures.two node same other))))
