use Rattle.std.proofs.Common.{◌≡◌, ◌∙◌, Bool, sym, subst, Some, eq-eqb, true}
use Rattle.std.specs.Prelude.{◌==◌}
use Rattle.node_spec.specs.Nodes.{node_of}
use Rattle.node_spec.proofs.NodeLaws.{first_alike}
use Rattle.tree_edit.proofs.lay.keep_header.Goals as goal

pub returns-in-Ok-keep_header_in-clause-shown : goal.returns-in-Ok-keep_header_in-clause-shown
returns-in-Ok-keep_header_in-clause-shown g c = λ usable node shown.
    let first : (c.args.page == 1) ≡ true = eq-eqb c.args.page 1 c.if-page-ne1.false in
    subst (λ (b : Bool). node_of usable b c.keep_header_in.new.bytes ≡ Some node) (sym first)
    (first_alike usable c.keep_header_in.new.bytes c.args.bytes.now c.keep_header_in.ensures.rest
    ∙ subst (λ (b : Bool). node_of usable b c.args.bytes.now ≡ Some node) first shown)

pub returns-clause-shown : goal.returns-clause-shown
returns-clause-shown g c = λ usable node shown.
    let first : (c.args.page == 1) ≡ true = eq-eqb c.args.page 1 c.if-page-ne1.false in
    subst (λ (b : Bool). node_of usable b c.keep_header_in.new.bytes ≡ Some node) (sym first)
    (first_alike usable c.keep_header_in.new.bytes c.args.bytes.now c.keep_header_in.ensures.rest
    ∙ subst (λ (b : Bool). node_of usable b c.args.bytes.now ≡ Some node) first shown)
