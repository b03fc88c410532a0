use Rattle.std.proofs.Common.{◌≡◌, ◌==◌, ℕ, subst, Some, eq-eqb, Bool, true, false}
use Rattle.std.proofs.lemmas.Bool.{ne_eqb}
use Rattle.page_spec.specs.View.{View}
use Rattle.node_spec.specs.Nodes.{Node, node_of}
use Rattle.overflow.specs.Following.{shown_over}
use Rattle.tree_edit.proofs.Settled.{ok_says}
use Rattle.tree_edit.proofs.rooting.make_child.Goals as goal

pub make_copy-requires-clause-shown : goal.make_copy-requires-clause-shown
make_copy-requires-clause-shown g c =
    let r = c.requires.shown in
    (r.0, subst (λ (b : Bool). node_of (g.P.PagesTells.usable c.args.pages.now) b c.args.bytes.now ≡ Some r.0) (eq-eqb c.args.root 1 c.if-root-ne1.false) r.1)

pub returns-then-root-ne1-clause-shows : goal.returns-then-root-ne1-clause-shows
returns-then-root-ne1-clause-shows g c = ok_says
    (λ (page : ℕ). (world : View) → g.P.PagesTells.tells c.make_page.new.pages world → (node : Node) → node_of (g.P.PagesTells.usable c.args.pages.now) false c.args.bytes.now ≡ Some node
    → (shown_over g.P.PagesTells c.make_page.new.pages world).node page ≡ Some node)
    (λ (page : ℕ). (world : View) → g.P.PagesTells.tells c.make_page.new.pages world → (node : Node) → node_of (g.P.PagesTells.usable c.args.pages.now) (c.args.root == 1) c.args.bytes.now ≡ Some node
    → (shown_over g.P.PagesTells c.make_page.new.pages world).node page ≡ Some node)
    c.make_page.result
    (λ page says world told node shown. says world told node
    (subst (λ (b : Bool). node_of (g.P.PagesTells.usable c.args.pages.now) b c.args.bytes.now ≡ Some node) (ne_eqb c.args.root 1 c.if-root-ne1.true) shown))
    c.make_page.ensures.shows

pub returns-clause-shows : goal.returns-clause-shows
returns-clause-shows g c = ok_says
    (λ (page : ℕ). (world : View) → g.P.PagesTells.tells c.make_copy.new.pages world → (node : Node) → node_of (g.P.PagesTells.usable c.args.pages.now) true c.args.bytes.now ≡ Some node
    → (shown_over g.P.PagesTells c.make_copy.new.pages world).node page ≡ Some node)
    (λ (page : ℕ). (world : View) → g.P.PagesTells.tells c.make_copy.new.pages world → (node : Node) → node_of (g.P.PagesTells.usable c.args.pages.now) (c.args.root == 1) c.args.bytes.now ≡ Some node
    → (shown_over g.P.PagesTells c.make_copy.new.pages world).node page ≡ Some node)
    c.make_copy.result
    (λ page says world told node shown. says world told node
    (subst (λ (b : Bool). node_of (g.P.PagesTells.usable c.args.pages.now) b c.args.bytes.now ≡ Some node) (eq-eqb c.args.root 1 c.if-root-ne1.false) shown))
    c.make_copy.ensures.shows
