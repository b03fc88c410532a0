use Rattle.std.proofs.Common.{◌≡◌, ◌<◌, ◌==◌, ℕ, List, length, sym, subst, arith, ◌∙◌, Some, Vec, Global}
use Rattle.std.specs.Prelude.{◌&&◌, All}
use Rattle.page_spec.specs.View.{View}
use Rattle.node_spec.specs.Kinds.{is_leaf, is_table}
use Rattle.node_spec.specs.Cells.{IsOneCell}
use Rattle.node_spec.specs.Nodes.{Node, node_of, free_of}
use Rattle.edit_spec.specs.Nodes.{node_taking}
use Rattle.node_edit.specs.Runs.{spelled_by, weight_of}
use Rattle.tree_edit.specs.Settling.{SettlesNode, AreSiblings}
use Rattle.tree_edit.proofs.Settled.{ok_says, take_few, crowded}
use Rattle.tree_edit.proofs.settling.settle.Goals as goal

pub returns-then-put_cells-clause-settled : goal.returns-then-put_cells-clause-settled
returns-then-put_cells-clause-settled g c = ok_says
    (λ (s : Vec (List ℕ) Global). (whole : Node) → node_of (g.P.PagesTells.usable c.args.pages.now) (c.args.page == 1) c.put_cells.new.bytes ≡ Some whole → (world : View) → g.P.PagesTells.tells c.settle_whole.new.pages world → g.P.PagesTells.neat c.args.pages.now world → (g.P.PagesTells.free c.args.pages.now world c.args.page → ⊥) → SettlesNode g.P.PagesTells c.args.pages.now c.args.page whole s.items c.settle_whole.new.pages world)
    (λ (s : Vec (List ℕ) Global). (node : Node) → node_of (g.P.PagesTells.usable c.args.pages.now) (c.args.page == 1) c.args.bytes.now ≡ Some node → (world : View) → g.P.PagesTells.tells c.settle_whole.new.pages world → g.P.PagesTells.neat c.args.pages.now world → (g.P.PagesTells.free c.args.pages.now world c.args.page → ⊥) → SettlesNode g.P.PagesTells c.args.pages.now c.args.page (node_taking node c.args.at (spelled_by node.kind (g.P.PagesTells.usable c.args.pages.now) c.args.news.now)) s.items c.settle_whole.new.pages world)
    c.settle_whole.result
    (λ siblings says node shown.
    says (node_taking node c.args.at (spelled_by node.kind (g.P.PagesTells.usable c.args.pages.now) c.args.news.now))
    (subst (λ (u : ℕ). node_of u (c.args.page == 1) c.put_cells.new.bytes ≡ Some (node_taking node c.args.at (spelled_by node.kind u c.args.news.now))) c.usable_of-usable.ensures.value
    (c.put_cells.ensures.put c.if-put_cells.true node (subst (λ (u : ℕ). node_of u (c.args.page == 1) c.args.bytes.now ≡ Some node) (sym c.usable_of-usable.ensures.value) shown))))
    c.settle_whole.ensures.settled

pub returns-clause-settled : goal.returns-clause-settled
returns-clause-settled g c = ok_says
    (λ (s : Vec (List ℕ) Global). (node : Node) → node_of (g.P.PagesTells.usable c.args.pages.now) (c.args.page == 1) c.put_cells.new.bytes ≡ Some node → (world : View) → g.P.PagesTells.tells c.settle_apart.new.pages world → g.P.PagesTells.neat c.args.pages.now world → (g.P.PagesTells.free c.args.pages.now world c.args.page → ⊥) → SettlesNode g.P.PagesTells c.args.pages.now c.args.page (node_taking node c.args.at (spelled_by node.kind (g.P.PagesTells.usable c.args.pages.now) c.args.news.now)) s.items c.settle_apart.new.pages world)
    (λ (s : Vec (List ℕ) Global). (node : Node) → node_of (g.P.PagesTells.usable c.args.pages.now) (c.args.page == 1) c.args.bytes.now ≡ Some node → (world : View) → g.P.PagesTells.tells c.settle_apart.new.pages world → g.P.PagesTells.neat c.args.pages.now world → (g.P.PagesTells.free c.args.pages.now world c.args.page → ⊥) → SettlesNode g.P.PagesTells c.args.pages.now c.args.page (node_taking node c.args.at (spelled_by node.kind (g.P.PagesTells.usable c.args.pages.now) c.args.news.now)) s.items c.settle_apart.new.pages world)
    c.settle_apart.result
    (λ siblings says node shown.
    says node (subst (λ (b : List ℕ). node_of (g.P.PagesTells.usable c.args.pages.now) (c.args.page == 1) b ≡ Some node) (sym (c.put_cells.ensures.same c.if-put_cells.false)) shown))
    c.settle_apart.ensures.settled

pub returns-clause-siblings : goal.returns-clause-siblings
returns-clause-siblings g c = ok_says
    (λ (s : Vec (List ℕ) Global). (node : Node) → node_of (g.P.PagesTells.usable c.args.pages.now) (c.args.page == 1) c.put_cells.new.bytes ≡ Some node → AreSiblings (g.P.PagesTells.usable c.args.pages.now) (g.P.PagesTells.last_page c.settle_apart.new.pages) node s.items)
    (λ (s : Vec (List ℕ) Global). (node : Node) → node_of (g.P.PagesTells.usable c.args.pages.now) (c.args.page == 1) c.args.bytes.now ≡ Some node → AreSiblings (g.P.PagesTells.usable c.args.pages.now) (g.P.PagesTells.last_page c.settle_apart.new.pages) node s.items)
    c.settle_apart.result
    (λ siblings says node shown.
    says node (subst (λ (b : List ℕ). node_of (g.P.PagesTells.usable c.args.pages.now) (c.args.page == 1) b ≡ Some node) (sym (c.put_cells.ensures.same c.if-put_cells.false)) shown))
    c.settle_apart.ensures.siblings

pub put_cells-requires-clause-shown : goal.put_cells-requires-clause-shown
put_cells-requires-clause-shown g c =
    let r = c.requires.shown in (
      r.0,
      subst (λ (u : ℕ). node_of u (c.args.page == 1) c.args.bytes.now ≡ Some r.0) (sym c.usable_of-usable.ensures.value) r.1,
      r.2.place,
      subst (λ (u : ℕ). All (IsOneCell r.0.kind u) c.args.news.now) (sym c.usable_of-usable.ensures.value) r.2.cells,
    )

pub put_cells-requires-clause-few : goal.put_cells-requires-clause-few
put_cells-requires-clause-few g c =
    let r = c.requires.shown in
    let few = take_few (is_leaf r.0.kind && is_table r.0.kind) (c.args.page == 1) (length c.args.news.now) r.2.few in
    omega (arith, few)

pub settle_apart-requires-clause-crowded : goal.settle_apart-requires-clause-crowded
settle_apart-requires-clause-crowded g c =
    let r = c.requires.shown in
    let shown = subst (λ (u : ℕ). node_of u (c.args.page == 1) c.args.bytes.now ≡ Some r.0) (sym c.usable_of-usable.ensures.value) r.1 in (
      r.0,
      subst (λ (b : List ℕ). node_of (g.P.PagesTells.usable c.args.pages.now) (c.args.page == 1) b ≡ Some r.0) (sym (c.put_cells.ensures.same c.if-put_cells.false)) r.1,
      crowded (g.P.PagesTells.usable c.args.pages.now) (c.args.page == 1) r.0 c.args.at c.args.news.now r.2
          (subst (λ (u : ℕ). free_of u (c.args.page == 1) r.0 < weight_of (spelled_by r.0.kind u c.args.news.now)) c.usable_of-usable.ensures.value (c.put_cells.ensures.lacks c.if-put_cells.false r.0 shown)),
    )

pub settle_whole-requires-clause-whole : goal.settle_whole-requires-clause-whole
settle_whole-requires-clause-whole g c = c.put_cells.ensures.rest.same_length ∙ c.requires.whole

pub settle_apart-requires-clause-whole : goal.settle_apart-requires-clause-whole
settle_apart-requires-clause-whole g c = c.put_cells.ensures.rest.same_length ∙ c.requires.whole
