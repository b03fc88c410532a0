use Rattle.std.proofs.Common.{◌==◌, ◌+◌, ◌≤◌, ℕ, sym, subst}
use Rattle.std.specs.Prelude.{All}
use Rattle.node_spec.specs.declared.kinds.Kind.{Kind}
use Rattle.node_spec.specs.Kinds.{pointers_at}
use Rattle.node_spec.specs.Cells.{IsOneCell}
use Rattle.node_edit.specs.Runs.{weight_of, spelled_by}
use Rattle.tree_edit.specs.Roots.{inner_kind}
use Rattle.tree_edit.proofs.Rooted.{inner_shows}
use Rattle.tree_edit.proofs.Sizes.{room_inner}
use Rattle.tree_edit.proofs.rooting.lead_to.Goals as goal

pub start_inner-requires-clause-room : goal.start_inner-requires-clause-room
start_inner-requires-clause-room g c =
    let u = c.usable_of.result in
    subst (λ (k : Kind). pointers_at (c.args.root == 1) k + weight_of (spelled_by k u c.args.news.now) ≤ u) (sym c.kind_inside-kind.ensures)
    (room_inner c.args.table (c.args.root == 1) u c.args.news.now c.usable_of.ensures.least c.requires.few
    (subst (λ (v : ℕ). All (IsOneCell (inner_kind c.args.table) v) c.args.news.now) (sym c.usable_of.ensures.value) c.requires.cells))

pub returns-clause-shows : goal.returns-clause-shows
returns-clause-shows g c =
    inner_shows c.args.table (c.args.root == 1) c.usable_of.result (g.P.PagesTells.usable c.args.pages.now) c.kind_inside-kind.result c.start_inner.new.bytes c.args.news.now c.args.child
    c.usable_of.ensures.value c.kind_inside-kind.ensures c.start_inner.ensures.shows
