use Rattle.std.proofs.Common.{ℕ, ◌==◌, sym, subst}
use Rattle.std.proofs.lemmas.Result.{on_ok_weaker, IfErr-weaker}
use Rattle.node_spec.specs.Kinds.{is_table}
use Rattle.page_form.specs.Reading.{Tells}
use Rattle.check_spec.specs.Walk.{leaf_places, rowid_places}
use Rattle.tree_check.proofs.Joining.{none_read, usable_since, both_visited, first_bars, second_bars, rowids_visited, rowids_bars}
use Rattle.tree_check.proofs.tree.visit_leaf.Goals as goal

pub visit_rowids-requires : goal.visit_rowids-requires
visit_rowids-requires g c =
    let told = c.requires.node in
    let visited = c.in-Ok.ensures.visited (c.args.page == 1) told.0 told.1 in
    record {
      read = (
        told.0,
        subst (λ (n : ℕ). Tells n (c.args.page == 1) c.args.bytes.now c.args.node.now told.0)
            (sym (usable_since g.P.PagesTells c.args.pages.now c.visit_payloads.new.pages c.args.walk.now c.visit_payloads.new.walk c.requires.suits c.in-Ok.ensures.reading visited.suits))
            told.1.tells,
      );
    }

pub returns-in-Err-clause-cause : goal.returns-in-Err-clause-cause
returns-in-Err-clause-cause g c = λ told shows.
    first_bars g.P.PagesTells c.args.pages.now c.visit_payloads.new.pages c.args.walk.now (leaf_places c.args.spot.now.schema told.cells)
    (rowid_places (is_table told.kind) c.args.spot.now c.args.page told.cells) c.in-Err.why c.requires.suits c.in-Err.ensures.reading
    (c.in-Err.ensures.cause (c.args.page == 1) told shows)

pub returns-clause-visited : goal.returns-clause-visited
returns-clause-visited g c =
    on_ok_weaker c.visit_rowids.result
    (λ order told shows.
    let now = c.visit_payloads.new.pages in
    let walk = c.visit_payloads.new.walk in
    let visited = c.in-Ok.ensures.visited (c.args.page == 1) told shows in
    let tells = subst (λ (n : ℕ). Tells n (c.args.page == 1) c.args.bytes.now c.args.node.now told)
    (sym (usable_since g.P.PagesTells c.args.pages.now now c.args.walk.now walk c.requires.suits c.in-Ok.ensures.reading visited.suits)) shows.tells in
    both_visited g.P.PagesTells c.args.pages.now now now c.args.walk.now walk walk (leaf_places c.args.spot.now.schema told.cells)
    (rowid_places (is_table told.kind) c.args.spot.now c.args.page told.cells) c.requires.suits c.in-Ok.ensures.reading (none_read g.P.PagesTells now walk visited.suits) visited
    (rowids_visited g.P.PagesTells now walk (is_table told.kind) c.args.spot.now c.args.page told.cells visited.suits (order told tells)))
    c.visit_rowids.ensures.order

pub returns-clause-cause : goal.returns-clause-cause
returns-clause-cause g c =
    IfErr-weaker c.visit_rowids.result _ _
    (λ why bars told shows.
    let now = c.visit_payloads.new.pages in
    let walk = c.visit_payloads.new.walk in
    let visited = c.in-Ok.ensures.visited (c.args.page == 1) told shows in
    let tells = subst (λ (n : ℕ). Tells n (c.args.page == 1) c.args.bytes.now c.args.node.now told)
    (sym (usable_since g.P.PagesTells c.args.pages.now now c.args.walk.now walk c.requires.suits c.in-Ok.ensures.reading visited.suits)) shows.tells in
    let breaks = bars.2 told tells in
    second_bars g.P.PagesTells c.args.pages.now now now c.args.walk.now walk (leaf_places c.args.spot.now.schema told.cells)
    (rowid_places (is_table told.kind) c.args.spot.now c.args.page told.cells) why c.requires.suits c.in-Ok.ensures.reading (none_read g.P.PagesTells now walk visited.suits) visited
    (rowids_bars g.P.PagesTells now walk (is_table told.kind) c.args.spot.now c.args.page bars.0 told.cells why bars.1 breaks.0 breaks.1))
    c.visit_rowids.ensures.cause
