-- A page with all that is under it: its node, its cells with their children, and its right child.
use Rattle.std.proofs.Common.{rules, ◌≡◌, ℕ, ℤ, w64, to_z, of_z, ◌+◌, ◌-◌, ◌*◌, ◌<◌, ◌≤◌, ◌==◌, Bool, true, false, List, ◌++◌, length, take, refl, sym, subst, ap, ◌∙◌, arith}
use Rattle.std.proofs.lemmas.Int.{to_z-of_z, ints}
use Rattle.std.proofs.lemmas.Result.{on_ok_weaker, IfErr-weaker}
use Rattle.node_spec.specs.Kinds.{is_leaf, is_table}
use Rattle.node_spec.specs.Cells.{NodeCell}
use Rattle.check_spec.specs.declared.spot.Spot.{Spot}
use Rattle.node_spec.specs.Nodes.{Node, cell_at}
use Rattle.check_spec.specs.Walk.{rowid_places, inner_places, child_spot, payload_places}
use Rattle.tree_check.specs.declared.walk.Walk.{Walk}
use Rattle.tree_check.specs.Visiting.{node_place, HasVisitedNode, BarsEntered, ShowsNode, ShowsCell, rowid_then, cell_places}
use Rattle.tree_check.proofs.Entered.{enter_bars, entered_visits, entered_bars, node_bars, node_visits_as, node_bars_as, node_suits, node_is, node_shows}
use Rattle.tree_check.proofs.Joining.{none_read, read_both, last_since, size_since, both_visited, first_bars, second_bars, rowids_visited, rowids_bars}
use Rattle.tree_check.proofs.Levels.{level_rest, level_one, same_room}
use Rattle.tree_check.proofs.Treeing.{shows_cell, children_more, children_bar, children_end, right_bars, child_place, child_is, places_index, places_child, visited_at, bars_at, right_range, left_range, child_room, child_level}
use Rattle.tree_check.proofs.tree.+trees.Goals as goal

-- a child

pub visit_child-returns-in-Err-clause-cause : goal.visit_child-returns-in-Err-clause-cause
visit_child-returns-in-Err-clause-cause g t c =
    enter_bars g.P.PagesTells c.args.pages.now c.enter.new.pages c.args.walk.now c.args.spot c.args.page c.in-Err.why c.in-Err.ensures.cause

pub visit_child-returns-clause-visited : goal.visit_child-returns-clause-visited
visit_child-returns-clause-visited g t c =
    on_ok_weaker c.visit.result
    (λ visited.
    entered_visits g.P.PagesTells c.args.pages.now c.enter.new.pages c.visit.new.pages c.args.walk.now c.enter.new.walk c.visit.new.walk c.args.spot c.args.page
    (take c.args.walk.now.page_size c.enter.new.bufs) c.in-Ok.ensures.reading c.visit.ensures.reading c.in-Ok.ensures.entered
    (subst (λ (n : ℕ). HasVisitedNode g.P.PagesTells c.enter.new.pages c.enter.new.walk c.args.spot c.args.page (take n c.enter.new.bufs) c.visit.new.pages c.visit.new.walk)
    (ap (λ (w : Walk). w.page_size) c.in-Ok.ensures.entered.met.same) visited))
    c.visit.ensures.visited

pub visit_child-returns-clause-cause : goal.visit_child-returns-clause-cause
visit_child-returns-clause-cause g t c =
    IfErr-weaker c.visit.result _ _
    (λ why bars.
    entered_bars g.P.PagesTells c.args.pages.now c.enter.new.pages c.visit.new.pages c.args.walk.now c.enter.new.walk c.args.spot c.args.page
    (take c.args.walk.now.page_size c.enter.new.bufs) why c.in-Ok.ensures.reading c.visit.ensures.reading c.in-Ok.ensures.entered
    (subst (λ (n : ℕ). BarsEntered g.P.PagesTells c.enter.new.pages c.visit.new.pages c.enter.new.walk c.args.spot c.args.page (take n c.enter.new.bufs) why)
    (ap (λ (w : Walk). w.page_size) c.in-Ok.ensures.entered.met.same) bars))
    c.visit.ensures.cause

-- a page

-- rowids, and then children

pub visit_inner-returns-in-Err-clause-cause : goal.visit_inner-returns-in-Err-clause-cause
visit_inner-returns-in-Err-clause-cause g t c = λ told shows.
    let at = c.args.pages.now in
    let walk = c.args.walk.now in
    let bars = c.in-Err.ensures.cause in
    let breaks = bars.2 told shows.tells in
    first_bars g.P.PagesTells at at walk (rowid_places (is_table told.kind) c.args.spot.now c.args.page told.cells)
    (inner_places c.args.spot.now (is_table told.kind) c.args.spot.now.before told.cells told.right) c.in-Err.why c.requires.suits (none_read g.P.PagesTells at walk c.requires.suits)
    (rowids_bars g.P.PagesTells at walk (is_table told.kind) c.args.spot.now c.args.page bars.0 told.cells c.in-Err.why bars.1 breaks.0 breaks.1)

pub visit_inner-returns-clause-visited : goal.visit_inner-returns-clause-visited
visit_inner-returns-clause-visited g t c =
    on_ok_weaker c.visit_children.result
    (λ visited told shows.
    let at = c.args.pages.now in
    let walk = c.args.walk.now in
    both_visited g.P.PagesTells at at c.visit_children.new.pages walk walk c.visit_children.new.walk
    (rowid_places (is_table told.kind) c.args.spot.now c.args.page told.cells)
    (inner_places c.args.spot.now (is_table told.kind) c.args.spot.now.before told.cells told.right) c.requires.suits (none_read g.P.PagesTells at walk c.requires.suits)
    c.visit_children.ensures.reading
    (rowids_visited g.P.PagesTells at walk (is_table told.kind) c.args.spot.now c.args.page told.cells c.requires.suits (c.in-Ok.ensures.order told shows.tells))
    (visited (c.args.page == 1) told shows))
    c.visit_children.ensures.visited

pub visit_inner-returns-clause-cause : goal.visit_inner-returns-clause-cause
visit_inner-returns-clause-cause g t c =
    IfErr-weaker c.visit_children.result _ _
    (λ why bars told shows.
    let at = c.args.pages.now in
    let walk = c.args.walk.now in
    second_bars g.P.PagesTells at at c.visit_children.new.pages walk walk
    (rowid_places (is_table told.kind) c.args.spot.now c.args.page told.cells)
    (inner_places c.args.spot.now (is_table told.kind) c.args.spot.now.before told.cells told.right) why c.requires.suits (none_read g.P.PagesTells at walk c.requires.suits)
    c.visit_children.ensures.reading
    (rowids_visited g.P.PagesTells at walk (is_table told.kind) c.args.spot.now c.args.page told.cells c.requires.suits (c.in-Ok.ensures.order told shows.tells))
    (bars (c.args.page == 1) told shows))
    c.visit_children.ensures.cause

-- the cells of a page

pub visit_children-returns-in-Err-clause-cause : goal.visit_children-returns-in-Err-clause-cause
visit_children-returns-in-Err-clause-cause g t c = λ first told shows.
    let met = c.loop-k.invariant in
    let less : c.loop-k.k < length told.cells = omega (arith, c.loop-k-test.true, c.len-k-end.ensures, shows.tells.count) in
    let cell = shows_cell c.args.walk.now.usable c.args.walk.now.last c.loop-k.walk.last first c.args.bytes.now c.args.node.now told c.read_cell-cell.result c.loop-k.k
    (last_since g.P.PagesTells c.args.pages.now c.loop-k.pages c.args.walk.now c.loop-k.walk c.requires.suits met.reading met.suits) shows less
    (c.read_cell-cell.ensures told (record { first = first; tells = shows.tells })) in
    children_bar g.P.PagesTells c.args.pages.now c.loop-k.pages c.visit_cell.new.pages c.args.walk.now c.loop-k.walk c.args.spot.now c.args.node.now.kind told c.loop-k.k c.loop-k.before
    c.in-Err.why met.reading c.in-Err.ensures.reading less shows.tells.kind (met.walks first told shows) (c.in-Err.ensures.cause (cell_at told c.loop-k.k) cell)

pub visit_children-loop-k-preserved : goal.visit_children-loop-k-preserved
visit_children-loop-k-preserved g t c =
    let met = c.loop-k.invariant in
    let same = last_since g.P.PagesTells c.args.pages.now c.loop-k.pages c.args.walk.now c.loop-k.walk c.requires.suits met.reading met.suits in
    let here : (first : Bool) (told : Node) → ShowsNode c.args.walk.now.usable c.args.walk.now.last first c.args.bytes.now c.args.node.now told
    → (c.loop-k.k < length told.cells) × ShowsCell c.loop-k.walk.last c.args.node.now.kind c.args.bytes.now c.read_cell-cell.result (cell_at told c.loop-k.k) =
    λ first told shows.
    let less : c.loop-k.k < length told.cells = omega (arith, c.loop-k-test.true, c.len-k-end.ensures, shows.tells.count) in (
      less,
      shows_cell c.args.walk.now.usable c.args.walk.now.last c.loop-k.walk.last first c.args.bytes.now c.args.node.now told c.read_cell-cell.result c.loop-k.k same shows less
          (c.read_cell-cell.ensures told (record { first = first; tells = shows.tells })),
    ) in
    let node = c.requires.node in
    record {
      reading = read_both g.P.PagesTells c.args.pages.now c.loop-k.pages c.visit_cell.new.pages met.reading c.in-Ok.ensures.reading;
      suits = (c.in-Ok.ensures.visited (cell_at node.1.0 c.loop-k.k) (here node.0 node.1.0 node.1.1).1).suits;
      room = c.in-Ok.ensures.room ∙ met.room;
      walks = λ first told shows.
          let cell = here first told shows in
          let rowid : to_z w64 (of_z w64 c.read_cell-cell.result.rowid) ≡ (cell_at told c.loop-k.k).rowid =
          to_z-of_z w64 c.read_cell-cell.result.rowid (omega (arith, ints)) ∙ cell.1.tells.rowid in
          let table : c.is_table-table.result ≡ is_table told.kind = c.is_table-table.ensures ∙ ap (λ kind. is_table kind) shows.tells.kind in
          children_more g.P.PagesTells c.args.pages.now c.loop-k.pages c.visit_cell.new.pages c.args.walk.now c.loop-k.walk c.visit_cell.new.walk c.args.spot.now c.args.node.now.kind told
          c.loop-k.k c.loop-k.before c.rowid_then-before.result met.reading c.in-Ok.ensures.reading cell.0 shows.tells.kind
          (c.rowid_then-before.ensures ∙ ap (λ (n : ℤ). rowid_then c.is_table-table.result c.loop-k.before n) rowid
          ∙ ap (λ (b : Bool). rowid_then b c.loop-k.before (cell_at told c.loop-k.k).rowid) table)
          (met.walks first told shows) (c.in-Ok.ensures.visited (cell_at told c.loop-k.k) cell.1);
    }

pub visit_children-returns-clause-visited : goal.visit_children-returns-clause-visited
visit_children-returns-clause-visited g t c =
    on_ok_weaker c.visit_child.result
    (λ visited first told shows.
    let met = c.loop-k.invariant in
    children_end g.P.PagesTells c.args.pages.now c.loop-k.pages c.visit_child.new.pages c.args.walk.now c.loop-k.walk c.visit_child.new.walk c.args.spot.now c.is_table-table.result told
    c.loop-k.k c.args.node.now.right c.loop-k.before met.reading c.visit_child.ensures.reading
    (omega (arith, c.loop-k-test.false, c.len-k-end.ensures, shows.tells.count))
    (c.is_table-table.ensures ∙ ap (λ kind. is_table kind) shows.tells.kind) shows.tells.right (met.walks first told shows)
    (visited_at g.P.PagesTells c.loop-k.pages c.visit_child.new.pages c.loop-k.walk c.visit_child.new.walk (node_place c.child_spot-child.result c.args.node.now.right)
    (node_place (child_spot c.args.spot.now c.is_table-table.result c.loop-k.before c.args.spot.now.bound) c.args.node.now.right)
    (ap (λ s. node_place s c.args.node.now.right) c.child_spot-child.ensures) visited))
    c.visit_child.ensures.visited

pub visit_children-returns-clause-cause : goal.visit_children-returns-clause-cause
visit_children-returns-clause-cause g t c =
    IfErr-weaker c.visit_child.result _ _
    (λ why bars first told shows.
    let met = c.loop-k.invariant in
    right_bars g.P.PagesTells c.args.pages.now c.loop-k.pages c.visit_child.new.pages c.args.walk.now c.loop-k.walk c.args.spot.now c.is_table-table.result told
    c.loop-k.k c.args.node.now.right c.loop-k.before why met.reading c.visit_child.ensures.reading
    (omega (arith, c.loop-k-test.false, c.len-k-end.ensures, shows.tells.count))
    (c.is_table-table.ensures ∙ ap (λ kind. is_table kind) shows.tells.kind) shows.tells.right (met.walks first told shows)
    (bars_at g.P.PagesTells c.loop-k.pages c.visit_child.new.pages c.loop-k.walk (node_place c.child_spot-child.result c.args.node.now.right)
    (node_place (child_spot c.args.spot.now c.is_table-table.result c.loop-k.before c.args.spot.now.bound) c.args.node.now.right) why
    (ap (λ s. node_place s c.args.node.now.right) c.child_spot-child.ensures) bars))
    c.visit_child.ensures.cause

pub visit_children-visit_cell-requires : goal.visit_children-visit_cell-requires
visit_children-visit_cell-requires g t c κs within =
    let first = c.requires.node.0 in
    let told = c.requires.node.1.0 in
    let shows = c.requires.node.1.1 in
    let met = c.loop-k.invariant in
    let less : c.loop-k.k < length told.cells = omega (arith, c.loop-k-test.true, c.len-k-end.ensures, shows.tells.count) in
    let cell : ShowsCell c.loop-k.walk.last c.args.node.now.kind c.args.bytes.now c.read_cell-cell.result (cell_at told c.loop-k.k) =
    shows_cell c.args.walk.now.usable c.args.walk.now.last c.loop-k.walk.last first c.args.bytes.now c.args.node.now told c.read_cell-cell.result c.loop-k.k
    (last_since g.P.PagesTells c.args.pages.now c.loop-k.pages c.args.walk.now c.loop-k.walk c.requires.suits met.reading met.suits) shows less
    (c.read_cell-cell.ensures told (record { first = first; tells = shows.tells })) in
    let room : (41 - c.args.spot.now.level) * c.loop-k.walk.page_size ≤ length c.loop-k.below =
    same_room (41 - c.args.spot.now.level) c.args.walk.now.page_size c.loop-k.walk.page_size (length c.args.below.now) (length c.loop-k.below)
    (size_since g.P.PagesTells c.args.pages.now c.loop-k.pages c.args.walk.now c.loop-k.walk c.requires.suits met.reading met.suits) met.room c.requires.room in
    let some : (told : NodeCell) × ShowsCell c.loop-k.walk.last c.args.node.now.kind c.args.bytes.now c.read_cell-cell.result told = (cell_at told c.loop-k.k, cell) in
    let suits = met.suits in
    search rules

pub visit_children-visit_child-requires : goal.visit_children-visit_child-requires
visit_children-visit_child-requires g t c κs within =
    let met = c.loop-k.invariant in
    let page : (1 ≤ c.args.node.now.right) × (c.args.node.now.right ≤ c.loop-k.walk.last) =
    right_range c.args.walk.now.usable c.args.walk.now.last c.loop-k.walk.last c.requires.node.0 c.args.bytes.now c.args.node.now c.requires.node.1.0
    (last_since g.P.PagesTells c.args.pages.now c.loop-k.pages c.args.walk.now c.loop-k.walk c.requires.suits met.reading met.suits) c.requires.inner c.requires.node.1.1 in
    let level : c.child_spot-child.result.level ≤ 41 =
    child_level c.args.spot.now c.child_spot-child.result c.is_table-table.result c.loop-k.before c.args.spot.now.bound c.child_spot-child.ensures c.requires.level in
    let room : (42 - c.child_spot-child.result.level) * c.loop-k.walk.page_size ≤ length c.loop-k.below =
    child_room c.args.spot.now c.child_spot-child.result c.is_table-table.result c.loop-k.before c.args.spot.now.bound c.args.walk.now.page_size c.loop-k.walk.page_size
    (length c.args.below.now) (length c.loop-k.below) c.child_spot-child.ensures
    (size_since g.P.PagesTells c.args.pages.now c.loop-k.pages c.args.walk.now c.loop-k.walk c.requires.suits met.reading met.suits) met.room c.requires.room in
    let deeper : c.child_spot-child.result.level ≡ c.args.spot.now.level + 1 = ap (λ (s : Spot). s.level) c.child_spot-child.ensures in
    let falls : 5 * (42 - c.child_spot-child.result.level) + 4 < 5 * (42 - c.args.spot.now.level) + 1 = omega (arith, deeper, c.requires.level) in
    let suits = met.suits in
    search rules

-- a cell

pub visit_cell-visit_child-requires : goal.visit_cell-visit_child-requires
visit_cell-visit_child-requires g t c κs within =
    let page : (1 ≤ c.args.cell.now.left) × (c.args.cell.now.left ≤ c.args.walk.now.last) =
    left_range c.args.walk.now.last c.args.kind c.args.bytes.now c.args.cell.now c.requires.cell.0 c.requires.inner c.requires.cell.1 in
    let level : c.child_spot-child.result.level ≤ 41 =
    child_level c.args.spot.now c.child_spot-child.result c.is_table-table.result c.args.before c.rowid_then-bound.result c.child_spot-child.ensures c.requires.level in
    let room : (42 - c.child_spot-child.result.level) * c.args.walk.now.page_size ≤ length c.args.below.now =
    child_room c.args.spot.now c.child_spot-child.result c.is_table-table.result c.args.before c.rowid_then-bound.result c.args.walk.now.page_size c.args.walk.now.page_size
    (length c.args.below.now) (length c.args.below.now) c.child_spot-child.ensures refl refl c.requires.room in
    let deeper : c.child_spot-child.result.level ≡ c.args.spot.now.level + 1 = ap (λ (s : Spot). s.level) c.child_spot-child.ensures in
    let falls : 5 * (42 - c.child_spot-child.result.level) + 4 < 5 * (42 - c.args.spot.now.level) = omega (arith, deeper, c.requires.level) in
    search rules

pub visit_cell-returns-in-Err-clause-cause : goal.visit_cell-returns-in-Err-clause-cause
visit_cell-returns-in-Err-clause-cause g t c = λ told shows.
    let rowid : to_z w64 (of_z w64 c.args.cell.now.rowid) ≡ told.rowid = to_z-of_z w64 c.args.cell.now.rowid (omega (arith, ints)) ∙ shows.tells.rowid in
    let is = child_is c.args.spot.now c.child_spot-child.result c.args.kind c.is_table-table.result c.args.before c.rowid_then-bound.result
    (to_z w64 (of_z w64 c.args.cell.now.rowid)) c.args.cell.now.left told c.is_table-table.ensures rowid shows.tells.left c.rowid_then-bound.ensures c.child_spot-child.ensures in
    let others = places_child c.args.spot.now (is_table c.args.kind) c.args.before told in
    let child = child_place c.args.spot.now (is_table c.args.kind) c.args.before told in
    bars_at g.P.PagesTells c.args.pages.now c.visit_child.new.pages c.args.walk.now (child ++ others.0) (cell_places c.args.spot.now (is_table c.args.kind) c.args.before told)
    c.in-Err.why others.1
    (first_bars g.P.PagesTells c.args.pages.now c.visit_child.new.pages c.args.walk.now child others.0 c.in-Err.why c.requires.suits c.in-Err.ensures.reading
    (bars_at g.P.PagesTells c.args.pages.now c.visit_child.new.pages c.args.walk.now (node_place c.child_spot-child.result c.args.cell.now.left) child c.in-Err.why is
    c.in-Err.ensures.cause))

pub visit_cell-returns-clause-visited : goal.visit_cell-returns-clause-visited
visit_cell-returns-clause-visited g t c =
    on_ok_weaker c.visit_payload.result
    (λ visited told shows.
    let rowid : to_z w64 (of_z w64 c.args.cell.now.rowid) ≡ told.rowid = to_z-of_z w64 c.args.cell.now.rowid (omega (arith, ints)) ∙ shows.tells.rowid in
    let is = child_is c.args.spot.now c.child_spot-child.result c.args.kind c.is_table-table.result c.args.before c.rowid_then-bound.result
    (to_z w64 (of_z w64 c.args.cell.now.rowid)) c.args.cell.now.left told c.is_table-table.ensures rowid shows.tells.left c.rowid_then-bound.ensures c.child_spot-child.ensures in
    let child = child_place c.args.spot.now (is_table c.args.kind) c.args.before told in
    let now = c.visit_child.new.pages in
    let walk = c.visit_child.new.walk in
    let last = last_since g.P.PagesTells c.args.pages.now now c.args.walk.now walk c.requires.suits c.in-Ok.ensures.reading c.in-Ok.ensures.visited.suits in
    visited_at g.P.PagesTells c.args.pages.now c.visit_payload.new.pages c.args.walk.now c.visit_payload.new.walk (child ++ payload_places false told)
    (cell_places c.args.spot.now (is_table c.args.kind) c.args.before told)
    (places_index c.args.spot.now (is_table c.args.kind) c.args.before told (sym c.is_table-table.ensures ∙ c.if-table.false))
    (both_visited g.P.PagesTells c.args.pages.now now c.visit_payload.new.pages c.args.walk.now walk c.visit_payload.new.walk child (payload_places false told) c.requires.suits
    c.in-Ok.ensures.reading c.visit_payload.ensures.reading
    (visited_at g.P.PagesTells c.args.pages.now now c.args.walk.now walk (node_place c.child_spot-child.result c.args.cell.now.left) child is c.in-Ok.ensures.visited)
    (visited told (subst (λ (n : ℕ). ShowsCell n c.args.kind c.args.bytes.now c.args.cell.now told) (sym last) shows))))
    c.visit_payload.ensures.visited

pub visit_cell-returns-clause-cause : goal.visit_cell-returns-clause-cause
visit_cell-returns-clause-cause g t c =
    IfErr-weaker c.visit_payload.result _ _
    (λ why bars told shows.
    let rowid : to_z w64 (of_z w64 c.args.cell.now.rowid) ≡ told.rowid = to_z-of_z w64 c.args.cell.now.rowid (omega (arith, ints)) ∙ shows.tells.rowid in
    let is = child_is c.args.spot.now c.child_spot-child.result c.args.kind c.is_table-table.result c.args.before c.rowid_then-bound.result
    (to_z w64 (of_z w64 c.args.cell.now.rowid)) c.args.cell.now.left told c.is_table-table.ensures rowid shows.tells.left c.rowid_then-bound.ensures c.child_spot-child.ensures in
    let child = child_place c.args.spot.now (is_table c.args.kind) c.args.before told in
    let now = c.visit_child.new.pages in
    let walk = c.visit_child.new.walk in
    let last = last_since g.P.PagesTells c.args.pages.now now c.args.walk.now walk c.requires.suits c.in-Ok.ensures.reading c.in-Ok.ensures.visited.suits in
    bars_at g.P.PagesTells c.args.pages.now c.visit_payload.new.pages c.args.walk.now (child ++ payload_places false told)
    (cell_places c.args.spot.now (is_table c.args.kind) c.args.before told) why
    (places_index c.args.spot.now (is_table c.args.kind) c.args.before told (sym c.is_table-table.ensures ∙ c.if-table.false))
    (second_bars g.P.PagesTells c.args.pages.now now c.visit_payload.new.pages c.args.walk.now walk child (payload_places false told) why c.requires.suits
    c.in-Ok.ensures.reading c.visit_payload.ensures.reading
    (visited_at g.P.PagesTells c.args.pages.now now c.args.walk.now walk (node_place c.child_spot-child.result c.args.cell.now.left) child is c.in-Ok.ensures.visited)
    (bars told (subst (λ (n : ℕ). ShowsCell n c.args.kind c.args.bytes.now c.args.cell.now told) (sym last) shows))))
    c.visit_payload.ensures.cause

pub visit_cell-returns-clause-reading : goal.visit_cell-returns-clause-reading
visit_cell-returns-clause-reading g t c =
    read_both g.P.PagesTells c.args.pages.now c.visit_child.new.pages c.visit_payload.new.pages c.in-Ok.ensures.reading c.visit_payload.ensures.reading

-- what an interior page leads to

pub visit_inner-visit_children-requires : goal.visit_inner-visit_children-requires
visit_inner-visit_children-requires g t c κs within =
    let node : (first : Bool) × ((told : Node) × ShowsNode c.args.walk.now.usable c.args.walk.now.last first c.args.bytes.now c.args.node.now told) =
    (c.args.page == 1, c.requires.node) in
    search rules

-- a page

pub visit-returns-in-Err-clause-cause : goal.visit-returns-in-Err-clause-cause
visit-returns-in-Err-clause-cause g t c =
    subst (λ (b : List ℕ). BarsEntered g.P.PagesTells c.args.pages.now c.args.pages.now c.args.walk.now c.args.spot c.args.page b c.in-Err.why) c.split_at_mut-buf.ensures.front
    (node_bars g.P.PagesTells c.args.pages.now c.args.walk.now c.args.spot c.args.page c.split_at_mut-buf.result.0.now c.in-Err.why c.requires.suits c.in-Err.ensures.cause)

pub visit-visit_leaf-requires-clause-suits : goal.visit-visit_leaf-requires-clause-suits
visit-visit_leaf-requires-clause-suits g t c =
    node_suits g.P.PagesTells c.args.pages.now c.args.walk.now c.node_in.new.walk c.args.spot c.args.page c.split_at_mut-buf.result.0.now c.in-Ok.node c.requires.suits c.in-Ok.ensures.node

pub visit-visit_leaf-requires-clause-node : goal.visit-visit_leaf-requires-clause-node
visit-visit_leaf-requires-clause-node g t c =
    (c.in-Ok.ensures.node.told, node_shows c.args.walk.now c.node_in.new.walk c.args.spot c.args.page c.split_at_mut-buf.result.0.now c.in-Ok.node c.in-Ok.ensures.node)

pub visit-visit_leaf-requires-clause-room : goal.visit-visit_leaf-requires-clause-room
visit-visit_leaf-requires-clause-room g t c =
    let node = c.in-Ok.ensures.node in
    let fits = node_is c.args.walk.now c.node_in.new.walk c.args.spot c.args.page c.split_at_mut-buf.result.0.now c.in-Ok.node node in
    let size : c.node_in.new.walk.page_size ≡ c.args.walk.now.page_size = ap (λ (w : Walk). w.page_size) node.same in
    let rest = level_rest c.args.spot.level c.args.walk.now.page_size (length c.args.bufs.now) (length c.split_at_mut-buf.result.1.now) c.requires.level c.requires.room
    c.split_at_mut-buf.ensures.back_len in
    omega (arith, size, level_one c.args.spot.level c.args.walk.now.page_size (length c.split_at_mut-buf.result.1.now) fits.low rest)

pub visit-returns-then-is_leaf-clause-visited : goal.visit-returns-then-is_leaf-clause-visited
visit-returns-then-is_leaf-clause-visited g t c =
    on_ok_weaker c.visit_leaf.result
    (λ visited.
    let node = c.in-Ok.ensures.node in
    subst (λ (b : List ℕ). HasVisitedNode g.P.PagesTells c.args.pages.now c.args.walk.now c.args.spot c.args.page b c.visit_leaf.new.pages c.visit_leaf.new.walk)
    c.split_at_mut-buf.ensures.front
    (node_visits_as g.P.PagesTells c.args.pages.now c.visit_leaf.new.pages c.args.walk.now c.node_in.new.walk c.visit_leaf.new.walk c.args.spot c.args.page
    c.split_at_mut-buf.result.0.now c.in-Ok.node true c.requires.suits node (sym c.is_leaf.ensures ∙ c.if-is_leaf.true)
    (visited node.told (node_shows c.args.walk.now c.node_in.new.walk c.args.spot c.args.page c.split_at_mut-buf.result.0.now c.in-Ok.node node))))
    c.visit_leaf.ensures.visited

pub visit-returns-then-is_leaf-clause-cause : goal.visit-returns-then-is_leaf-clause-cause
visit-returns-then-is_leaf-clause-cause g t c =
    IfErr-weaker c.visit_leaf.result _ _
    (λ why bars.
    let node = c.in-Ok.ensures.node in
    subst (λ (b : List ℕ). BarsEntered g.P.PagesTells c.args.pages.now c.visit_leaf.new.pages c.args.walk.now c.args.spot c.args.page b why)
    c.split_at_mut-buf.ensures.front
    (node_bars_as g.P.PagesTells c.args.pages.now c.visit_leaf.new.pages c.args.walk.now c.node_in.new.walk c.args.spot c.args.page
    c.split_at_mut-buf.result.0.now c.in-Ok.node true why c.requires.suits node (sym c.is_leaf.ensures ∙ c.if-is_leaf.true)
    (bars node.told (node_shows c.args.walk.now c.node_in.new.walk c.args.spot c.args.page c.split_at_mut-buf.result.0.now c.in-Ok.node node))))
    c.visit_leaf.ensures.cause

pub visit-visit_inner-requires : goal.visit-visit_inner-requires
visit-visit_inner-requires g t c κs within =
    let node = c.in-Ok.ensures.node in
    let fits = node_is c.args.walk.now c.node_in.new.walk c.args.spot c.args.page c.split_at_mut-buf.result.0.now c.in-Ok.node node in
    let size : c.node_in.new.walk.page_size ≡ c.args.walk.now.page_size = ap (λ (w : Walk). w.page_size) node.same in
    let rest = level_rest c.args.spot.level c.args.walk.now.page_size (length c.args.bufs.now) (length c.split_at_mut-buf.result.1.now) c.requires.level c.requires.room
    c.split_at_mut-buf.ensures.back_len in
    let room : (41 - c.args.spot.level) * c.node_in.new.walk.page_size ≤ length c.split_at_mut-buf.result.1.now =
    same_room (41 - c.args.spot.level) c.args.walk.now.page_size c.node_in.new.walk.page_size (length c.split_at_mut-buf.result.1.now)
    (length c.split_at_mut-buf.result.1.now) size refl rest in
    let suits = node_suits g.P.PagesTells c.args.pages.now c.args.walk.now c.node_in.new.walk c.args.spot c.args.page c.split_at_mut-buf.result.0.now c.in-Ok.node c.requires.suits node in
    let inner : is_leaf c.in-Ok.node.kind ≡ false = sym c.is_leaf.ensures ∙ c.if-is_leaf.false in
    let some : (told : Node) × ShowsNode c.node_in.new.walk.usable c.node_in.new.walk.last (c.args.page == 1) c.split_at_mut-buf.result.0.now c.in-Ok.node told =
    (node.told, node_shows c.args.walk.now c.node_in.new.walk c.args.spot c.args.page c.split_at_mut-buf.result.0.now c.in-Ok.node node) in
    let level : c.args.spot.level ≤ 40 = fits.low in
    search rules

pub visit-returns-clause-visited : goal.visit-returns-clause-visited
visit-returns-clause-visited g t c =
    on_ok_weaker c.visit_inner.result
    (λ visited.
    let node = c.in-Ok.ensures.node in
    subst (λ (b : List ℕ). HasVisitedNode g.P.PagesTells c.args.pages.now c.args.walk.now c.args.spot c.args.page b c.visit_inner.new.pages c.visit_inner.new.walk)
    c.split_at_mut-buf.ensures.front
    (node_visits_as g.P.PagesTells c.args.pages.now c.visit_inner.new.pages c.args.walk.now c.node_in.new.walk c.visit_inner.new.walk c.args.spot c.args.page
    c.split_at_mut-buf.result.0.now c.in-Ok.node false c.requires.suits node (sym c.is_leaf.ensures ∙ c.if-is_leaf.false)
    (visited node.told (node_shows c.args.walk.now c.node_in.new.walk c.args.spot c.args.page c.split_at_mut-buf.result.0.now c.in-Ok.node node))))
    c.visit_inner.ensures.visited

pub visit-returns-clause-cause : goal.visit-returns-clause-cause
visit-returns-clause-cause g t c =
    IfErr-weaker c.visit_inner.result _ _
    (λ why bars.
    let node = c.in-Ok.ensures.node in
    subst (λ (b : List ℕ). BarsEntered g.P.PagesTells c.args.pages.now c.visit_inner.new.pages c.args.walk.now c.args.spot c.args.page b why)
    c.split_at_mut-buf.ensures.front
    (node_bars_as g.P.PagesTells c.args.pages.now c.visit_inner.new.pages c.args.walk.now c.node_in.new.walk c.args.spot c.args.page
    c.split_at_mut-buf.result.0.now c.in-Ok.node false why c.requires.suits node (sym c.is_leaf.ensures ∙ c.if-is_leaf.false)
    (bars node.told (node_shows c.args.walk.now c.node_in.new.walk c.args.spot c.args.page c.split_at_mut-buf.result.0.now c.in-Ok.node node))))
    c.visit_inner.ensures.cause
