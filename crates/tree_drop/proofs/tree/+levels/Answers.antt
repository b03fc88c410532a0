-- A page with all that it leads to.
use Rattle.std.proofs.Common.{◌≡◌, ℕ, ◌+◌, ◌≤◌, ◌<◌, ◌==◌, true, false, length, drop, refl, sym, subst, ap, ◌∙◌, arith}
use Rattle.std.proofs.lemmas.Result.{on_ok_weaker, IfErr-weaker}
use Rattle.page_face.proofs.PageLaws.{editing_join, reading_same}
use Rattle.node_spec.specs.Kinds.{is_leaf}
use Rattle.node_spec.specs.Nodes.{cell_at}
use Rattle.page_form.specs.Reading.{Tells, IsReadPage}
use Rattle.tree_drop.specs.Parts.{BarsOn, DropsOn, IsTreePart, IsChildPart, IsBelow, AreUnderCells, IsUnderCell, IsOwnChain, HasChain, HaveChains}
use Rattle.tree_drop.proofs.Steps.{Nothing, IsPageAlone, whole_split, begun, begun_read, goes_on, left_as, all_gone, bars_next, drops_as, bars_as, drops_page, page_local}
use Rattle.tree_drop.proofs.Parts.{IsPageWithNode, part_whole, whole_split_page, below_local, below_leaf, below_inner, bars_node, child_part, child_local, says_of, under_at, under_last, under_cell_local, cell_split, no_own_chain, own_chain, has_chain_local}
use Rattle.tree_drop.proofs.tree.+levels.Goals as goal

-- a page

pub drop_at-returns-in-Err-clause-refused : goal.drop_at-returns-in-Err-clause-refused
drop_at-returns-in-Err-clause-refused g t c =
    bars_node g.P.PagesTells c.args.pages.now c.read_node.new.pages c.args.place.table c.args.place.level c.args.place.page c.in-Err.why c.in-Err.ensures.cause

pub drop_at-returns-in-Err-drop_below-clause-refused : goal.drop_at-returns-in-Err-drop_below-clause-refused
drop_at-returns-in-Err-drop_below-clause-refused g t c =
    let p = g.P.PagesTells in
    let old = c.args.pages.now in
    let mid = c.read_node.new.pages in
    let table = c.args.place.table in
    let level = c.args.place.level in
    let page = c.args.place.page in
    let node = c.in-Ok.ensures.node in
    let only = c.in-Ok.ensures.reading in
    let read : IsReadPage (p.usable mid) c.read_node.new.buf c.in-Ok.node node.node =
    record { first = page == 1; tells = subst (λ (u : ℕ). Tells u (page == 1) c.read_node.new.buf c.in-Ok.node node.node) (sym only.edits.usable) node.tells } in
    bars_next p old mid c.drop_below.new.pages (IsTreePart table 40 level page) (IsPageWithNode table 40 level page node.node) (IsBelow table 40 level node.node) (IsPageAlone page) c.in-Err-drop_below.why
    (begun_read p old mid page (IsTreePart table 40 level page) (IsPageWithNode table 40 level page node.node) only node.read
    (λ world told own part. part_whole table 40 level page node.node _ _ _ own (node.shown world told) part))
    (whole_split_page table 40 level page node.node) (below_local table 40 level node.node) c.in-Err-drop_below.ensures.edits (c.in-Err-drop_below.ensures.refused node.node read)

pub drop_at-returns-in-Ok-give_up-clause-dropped : goal.drop_at-returns-in-Ok-give_up-clause-dropped
drop_at-returns-in-Ok-give_up-clause-dropped g t c = λ most.
    let p = g.P.PagesTells in
    let old = c.args.pages.now in
    let mid = c.read_node.new.pages in
    let now = c.drop_below.new.pages in
    let table = c.args.place.table in
    let level = c.args.place.level in
    let page = c.args.place.page in
    let node = c.in-Ok.ensures.node in
    let only = c.in-Ok.ensures.reading in
    let read : IsReadPage (p.usable mid) c.read_node.new.buf c.in-Ok.node node.node =
    record { first = page == 1; tells = subst (λ (u : ℕ). Tells u (page == 1) c.read_node.new.buf c.in-Ok.node node.node) (sym only.edits.usable) node.tells } in
    let begun_here = begun_read p old mid page (IsTreePart table most level page) (IsPageWithNode table most level page node.node) only node.read
    (λ world told own part. part_whole table most level page node.node _ _ _ own (node.shown world told) part) in
    let below_gone = goes_on p old mid now (IsTreePart table most level page) (IsPageWithNode table most level page node.node) (IsBelow table most level node.node) (IsPageAlone page) begun_here
    (whole_split_page table most level page node.node) (below_local table most level node.node) p.follows_on c.in-Ok-drop_below.ensures.edits c.in-Ok-drop_below.ensures.last
    (c.in-Ok-drop_below.ensures.dropped node.node read most) in
    all_gone p old c.give_up.new.self (IsTreePart table most level page)
    (goes_on p old now c.give_up.new.self (IsTreePart table most level page) (IsPageAlone page) (IsPageAlone page) Nothing below_gone (whole_split (IsPageAlone page) (IsPageAlone page) (λ u l s own is. is))
    (page_local page) p.follows_on c.in-Ok-give_up.ensures.edits c.in-Ok-give_up.ensures.last (drops_page p now c.give_up.new.self page c.in-Ok-give_up.ensures))

pub drop_at-returns-in-Ok-give_up-clause-edits : goal.drop_at-returns-in-Ok-give_up-clause-edits
drop_at-returns-in-Ok-give_up-clause-edits g t c =
    let p = g.P.PagesTells in
    editing_join p c.args.pages.now c.drop_below.new.pages c.give_up.new.self
    (editing_join p c.args.pages.now c.read_node.new.pages c.drop_below.new.pages c.in-Ok.ensures.reading.edits c.in-Ok-drop_below.ensures.edits p.follows_on)
    c.in-Ok-give_up.ensures.edits p.follows_on

pub drop_at-returns-clause-edits : goal.drop_at-returns-clause-edits
drop_at-returns-clause-edits g t c =
    let p = g.P.PagesTells in
    editing_join p c.args.pages.now c.drop_below.new.pages c.give_up.new.self
    (editing_join p c.args.pages.now c.read_node.new.pages c.drop_below.new.pages c.in-Ok.ensures.reading.edits c.in-Ok-drop_below.ensures.edits p.follows_on)
    c.in-Err-give_up.ensures.edits p.follows_on

-- what it leads to

pub drop_below-returns-then-is_leaf-clause-dropped : goal.drop_below-returns-then-is_leaf-clause-dropped
drop_below-returns-then-is_leaf-clause-dropped g t c =
    on_ok_weaker c.free_payloads.result
    (λ dropped shown read most.
    let leaf : is_leaf shown.kind ≡ true = ap (λ kind. is_leaf kind) (sym read.tells.kind) ∙ (sym c.is_leaf.ensures ∙ c.if-is_leaf.true) in
    drops_as g.P.PagesTells c.args.pages.now c.free_payloads.new.pages (HaveChains c.args.place.table shown.cells) (IsBelow c.args.place.table most c.args.place.level shown)
    (below_leaf c.args.place.table most c.args.place.level shown leaf) (dropped shown read c.args.place.table))
    c.free_payloads.ensures.dropped

pub drop_below-returns-then-is_leaf-clause-refused : goal.drop_below-returns-then-is_leaf-clause-refused
drop_below-returns-then-is_leaf-clause-refused g t c =
    IfErr-weaker c.free_payloads.result _ _
    (λ why bars shown read.
    let leaf : is_leaf shown.kind ≡ true = ap (λ kind. is_leaf kind) (sym read.tells.kind) ∙ (sym c.is_leaf.ensures ∙ c.if-is_leaf.true) in
    bars_as g.P.PagesTells c.args.pages.now c.free_payloads.new.pages (HaveChains c.args.place.table shown.cells) (IsBelow c.args.place.table 40 c.args.place.level shown) why
    (below_leaf c.args.place.table 40 c.args.place.level shown leaf) (bars shown read c.args.place.table))
    c.free_payloads.ensures.refused

pub drop_below-returns-else-is_leaf-clause-dropped : goal.drop_below-returns-else-is_leaf-clause-dropped
drop_below-returns-else-is_leaf-clause-dropped g t c =
    on_ok_weaker c.drop_inner.result
    (λ dropped shown read most.
    let inner : is_leaf shown.kind ≡ false = ap (λ kind. is_leaf kind) (sym read.tells.kind) ∙ (sym c.is_leaf.ensures ∙ c.if-is_leaf.false) in
    drops_as g.P.PagesTells c.args.pages.now c.drop_inner.new.pages (AreUnderCells c.args.place.table most c.args.place.level shown.cells shown.right)
    (IsBelow c.args.place.table most c.args.place.level shown) (below_inner c.args.place.table most c.args.place.level shown inner) (dropped shown read most))
    c.drop_inner.ensures.dropped

pub drop_below-returns-else-is_leaf-clause-refused : goal.drop_below-returns-else-is_leaf-clause-refused
drop_below-returns-else-is_leaf-clause-refused g t c =
    IfErr-weaker c.drop_inner.result _ _
    (λ why bars shown read.
    let inner : is_leaf shown.kind ≡ false = ap (λ kind. is_leaf kind) (sym read.tells.kind) ∙ (sym c.is_leaf.ensures ∙ c.if-is_leaf.false) in
    bars_as g.P.PagesTells c.args.pages.now c.drop_inner.new.pages (AreUnderCells c.args.place.table 40 c.args.place.level shown.cells shown.right)
    (IsBelow c.args.place.table 40 c.args.place.level shown) why (below_inner c.args.place.table 40 c.args.place.level shown inner) (bars shown read))
    c.drop_inner.ensures.refused

-- its children

pub drop_children-loop-k-init : goal.drop_children-loop-k-init
drop_children-loop-k-init g t c = record {
  so_far = λ shown read most. begun g.P.PagesTells c.args.pages.now (AreUnderCells c.args.place.table most c.args.place.level shown.cells shown.right) c.requires.ready (g.P.PagesTells.follows_itself _);
  last = refl;
  edits = (reading_same g.P.PagesTells c.args.pages.now c.requires.ready (g.P.PagesTells.follows_itself _)).edits;
  buf = refl;
  room = refl;
}

pub drop_children-returns-in-Err-clause-refused : goal.drop_children-returns-in-Err-clause-refused
drop_children-returns-in-Err-clause-refused g t c = λ shown read.
    let p = g.P.PagesTells in
    let table = c.args.place.table in
    let level = c.args.place.level in
    let k = c.loop-k.k in
    let less : k < length shown.cells = omega (arith, c.loop-k-test.true, c.len-k-end.ensures, read.tells.count) in
    let read_page : IsReadPage c.usable_of-usable.result c.args.bytes.now c.args.node.now shown =
    record { first = read.first; tells = subst (λ (u : ℕ). Tells u read.first c.args.bytes.now c.args.node.now shown) (sym c.usable_of-usable.ensures.value) read.tells } in
    let says = says_of _ _ _ c.read_cell-cell.result (cell_at shown k) (c.read_cell-cell.ensures shown read_page) in
    bars_next p c.args.pages.now c.loop-k.pages c.drop_under.new.pages (AreUnderCells table 40 level shown.cells shown.right) (AreUnderCells table 40 level (drop k shown.cells) shown.right)
    (IsUnderCell table 40 level (cell_at shown k)) (AreUnderCells table 40 level (drop (k + 1) shown.cells) shown.right) c.in-Err.why (c.loop-k.invariant.so_far shown read 40)
    (under_at table 40 level shown.cells shown.right k (k + 1) less refl) (under_cell_local table 40 level (cell_at shown k)) c.in-Err.ensures.edits (c.in-Err.ensures.refused (cell_at shown k) says)

pub drop_children-loop-k-preserved : goal.drop_children-loop-k-preserved
drop_children-loop-k-preserved g t c =
    let p = g.P.PagesTells in
    let table = c.args.place.table in
    let level = c.args.place.level in
    let k = c.loop-k.k in
    let before = c.loop-k.invariant in
    record {
      so_far = λ shown read most.
          let less : k < length shown.cells = omega (arith, c.loop-k-test.true, c.len-k-end.ensures, read.tells.count) in
          let read_page : IsReadPage c.usable_of-usable.result c.args.bytes.now c.args.node.now shown =
          record { first = read.first; tells = subst (λ (u : ℕ). Tells u read.first c.args.bytes.now c.args.node.now shown) (sym c.usable_of-usable.ensures.value) read.tells } in
          let says = says_of _ _ _ c.read_cell-cell.result (cell_at shown k) (c.read_cell-cell.ensures shown read_page) in
          goes_on p c.args.pages.now c.loop-k.pages c.drop_under.new.pages (AreUnderCells table most level shown.cells shown.right) (AreUnderCells table most level (drop k shown.cells) shown.right)
          (IsUnderCell table most level (cell_at shown k)) (AreUnderCells table most level (drop (k + 1) shown.cells) shown.right) (before.so_far shown read most)
          (under_at table most level shown.cells shown.right k (k + 1) less refl) (under_cell_local table most level (cell_at shown k)) p.follows_on c.in-Ok.ensures.edits c.in-Ok.ensures.last
          (c.in-Ok.ensures.dropped (cell_at shown k) says most);
      last = c.in-Ok.ensures.last ∙ before.last;
      edits = editing_join p c.args.pages.now c.loop-k.pages c.drop_under.new.pages before.edits c.in-Ok.ensures.edits p.follows_on;
      buf = c.in-Ok.ensures.buf ∙ before.buf;
      room = c.in-Ok.ensures.room ∙ before.room;
    }

pub drop_children-returns-clause-dropped : goal.drop_children-returns-clause-dropped
drop_children-returns-clause-dropped g t c =
    on_ok_weaker c.drop_child.result
    (λ dropped shown read most.
    let p = g.P.PagesTells in
    let table = c.args.place.table in
    let level = c.args.place.level in
    let k = c.loop-k.k in
    let right = c.args.node.now.right in
    let past : length shown.cells ≤ k = omega (arith, c.loop-k-test.false, c.len-k-end.ensures, read.tells.count) in
    all_gone p c.args.pages.now c.drop_child.new.pages (AreUnderCells table most level shown.cells shown.right)
    (goes_on p c.args.pages.now c.loop-k.pages c.drop_child.new.pages (AreUnderCells table most level shown.cells shown.right) (AreUnderCells table most level (drop k shown.cells) shown.right)
    (IsChildPart table most level right) Nothing (c.loop-k.invariant.so_far shown read most)
    (whole_split (AreUnderCells table most level (drop k shown.cells) shown.right) (IsChildPart table most level right) (under_last table most level shown.cells shown.right right k past read.tells.right))
    (child_local table most level right) p.follows_on c.drop_child.ensures.edits c.drop_child.ensures.last (dropped most)))
    c.drop_child.ensures.dropped

pub drop_children-returns-clause-refused : goal.drop_children-returns-clause-refused
drop_children-returns-clause-refused g t c =
    IfErr-weaker c.drop_child.result _ _
    (λ why bars shown read.
    let p = g.P.PagesTells in
    let table = c.args.place.table in
    let level = c.args.place.level in
    let k = c.loop-k.k in
    let right = c.args.node.now.right in
    let past : length shown.cells ≤ k = omega (arith, c.loop-k-test.false, c.len-k-end.ensures, read.tells.count) in
    bars_next p c.args.pages.now c.loop-k.pages c.drop_child.new.pages (AreUnderCells table 40 level shown.cells shown.right) (AreUnderCells table 40 level (drop k shown.cells) shown.right)
    (IsChildPart table 40 level right) Nothing why (c.loop-k.invariant.so_far shown read 40)
    (whole_split (AreUnderCells table 40 level (drop k shown.cells) shown.right) (IsChildPart table 40 level right) (under_last table 40 level shown.cells shown.right right k past read.tells.right))
    (child_local table 40 level right) c.drop_child.ensures.edits bars)
    c.drop_child.ensures.refused

-- a cell

pub drop_under-returns-in-Err-clause-refused : goal.drop_under-returns-in-Err-clause-refused
drop_under-returns-in-Err-clause-refused g t c = λ told says.
    let p = g.P.PagesTells in
    let old = c.args.pages.now in
    let table = c.args.place.table in
    let level = c.args.place.level in
    bars_next p old old c.drop_child.new.pages (IsUnderCell table 40 level told) (IsUnderCell table 40 level told) (IsChildPart table 40 level told.left) (IsOwnChain table told) c.in-Err.why
    (begun p old (IsUnderCell table 40 level told) c.requires.ready (p.follows_itself _)) (cell_split table 40 level told) (child_local table 40 level told.left) c.in-Err.ensures.edits
    (subst (λ (n : ℕ). BarsOn p old (IsChildPart table 40 level n) c.drop_child.new.pages c.in-Err.why) says.left c.in-Err.ensures.refused)

pub drop_under-returns-then-place-clause-dropped : goal.drop_under-returns-then-place-clause-dropped
drop_under-returns-then-place-clause-dropped g t c = λ told says most.
    let p = g.P.PagesTells in
    let old = c.args.pages.now in
    let now = c.drop_child.new.pages in
    let table = c.args.place.table in
    let level = c.args.place.level in
    all_gone p old now (IsUnderCell table most level told)
    (left_as p old now (IsUnderCell table most level told) (IsOwnChain table told) Nothing (no_own_chain table told c.if-place.true)
    (goes_on p old old now (IsUnderCell table most level told) (IsUnderCell table most level told) (IsChildPart table most level told.left) (IsOwnChain table told)
    (begun p old (IsUnderCell table most level told) c.requires.ready (p.follows_itself _)) (cell_split table most level told) (child_local table most level told.left) p.follows_on
    c.in-Ok.ensures.edits c.in-Ok.ensures.last
    (subst (λ (n : ℕ). DropsOn p old (IsChildPart table most level n) now) says.left (c.in-Ok.ensures.dropped most))))

pub drop_under-returns-clause-dropped : goal.drop_under-returns-clause-dropped
drop_under-returns-clause-dropped g t c =
    on_ok_weaker c.free_payload.result
    (λ dropped told says most.
    let p = g.P.PagesTells in
    let old = c.args.pages.now in
    let now = c.drop_child.new.pages in
    let new = c.free_payload.new.pages in
    let table = c.args.place.table in
    let level = c.args.place.level in
    all_gone p old new (IsUnderCell table most level told)
    (goes_on p old now new (IsUnderCell table most level told) (IsOwnChain table told) (HasChain told) Nothing
    (goes_on p old old now (IsUnderCell table most level told) (IsUnderCell table most level told) (IsChildPart table most level told.left) (IsOwnChain table told)
    (begun p old (IsUnderCell table most level told) c.requires.ready (p.follows_itself _)) (cell_split table most level told) (child_local table most level told.left) p.follows_on
    c.in-Ok.ensures.edits c.in-Ok.ensures.last
    (subst (λ (n : ℕ). DropsOn p old (IsChildPart table most level n) now) says.left (c.in-Ok.ensures.dropped most)))
    (whole_split (IsOwnChain table told) (HasChain told) (own_chain table told c.if-place.false)) (has_chain_local told) p.follows_on
    c.free_payload.ensures.edits c.free_payload.ensures.last (dropped told says)))
    c.free_payload.ensures.dropped

pub drop_under-returns-clause-refused : goal.drop_under-returns-clause-refused
drop_under-returns-clause-refused g t c =
    IfErr-weaker c.free_payload.result _ _
    (λ why bars told says.
    let p = g.P.PagesTells in
    let old = c.args.pages.now in
    let now = c.drop_child.new.pages in
    let table = c.args.place.table in
    let level = c.args.place.level in
    bars_next p old now c.free_payload.new.pages (IsUnderCell table 40 level told) (IsOwnChain table told) (HasChain told) Nothing why
    (goes_on p old old now (IsUnderCell table 40 level told) (IsUnderCell table 40 level told) (IsChildPart table 40 level told.left) (IsOwnChain table told)
    (begun p old (IsUnderCell table 40 level told) c.requires.ready (p.follows_itself _)) (cell_split table 40 level told) (child_local table 40 level told.left) p.follows_on
    c.in-Ok.ensures.edits c.in-Ok.ensures.last
    (subst (λ (n : ℕ). DropsOn p old (IsChildPart table 40 level n) now) says.left (c.in-Ok.ensures.dropped 40)))
    (whole_split (IsOwnChain table told) (HasChain told) (own_chain table told c.if-place.false)) (has_chain_local told) c.free_payload.ensures.edits (bars told says))
    c.free_payload.ensures.refused

-- a child

pub drop_child-returns-clause-dropped : goal.drop_child-returns-clause-dropped
drop_child-returns-clause-dropped g t c =
    on_ok_weaker c.drop_at.result
    (λ dropped most.
    drops_as g.P.PagesTells c.args.pages.now c.drop_at.new.pages (IsTreePart c.args.above.table most (c.args.above.level + 1) c.args.child) (IsChildPart c.args.above.table most c.args.above.level c.args.child)
    (λ u l s own. child_part c.args.above.table most c.args.above.level (c.args.above.level + 1) c.args.child u l s own refl) (dropped most))
    c.drop_at.ensures.dropped

pub drop_child-returns-clause-refused : goal.drop_child-returns-clause-refused
drop_child-returns-clause-refused g t c =
    IfErr-weaker c.drop_at.result _ _
    (λ why bars.
    bars_as g.P.PagesTells c.args.pages.now c.drop_at.new.pages (IsTreePart c.args.above.table 40 (c.args.above.level + 1) c.args.child) (IsChildPart c.args.above.table 40 c.args.above.level c.args.child) why
    (λ u l s own. child_part c.args.above.table 40 c.args.above.level (c.args.above.level + 1) c.args.child u l s own refl) bars)
    c.drop_at.ensures.refused
