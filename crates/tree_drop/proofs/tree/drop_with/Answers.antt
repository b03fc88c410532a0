use Rattle.std.proofs.Common.{◌≡◌, ℕ, ◌==◌, sym, subst, ap, ◌∙◌}
use Rattle.page_face.proofs.PageLaws.{editing_join}
use Rattle.node_spec.specs.Kinds.{is_table}
use Rattle.page_form.specs.Reading.{Tells, IsReadPage}
use Rattle.tree_drop.specs.Parts.{IsTreePart, IsBelow}
use Rattle.tree_drop.proofs.Steps.{Nothing, IsPageAlone, whole_split, begun_read, goes_on, all_gone, bars_next, drops_page, page_local}
use Rattle.tree_drop.proofs.Parts.{IsPageWithNode, part_whole, whole_split_page, below_local}
use Rattle.tree_drop.proofs.RootKind.{drops_kind, bars_kind}
use Rattle.tree_drop.proofs.tree.drop_with.Goals as goal

pub returns-in-Err-drop_below-clause-refused : goal.returns-in-Err-drop_below-clause-refused
returns-in-Err-drop_below-clause-refused g c =
    let p = g.P.PagesTells in
    let old = c.args.pages.now in
    let mid = c.fetch_node.new.pages in
    let table = c.is_table.result in
    let page = c.args.root in
    let node = c.in-Ok.ensures.node in
    let only = c.fetch_node.ensures.reading in
    let read : IsReadPage (p.usable mid) c.fetch_node.new.buf c.in-Ok.node node.node =
    record { first = page == 1; tells = subst (λ (u : ℕ). Tells u (page == 1) c.fetch_node.new.buf c.in-Ok.node node.node) (sym only.edits.usable) node.tells } in
    bars_kind p old c.drop_below.new.pages page node.node table c.in-Err-drop_below.why
    (λ world told. node.shown world (c.in-Err-drop_below.ensures.edits.narrows world told))
    (ap is_table (sym node.tells.kind) ∙ sym c.is_table.ensures)
    (bars_next p old mid c.drop_below.new.pages (IsTreePart table 40 0 page) (IsPageWithNode table 40 0 page node.node) (IsBelow table 40 0 node.node) (IsPageAlone page) c.in-Err-drop_below.why
    (begun_read p old mid page (IsTreePart table 40 0 page) (IsPageWithNode table 40 0 page node.node) only node.read
    (λ world told own part. part_whole table 40 0 page node.node _ _ _ own (node.shown world told) part))
    (whole_split_page table 40 0 page node.node) (below_local table 40 0 node.node) c.in-Err-drop_below.ensures.edits (c.in-Err-drop_below.ensures.refused node.node read))

pub returns-in-Ok-give_up-clause-dropped : goal.returns-in-Ok-give_up-clause-dropped
returns-in-Ok-give_up-clause-dropped g c =
    let p = g.P.PagesTells in
    let old = c.args.pages.now in
    let mid = c.fetch_node.new.pages in
    let now = c.drop_below.new.pages in
    let table = c.is_table.result in
    let page = c.args.root in
    let node = c.in-Ok.ensures.node in
    let only = c.fetch_node.ensures.reading in
    let read : IsReadPage (p.usable mid) c.fetch_node.new.buf c.in-Ok.node node.node =
    record { first = page == 1; tells = subst (λ (u : ℕ). Tells u (page == 1) c.fetch_node.new.buf c.in-Ok.node node.node) (sym only.edits.usable) node.tells } in
    drops_kind p old c.give_up.new.self page node.node table
    (λ world told. node.shown world (c.in-Ok-drop_below.ensures.edits.narrows world (c.in-Ok-give_up.ensures.edits.narrows world told)))
    (ap is_table (sym node.tells.kind) ∙ sym c.is_table.ensures)
    (λ most.
    let begun_here = begun_read p old mid page (IsTreePart table most 0 page) (IsPageWithNode table most 0 page node.node) only node.read
    (λ world told own part. part_whole table most 0 page node.node _ _ _ own (node.shown world told) part) in
    let below_gone = goes_on p old mid now (IsTreePart table most 0 page) (IsPageWithNode table most 0 page node.node) (IsBelow table most 0 node.node) (IsPageAlone page) begun_here
    (whole_split_page table most 0 page node.node) (below_local table most 0 node.node) p.follows_on c.in-Ok-drop_below.ensures.edits c.in-Ok-drop_below.ensures.last
    (c.in-Ok-drop_below.ensures.dropped node.node read most) in
    all_gone p old c.give_up.new.self (IsTreePart table most 0 page)
    (goes_on p old now c.give_up.new.self (IsTreePart table most 0 page) (IsPageAlone page) (IsPageAlone page) Nothing below_gone (whole_split (IsPageAlone page) (IsPageAlone page) (λ u l s own is. is))
    (page_local page) p.follows_on c.in-Ok-give_up.ensures.edits c.in-Ok-give_up.ensures.last (drops_page p now c.give_up.new.self page c.in-Ok-give_up.ensures)))

pub returns-in-Ok-give_up-clause-edits : goal.returns-in-Ok-give_up-clause-edits
returns-in-Ok-give_up-clause-edits g c =
    let p = g.P.PagesTells in
    editing_join p c.args.pages.now c.drop_below.new.pages c.give_up.new.self
    (editing_join p c.args.pages.now c.fetch_node.new.pages c.drop_below.new.pages c.fetch_node.ensures.reading.edits c.in-Ok-drop_below.ensures.edits p.follows_on)
    c.in-Ok-give_up.ensures.edits p.follows_on

pub returns-clause-edits : goal.returns-clause-edits
returns-clause-edits g c =
    let p = g.P.PagesTells in
    editing_join p c.args.pages.now c.drop_below.new.pages c.give_up.new.self
    (editing_join p c.args.pages.now c.fetch_node.new.pages c.drop_below.new.pages c.fetch_node.ensures.reading.edits c.in-Ok-drop_below.ensures.edits p.follows_on)
    c.in-Err-give_up.ensures.edits p.follows_on
