use Rattle.std.proofs.Common.{◌≡◌, [], ◌∷◌, ℕ, true, length, sym, subst, ◌∙◌, Some, Ok}
use Rattle.page_face.proofs.PageLaws.{editing_join}
use Rattle.page_form.specs.Reading.{IsReadPage}
use Rattle.node_spec.specs.declared.kinds.Kind.{Kind}
use Rattle.node_spec.specs.declared.kinds.Kind.TheVariants.{TableLeaf}
use Rattle.node_spec.specs.Nodes.{node_of}
use Rattle.edit_spec.specs.Nodes.{node_taking}
use Rattle.node_edit.specs.Runs.{spelled_by}
use Rattle.tree_read.specs.declared.entry.Spot.{Spot}
use Rattle.tree_read.specs.declared.entry.Spot.TheVariants.{At}
use Rattle.tree_read.specs.Entries.{IsSpotWithin}
use Rattle.tree_keys.specs.Keys.{sought_by, is_row}
use Rattle.tree_keys.specs.Spots.{HasSpot, HoldsPlace}
use Rattle.tree_keys.proofs.Since.{stands_then}
use Rattle.tree_keys.proofs.Found.{key_there, bars_spot, holds_place, reads_place}
use Rattle.tree_insert.specs.Inserting.{TakesFirst}
use Rattle.tree_insert.proofs.InLeaf.{leaf_is}
use Rattle.tree_insert.proofs.Rooted.{tree_since}
use Rattle.tree_insert.proofs.FirstPage.{row_kind, puts_first}
use Rattle.tree_insert.proofs.first.insert_in_first.Goals as goal

pub returns-in-Ok-At-clause-refused : goal.returns-in-Ok-At-clause-refused
returns-in-Ok-At-clause-refused g c =
    let p = g.P.PagesTells in
    let old = c.args.pages.now in
    let mid = c.place_in.new.pages in
    let sought = sought_by c.args.key in
    let read = c.requires.read in
    let node = read.0 in
    let page_read : IsReadPage (p.usable old) c.args.buf.now c.args.node.now node = record { first = true; tells = read.1.tells } in
    let only = c.place_in.ensures.reading in
    let spot : HasSpot p old sought node 1 (Ok At) mid =
    subst (λ (s : Spot). HasSpot p old sought node 1 (Ok s) mid) c.in-Ok-At.field-0-is (c.in-Ok-At.ensures.spot node page_read) in
    record {
      reading = only;
      there = λ world told bound height own items tree. key_there p old mid sought 1 node world bound height own items spot told (read.1.holds world (only.edits.narrows world told)) tree;
    }

pub returns-in-Err-clause-refused : goal.returns-in-Err-clause-refused
returns-in-Err-clause-refused g c =
    let p = g.P.PagesTells in
    let old = c.args.pages.now in
    let read = c.requires.read in
    let node = read.0 in
    let page_read : IsReadPage (p.usable old) c.args.buf.now c.args.node.now node = record { first = true; tells = read.1.tells } in
    bars_spot p old c.place_in.new.pages (sought_by c.args.key) 0 1 node c.in-Err.why (c.in-Err.ensures.spot node page_read)
    (λ world told. read.1.holds world (c.place_in.ensures.reading.edits.narrows world told))

pub put_in_first-requires-clause-shown : goal.put_in_first-requires-clause-shown
put_in_first-requires-clause-shown g c =
    let p = g.P.PagesTells in
    let old = c.args.pages.now in
    let sought = sought_by c.args.key in
    let read = c.requires.read in
    let node = read.0 in
    let page_read : IsReadPage (p.usable old) c.args.buf.now c.args.node.now node = record { first = true; tells = read.1.tells } in (
      node,
      subst (λ (u : ℕ). node_of u true c.args.buf.now ≡ Some node) (sym (c.make_cell.ensures.edits.usable ∙ c.place_in.ensures.reading.edits.usable)) read.1.tells.shown,
      leaf_is node.kind sought read.2 read.1.may.table_is ∙ row_kind sought c.requires.table,
      subst (λ (s : Spot). IsSpotWithin (length node.cells) (Ok s)) c.in-Ok-Before.field-0-is (c.in-Ok-Before.ensures.within node page_read),
    )

pub returns-in-Ok-put_in_first-clause-inserted : goal.returns-in-Ok-put_in_first-clause-inserted
returns-in-Ok-put_in_first-clause-inserted g c = λ world told height own items stands.
    let p = g.P.PagesTells in
    let old = c.args.pages.now in
    let a = c.place_in.new.pages in
    let b = c.make_cell.new.pages in
    let new = c.put_in_first.new.pages in
    let sought = sought_by c.args.key in
    let read = c.requires.read in
    let node = read.0 in
    let place = c.in-Ok-Before.place in
    let payload = c.args.payload.now in
    let page_read : IsReadPage (p.usable old) c.args.buf.now c.args.node.now node = record { first = true; tells = read.1.tells } in
    let only = c.place_in.ensures.reading in
    let one = c.make_cell.ensures.edits in
    let two = c.put_in_first.ensures.edits in
    let told_b = two.narrows world told in
    let told_a = one.narrows world told_b in
    let spot = c.place_in.ensures.spot node page_read in
    let holds : HoldsPlace p a sought 1 0 c.args.buf.now node place =
    holds_place p old a sought 1 0 place c.args.buf.now c.args.node.now node only read.1
    (subst (λ (s : Spot). IsSpotWithin (length node.cells) (Ok s)) c.in-Ok-Before.field-0-is (c.in-Ok-Before.ensures.within node page_read))
    (subst (λ (s : Spot). HasSpot p old sought node 1 (Ok s) a) c.in-Ok-Before.field-0-is (c.in-Ok-Before.ensures.spot node page_read)) in
    let kind : node.kind ≡ TableLeaf = leaf_is node.kind sought read.2 read.1.may.table_is ∙ row_kind sought c.requires.table in
    let shown : node_of (p.usable b) true c.args.buf.now ≡ Some node =
    subst (λ (u : ℕ). node_of u true c.args.buf.now ≡ Some node) (sym (one.usable ∙ only.edits.usable)) read.1.tells.shown in
    let few = reads_place p old a sought 1 node c.place_in.result spot (λ world there. read.1.holds world (only.edits.narrows world there)) in
    tree_since p old a new sought payload 1 own items world few.list only told_a stands.neat few.few (λ path is. few.along world told_a 0 path is)
    (puts_first p a b new world sought payload c.in-Ok.cell place c.args.buf.now node height own items one.usable two.usable one.last two.last told_a told_b holds read.2 c.requires.table
    c.in-Ok.ensures.made
    (λ neat used.
    subst (λ (k : Kind). TakesFirst p b (node_taking node place (spelled_by k (p.usable b) (c.in-Ok.cell ∷ []))) new world) (sym kind) (c.in-Ok-put_in_first.ensures.taken node shown world told neat used))
    (stands_then p old a only world told_a (is_row sought) height 1 own items stands))

pub returns-in-Ok-put_in_first-clause-edits : goal.returns-in-Ok-put_in_first-clause-edits
returns-in-Ok-put_in_first-clause-edits g c =
    editing_join g.P.PagesTells c.args.pages.now c.place_in.new.pages c.put_in_first.new.pages c.place_in.ensures.reading.edits
    (editing_join g.P.PagesTells c.place_in.new.pages c.make_cell.new.pages c.put_in_first.new.pages c.make_cell.ensures.edits c.put_in_first.ensures.edits g.P.PagesTells.follows_on)
    g.P.PagesTells.follows_on

pub returns-in-Err-put_in_first-clause-edits : goal.returns-in-Err-put_in_first-clause-edits
returns-in-Err-put_in_first-clause-edits g c =
    editing_join g.P.PagesTells c.args.pages.now c.place_in.new.pages c.put_in_first.new.pages c.place_in.ensures.reading.edits
    (editing_join g.P.PagesTells c.place_in.new.pages c.make_cell.new.pages c.put_in_first.new.pages c.make_cell.ensures.edits c.put_in_first.ensures.edits g.P.PagesTells.follows_on)
    g.P.PagesTells.follows_on
