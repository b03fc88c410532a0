-- A page with all that is under it.
use Rattle.std.proofs.Common.{rules, ◌≡◌, ◌==◌, ◌⊎◌, ◌+◌, ◌-◌, ◌*◌, ◌<◌, ◌≤◌, ℕ, suc, Bool, true, false, List, drop, length, sym, subst, ◌∙◌, arith, Some, Ok, inl, inr}
use Rattle.page_face.proofs.PageLaws.{reading_join}
use Rattle.page_form.specs.Reading.{Tells, IsReadPage}
use Rattle.node_spec.specs.declared.kinds.Kind.{Kind}
use Rattle.node_spec.specs.Kinds.{is_leaf}
use Rattle.node_spec.specs.Nodes.{Node, node_of}
use Rattle.tree_spec.specs.Layout.{Item}
use Rattle.edit_spec.specs.Places.{first_child}
use Rattle.tree_keys.specs.Keys.{sought_by, is_row}
use Rattle.tree_read.specs.declared.entry.Spot.{Spot}
use Rattle.tree_read.specs.declared.entry.Spot.TheVariants.{At}
use Rattle.tree_read.specs.Looking.{HasNode}
use Rattle.tree_read.specs.Entries.{IsSpotWithin}
use Rattle.tree_keys.specs.Spots.{HasSpot, HoldsPlace}
use Rattle.tree_keys.specs.Standing.{Stands}
use Rattle.tree_keys.proofs.Children.{child_first, bars_child}
use Rattle.tree_keys.proofs.Found.{key_there, bars_spot, holds_place}
use Rattle.tree_insert.specs.Inserting.{PutsUnder, RefusesInsert}
use Rattle.tree_insert.proofs.Below.{puts_below, ups_are}
use Rattle.tree_insert.proofs.Refused.{refused_since}
use Rattle.tree_insert.proofs.Descent.{refused_above, bars_passed, puts_sought, puts_read}
use Rattle.tree_insert.proofs.descend.+levels.Goals as goal

-- a page above a child

pub insert_below-returns-then-is_outside-clause-refused : goal.insert_below-returns-then-is_outside-clause-refused
insert_below-returns-then-is_outside-clause-refused g t c =
    let p = g.P.PagesTells in
    let old = c.args.pages.now in
    let sought = sought_by c.args.key in
    let read = c.requires.read in
    let node = read.0 in
    let place = c.args.place in
    let page_read : IsReadPage c.usable_of.result c.args.buf.now c.args.node.now node =
    record { first = c.args.page == 1; tells = subst (λ (u : ℕ). Tells u (c.args.page == 1) c.args.buf.now c.args.node.now node) (sym c.usable_of.ensures.value) read.2 } in
    let child_is : c.child_before-child.result ≡ first_child (drop place node.cells) node.right = c.child_before-child.ensures node page_read ∙ child_first node.cells node.right place in
    bars_child p old old sought c.args.level c.args.page place node c.args.page read.1.shown read.3
    (subst (λ (n : ℕ). (n < 2) ⊎ (p.last_page old < n)) child_is
    (subst (λ (l : ℕ). (c.child_before-child.result < 2) ⊎ (l < c.child_before-child.result)) c.last.ensures (c.is_outside.ensures.outside c.if-is_outside.true)))

pub insert_below-returns-in-Err-clause-refused : goal.insert_below-returns-in-Err-clause-refused
insert_below-returns-in-Err-clause-refused g t c =
    let p = g.P.PagesTells in
    let old = c.args.pages.now in
    let sought = sought_by c.args.key in
    let read = c.requires.read in
    let node = read.0 in
    let place = c.args.place in
    let mid = c.insert_at.new.pages in
    let page_read : IsReadPage c.usable_of.result c.args.buf.now c.args.node.now node =
    record { first = c.args.page == 1; tells = subst (λ (u : ℕ). Tells u (c.args.page == 1) c.args.buf.now c.args.node.now node) (sym c.usable_of.ensures.value) read.2 } in
    let child_is : c.child_before-child.result ≡ first_child (drop place node.cells) node.right = c.child_before-child.ensures node page_read ∙ child_first node.cells node.right place in
    refused_above p old mid sought c.args.level c.args.page place node c.in-Err.why
    (λ world told. read.1.shown world (c.insert_at.ensures.edits.narrows world told)) read.3
    (subst (λ (n : ℕ). RefusesInsert p old sought (suc c.args.level) n mid c.in-Err.why) child_is
    (subst (λ (n : ℕ). RefusesInsert p old sought n c.child_before-child.result mid c.in-Err.why) (let e : c.args.level + 1 ≡ suc c.args.level = omega arith in e)
    c.in-Err.ensures.refused))

pub insert_below-returns-in-Err-pass_up-clause-refused : goal.insert_below-returns-in-Err-pass_up-clause-refused
insert_below-returns-in-Err-pass_up-clause-refused g t c =
    let p = g.P.PagesTells in
    let old = c.args.pages.now in
    let sought = sought_by c.args.key in
    let read = c.requires.read in
    let node = read.0 in
    let place = c.args.place in
    let mid = c.insert_at.new.pages in
    let new = c.pass_up.new.pages in
    let first = c.insert_at.ensures.edits in
    let second = c.pass_up.ensures.edits in
    let page_read : IsReadPage c.usable_of.result c.args.buf.now c.args.node.now node =
    record { first = c.args.page == 1; tells = subst (λ (u : ℕ). Tells u (c.args.page == 1) c.args.buf.now c.args.node.now node) (sym c.usable_of.ensures.value) read.2 } in
    let child_is : c.child_before-child.result ≡ first_child (drop place node.cells) node.right = c.child_before-child.ensures node page_read ∙ child_first node.cells node.right place in
    bars_passed p old mid new sought c.args.payload.now c.args.level c.args.page place node c.in-Ok.news.items c.in-Err-pass_up.why first second
    (λ world told. read.1.shown world (first.narrows world (second.narrows world told))) read.3
    (λ world told_mid.
    subst (λ (n : ℕ). (h : ℕ) (o : List ℕ) (i : List Item) → Stands p old world (is_row sought) h n o i → PutsUnder p old sought c.args.payload.now (suc c.args.level) n h o i c.in-Ok.news.items mid world) child_is
    (λ h o i there.
    subst (λ (n : ℕ). PutsUnder p old sought c.args.payload.now n c.child_before-child.result h o i c.in-Ok.news.items mid world) (let e : c.args.level + 1 ≡ suc c.args.level = omega arith in e)
    (c.in-Ok.ensures.inserted world told_mid h o i there)))
    c.in-Err-pass_up.ensures.stopped

pub insert_below-returns-in-Ok-pass_up-clause-inserted : goal.insert_below-returns-in-Ok-pass_up-clause-inserted
insert_below-returns-in-Ok-pass_up-clause-inserted g t c = λ world told height own items stands.
    let p = g.P.PagesTells in
    let old = c.args.pages.now in
    let mid = c.insert_at.new.pages in
    let new = c.pass_up.new.pages in
    let sought = sought_by c.args.key in
    let read = c.requires.read in
    let node = read.0 in
    let place = c.args.place in
    let first = c.insert_at.ensures.edits in
    let second = c.pass_up.ensures.edits in
    let told_mid = second.narrows world told in
    let page_read : IsReadPage c.usable_of.result c.args.buf.now c.args.node.now node =
    record { first = c.args.page == 1; tells = subst (λ (u : ℕ). Tells u (c.args.page == 1) c.args.buf.now c.args.node.now node) (sym c.usable_of.ensures.value) read.2 } in
    let child_is : c.child_before-child.result ≡ first_child (drop place node.cells) node.right = c.child_before-child.ensures node page_read ∙ child_first node.cells node.right place in
    let shown : node_of (p.usable mid) (c.args.page == 1) c.args.buf.now ≡ Some node =
    subst (λ (u : ℕ). node_of u (c.args.page == 1) c.args.buf.now ≡ Some node) (sym first.usable) read.1.of in
    puts_below p old mid new world sought c.args.payload.now c.args.level c.args.page height place c.args.buf.now node c.in-Ok.news.items c.in-Ok-pass_up.siblings.items own items
    c.requires.page.0 first.usable second.usable first.last second.last (first.narrows world told_mid) read.1 read.3
    (omega (arith, child_is, (c.is_outside.ensures.inside c.if-is_outside.false).0)) (omega (arith, child_is, (c.is_outside.ensures.inside c.if-is_outside.false).1))
    (subst (λ (n : ℕ). (h : ℕ) (o : List ℕ) (i : List Item) → Stands p old world (is_row sought) h n o i → PutsUnder p old sought c.args.payload.now (suc c.args.level) n h o i c.in-Ok.news.items mid world) child_is
    (λ h o i there.
    subst (λ (n : ℕ). PutsUnder p old sought c.args.payload.now n c.child_before-child.result h o i c.in-Ok.news.items mid world) (let e : c.args.level + 1 ≡ suc c.args.level = omega arith in e)
    (c.in-Ok.ensures.inserted world told_mid h o i there)))
    (elim (c.in-Ok-pass_up.ensures.passed node shown) [ inl none ↦ inl none | inr some ↦ inr (some.0, λ neat used. some.1 world told neat used) ])
    (ups_are node sought (p.usable mid) (p.usable old) c.in-Ok.news.items read.3 read.1.may.table_is first.usable) c.in-Ok-pass_up.ensures.siblings stands

-- a page that was read

pub insert_from-returns-in-Ok-At-clause-refused : goal.insert_from-returns-in-Ok-At-clause-refused
insert_from-returns-in-Ok-At-clause-refused g t c =
    let p = g.P.PagesTells in
    let old = c.args.pages.now in
    let mid = c.place_in.new.pages in
    let sought = sought_by c.args.key in
    let read = c.requires.read in
    let node = read.0 in
    let page_read : IsReadPage (p.usable old) c.args.buf.now c.args.node.now node = record { first = c.args.page == 1; tells = read.1.tells } in
    let only = c.place_in.ensures.reading in
    let spot : HasSpot p old sought node c.args.page (Ok At) mid =
    subst (λ (s : Spot). HasSpot p old sought node c.args.page (Ok s) mid) c.in-Ok-At.field-0-is (c.in-Ok-At.ensures.spot node page_read) in
    record {
      reading = only;
      there = λ world told bound height own items tree.
          key_there p old mid sought c.args.page node world bound height own items spot told (read.1.holds world (only.edits.narrows world told)) tree;
    }

pub insert_from-returns-in-Err-clause-refused : goal.insert_from-returns-in-Err-clause-refused
insert_from-returns-in-Err-clause-refused g t c =
    let p = g.P.PagesTells in
    let old = c.args.pages.now in
    let mid = c.place_in.new.pages in
    let sought = sought_by c.args.key in
    let read = c.requires.read in
    let node = read.0 in
    let page_read : IsReadPage (p.usable old) c.args.buf.now c.args.node.now node = record { first = c.args.page == 1; tells = read.1.tells } in
    let only = c.place_in.ensures.reading in
    bars_spot p old mid sought c.args.level c.args.page node c.in-Err.why (c.in-Err.ensures.spot node page_read) (λ world told. read.1.holds world (only.edits.narrows world told))

pub insert_from-insert_in_leaf-requires-clause-read : goal.insert_from-insert_in_leaf-requires-clause-read
insert_from-insert_in_leaf-requires-clause-read g t c =
    let p = g.P.PagesTells in
    let old = c.args.pages.now in
    let mid = c.place_in.new.pages in
    let sought = sought_by c.args.key in
    let read = c.requires.read in
    let node = read.0 in
    let page_read : IsReadPage (p.usable old) c.args.buf.now c.args.node.now node = record { first = c.args.page == 1; tells = read.1.tells } in
    let only = c.place_in.ensures.reading in
    let holds : HoldsPlace p mid sought c.args.page c.args.level c.args.buf.now node c.in-Ok-Before.place =
    holds_place p old mid sought c.args.page c.args.level c.in-Ok-Before.place c.args.buf.now c.args.node.now node only read.1
    (subst (λ (s : Spot). IsSpotWithin (length node.cells) (Ok s)) c.in-Ok-Before.field-0-is (c.in-Ok-Before.ensures.within node page_read))
    (subst (λ (s : Spot). HasSpot p old sought node c.args.page (Ok s) mid) c.in-Ok-Before.field-0-is (c.in-Ok-Before.ensures.spot node page_read)) in
    (node, holds, subst (λ (k : Kind). is_leaf k ≡ true) read.1.tells.kind (sym c.is_leaf.ensures ∙ c.if-is_leaf.true))

pub insert_from-insert_below-requires : goal.insert_from-insert_below-requires
insert_from-insert_below-requires g t c κs within =
    let p = g.P.PagesTells in
    let old = c.args.pages.now in
    let mid = c.place_in.new.pages in
    let sought = sought_by c.args.key in
    let read = c.requires.read in
    let node = read.0 in
    let page_read : IsReadPage (p.usable old) c.args.buf.now c.args.node.now node = record { first = c.args.page == 1; tells = read.1.tells } in
    let only = c.place_in.ensures.reading in
    let holds : HoldsPlace p mid sought c.args.page c.args.level c.args.buf.now node c.in-Ok-Before.place =
    holds_place p old mid sought c.args.page c.args.level c.in-Ok-Before.place c.args.buf.now c.args.node.now node only read.1
    (subst (λ (s : Spot). IsSpotWithin (length node.cells) (Ok s)) c.in-Ok-Before.field-0-is (c.in-Ok-Before.ensures.within node page_read))
    (subst (λ (s : Spot). HasSpot p old sought node c.args.page (Ok s) mid) c.in-Ok-Before.field-0-is (c.in-Ok-Before.ensures.spot node page_read)) in
    let falls : 4 * (42 - c.args.level) < 4 * (42 - c.args.level) + 1 = omega arith in
    let last : c.args.page ≤ p.last_page mid = omega (arith, c.requires.page.1, only.last) in
    let page : (1 ≤ c.args.page) × (c.args.page ≤ p.last_page mid) = (c.requires.page.0, last) in
    let room : length c.args.buf.now ≡ p.page_size mid = c.requires.room ∙ sym only.edits.page_size in
    let tells : Tells (p.usable mid) (c.args.page == 1) c.args.buf.now c.args.node.now node =
    subst (λ (u : ℕ). Tells u (c.args.page == 1) c.args.buf.now c.args.node.now node) (sym only.edits.usable) read.1.tells in
    let inner : is_leaf node.kind ≡ false = subst (λ (k : Kind). is_leaf k ≡ false) read.1.tells.kind (sym c.is_leaf.ensures ∙ c.if-is_leaf.false) in
    let some : (shown : Node) × HoldsPlace p mid sought c.args.page c.args.level c.args.buf.now shown c.in-Ok-Before.place
    × Tells (p.usable mid) (c.args.page == 1) c.args.buf.now c.args.node.now shown × (is_leaf shown.kind ≡ false) = (node, holds, tells, inner) in
    search rules

pub insert_from-returns-in-Ok-clause-inserted : goal.insert_from-returns-in-Ok-clause-inserted
insert_from-returns-in-Ok-clause-inserted g t c = λ world told height own items stands.
    let p = g.P.PagesTells in
    let old = c.args.pages.now in
    let mid = c.place_in.new.pages in
    let sought = sought_by c.args.key in
    let read = c.requires.read in
    let node = read.0 in
    let page_read : IsReadPage (p.usable old) c.args.buf.now c.args.node.now node = record { first = c.args.page == 1; tells = read.1.tells } in
    let only = c.place_in.ensures.reading in
    puts_sought p old mid c.insert_in_leaf.new.pages sought c.args.payload.now c.args.level c.args.page node c.place_in.result c.in-Ok.news.items world height own items
    only c.insert_in_leaf.ensures.edits told (c.place_in.ensures.spot node page_read) read.1.holds (λ h o i there. c.in-Ok.ensures.inserted world told h o i there) stands

pub insert_from-returns-in-Ok-insert_below-clause-inserted : goal.insert_from-returns-in-Ok-insert_below-clause-inserted
insert_from-returns-in-Ok-insert_below-clause-inserted g t c = λ world told height own items stands.
    let p = g.P.PagesTells in
    let old = c.args.pages.now in
    let mid = c.place_in.new.pages in
    let sought = sought_by c.args.key in
    let read = c.requires.read in
    let node = read.0 in
    let page_read : IsReadPage (p.usable old) c.args.buf.now c.args.node.now node = record { first = c.args.page == 1; tells = read.1.tells } in
    let only = c.place_in.ensures.reading in
    puts_sought p old mid c.insert_below.new.pages sought c.args.payload.now c.args.level c.args.page node c.place_in.result c.in-Ok-insert_below.news.items world height own items
    only c.insert_below.ensures.edits told (c.place_in.ensures.spot node page_read) read.1.holds (λ h o i there. c.in-Ok-insert_below.ensures.inserted world told h o i there) stands

pub insert_from-returns-in-Err-insert_below-clause-refused : goal.insert_from-returns-in-Err-insert_below-clause-refused
insert_from-returns-in-Err-insert_below-clause-refused g t c =
    let p = g.P.PagesTells in
    let old = c.args.pages.now in
    let mid = c.place_in.new.pages in
    let sought = sought_by c.args.key in
    let read = c.requires.read in
    let node = read.0 in
    let page_read : IsReadPage (p.usable old) c.args.buf.now c.args.node.now node = record { first = c.args.page == 1; tells = read.1.tells } in
    let only = c.place_in.ensures.reading in
    refused_since p old mid c.insert_below.new.pages sought c.args.level c.args.page c.in-Err-insert_below.why only c.insert_below.ensures.edits
    (λ two. reading_join p old mid c.insert_below.new.pages only two (λ a b d. p.follows_on a b d)) c.in-Err-insert_below.ensures.refused

-- a page

pub insert_with-returns-in-Ok-insert_from-clause-inserted : goal.insert_with-returns-in-Ok-insert_from-clause-inserted
insert_with-returns-in-Ok-insert_from-clause-inserted g t c = λ world told height own items stands.
    let p = g.P.PagesTells in
    let old = c.args.pages.now in
    let mid = c.read_node.new.pages in
    let sought = sought_by c.args.key in
    let has : HasNode p old (is_row sought) c.args.page c.args.level c.read_node.new.buf c.in-Ok.node mid =
    subst (λ (b : Bool). HasNode p old b c.args.page c.args.level c.read_node.new.buf c.in-Ok.node mid) c.is_rowid.ensures c.in-Ok.ensures.node in
    puts_read p old mid c.insert_from.new.pages sought c.args.payload.now c.args.level c.args.page c.read_node.new.buf c.in-Ok.node c.in-Ok-insert_from.news.items world height own items
    c.read_node.ensures.reading c.insert_from.ensures.edits told has (λ h o i there. c.in-Ok-insert_from.ensures.inserted world told h o i there) stands

pub insert_with-returns-clause-refused : goal.insert_with-returns-clause-refused
insert_with-returns-clause-refused g t c =
    let p = g.P.PagesTells in
    let old = c.args.pages.now in
    let mid = c.read_node.new.pages in
    refused_since p old mid c.insert_from.new.pages (sought_by c.args.key) c.args.level c.args.page c.in-Err-insert_from.why c.read_node.ensures.reading c.insert_from.ensures.edits
    (λ two. reading_join p old mid c.insert_from.new.pages c.read_node.ensures.reading two (λ a b d. p.follows_on a b d)) c.in-Err-insert_from.ensures.refused
