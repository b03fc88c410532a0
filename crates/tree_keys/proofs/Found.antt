-- What looking for a key's place on a page says of a tree that stands there.
use Rattle.std.proofs.Common.{◌≡◌, ℕ, ℤ, zero, suc, ◌≤◌, ◌<◌, true, false, List, [], ◌∷◌, length, Result, Ok, Err, Some, refl, sym, subst, ap, ◌∙◌, arith, inl, inr}
use Rattle.std.specs.Prelude.{◌⊎◌, ◌==◌, Contains}
use Rattle.std.specs.declared.cmp.Ordering.TheVariants.{Equal}
use Rattle.page_spec.specs.View.{View}
use Rattle.engine_spec.specs.declared.commits.FetchFault.{FetchFault}
use Rattle.engine_spec.specs.declared.commits.FetchFault.TheVariants as fault
use Rattle.page_face.specs.declared.pages_tells.PagesTells.{Ghosts}
use Rattle.page_face.specs.Pages.{ReadsAtMost}
use Rattle.node_spec.specs.Kinds.{is_leaf}
use Rattle.node_spec.specs.Cells.{NodeCell}
use Rattle.node_spec.specs.Nodes.{Node, node_of, cell_at}
use Rattle.page_form.specs.declared.page.Page.{Page}
use Rattle.page_form.specs.Reading.{Tells}
use Rattle.tree_spec.specs.Layout.{times, Item}
use Rattle.tree_spec.specs.Shown.{Shown}
use Rattle.tree_spec.specs.Trees.{IsTree, IsItem}
use Rattle.value_form.specs.declared.value.Value.{Value}
use Rattle.value_form.specs.Record.{IsRecord}
use Rattle.value_form.proofs.OrderLaws.{row_linear}
use Rattle.overflow.specs.Following.{shown_over}
use Rattle.sound_spec.proofs.Within.{of_each}
use Rattle.edit_spec.proofs.Lists.{cons_count, the_page, one_of_two}
use Rattle.edit_spec.proofs.Opening.{open_tree}
use Rattle.tree_read.specs.declared.entry.Spot.{Spot}
use Rattle.tree_read.specs.declared.entry.Spot.TheVariants.{At, Before}
use Rattle.tree_read.specs.Looking.{HasNode}
use Rattle.tree_read.specs.Entries.{IsAmong, IsOneOf, IsOfCells, IsSpotWithin, HasSought, Compares}
use Rattle.tree_read.proofs.Descents.{same_shown}
use Rattle.tree_read.proofs.Levels.{at_root, not_both}
use Rattle.tree_read.proofs.Leaves.{leaf_has}
use Rattle.tree_read.proofs.IndexTrees.{IsPart, whole_part, entry_item, no_row_in, record_of}
use Rattle.tree_keys.specs.Keys.{Sought, OfRow, OfEntry, is_row, HasKey}
use Rattle.tree_keys.specs.Spots.{HasSpot, IsRowSpot, IsPlace, HoldsPlace, IsPath, IsOfPath}
use Rattle.tree_keys.specs.Standing.{BarsEdit, IsAtHand}
use Rattle.tree_keys.proofs.Since.{reads_all, path_begins}

-- a rowid's spot is one of the page's
pub row_within : (node : Node) (rowid : ℤ) (spot : Spot) → IsRowSpot node rowid spot → IsSpotWithin (length node.cells) (Ok spot)
row_within node rowid At is = tt
row_within node rowid (Before place) is = is.0.most

-- memory ran out before an entry was looked for
pub no_room : {P : Type 0} (pages : Ghosts P) (old : P) (sought : Sought) (node : Node) (page : ℕ) (why : FetchFault) → is_row sought ≡ false → why ≡ fault.Memory
    → HasSpot pages old sought node page (Err why) old
no_room pages old (OfRow rowid) node page why never is = absurd (not_both true refl never)
no_room pages old (OfEntry entry) node page why entries is =
    subst (λ (w : FetchFault). HasSought pages old node page entry (Err w) old) (sym is) (record { list = []; read = refl; are = λ world told. tt; ends = λ world told. tt; cause = tt })

-- the item of a cell of a page's node
item_at : (usable last : ℕ) (shown : Shown) (entry : List Value) (height page : ℕ) (node : Node) (own : List ℕ) (items : List Item) → shown.node page ≡ Some node
    → IsTree false usable last shown height page own items → (k : ℕ) → k < length node.cells → (item : Item) × (IsAmong items item × IsItem usable last shown (cell_at node k) item)
item_at usable last shown entry height page node own items holds tree k inside =
    entry_item usable last shown entry items 0 page height (at_root false usable last shown (IsPart items entry) height page own items (whole_part items entry) tree) node holds k inside

row_among : (usable last : ℕ) (shown : Shown) (rowid : ℤ) (height page : ℕ) (node : Node) (own : List ℕ) (items : List Item) → shown.node page ≡ Some node → IsRowSpot node rowid At
    → IsTree true usable last shown height page own items → HasKey (OfRow rowid) items
row_among usable last shown rowid zero page node own items holds spot tree =
    let opened = open_tree true usable last shown zero page node own items holds tree in
    let has = spot.1.1 in
    let found = leaf_has usable last shown rowid node.cells items has.place opened.content.items_are has.stands has.inside (ap (λ (c : NodeCell). c.rowid) (sym has.cell_is) ∙ has.same) in
    (found.item, (record { front = found.around.front; back = found.around.back; items_are = found.around.items_are }, found.is_item.key ∙ ap (λ (c : NodeCell). c.rowid) (sym has.cell_is) ∙ has.same))
row_among usable last shown rowid (suc height) page node own items holds spot tree =
    absurd (not_both (is_leaf node.kind) spot.0 (open_tree true usable last shown (suc height) page node own items holds tree).content.inner)

entry_among : (usable last most : ℕ) (shown : Shown) (entry : List Value) (height page : ℕ) (node : Node) (own : List ℕ) (items : List Item) → shown.node page ≡ Some node
    → (k : ℕ) → Compares usable most shown node k entry Equal → IsTree false usable last shown height page own items → HasKey (OfEntry entry) items
entry_among usable last most shown entry height page node own items holds k c tree =
    let item = item_at usable last shown entry height page node own items holds tree k c.inside in
    (item.0, (item.1.0, subst (IsRecord item.0.bytes) (row_linear.apart c.row entry (sym c.order_is)) (record_of usable last most shown node k entry Equal item.0 c item.1.1)))

-- A cell of a page has the key: then a tree that stands there lists it.
pub key_there : {P : Type 0} (pages : Ghosts P) (old new : P) (sought : Sought) (page : ℕ) (node : Node) (world : View) (bound height : ℕ) (own : List ℕ) (items : List Item)
    → HasSpot pages old sought node page (Ok At) new → pages.tells new world → (shown_over pages old world).node page ≡ Some node
    → IsTree (is_row sought) (pages.usable old) bound (shown_over pages old world) height page own items → HasKey sought items
key_there pages old new (OfRow rowid) page node world bound height own items spot told holds tree =
    row_among (pages.usable old) bound (shown_over pages old world) rowid height page node own items holds spot.1 tree
key_there pages old new (OfEntry entry) page node world bound height own items spot told holds tree =
    let found = spot.ends world told in
    entry_among (pages.usable old) bound (pages.last_page old) (shown_over pages old world) entry height page node own items holds found.0 found.1 tree

-- The place couldn't be found.
pub bars_spot : {P : Type 0} (pages : Ghosts P) (old new : P) (sought : Sought) (level page : ℕ) (node : Node) (why : FetchFault) → HasSpot pages old sought node page (Err why) new
    → ((world : View) → pages.tells new world → (shown_over pages old world).node page ≡ Some node) → BarsEdit pages old sought level page new why
bars_spot pages old new (OfRow rowid) level page node why never holds = absurd never.1
bars_spot pages old new (OfEntry entry) level page node fault.Disk spot holds = spot.cause
bars_spot pages old new (OfEntry entry) level page node (fault.Corrupt named) spot holds = λ items there.
    let breaks = (spot.ends there.world there.told).0 in
    let item = item_at (pages.usable old) (pages.last_page old) (shown_over pages old there.world) entry there.height page node there.own items (holds there.world there.told) there.stands.tree breaks.k breaks.inside in
    (item.0, (item.1.0, no_row_in (pages.usable old) (pages.last_page old) (shown_over pages old there.world) (cell_at node breaks.k) item.0 page breaks.chain named item.1.1 breaks.breaks))
bars_spot pages old new (OfEntry entry) level page node (fault.Size count) spot holds = absurd spot.cause
bars_spot pages old new (OfEntry entry) level page node fault.Memory spot holds = tt

-- A page that was read is at hand.
pub at_hand : {P : Type 0} (pages : Ghosts P) (old mid : P) (sought : Sought) (page level : ℕ) (bytes : List ℕ) (told : Page) → ReadsAtMost pages old mid
    → (has : HasNode pages old (is_row sought) page level bytes told mid) → IsAtHand pages mid sought page level bytes told has.node
at_hand pages old mid sought page level bytes told only has = record {
  tells = subst (λ (u : ℕ). Tells u (page == 1) bytes told has.node) (sym only.edits.usable) has.tells;
  may = has.may;
  holds = λ world there. ap (λ (s : Shown). s.node page) (same_shown pages old mid only world there) ∙ has.shown world there;
}

-- The place was found, and holds still.
pub holds_place : {P : Type 0} (pages : Ghosts P) (old mid : P) (sought : Sought) (page level place : ℕ) (bytes : List ℕ) (told : Page) (node : Node) → ReadsAtMost pages old mid
    → IsAtHand pages old sought page level bytes told node → place ≤ length node.cells → HasSpot pages old sought node page (Ok (Before place)) mid
    → HoldsPlace pages mid sought page level bytes node place
holds_place pages old mid sought page level place bytes told node only at within spot = record {
  of = subst (λ (u : ℕ). node_of u (page == 1) bytes ≡ Some node) (sym only.edits.usable) at.tells.shown;
  may = at.may;
  within = within;
  shown = λ world there. ap (λ (s : Shown). s.node page) (same_shown pages old mid only world there) ∙ at.holds world (only.edits.narrows world there);
  stands = λ world there.
      subst (λ (u : ℕ). IsPlace sought u (pages.last_page mid) (shown_over pages mid world) node place) (sym only.edits.usable)
      (subst (λ (l : ℕ). IsPlace sought (pages.usable old) l (shown_over pages mid world) node place) (sym only.last)
      (subst (λ (s : Shown). IsPlace sought (pages.usable old) (pages.last_page old) s node place) (sym (same_shown pages old mid only world there)) (is_place sought spot world there)));
}
  where
    is_place : (sought : Sought) → HasSpot pages old sought node page (Ok (Before place)) mid → (world : View) → pages.tells mid world
        → IsPlace sought (pages.usable old) (pages.last_page old) (shown_over pages old world) node place
    is_place (OfRow rowid) spot world there = spot.1
    is_place (OfEntry entry) spot world there = spot.ends world there

-- Which pages looking for the place read: none for a rowid, and for an entry some of the chains of the page's cells.
pub record ReadsPlace {P : Type 0} (pages : Ghosts P) (old mid : P) (sought : Sought) (page : ℕ) : Type 0 where
  pub list : List ℕ
  pub few : (n : ℕ) → Contains (pages.reads mid) n → Contains (pages.reads old) n ⊎ (1 ≤ times list n)
  pub along : (world : View) → pages.tells mid world → (level : ℕ) (path : List ℕ) → IsPath sought (pages.usable old) (pages.last_page old) (shown_over pages old world) level page path
      → (n : ℕ) → 1 ≤ times list n → IsOfPath sought (pages.usable old) (pages.last_page old) (shown_over pages old world) path n

one_of : (list : List ℕ) (n : ℕ) → 1 ≤ times list n → IsOneOf list n
one_of [] n there = absurd (omega (arith, there))
one_of (p ∷ ps) n there =
    one_of_two (times (p ∷ []) n) (times ps n) (omega (arith, there, cons_count p ps n)) (λ here. inl (sym (the_page p n here))) (λ here. inr (one_of ps n here))

pub reads_place : {P : Type 0} (pages : Ghosts P) (old mid : P) (sought : Sought) (page : ℕ) (node : Node) (result : Result Spot FetchFault) → HasSpot pages old sought node page result mid
    → ((world : View) → pages.tells mid world → (shown_over pages old world).node page ≡ Some node) → ReadsPlace pages old mid sought page
reads_place {P = P} pages old mid (OfRow rowid) page node result spot holds = record {
  list = [];
  few = λ n there. inl (subst (λ (p : P). Contains (pages.reads p) n) spot.0 there);
  along = λ world told level path is n there. absurd (omega (arith, there));
}
reads_place pages old mid (OfEntry entry) page node result spot holds = record {
  list = spot.list;
  few = λ n there. reads_all (pages.has old) (pages.reads old) spot.list n (subst (λ (l : List ℕ). Contains l n) spot.read there);
  along = λ world told level path is n there.
      inr (record {
        owner = page;
        among = one_of path page (path_begins (OfEntry entry) (pages.usable old) (pages.last_page old) (shown_over pages old world) level page path is);
        node = node;
        holds = holds world told;
        of = of_each (IsOfCells (pages.usable old) (pages.last_page old) (shown_over pages old world) node) spot.list n (spot.are world told) there;
      });
}
