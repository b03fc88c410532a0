-- The item of the cell that comes next on a path.
use Rattle.std.proofs.Common.{◌≡◌, ℕ, ℤ, ◌<◌, ◌≤◌, Bool, true, false, List, [], ◌∷◌, ◌++◌, length, Option, None, Some, Ok, Err, inl, inr, refl, sym, subst, ap, ◌∙◌, arith}
use Rattle.std.specs.Prelude.{◌⊎◌, vec_len, MatchOption}
use Rattle.page_spec.specs.View.{View}
use Rattle.engine_spec.specs.declared.commits.FetchFault.{FetchFault}
use Rattle.engine_spec.specs.declared.commits.FetchFault.TheVariants as fault
use Rattle.page_face.specs.declared.pages_tells.PagesTells.{Ghosts}
use Rattle.page_face.specs.Pages.{ReadsAtMost}
use Rattle.node_spec.specs.Kinds.{is_leaf}
use Rattle.node_spec.specs.Cells.{NodeCell}
use Rattle.node_spec.specs.Nodes.{cell_at}
use Rattle.tree_spec.specs.Layout.{Item}
use Rattle.tree_spec.specs.Trees.{IsItem}
use Rattle.tree_spec.specs.Shown.{Shown}
use Rattle.overflow.specs.Following.{shown_over}
use Rattle.overflow.proofs.Chains.{whole_chain, chain_rest}
use Rattle.value_form.specs.declared.value.Value.{Value}
use Rattle.value_form.specs.Record.{IsRecord}
use Rattle.value_form.proofs.ReadingLaws.{record_once}
use Rattle.tree_read.specs.Payloads.{AreOfChain, chain_size, IsFollowed, BreaksPayload, EndsWithRow, HasReadRow}
use Rattle.tree_read.proofs.Levels.{not_both}
use Rattle.tree_read.proofs.Payloads.{of_chain}
use Rattle.tree_read.proofs.Trees.{whole_payload}
use Rattle.tree_scan.specs.declared.bounds.Bounds.{Bounds}
use Rattle.tree_scan.specs.declared.bounds.Bounds.TheVariants.{Rows, Entries}
use Rattle.tree_scan.specs.declared.level.Level.{Level}
use Rattle.tree_scan.specs.Bounded.{of_table, number_of_row, IsOver, IsRowidOver, AreValuesOver, IsKeyOver, IsRowOver}
use Rattle.tree_scan.specs.Coming.{Comes, IsSpent, gone_past}
use Rattle.tree_scan.specs.Scanning.{IsBarred, BreaksNextRow, TakesNext, NoneInside}
use Rattle.tree_scan.specs.Reads.{NoOftener, HasTaken, TakesAhead}
use Rattle.tree_scan.specs.Walking.{AreOfNext}
use Rattle.tree_scan.proofs.Walks.{chain_of}
use Rattle.tree_scan.proofs.Shows.{TopIs, not_all}
use Rattle.tree_scan.proofs.Paths.{TakenOne, take_one}
use Rattle.tree_scan.proofs.Within.{within_none, within_same, within_is, within_front}

-- A cell of the last level comes next, which is a leaf or an index's page.
pub record AtCell {P : Type 0} (table : Bool) (pages : Ghosts P) (now : P) (levels : List Level) (top : Level) : Type 0 where
  pub is_top : TopIs table pages now levels top
  pub has : (is_leaf is_top.is_level.node.kind ≡ true) ⊎ (table ≡ false)
  pub cell : top.at_cell ≡ true
  pub inside : top.place < length is_top.is_level.node.cells

leaf_or_index : (table leaf at : Bool) → (table ≡ true → leaf ≡ false → at ≡ false) → at ≡ true → (leaf ≡ true) ⊎ (table ≡ false)
leaf_or_index table true at is cell = inl refl
leaf_or_index false false at is cell = inr refl
leaf_or_index true false at is cell = absurd (not_both at cell (is refl refl))

pub at_cell : {P : Type 0} (table : Bool) (pages : Ghosts P) (now : P) (levels : List Level) (top : Level) → TopIs table pages now levels top
    → ((above : List Level) (top : Level) → levels ≡ above ++ top ∷ [] → top.at_cell ≡ true)
    → ((above : List Level) (top : Level) → levels ≡ above ++ top ∷ [] → IsSpent top → ⊥) → AtCell table pages now levels top
at_cell table pages now levels top is cell left =
    let t = is.is_level.read.tells in
    let cell_is = cell is.above top is.are in
    record {
      is_top = is;
      has = leaf_or_index table (is_leaf is.is_level.node.kind) top.at_cell is.is_level.inner cell_is;
      cell = cell_is;
      inside = omega (arith, not_all top.at_cell (vec_len top.node.cells) top.place cell_is (left is.above top is.are), t.count);
    }

taken_at : {P : Type 0} (table : Bool) (pages : Ghosts P) (old : P) (levels : List Level) (top : Level) → (at : AtCell table pages old levels top) → (world : View) → pages.tells old world
    → (bound height : ℕ) (own : List ℕ) (items : List Item) → Comes table (pages.usable old) bound (shown_over pages old world) height levels own items
    → TakenOne table (pages.usable old) bound (shown_over pages old world) height (cell_at at.is_top.is_level.node top.place)
    (is_leaf top.node.kind ≡ is_leaf at.is_top.is_level.node.kind) (at.is_top.above ++ gone_past top ∷ []) own items
taken_at table pages old levels top at world told bound height own items comes =
    let is = at.is_top in
    take_one table (pages.usable old) bound (shown_over pages old world) height is.above top is.is_level.node own items (is.is_level.shown world told) at.cell at.has at.inside
    (subst (λ (l : List Level). Comes table (pages.usable old) bound (shown_over pages old world) height l own items) is.are comes)

-- it is over the bound by its key
key_over : (bounds : Bounds) (item : Item) (rowid : ℤ) → item.key ≡ rowid → IsKeyOver bounds rowid → IsOver bounds item
key_over (Rows low high) item rowid is over = subst (IsRowidOver high) (sym is) over
key_over (Entries low high) item rowid is over = absurd over

pub first_over : {P : Type 0} (pages : Ghosts P) (old : P) (levels : List Level) (top : Level) (bounds : Bounds) → (at : AtCell (of_table bounds) pages old levels top)
    → IsKeyOver bounds (cell_at at.is_top.is_level.node top.place).rowid → TakesNext pages old bounds levels None old
first_over pages old levels top bounds at over = λ world told bound height own items comes.
    let taken = taken_at (of_table bounds) pages old levels top at world told bound height own items comes in
    NoneInside.FirstOver taken.item taken.rest taken.items_are (key_over bounds taken.item (cell_at at.is_top.is_level.node top.place).rowid taken.is_item.key over)

-- nothing is read then
pub none_taken : {P : Type 0} (table : Bool) (pages : Ghosts P) (old : P) (levels : List Level) → HasTaken table pages old levels (Ok None) old
none_taken table pages old levels = record { list = []; read = refl; are = λ world told. inl refl; of = λ world told bound height own items comes. within_none own }

-- an item is given only where there is a level
pub is_there : (found : Option (ℤ × List Value)) (levels : List Level) → 1 ≤ length levels → MatchOption found (Unit {0}) (λ (pair : ℤ × List Value). 1 ≤ length levels)
is_there None levels some = tt
is_there (Some pair) levels some = some

-- It was read.

-- the row of the item
row_of_item : (usable bound most : ℕ) (shown : Shown) (cell : NodeCell) (below : ℕ) (chain : List ℕ) (row : List Value) (item : Item)
    → EndsWithRow usable most shown cell below chain (Ok row) → IsItem usable bound shown cell item → IsRecord item.bytes row
row_of_item usable bound most shown cell below chain row item ends is =
    subst (λ (b : List ℕ). IsRecord b row) (whole_payload usable bound most shown cell chain ends.0 item ends.1.0 is) ends.1.1

row_over : (bounds : Bounds) (item : Item) (row : List Value) → IsRecord item.bytes row → IsRowOver bounds row → IsOver bounds item
row_over (Rows low high) item row is over = absurd over
row_over (Entries low high) item row is over = (row, (is, over))

row_inside : (bounds : Bounds) (item : Item) (rowid : ℤ) (row : List Value) → item.key ≡ rowid → IsRecord item.bytes row → (IsKeyOver bounds rowid → ⊥) → (IsRowOver bounds row → ⊥)
    → IsOver bounds item → ⊥
row_inside (Rows low high) item rowid row is is_row key_in row_in over = key_in (subst (IsRowidOver high) is over)
row_inside (Entries low high) item rowid row is is_row key_in row_in over =
    row_in (subst (AreValuesOver high) (record_once item.bytes over.0 row over.1.0 is_row) over.1.1)

-- it is over the bound, or it is taken
pub row_taken : {P : Type 0} (pages : Ghosts P) (old new : P) (levels : List Level) (top : Level) (bounds : Bounds) (rowid : ℤ) (row : List Value) (found : Option (ℤ × List Value))
    → ReadsAtMost pages old new → (at : AtCell (of_table bounds) pages old levels top) → (IsKeyOver bounds rowid → ⊥)
    → (cell_at at.is_top.is_level.node top.place).rowid ≡ rowid
    → MatchOption found (IsRowOver bounds row) (λ (pair : ℤ × List Value). IsRowOver bounds row → ⊥)
    → MatchOption found (Unit {0}) (λ (pair : ℤ × List Value). pair.0 ≡ number_of_row bounds rowid row)
    → MatchOption found (Unit {0}) (λ (pair : ℤ × List Value). pair.1 ≡ row)
    → HasReadRow pages old (cell_at at.is_top.is_level.node top.place) top.page (Ok row) new → TakesNext pages old bounds levels found new
row_taken pages old new levels top bounds rowid row None reading at inside key_is over number is_row read = λ world told bound height own items comes.
    let taken = taken_at (of_table bounds) pages old levels top at world (reading.edits.narrows world told) bound height own items comes in
    NoneInside.FirstOver taken.item taken.rest taken.items_are (row_over bounds taken.item row
    (row_of_item (pages.usable old) bound (pages.last_page old) (shown_over pages old world) (cell_at at.is_top.is_level.node top.place) top.page read.chain row taken.item (read.ends world told)
    taken.is_item) over)
row_taken pages old new levels top bounds rowid row (Some pair) reading at inside key_is not_over number is_row read = λ world told bound height own items comes.
    let is = at.is_top in
    let usable = pages.usable old in
    let shown = shown_over pages old world in
    let taken = taken_at (of_table bounds) pages old levels top at world (reading.edits.narrows world told) bound height own items comes in
    let same : taken.item.key ≡ rowid = taken.is_item.key ∙ key_is in
    let record_is = row_of_item usable bound (pages.last_page old) shown (cell_at is.is_level.node top.place) top.page read.chain row taken.item (read.ends world told) taken.is_item in
    record {
      item = taken.item;
      rest = taken.rest;
      items_are = taken.items_are;
      row = subst (IsRecord taken.item.bytes) (sym is_row) record_is;
      number = number ∙ ap (λ (z : ℤ). number_of_row bounds z row) (sym same) ∙ ap (λ (r : List Value). number_of_row bounds taken.item.key r) (sym is_row);
      inside = row_inside bounds taken.item rowid row same record_is inside not_over;
      comes = λ levels_then are_then. (
        taken.rest_own,
        subst (λ (l : List Level). Comes (of_table bounds) usable bound shown height l taken.rest_own taken.rest) (sym (are_then is.above top is.are))
            (taken.comes (ap is_leaf is.is_level.read.tells.kind)),
      );
    }

-- pages of its chain
of_next : {P : Type 0} (table : Bool) (pages : Ghosts P) (old new : P) (levels : List Level) (top : Level) (chain : List ℕ) → ReadsAtMost pages old new
    → (at : AtCell table pages old levels top) → (world : View) → pages.tells new world
    → AreOfChain (pages.usable old) (pages.last_page old) (shown_over pages old world) (cell_at at.is_top.is_level.node top.place) chain
    → AreOfNext (pages.usable old) (pages.last_page old) (shown_over pages old world) levels chain
of_next table pages old new levels top chain reading at world told are = record {
  top = top;
  is_last = record { above = at.is_top.above; levels_are = at.is_top.are };
  at = at.cell;
  node = at.is_top.is_level.node;
  holds = at.is_top.is_level.shown world (reading.edits.narrows world told);
  inside = at.inside;
  are = are;
}

-- the pages that were read are those of its chain
pub chain_taken : {P : Type 0} (table : Bool) (pages : Ghosts P) (old new : P) (levels : List Level) (top : Level) (row : List Value) (found : Option (ℤ × List Value))
    → ReadsAtMost pages old new → (at : AtCell table pages old levels top) → HasReadRow pages old (cell_at at.is_top.is_level.node top.place) top.page (Ok row) new
    → HasTaken table pages old levels (Ok found) new
chain_taken table pages old new levels top row found reading at read = record {
  list = read.chain;
  read = read.read;
  are = λ world told. inr (of_next table pages old new levels top read.chain reading at world told
      (of_chain (pages.usable old) (pages.last_page old) (shown_over pages old world) (cell_at at.is_top.is_level.node top.place) read.chain (read.ends world told).0 0 (read.ends world told).1.0));
  of = by_found found;
}
  where
    same_chain : (bound : ℕ) (shown : Shown) (item : Item) → EndsWithRow (pages.usable old) (pages.last_page old) shown (cell_at at.is_top.is_level.node top.place) top.page read.chain (Ok row)
        → IsItem (pages.usable old) bound shown (cell_at at.is_top.is_level.node top.place) item → item.chain ≡ read.chain
    same_chain bound shown item ends is =
        let cell = cell_at at.is_top.is_level.node top.place in
        whole_chain (pages.usable old) (pages.last_page old) bound shown cell.overflow (chain_size cell) read.chain ends.0 0 item.chain refl ends.1.0.1 is.chain

    by_found : (found : Option (ℤ × List Value)) → (world : View) → pages.tells new world → (bound height : ℕ) (own : List ℕ) (items : List Item)
        → Comes table (pages.usable old) bound (shown_over pages old world) height levels own items
        → TakesAhead table (pages.usable old) bound (shown_over pages old world) height levels own read.chain (Ok found)
    by_found None world told bound height own items comes =
        let taken = taken_at table pages old levels top at world (reading.edits.narrows world told) bound height own items comes in
        let same = same_chain bound (shown_over pages old world) taken.item (read.ends world told) taken.is_item in
        subst (NoOftener read.chain) (sym (taken.own_is ∙ ap (λ (c : List ℕ). c ++ taken.rest_own) same)) (within_front read.chain read.chain taken.rest_own (within_same read.chain))
    by_found (Some pair) world told bound height own items comes = λ levels_then are_then.
        let is = at.is_top in
        let usable = pages.usable old in
        let shown = shown_over pages old world in
        let taken = taken_at table pages old levels top at world (reading.edits.narrows world told) bound height own items comes in
        let same = same_chain bound shown taken.item (read.ends world told) taken.is_item in
        record {
          own_then = taken.rest_own;
          items_then = taken.rest;
          comes = subst (λ (l : List Level). Comes table usable bound shown height l taken.rest_own taken.rest) (sym (are_then is.above top is.are))
              (taken.comes (ap is_leaf is.is_level.read.tells.kind));
          within = within_is (read.chain ++ taken.rest_own) own (taken.own_is ∙ ap (λ (c : List ℕ). c ++ taken.rest_own) same);
          next = within_none taken.rest_own;
        }

-- or the first of them
followed_first : (usable last bound : ℕ) (shown : Shown) (cell : NodeCell) (chain : List ℕ) (next left : ℕ) (item : Item) → IsFollowed usable last shown cell chain next left
    → IsItem usable bound shown cell item → NoOftener chain item.chain
followed_first usable last bound shown cell chain next left item followed is =
    let rest = chain_rest usable last bound shown cell.overflow (chain_size cell) chain next left item.chain followed.1 is.chain in
    subst (NoOftener chain) (sym rest.1) (within_front chain chain rest.0 (within_same chain))

first_of_chain : (usable last bound : ℕ) (shown : Shown) (cell : NodeCell) (below : ℕ) (chain : List ℕ) (why : FetchFault) (item : Item)
    → EndsWithRow usable last shown cell below chain (Err why) → IsItem usable bound shown cell item → NoOftener chain item.chain
first_of_chain usable last bound shown cell below [] why item ends is = within_none item.chain
first_of_chain usable last bound shown cell below (p ∷ ps) fault.Disk item ends is = followed_first usable last bound shown cell (p ∷ ps) ends.0 ends.1.0 item ends.1.1 is
first_of_chain usable last bound shown cell below (p ∷ ps) (fault.Corrupt page) item (BreaksPayload.TooLarge none same large) is = absurd (no_pages none)
  where
    no_pages : p ∷ ps ≡ [] → ⊥
    no_pages is = cc
first_of_chain usable last bound shown cell below (p ∷ ps) (fault.Corrupt page) item (BreaksPayload.BreaksOff next left followed same some outside) is =
    followed_first usable last bound shown cell (p ∷ ps) next left item followed is
first_of_chain usable last bound shown cell below (p ∷ ps) (fault.Corrupt page) item (BreaksPayload.NoRecord next followed same none) is =
    followed_first usable last bound shown cell (p ∷ ps) next 0 item followed is
first_of_chain usable last bound shown cell below (p ∷ ps) (fault.Size count) item ends is = absurd ends
first_of_chain usable last bound shown cell below (p ∷ ps) fault.Memory item ends is = followed_first usable last bound shown cell (p ∷ ps) ends.0 ends.1.0 item ends.1.1 is

pub chain_barred : {P : Type 0} (table : Bool) (pages : Ghosts P) (old new : P) (levels : List Level) (top : Level) (why : FetchFault) → ReadsAtMost pages old new
    → (at : AtCell table pages old levels top) → HasReadRow pages old (cell_at at.is_top.is_level.node top.place) top.page (Err why) new → HasTaken table pages old levels (Err why) new
chain_barred table pages old new levels top why reading at read = record {
  list = read.chain;
  read = read.read;
  are = λ world told. inr (of_next table pages old new levels top read.chain reading at world told
      (chain_of (pages.usable old) (pages.last_page old) (shown_over pages old world) (cell_at at.is_top.is_level.node top.place) top.page read.chain why (read.ends world told)));
  of = λ world told bound height own items comes.
      let taken = taken_at table pages old levels top at world (reading.edits.narrows world told) bound height own items comes in
      let few = first_of_chain (pages.usable old) (pages.last_page old) bound (shown_over pages old world) (cell_at at.is_top.is_level.node top.place) top.page read.chain why taken.item
      (read.ends world told) taken.is_item in
      subst (NoOftener read.chain) (sym taken.own_is) (within_front read.chain taken.item.chain taken.rest_own few);
}

-- it wasn't
pub row_barred : {P : Type 0} (pages : Ghosts P) (old new : P) (levels : List Level) (top : Level) (bounds : Bounds) (rowid : ℤ) (why : FetchFault) → ReadsAtMost pages old new
    → (at : AtCell (of_table bounds) pages old levels top) → (IsKeyOver bounds rowid → ⊥) → (cell_at at.is_top.is_level.node top.place).rowid ≡ rowid
    → HasReadRow pages old (cell_at at.is_top.is_level.node top.place) top.page (Err why) new
    → IsBarred pages old new (λ (shown : Shown). BreaksNextRow (pages.usable old) (pages.last_page old) shown bounds levels) why
row_barred pages old new levels top bounds rowid fault.Disk reading at inside key_is read = read.cause
row_barred pages old new levels top bounds rowid (fault.Corrupt page) reading at inside key_is read = λ world told. record {
  top = top;
  is_last = record { above = at.is_top.above; levels_are = at.is_top.are };
  node = at.is_top.is_level.node;
  holds = at.is_top.is_level.shown world (reading.edits.narrows world told);
  has = at.has;
  at = at.cell;
  inside = at.inside;
  up_to = λ over. inside (subst (IsKeyOver bounds) key_is over);
  chain = read.chain;
  breaks = read.ends world told;
}
row_barred pages old new levels top bounds rowid (fault.Size count) reading at inside key_is read = read.cause
row_barred pages old new levels top bounds rowid fault.Memory reading at inside key_is read = tt
