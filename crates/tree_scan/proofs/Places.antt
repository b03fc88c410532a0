-- Where a cursor begins on a page.
use Rattle.std.proofs.Common.{◌≡◌, ℕ, suc, ◌+◌, ◌<◌, ◌≤◌, Bool, true, false, List, [], ◌∷◌, ◌++◌, length, take, drop, Option, Some, Result, Ok, Err, refl, sym, subst, ap, ◌∙◌, arith, append_assoc, inl, inr}
use Rattle.std.specs.Prelude.{◌⊎◌, IfErr}
use Rattle.std.specs.declared.cmp.Ordering.TheVariants.{Less}
use Rattle.std.proofs.lemmas.List.{drop_all, take_all, take-append-le}
use Rattle.page_spec.specs.View.{View}
use Rattle.engine_spec.specs.declared.commits.FetchFault.{FetchFault}
use Rattle.engine_spec.specs.declared.commits.FetchFault.TheVariants as fault
use Rattle.page_face.specs.declared.pages_tells.PagesTells.{Ghosts}
use Rattle.page_face.specs.Pages.{ReadsAtMost, pages_read}
use Rattle.node_spec.specs.Kinds.{is_leaf}
use Rattle.node_spec.specs.Cells.{NodeCell}
use Rattle.node_spec.specs.Nodes.{Node, cell_at}
use Rattle.page_form.specs.declared.cells.Cell.{Cell}
use Rattle.page_form.specs.declared.page.Page.{Page}
use Rattle.page_form.specs.Reading.{IsReadPage, TellsCell}
use Rattle.tree_spec.specs.Shown.{Shown}
use Rattle.tree_spec.specs.Layout.{Each}
use Rattle.tree_spec.proofs.Lists.{each-append}
use Rattle.overflow.specs.Following.{shown_over, all_read}
use Rattle.value_form.specs.declared.value.Value.{Value}
use Rattle.tree_read.specs.Ways.{ShowsNode}
use Rattle.tree_read.specs.Payloads.{AreOfChain, BreaksPayload, IsCause, HasReadRow}
use Rattle.tree_read.specs.Looking.{HasNode, BarsNode}
use Rattle.tree_read.specs.Entries.{IsOfCells}
use Rattle.tree_read.proofs.Payloads.{of_chain}
use Rattle.tree_read.proofs.Descents.{cell_again, same_shown, cause_before, read_both}
use Rattle.tree_scan.specs.declared.bounds.Bounds.{Bounds}
use Rattle.tree_scan.specs.declared.bounds.Bounds.TheVariants.{Entries}
use Rattle.tree_scan.specs.declared.level.Level.{Level}
use Rattle.tree_scan.specs.Bounded.{of_table, may_look, leading_order}
use Rattle.tree_scan.specs.Placing.{CellRow, IsPlaced, EndsPlace, HasPlaced, EndsTest, HasTested, HasLevel, BreaksLevel, EndsLevel, AreReadOf, BarsLevel}

-- One cell.

-- the cell that was read of the bytes of a page
pub cell_told : (usable same : ℕ) (bytes slice : List ℕ) (told : Page) (node : Node) (k : ℕ) (cell : Cell) → same ≡ usable → slice ≡ bytes → IsReadPage usable bytes told node
    → (IsReadPage same slice told node → TellsCell same node.kind slice cell (cell_at node k)) → TellsCell usable told.kind bytes cell (cell_at node k)
cell_told usable same bytes slice told node k cell is is_bytes read tells =
    let again : IsReadPage same slice told node = subst (λ (b : List ℕ). IsReadPage same b told node) (sym is_bytes) (subst (λ (u : ℕ). IsReadPage u bytes told node) (sym is) read) in
    subst (λ (b : List ℕ). TellsCell usable told.kind b cell (cell_at node k)) is_bytes (cell_again _ _ _ _ _ _ _ is read.tells.kind (tells again))

pub tested : {P : Type 0} (pages : Ghosts P) (old new : P) (cell : NodeCell) (below : ℕ) (values row : List Value) (under : Bool) → HasReadRow pages old cell below (Ok row) new
    → (under ≡ true → leading_order row values ≡ Less) → (under ≡ false → leading_order row values ≡ Less → ⊥) → HasTested pages old cell below values (Ok under) new
tested pages old new cell below values row under read is isnt = record {
  chain = read.chain;
  read = read.read;
  ends = λ world told. (row, (read.ends world told, (is, isnt)));
  cause = tt;
}

pub not_tested : {P : Type 0} (pages : Ghosts P) (old new : P) (cell : NodeCell) (below : ℕ) (values : List Value) (why : FetchFault) → HasReadRow pages old cell below (Err why) new
    → HasTested pages old cell below values (Err why) new
not_tested pages old new cell below values why read = record { chain = read.chain; read = read.read; ends = read.ends; cause = read.cause }

-- The search as far as it came.
pub record SoFarAt {P : Type 0} (pages : Ghosts P) (old now : P) (node : Node) (values : List Value) (low high : ℕ) : Type 0 where
  pub list : List ℕ
  pub read : pages.reads now ≡ all_read (pages.has old) (pages.reads old) list
  pub are : (world : View) → pages.tells now world → Each (IsOfCells (pages.usable old) (pages.last_page old) (shown_over pages old world) node) list
  pub most : high ≤ length node.cells
  pub above : (world : View) → pages.tells now world → (k : ℕ) → low ≡ suc k
      → CellRow (pages.usable old) (pages.last_page old) (shown_over pages old world) node k (λ row. leading_order row values ≡ Less)
  pub below : (world : View) → pages.tells now world → high < length node.cells
      → CellRow (pages.usable old) (pages.last_page old) (shown_over pages old world) node high (λ row. leading_order row values ≡ Less → ⊥)

pub none_yet : {P : Type 0} (pages : Ghosts P) (old : P) (node : Node) (values : List Value) (high : ℕ) → high ≡ length node.cells → SoFarAt pages old old node values 0 high
none_yet pages old node values high is = record {
  list = [];
  read = refl;
  are = λ world told. tt;
  most = omega (arith, is);
  above = λ world told k none. absurd (omega (arith, none));
  below = λ world told inside. absurd (omega (arith, inside, is));
}

-- the pages of a cell's chain are of the cells
of_cells : (usable last : ℕ) (shown : Shown) (node : Node) (k : ℕ) (front chain : List ℕ) → k < length node.cells → AreOfChain usable last shown (cell_at node k) (front ++ chain)
    → Each (IsOfCells usable last shown node) chain
of_cells usable last shown node k front [] inside are = tt
of_cells usable last shown node k front (p ∷ ps) inside are = (
  record { k = k; inside = inside; front = front; rest = ps; are = are },
  of_cells usable last shown node k (front ++ p ∷ []) ps inside (subst (AreOfChain usable last shown (cell_at node k)) (sym (append_assoc front (p ∷ []) ps)) are),
)

chain_of : (usable last : ℕ) (shown : Shown) (cell : NodeCell) (below : ℕ) (values : List Value) (chain : List ℕ) (result : Result Bool FetchFault)
    → EndsTest usable last shown cell below values chain result → AreOfChain usable last shown cell chain
chain_of usable last shown cell below values chain (Ok under) ends = of_chain usable last shown cell chain ends.1.0.0 0 ends.1.0.1.0
chain_of usable last shown cell below values chain (Err fault.Disk) ends = ends
chain_of usable last shown cell below values chain (Err (fault.Corrupt page)) ends = of_broken ends
  where
    of_broken : BreaksPayload usable last shown cell below chain page → AreOfChain usable last shown cell chain
    of_broken (BreaksPayload.TooLarge none is large) = subst (AreOfChain usable last shown cell) (sym none) tt
    of_broken (BreaksPayload.BreaksOff next left followed is some outside) = of_chain usable last shown cell chain next left followed
    of_broken (BreaksPayload.NoRecord next followed is none) = of_chain usable last shown cell chain next 0 followed
chain_of usable last shown cell below values chain (Err (fault.Size count)) ends = absurd ends
chain_of usable last shown cell below values chain (Err fault.Memory) ends = ends

-- One comparison more, said of the first state.
pub record OneTest {P : Type 0} (pages : Ghosts P) (old then : P) (node : Node) (k below : ℕ) (values : List Value) (result : Result Bool FetchFault) (before : List ℕ) : Type 0 where
  pub chain : List ℕ
  pub read : pages.reads then ≡ all_read (pages.has old) (pages.reads old) (before ++ chain)
  pub are : (world : View) → pages.tells then world → Each (IsOfCells (pages.usable old) (pages.last_page old) (shown_over pages old world) node) chain
  pub ends : (world : View) → pages.tells then world
      → EndsTest (pages.usable old) (pages.last_page old) (shown_over pages old world) (cell_at node k) below values chain result
  pub cause : IfErr result (IsCause (pages.faults old) (pages.faults then))

pub one_test : {P : Type 0} (pages : Ghosts P) (old now then : P) (node : Node) (k below : ℕ) (values : List Value) (result : Result Bool FetchFault) (before : List ℕ)
    → k < length node.cells → ReadsAtMost pages old now → ReadsAtMost pages now then → pages.reads now ≡ all_read (pages.has old) (pages.reads old) before
    → HasTested pages now (cell_at node k) below values result then → OneTest pages old then node k below values result before
one_test pages old now then node k below values result before inside reading more now_is test =
    let ends = λ (world : View) (told : pages.tells then world).
    subst (λ (u : ℕ). EndsTest u (pages.last_page old) (shown_over pages old world) (cell_at node k) below values test.chain result) reading.edits.usable
    (subst (λ (n : ℕ). EndsTest (pages.usable now) n (shown_over pages old world) (cell_at node k) below values test.chain result) reading.last
    (subst (λ (s : Shown). EndsTest (pages.usable now) (pages.last_page now) s (cell_at node k) below values test.chain result)
    (same_shown pages old now reading world (more.edits.narrows world told)) (test.ends world told))) in
    record {
      chain = test.chain;
      read = read_both (pages.has old) (pages.has now) (pages.reads old) (pages.reads now) (pages.reads then) before test.chain reading.has now_is test.read;
      are = λ world told. of_cells (pages.usable old) (pages.last_page old) (shown_over pages old world) node k [] test.chain inside
          (chain_of (pages.usable old) (pages.last_page old) (shown_over pages old world) (cell_at node k) below values test.chain result (ends world told));
      ends = ends;
      cause = if_cause result test.cause;
    }
  where
    if_cause : (result : Result Bool FetchFault) → IfErr result (IsCause (pages.faults now) (pages.faults then)) → IfErr result (IsCause (pages.faults old) (pages.faults then))
    if_cause (Ok under) cause = tt
    if_cause (Err why) cause = cause_before _ _ _ why reading.edits.faults cause

both_are : {P : Type 0} (pages : Ghosts P) (old now then : P) (node : Node) (one two : List ℕ) → ReadsAtMost pages now then
    → ((world : View) → pages.tells now world → Each (IsOfCells (pages.usable old) (pages.last_page old) (shown_over pages old world) node) one)
    → ((world : View) → pages.tells then world → Each (IsOfCells (pages.usable old) (pages.last_page old) (shown_over pages old world) node) two)
    → (world : View) → pages.tells then world → Each (IsOfCells (pages.usable old) (pages.last_page old) (shown_over pages old world) node) (one ++ two)
both_are pages old now then node one two more first second world told =
    each-append (IsOfCells (pages.usable old) (pages.last_page old) (shown_over pages old world) node) one two (first world (more.edits.narrows world told)) (second world told)

row_told : (usable last : ℕ) (shown : Shown) (node : Node) (k below : ℕ) (values : List Value) (chain : List ℕ) (under : Bool) (Of : List Value → Type 0) → k < length node.cells
    → (ends : EndsTest usable last shown (cell_at node k) below values chain (Ok under)) → Of ends.0 → CellRow usable last shown node k Of
row_told usable last shown node k below values chain under Of inside ends of = record {
  inside = inside;
  chain = chain;
  next = ends.1.0.0;
  row = ends.0;
  followed = ends.1.0.1.0;
  is_record = ends.1.0.1.1;
  of = of;
}

pub goes_up : {P : Type 0} (pages : Ghosts P) (old now then : P) (node : Node) (below : ℕ) (values : List Value) (low high middle : ℕ) → middle < length node.cells
    → ReadsAtMost pages now then → (so_far : SoFarAt pages old now node values low high) → OneTest pages old then node middle below values (Ok true) so_far.list
    → SoFarAt pages old then node values (middle + 1) high
goes_up pages old now then node below values low high middle inside more so_far one = record {
  list = so_far.list ++ one.chain;
  read = one.read;
  are = both_are pages old now then node so_far.list one.chain more so_far.are one.are;
  most = so_far.most;
  above = λ world told k is. (
      let same : middle ≡ k = omega (arith, is) in
      let ends = one.ends world told in
      let row : CellRow (pages.usable old) (pages.last_page old) (shown_over pages old world) node middle (λ row. leading_order row values ≡ Less) =
      row_told (pages.usable old) (pages.last_page old) (shown_over pages old world) node middle below values one.chain true (λ row. leading_order row values ≡ Less) inside ends (ends.1.1.0 refl) in
      subst (λ (n : ℕ). CellRow (pages.usable old) (pages.last_page old) (shown_over pages old world) node n (λ row. leading_order row values ≡ Less)) same row);
  below = λ world told less. so_far.below world (more.edits.narrows world told) less;
}

pub goes_down : {P : Type 0} (pages : Ghosts P) (old now then : P) (node : Node) (below : ℕ) (values : List Value) (low high middle : ℕ) → middle < length node.cells
    → ReadsAtMost pages now then → (so_far : SoFarAt pages old now node values low high) → OneTest pages old then node middle below values (Ok false) so_far.list
    → SoFarAt pages old then node values low middle
goes_down pages old now then node below values low high middle inside more so_far one = record {
  list = so_far.list ++ one.chain;
  read = one.read;
  are = both_are pages old now then node so_far.list one.chain more so_far.are one.are;
  most = omega (arith, inside);
  above = λ world told k is. so_far.above world (more.edits.narrows world told) k is;
  below = λ world told less. (
      let ends = one.ends world told in
      row_told (pages.usable old) (pages.last_page old) (shown_over pages old world) node middle below values one.chain false (λ row. leading_order row values ≡ Less → ⊥) inside ends
      (ends.1.1.1 refl));
}

no_way : true ≡ false → ⊥
no_way is = cc

looks_true : (low : List Value) (high : Option (List Value)) → may_look true (Entries (Some low) high) ≡ false → ⊥
looks_true low high is = cc

pub place_fails : {P : Type 0} (pages : Ghosts P) (old now then : P) (node : Node) (below : ℕ) (values : List Value) (bound : Option (List Value)) (low high middle : ℕ) (why : FetchFault)
    → middle < length node.cells → ReadsAtMost pages now then → (so_far : SoFarAt pages old now node values low high)
    → OneTest pages old then node middle below values (Err why) so_far.list → HasPlaced pages old true (Entries (Some values) bound) node below (Err why) then
place_fails pages old now then node below values bound low high middle why inside more so_far one = record {
  list = so_far.list ++ one.chain;
  read = one.read;
  none = λ is. absurd (looks_true values bound is);
  well = λ is. looks_true values bound is;
  inside = tt;
  front = λ never. tt;
  are = both_are pages old now then node so_far.list one.chain more so_far.are one.are;
  ends = λ world told. by_cause (pages.usable old) (pages.last_page old) (shown_over pages old world) why (one.ends world told) one.cause;
  cause = one.cause;
}
  where
    by_cause : (usable last : ℕ) (shown : Shown) (why : FetchFault) → EndsTest usable last shown (cell_at node middle) below values one.chain (Err why)
        → IsCause (pages.faults old) (pages.faults then) why → EndsPlace true usable last shown (Entries (Some values) bound) node below (Err why)
    by_cause usable last shown fault.Disk ends cause = tt
    by_cause usable last shown (fault.Corrupt page) ends cause = record { k = middle; inside = inside; chain = one.chain; breaks = ends }
    by_cause usable last shown (fault.Size count) ends cause = cause
    by_cause usable last shown fault.Memory ends cause = tt

pub place_between : {P : Type 0} (pages : Ghosts P) (old now : P) (node : Node) (below : ℕ) (values : List Value) (bound : Option (List Value)) (low high : ℕ) → low ≤ high → high ≤ low
    → SoFarAt pages old now node values low high → HasPlaced pages old true (Entries (Some values) bound) node below (Ok low) now
place_between pages old now node below values bound low high least most so_far = record {
  list = so_far.list;
  read = so_far.read;
  none = λ is. absurd (looks_true values bound is);
  well = λ is. tt;
  inside = omega (arith, least, so_far.most);
  front = λ never. absurd (no_way never);
  are = so_far.are;
  ends = λ world told. record {
    most = omega (arith, least, so_far.most);
    above = so_far.above world told;
    below = λ inside. (
        let same : high ≡ low = omega (arith, least, most) in
        subst (λ (n : ℕ). CellRow (pages.usable old) (pages.last_page old) (shown_over pages old world) node n (λ row. leading_order row values ≡ Less → ⊥)) same
        (so_far.below world told (omega (arith, inside, same))));
  };
  cause = tt;
}

-- Nothing is compared.
pub placed_still : {P : Type 0} (pages : Ghosts P) (old : P) (seek : Bool) (bounds : Bounds) (node : Node) (below place : ℕ) → place ≤ length node.cells → (seek ≡ false → place ≡ 0)
    → ((usable last : ℕ) (shown : Shown) → IsPlaced seek usable last shown bounds node place) → HasPlaced pages old seek bounds node below (Ok place) old
placed_still pages old seek bounds node below place inside front placed = record {
  list = [];
  read = refl;
  none = λ is. refl;
  well = λ is. tt;
  inside = inside;
  front = front;
  are = λ world told. tt;
  ends = λ world told. placed (pages.usable old) (pages.last_page old) (shown_over pages old world);
  cause = tt;
}

pub is_placed : (seek : Bool) (usable last : ℕ) (shown : Shown) (bounds same : Bounds) (node : Node) (place : ℕ) → seek ≡ true → bounds ≡ same
    → IsPlaced true usable last shown same node place → IsPlaced seek usable last shown bounds node place
is_placed seek usable last shown bounds same node place is are placed =
    subst (λ (b : Bool). IsPlaced b usable last shown bounds node place) (sym is) (subst (λ (b : Bounds). IsPlaced true usable last shown b node place) (sym are) placed)

pub not_both : (seek : Bool) → seek ≡ true → seek ≡ false → ⊥
not_both seek is isnt = cc (is, isnt)

-- a buffer that was filled
pub refilled : (buf items : List ℕ) (len : ℕ) → length buf ≡ length items → len ≡ length items → take len (buf ++ drop (length buf) items) ≡ buf
refilled buf items len same whole =
    ap (λ (l : List ℕ). take len (buf ++ l)) (drop_all (length buf) items (omega (arith, same)))
    ∙ take-append-le len buf [] (omega (arith, same, whole)) ∙ take_all len buf (omega (arith, same, whole))

-- A page that was read has its place.
pub ends_old : {P : Type 0} (pages : Ghosts P) (old now : P) (F : ℕ → ℕ → Shown → Type 0) (world : View) → ReadsAtMost pages old now → pages.tells now world
    → F (pages.usable now) (pages.last_page now) (shown_over pages now world) → F (pages.usable old) (pages.last_page old) (shown_over pages old world)
ends_old pages old now F world reading told is =
    subst (λ (u : ℕ). F u (pages.last_page old) (shown_over pages old world)) reading.edits.usable
    (subst (λ (n : ℕ). F (pages.usable now) n (shown_over pages old world)) reading.last
    (subst (λ (s : Shown). F (pages.usable now) (pages.last_page now) s) (same_shown pages old now reading world told) is))

one_page : (has has_then : ℕ → Bool) (reads now new : List ℕ) (page : ℕ) (list : List ℕ) → ((n : ℕ) → has_then n ≡ has n) → now ≡ all_read has reads (page ∷ [])
    → new ≡ all_read has_then now list → new ≡ all_read has reads (page ∷ list)
one_page has has_then reads now new page list same now_is new_is = read_both has has_then reads now new (page ∷ []) list same now_is new_is

pub has_level : {P : Type 0} (pages : Ghosts P) (old now new : P) (seek : Bool) (bounds : Bounds) (page depth : ℕ) (level : Level) → ReadsAtMost pages old now → ReadsAtMost pages now new
    → level.page ≡ page → level.at_cell ≡ is_leaf level.node.kind → (has : HasNode pages old (of_table bounds) page depth level.bytes.items level.node now)
    → HasPlaced pages now seek bounds has.node page (Ok level.place) new → HasLevel pages old seek bounds page depth level new
has_level pages old now new seek bounds page depth level reading more page_is at has placed =
    record {
      page_is = page_is;
      at_cell = at;
      node = has.node;
      tells = has.tells;
      may = has.may;
      inside = placed.inside;
      front = placed.front;
      shown = λ world told. has.shown world (more.edits.narrows world told);
      placed = λ world told. ends_old pages old now (λ u n s. IsPlaced seek u n s bounds has.node level.place) world reading (more.edits.narrows world told) (placed.ends world told);
      list = placed.list;
      read = one_page (pages.has old) (pages.has now) (pages.reads old) (pages.reads now) (pages.reads new) page placed.list reading.has has.read placed.read;
      none = placed.none;
      are = λ world told. ends_old pages old now (λ u n s. Each (IsOfCells u n s has.node) placed.list) world reading (more.edits.narrows world told) (placed.are world told);
    }

-- Why a page gives no level.
pub bars_buffer : {P : Type 0} (pages : Ghosts P) (old : P) (seek : Bool) (bounds : Bounds) (page depth : ℕ) (why : FetchFault) → why ≡ fault.Memory
    → BarsLevel pages old seek bounds page depth why old
bars_buffer pages old seek bounds page depth why is = subst (λ (w : FetchFault). BarsLevel pages old seek bounds page depth w old) (sym is) (record {
  list = [];
  read = refl;
  are = λ world told. AreReadOf.Nothing refl;
  ends = λ world told. tt;
  cause = tt;
})

node_cause : {P : Type 0} (pages : Ghosts P) (old new : P) (table : Bool) (page depth : ℕ) (why : FetchFault) → BarsNode pages old table page depth new why
    → IsCause (pages.faults old) (pages.faults new) why
node_cause pages old new table page depth fault.Disk bars = bars
node_cause pages old new table page depth (fault.Corrupt named) bars = tt
node_cause pages old new table page depth (fault.Size count) bars = bars
node_cause pages old new table page depth fault.Memory bars = tt

node_ends : {P : Type 0} (pages : Ghosts P) (old new : P) (seek : Bool) (bounds : Bounds) (page depth : ℕ) (why : FetchFault) → BarsNode pages old (of_table bounds) page depth new why
    → (world : View) → pages.tells new world → EndsLevel (pages.usable old) (pages.last_page old) (shown_over pages old world) seek bounds depth page why
node_ends pages old new seek bounds page depth fault.Disk bars world told = tt
node_ends pages old new seek bounds page depth (fault.Corrupt named) bars world told = BreaksLevel.ShowsNone bars.0 (bars.2 world told)
node_ends pages old new seek bounds page depth (fault.Size count) bars world told = bars
node_ends pages old new seek bounds page depth fault.Memory bars world told = tt

pub bars_node : {P : Type 0} (pages : Ghosts P) (old new : P) (seek : Bool) (bounds : Bounds) (page depth : ℕ) (why : FetchFault) → BarsNode pages old (of_table bounds) page depth new why
    → (pages.reads new ≡ pages.reads old) ⊎ (pages.reads new ≡ pages_read pages old page) → BarsLevel pages old seek bounds page depth why new
bars_node pages old new seek bounds page depth why bars (inl none) = record {
  list = [];
  read = none;
  are = λ world told. AreReadOf.Nothing refl;
  ends = node_ends pages old new seek bounds page depth why bars;
  cause = node_cause pages old new (of_table bounds) page depth why bars;
}
bars_node pages old new seek bounds page depth why bars (inr one) = record {
  list = page ∷ [];
  read = one;
  are = λ world told. AreReadOf.Alone refl;
  ends = node_ends pages old new seek bounds page depth why bars;
  cause = node_cause pages old new (of_table bounds) page depth why bars;
}

place_ends : (usable last : ℕ) (shown : Shown) (seek : Bool) (bounds : Bounds) (node : Node) (page depth : ℕ) (why : FetchFault) → ShowsNode (of_table bounds) shown depth page node
    → may_look seek bounds ≡ true → EndsPlace seek usable last shown bounds node page (Err why) → EndsLevel usable last shown seek bounds depth page why
place_ends usable last shown seek bounds node page depth fault.Disk shows looks ends = tt
place_ends usable last shown seek bounds node page depth (fault.Corrupt named) shows looks ends = BreaksLevel.InCell node shows looks ends
place_ends usable last shown seek bounds node page depth (fault.Size count) shows looks ends = ends
place_ends usable last shown seek bounds node page depth fault.Memory shows looks ends = tt

pub bars_place : {P : Type 0} (pages : Ghosts P) (old now new : P) (seek : Bool) (bounds : Bounds) (page depth : ℕ) (bytes : List ℕ) (told : Page) (why : FetchFault)
    → ReadsAtMost pages old now → ReadsAtMost pages now new → (has : HasNode pages old (of_table bounds) page depth bytes told now)
    → HasPlaced pages now seek bounds has.node page (Err why) new → BarsLevel pages old seek bounds page depth why new
bars_place pages old now new seek bounds page depth bytes told_page why reading more has placed = by_look (may_look seek bounds) refl
  where
    by_look : (looks : Bool) → may_look seek bounds ≡ looks → BarsLevel pages old seek bounds page depth why new
    by_look false is = absurd (placed.well is)
    by_look true is = record {
      list = page ∷ placed.list;
      read = one_page (pages.has old) (pages.has now) (pages.reads old) (pages.reads now) (pages.reads new) page placed.list reading.has has.read placed.read;
      are = λ world told. AreReadOf.WithCells has.node placed.list is (has.shown world (more.edits.narrows world told)) refl
          (ends_old pages old now (λ u n s. Each (IsOfCells u n s has.node) placed.list) world reading (more.edits.narrows world told) (placed.are world told));
      ends = λ world told. place_ends (pages.usable old) (pages.last_page old) (shown_over pages old world) seek bounds has.node page depth why
          (record { holds = has.shown world (more.edits.narrows world told); may = has.may }) is
          (ends_old pages old now (λ u n s. EndsPlace seek u n s bounds has.node page (Err why)) world reading (more.edits.narrows world told) (placed.ends world told));
      cause = cause_before (pages.faults old) (pages.faults now) (pages.faults new) why reading.edits.faults placed.cause;
    }
