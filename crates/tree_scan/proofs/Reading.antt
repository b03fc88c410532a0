-- Which pages a cursor's calls read.
use Rattle.std.proofs.Common.{◌≡◌, ℕ, ℤ, Bool, true, false, List, [], ◌∷◌, ◌++◌, Option, None, Some, Ok, Err, Result, refl, sym, subst, ap, ◌∙◌, append-nil, append_assoc}
use Rattle.std.specs.Prelude.{◌⊎◌, not}
use Rattle.page_spec.specs.View.{View}
use Rattle.engine_spec.specs.declared.commits.FetchFault.{FetchFault}
use Rattle.page_face.specs.declared.pages_tells.PagesTells.{Ghosts}
use Rattle.page_face.specs.Pages.{ReadsAtMost}
use Rattle.node_spec.specs.Kinds.{is_leaf}
use Rattle.node_spec.specs.Nodes.{Node}
use Rattle.tree_spec.specs.Shown.{Shown}
use Rattle.tree_spec.specs.Layout.{Item}
use Rattle.tree_spec.specs.Trees.{IsTree, Content}
use Rattle.overflow.specs.Following.{shown_over, all_read}
use Rattle.value_form.specs.declared.value.Value.{Value}
use Rattle.tree_read.proofs.Descents.{read_both}
use Rattle.tree_read.proofs.Levels.{one_node}
use Rattle.tree_scan.specs.declared.bounds.Bounds.{Bounds}
use Rattle.tree_scan.specs.declared.level.Level.{Level}
use Rattle.tree_scan.specs.declared.cursor.Cursor.{Cursor}
use Rattle.tree_scan.specs.Bounded.{of_table, may_look}
use Rattle.tree_scan.specs.Coming.{Comes, gone_past}
use Rattle.tree_scan.specs.Placing.{HasLevel, AreReadOf}
use Rattle.tree_scan.specs.Reads.{NoOftener, TakesPages, ReadsOf, IsAhead, AreToRead, compares, LeavesToRead, HasReadAhead, LeavesAhead, HasWalked, HasStarted, HasTaken}
use Rattle.tree_scan.specs.Walking.{IsWalk, AreOfNext, EndsWalk, IsFirstWalk, EndsFirstWalk, WalksOn, IsOnPath, BeginsBy, IsReadNext}
use Rattle.tree_scan.proofs.Places.{ends_old}
use Rattle.tree_scan.proofs.Walks.{first_walk, first_walk_on, walks_on}
use Rattle.tree_scan.proofs.Paths.{start_reads}
use Rattle.tree_scan.proofs.Shows.{to_old, to_now, looked_cells, read_of}
use Rattle.tree_scan.proofs.Within.{within_none, within_same, within_then, within_last, within_on, within_join, takes_same, takes_exactly, takes_then, takes_on, takes_last, reads_exactly}

-- What is ahead of a cursor that has begun comes from its path.
pub path_of : (usable last : ℕ) (shown : Shown) (height : ℕ) (cursor : Cursor) (own : List ℕ) → cursor.begun ≡ true → AreToRead usable last shown height cursor own
    → (items : List Item) × Comes (of_table cursor.bounds) usable last shown height cursor.levels.items own items
path_of usable last shown height cursor own is ahead =
    (ahead.0, subst (λ (b : Bool). IsAhead b usable last shown height cursor own ahead.0) is ahead.1)

pub of_path : (usable last : ℕ) (shown : Shown) (height : ℕ) (cursor : Cursor) (own : List ℕ) (items : List Item) → cursor.begun ≡ true
    → Comes (of_table cursor.bounds) usable last shown height cursor.levels.items own items → AreToRead usable last shown height cursor own
of_path usable last shown height cursor own items is comes = (items, subst (λ (b : Bool). IsAhead b usable last shown height cursor own items) (sym is) comes)

-- of one that hasn't, from its root
pub tree_of : (usable last : ℕ) (shown : Shown) (height : ℕ) (cursor : Cursor) (own : List ℕ) → cursor.begun ≡ false → AreToRead usable last shown height cursor own
    → (items : List Item) × IsTree (of_table cursor.bounds) usable last shown height cursor.root own items
tree_of usable last shown height cursor own is ahead =
    (ahead.0, subst (λ (b : Bool). IsAhead b usable last shown height cursor own ahead.0) is ahead.1)

pub of_tree : (usable last : ℕ) (shown : Shown) (height : ℕ) (cursor : Cursor) (own : List ℕ) (items : List Item) → cursor.begun ≡ false
    → IsTree (of_table cursor.bounds) usable last shown height cursor.root own items → AreToRead usable last shown height cursor own
of_tree usable last shown height cursor own items is tree = (items, subst (λ (b : Bool). IsAhead b usable last shown height cursor own items) (sym is) tree)

-- the pages of a walk that went well, and then others
read_on : {P : Type 0} (pages : Ghosts P) (old now new : P) (kept again list : List ℕ) → ReadsAtMost pages old now
    → pages.reads now ≡ all_read (pages.has old) (pages.reads old) (kept ++ again) → again ≡ [] → pages.reads new ≡ all_read (pages.has now) (pages.reads now) list
    → pages.reads new ≡ all_read (pages.has old) (pages.reads old) (kept ++ list)
read_on pages old now new kept again list reading first none more =
    read_both (pages.has old) (pages.has now) (pages.reads old) (pages.reads now) (pages.reads new) kept list reading.has
    (first ∙ ap (λ (l : List ℕ). all_read (pages.has old) (pages.reads old) l) (ap (λ (l : List ℕ). kept ++ l) none ∙ append-nil kept)) more

-- whether entries are compared
compares_is : (cursor : Cursor) (begun : Bool) → cursor.begun ≡ begun → may_look (not begun) cursor.bounds ≡ compares cursor
compares_is cursor begun is = ap (λ (b : Bool). may_look (not b) cursor.bounds) (sym is)

leaves : {T : Type 0} (usable last : ℕ) (shown : Shown) (height : ℕ) (cursor cursor_then : Cursor) (begun : Bool) (own list : List ℕ) (result : Result T FetchFault) → cursor.begun ≡ begun
    → LeavesToRead usable last shown height (may_look (not begun) cursor.bounds) own list result cursor_then
    → LeavesToRead usable last shown height (compares cursor) own list result cursor_then
leaves usable last shown height cursor cursor_then begun own list result is left =
    subst (λ (looks : Bool). LeavesToRead usable last shown height looks own list result cursor_then) (compares_is cursor begun is) left

-- What the pages are that were read: of a walk on, or of a call.
abbrev IsReadOf : Cursor → (usable last : ℕ) → Shown → List ℕ → Type 0
IsReadOf cursor usable last shown list = IsReadNext usable last shown cursor list

abbrev WalksOf : Cursor → (usable last : ℕ) → Shown → List ℕ → Type 0
WalksOf cursor usable last shown list = WalksOn usable last shown cursor.bounds cursor.levels.items list

-- Where the walk fails.
pub reads_walked : {P T : Type 0} (pages : Ghosts P) (old new : P) (cursor cursor_then : Cursor) (why : FetchFault) → cursor.begun ≡ true → cursor_then.begun ≡ true
    → cursor_then.bounds ≡ cursor.bounds → HasWalked {T = Unit {0}} false cursor.bounds pages old cursor.levels.items cursor_then.levels.items (Err why) new
    → HasReadAhead {T = T} pages old (WalksOf cursor) cursor (Err why) cursor_then new
reads_walked {T = T} pages old new cursor cursor_then why begun begun_then bounds walked = record {
  list = walked.kept ++ walked.again;
  read = walked.read;
  are = λ world told. record {
    levels_then = cursor_then.levels.items;
    walked = walked.kept;
    rest = walked.again;
    walk = walked.walk world told;
    ends = walked.end world told;
    list_is = refl;
  };
  of = λ world told bound height own ahead.
      let usable = pages.usable old in
      let shown = shown_over pages old world in
      let path = path_of usable bound shown height cursor own begun ahead in
      let left = walked.of world told bound height own path.0 path.1 in
      leaves {T = T} usable bound shown height cursor cursor_then true own (walked.kept ++ walked.again) (Err why) begun (
        left.own_then,
        (
          of_path usable bound shown height cursor_then left.own_then left.items_then begun_then
              (subst (λ (d : Bounds). Comes (of_table d) usable bound shown height cursor_then.levels.items left.own_then left.items_then) (sym bounds) left.comes),
          (within_on walked.kept left.own_then walked.again own left.within left.next, within_last walked.kept left.own_then own left.within),
        ),
      );
}

-- where there is no item in the bounds, and the path is dropped
pub reads_none : {P : Type 0} (pages : Ghosts P) (old now new : P) (cursor cursor_then : Cursor) (levels : List Level) → cursor.begun ≡ true → cursor_then.begun ≡ true
    → cursor_then.levels.items ≡ [] → ReadsAtMost pages old now → ReadsAtMost pages now new
    → HasWalked {T = Unit {0}} false cursor.bounds pages old cursor.levels.items levels (Ok tt) now
    → HasTaken (of_table cursor.bounds) pages now levels (Ok None) new → HasReadAhead {T = Option (ℤ × List Value)} pages old (WalksOf cursor) cursor (Ok None) cursor_then new
reads_none pages old now new cursor cursor_then levels begun begun_then dropped reading more walked taken = record {
  list = walked.kept ++ taken.list;
  read = read_on pages old now new walked.kept walked.again taken.list reading walked.read walked.well taken.read;
  are = λ world told.
      let seen = more.edits.narrows world told in
      walks_on (pages.usable old) (pages.last_page old) (shown_over pages old world) cursor.bounds cursor.levels.items walked.kept levels taken.list (walked.walk world seen)
      (ends_old pages old now (λ u n s. (taken.list ≡ []) ⊎ AreOfNext u n s levels taken.list) world reading seen (taken.are world told));
  of = λ world told bound height own ahead.
      let usable = pages.usable old in
      let shown = shown_over pages old world in
      let seen = more.edits.narrows world told in
      let path = path_of usable bound shown height cursor own begun ahead in
      let left = walked.of world seen bound height own path.0 path.1 in
      let few = taken.of world told bound height left.own_then left.items_then
      (to_now pages old now (λ (u : ℕ) (s : Shown). Comes (of_table cursor.bounds) u bound s height levels left.own_then left.items_then) world reading seen left.comes) in
      leaves {T = Option (ℤ × List Value)} usable bound shown height cursor cursor_then true own (walked.kept ++ taken.list) (Ok None) begun (
        [],
        (
          of_path usable bound shown height cursor_then [] [] begun_then
              (subst (λ (l : List Level). Comes (of_table cursor_then.bounds) usable bound shown height l [] []) (sym dropped) (refl, refl)),
          subst (λ (l : List ℕ). NoOftener l own) (sym (append-nil (walked.kept ++ taken.list))) (within_on walked.kept left.own_then taken.list own left.within few),
        ),
      );
}

-- where one was given
pub reads_some : {P : Type 0} (pages : Ghosts P) (old now new : P) (cursor cursor_then : Cursor) (levels : List Level) (pair : ℤ × List Value) → cursor.begun ≡ true
    → cursor_then.begun ≡ true → cursor_then.bounds ≡ cursor.bounds → ReadsAtMost pages old now → ReadsAtMost pages now new
    → ((above : List Level) (top : Level) → levels ≡ above ++ top ∷ [] → cursor_then.levels.items ≡ above ++ gone_past top ∷ [])
    → HasWalked {T = Unit {0}} false cursor.bounds pages old cursor.levels.items levels (Ok tt) now
    → HasTaken (of_table cursor.bounds) pages now levels (Ok (Some pair)) new → HasReadAhead {T = Option (ℤ × List Value)} pages old (WalksOf cursor) cursor (Ok (Some pair)) cursor_then new
reads_some pages old now new cursor cursor_then levels pair begun begun_then bounds reading more stepped walked taken = record {
  list = walked.kept ++ taken.list;
  read = read_on pages old now new walked.kept walked.again taken.list reading walked.read walked.well taken.read;
  are = λ world told.
      let seen = more.edits.narrows world told in
      walks_on (pages.usable old) (pages.last_page old) (shown_over pages old world) cursor.bounds cursor.levels.items walked.kept levels taken.list (walked.walk world seen)
      (ends_old pages old now (λ u n s. (taken.list ≡ []) ⊎ AreOfNext u n s levels taken.list) world reading seen (taken.are world told));
  of = λ world told bound height own ahead.
      let usable = pages.usable old in
      let shown = shown_over pages old world in
      let seen = more.edits.narrows world told in
      let path = path_of usable bound shown height cursor own begun ahead in
      let left = walked.of world seen bound height own path.0 path.1 in
      let behind = taken.of world told bound height left.own_then left.items_then
      (to_now pages old now (λ (u : ℕ) (s : Shown). Comes (of_table cursor.bounds) u bound s height levels left.own_then left.items_then) world reading seen left.comes)
      cursor_then.levels.items stepped in
      leaves {T = Option (ℤ × List Value)} usable bound shown height cursor cursor_then true own (walked.kept ++ taken.list) (Ok (Some pair)) begun (
        behind.own_then,
        (
          of_path usable bound shown height cursor_then behind.own_then behind.items_then begun_then
              (subst (λ (d : Bounds). Comes (of_table d) usable bound shown height cursor_then.levels.items behind.own_then behind.items_then) (sym bounds)
              (to_old pages old now (λ (u : ℕ) (s : Shown). Comes (of_table cursor.bounds) u bound s height cursor_then.levels.items behind.own_then behind.items_then) world reading seen
              behind.comes)),
          within_then walked.kept taken.list behind.own_then left.own_then own left.within behind.within,
        ),
      );
}

-- where it is no row
pub reads_fault : {P : Type 0} (pages : Ghosts P) (old now new : P) (cursor cursor_then : Cursor) (why : FetchFault) → cursor.begun ≡ true → cursor_then.begun ≡ true
    → cursor_then.bounds ≡ cursor.bounds → ReadsAtMost pages old now → ReadsAtMost pages now new
    → HasWalked {T = Unit {0}} false cursor.bounds pages old cursor.levels.items cursor_then.levels.items (Ok tt) now
    → HasTaken (of_table cursor.bounds) pages now cursor_then.levels.items (Err why) new → HasReadAhead {T = Option (ℤ × List Value)} pages old (WalksOf cursor) cursor (Err why) cursor_then new
reads_fault pages old now new cursor cursor_then why begun begun_then bounds reading more walked taken = record {
  list = walked.kept ++ taken.list;
  read = read_on pages old now new walked.kept walked.again taken.list reading walked.read walked.well taken.read;
  are = λ world told.
      let seen = more.edits.narrows world told in
      walks_on (pages.usable old) (pages.last_page old) (shown_over pages old world) cursor.bounds cursor.levels.items walked.kept cursor_then.levels.items taken.list (walked.walk world seen)
      (ends_old pages old now (λ u n s. (taken.list ≡ []) ⊎ AreOfNext u n s cursor_then.levels.items taken.list) world reading seen (taken.are world told));
  of = λ world told bound height own ahead.
      let usable = pages.usable old in
      let shown = shown_over pages old world in
      let seen = more.edits.narrows world told in
      let path = path_of usable bound shown height cursor own begun ahead in
      let left = walked.of world seen bound height own path.0 path.1 in
      let few = taken.of world told bound height left.own_then left.items_then
      (to_now pages old now (λ (u : ℕ) (s : Shown). Comes (of_table cursor.bounds) u bound s height cursor_then.levels.items left.own_then left.items_then) world reading seen left.comes) in
      leaves {T = Option (ℤ × List Value)} usable bound shown height cursor cursor_then true own (walked.kept ++ taken.list) (Err why) begun (
        left.own_then,
        (
          of_path usable bound shown height cursor_then left.own_then left.items_then begun_then
              (subst (λ (d : Bounds). Comes (of_table d) usable bound shown height cursor_then.levels.items left.own_then left.items_then) (sym bounds) left.comes),
          (within_on walked.kept left.own_then taken.list own left.within few, within_last walked.kept left.own_then own left.within),
        ),
      );
}

-- The first path.
pub started_root : {P T : Type 0} (pages : Ghosts P) (old new : P) (bounds : Bounds) (root : ℕ) (levels : List Level) (why : FetchFault) (list : List ℕ)
    → pages.reads new ≡ all_read (pages.has old) (pages.reads old) list
    → ((world : View) → pages.tells new world → AreReadOf (pages.usable old) (pages.last_page old) (shown_over pages old world) (may_look true bounds) root list)
    → HasStarted {T = T} bounds pages old root levels (Err why) new
started_root pages old new bounds root levels why list read are = record {
  list = list;
  read = read;
  are = λ world told. EndsFirstWalk.AtRoot (are world told);
  of = λ world told bound height own items tree.
      read_of true bounds (pages.usable old) bound (pages.last_page old) (shown_over pages old world) height root tree.node tree.below [] own items list tree.holds tree.content
      (tree.own_is ∙ ap (λ (l : List ℕ). root ∷ l) (sym (append-nil tree.below))) (are world told);
}

pub started_level : {P T : Type 0} (pages : Ghosts P) (old new : P) (bounds : Bounds) (root : ℕ) (level : Level) (levels : List Level) (done : T)
    → HasLevel pages old true bounds root 0 level new → levels ≡ level ∷ [] → HasStarted bounds pages old root levels (Ok done) new
started_level pages old new bounds root level levels done has are = record {
  list = root ∷ has.list;
  read = has.read;
  are = first_walk pages old new bounds root level levels has are;
  of = λ world told bound height own items tree.
      let usable = pages.usable old in
      let shown = shown_over pages old world in
      let same : tree.node ≡ has.node = one_node shown root tree.node has.node tree.holds (has.shown world told) in
      subst (λ (l : List Level). LeavesAhead (of_table bounds) usable bound shown height l (may_look true bounds) own (root ∷ has.list) []) (sym are)
      (start_reads (of_table bounds) usable bound shown height root (may_look true bounds) own items level has.list has.node has.page_is (has.shown world told) has.inside
      (has.at_cell ∙ ap is_leaf has.tells.kind) has.none tree
      (looked_cells true bounds usable bound (pages.last_page old) shown height has.node tree.below items has.list
      (subst (λ (n : Node). Content (of_table bounds) usable bound shown height n tree.below items) same tree.content) (has.are world told)));
}

-- the first walk goes on
gone : {P : Type 0} (bounds : Bounds) (pages : Ghosts P) (old now new : P) (root : ℕ) (pushed levels : List Level) (list more_list : List ℕ) → ReadsAtMost pages old now
    → ReadsAtMost pages now new
    → ((world : View) → pages.tells now world → IsFirstWalk (pages.usable old) (pages.last_page old) (shown_over pages old world) bounds root list pushed)
    → ((world : View) → pages.tells new world → IsWalk (pages.usable now) (pages.last_page now) (shown_over pages now world) true bounds pushed more_list levels)
    → (world : View) → pages.tells new world → IsFirstWalk (pages.usable old) (pages.last_page old) (shown_over pages old world) bounds root (list ++ more_list) levels
gone bounds pages old now new root pushed levels list more_list reading more first walk world told =
    let seen = more.edits.narrows world told in
    first_walk_on (pages.usable old) (pages.last_page old) (shown_over pages old world) bounds root list pushed more_list levels (first world seen)
    (ends_old pages old now (λ u n s. IsWalk u n s true bounds pushed more_list levels) world reading seen (walk world told))

pub started_way : {P T U : Type 0} (bounds : Bounds) (pages : Ghosts P) (old now new : P) (root : ℕ) (pushed levels : List Level) (done : T) (result : Result U FetchFault)
    → ReadsAtMost pages old now → ReadsAtMost pages now new → HasStarted bounds pages old root pushed (Ok done) now → HasWalked true bounds pages now pushed levels result new
    → HasStarted bounds pages old root levels result new
started_way bounds pages old now new root pushed levels done (Ok other) reading more first walked = record {
  list = first.list ++ walked.kept;
  read = read_both (pages.has old) (pages.has now) (pages.reads old) (pages.reads now) (pages.reads new) first.list walked.kept reading.has first.read
      (walked.read ∙ ap (λ (l : List ℕ). all_read (pages.has now) (pages.reads now) l) (ap (λ (l : List ℕ). walked.kept ++ l) walked.well ∙ append-nil walked.kept));
  are = gone bounds pages old now new root pushed levels first.list walked.kept reading more first.are walked.walk;
  of = λ world told bound height own items tree.
      let seen = more.edits.narrows world told in
      let left = first.of world seen bound height own items tree in
      let then_is = walked.of world told bound height left.own_then left.items_then
      (to_now pages old now (λ (u : ℕ) (s : Shown). Comes (of_table bounds) u bound s height pushed left.own_then left.items_then) world reading seen left.comes) in
      record {
        own_then = then_is.own_then;
        items_then = then_is.items_then;
        comes = to_old pages old now (λ (u : ℕ) (s : Shown). Comes (of_table bounds) u bound s height levels then_is.own_then then_is.items_then) world reading seen then_is.comes;
        within = takes_then (may_look true bounds) first.list walked.kept then_is.own_then left.own_then own left.within then_is.within;
        next = reads_exactly (may_look true bounds) then_is.own_then [] (within_none then_is.own_then);
      };
}
started_way bounds pages old now new root pushed levels done (Err why) reading more first walked = record {
  list = first.list ++ (walked.kept ++ walked.again);
  read = read_both (pages.has old) (pages.has now) (pages.reads old) (pages.reads now) (pages.reads new) first.list (walked.kept ++ walked.again) reading.has first.read walked.read;
  are = λ world told. EndsFirstWalk.OnWay levels (first.list ++ walked.kept) walked.again
      (gone bounds pages old now new root pushed levels first.list walked.kept reading more first.are walked.walk world told)
      (ends_old pages old now (λ u n s. EndsWalk u n s true bounds levels walked.again) world reading (more.edits.narrows world told) (walked.end world told))
      (sym (append_assoc first.list walked.kept walked.again));
  of = λ world told bound height own items tree.
      let seen = more.edits.narrows world told in
      let left = first.of world seen bound height own items tree in
      let then_is = walked.of world told bound height left.own_then left.items_then
      (to_now pages old now (λ (u : ℕ) (s : Shown). Comes (of_table bounds) u bound s height pushed left.own_then left.items_then) world reading seen left.comes) in
      takes_on (may_look true bounds) first.list left.own_then (walked.kept ++ walked.again) own left.within
      (takes_on (may_look true bounds) walked.kept then_is.own_then walked.again left.own_then then_is.within then_is.next);
}

-- Before a cursor has begun.
abbrev StartsOf : {T : Type 0} → Cursor → Result T FetchFault → Cursor → (usable last : ℕ) → Shown → List ℕ → Type 0
StartsOf cursor result cursor_then usable last shown list = BeginsBy usable last shown cursor result cursor_then list

pub reads_started : {P : Type 0} (pages : Ghosts P) (old new : P) (cursor cursor_then : Cursor) → cursor.begun ≡ false → cursor_then.begun ≡ true → cursor_then.bounds ≡ cursor.bounds
    → HasStarted {T = Unit {0}} cursor.bounds pages old cursor.root cursor_then.levels.items (Ok tt) new
    → HasReadAhead {T = Unit {0}} pages old (StartsOf {T = Unit {0}} cursor (Ok tt) cursor_then) cursor (Ok tt) cursor_then new
reads_started pages old new cursor cursor_then begun begun_then bounds started = record {
  list = started.list;
  read = started.read;
  are = λ world told.
      subst (λ (b : Bool). IsOnPath b (pages.usable old) (pages.last_page old) (shown_over pages old world) cursor started.list cursor_then.levels.items) (sym begun) (started.are world told);
  of = λ world told bound height own ahead.
      let usable = pages.usable old in
      let shown = shown_over pages old world in
      let tree = tree_of usable bound shown height cursor own begun ahead in
      let left = started.of world told bound height own tree.0 tree.1 in
      leaves {T = Unit {0}} usable bound shown height cursor cursor_then false own started.list (Ok tt) begun (
        left.own_then,
        (
          of_path usable bound shown height cursor_then left.own_then left.items_then begun_then
              (subst (λ (d : Bounds). Comes (of_table d) usable bound shown height cursor_then.levels.items left.own_then left.items_then) (sym bounds) left.comes),
          left.within,
        ),
      );
}

pub reads_refused : {P : Type 0} (pages : Ghosts P) (old new : P) (cursor cursor_then : Cursor) (why : FetchFault) → cursor.begun ≡ false → cursor_then.begun ≡ false
    → cursor_then.bounds ≡ cursor.bounds → cursor_then.root ≡ cursor.root
    → HasStarted {T = Unit {0}} cursor.bounds pages old cursor.root cursor_then.levels.items (Err why) new
    → HasReadAhead {T = Unit {0}} pages old (StartsOf {T = Unit {0}} cursor (Err why) cursor_then) cursor (Err why) cursor_then new
reads_refused pages old new cursor cursor_then why begun begun_then bounds root started = record {
  list = started.list;
  read = started.read;
  are = λ world told. (begun, started.are world told);
  of = λ world told bound height own ahead.
      let usable = pages.usable old in
      let shown = shown_over pages old world in
      let tree = tree_of usable bound shown height cursor own begun ahead in
      leaves {T = Unit {0}} usable bound shown height cursor cursor_then false own started.list (Err why) begun (
        own,
        (
          of_tree usable bound shown height cursor_then own tree.0 begun_then
              (subst (λ (d : Bounds). IsTree (of_table d) usable bound shown height cursor_then.root own tree.0) (sym bounds)
              (subst (λ (p : ℕ). IsTree (of_table cursor.bounds) usable bound shown height p own tree.0) (sym root) tree.1)),
          (started.of world told bound height own tree.0 tree.1, within_same own),
        ),
      );
}

pub reads_nothing : {P : Type 0} (pages : Ghosts P) (old : P) (cursor : Cursor) → cursor.begun ≡ true
    → HasReadAhead {T = Unit {0}} pages old (StartsOf {T = Unit {0}} cursor (Ok tt) cursor) cursor (Ok tt) cursor old
reads_nothing pages old cursor begun = record {
  list = [];
  read = refl;
  are = λ world told.
      subst (λ (b : Bool). IsOnPath b (pages.usable old) (pages.last_page old) (shown_over pages old world) cursor [] cursor.levels.items) (sym begun) (refl, refl);
  of = λ world told bound height own ahead. (own, (ahead, takes_same (compares cursor) own));
}

pub refused_nothing : {P : Type 0} (pages : Ghosts P) (old : P) (cursor : Cursor) (why : FetchFault) → cursor.begun ≡ false
    → HasReadAhead {T = Unit {0}} pages old (StartsOf {T = Unit {0}} cursor (Err why) cursor) cursor (Err why) cursor old
refused_nothing pages old cursor why begun = record {
  list = [];
  read = refl;
  are = λ world told. (begun, EndsFirstWalk.AtRoot (AreReadOf.Nothing refl));
  of = λ world told bound height own ahead. (own, (ahead, (reads_exactly (compares cursor) own [] (within_none own), within_same own)));
}

-- what a call read that was refused as it began
pub reads_starting : {P : Type 0} (pages : Ghosts P) (old new : P) (cursor cursor_then : Cursor) (why : FetchFault)
    → HasReadAhead {T = Unit {0}} pages old (StartsOf {T = Unit {0}} cursor (Err why) cursor_then) cursor (Err why) cursor_then new
    → HasReadAhead {T = Option (ℤ × List Value)} pages old (IsReadOf cursor) cursor (Err why) cursor_then new
reads_starting pages old new cursor cursor_then why first = record {
  list = first.list;
  read = first.read;
  are = λ world told. IsReadNext.Starting (first.are world told).0 (first.are world told).1;
  of = first.of;
}

-- From call to call: once begun, a cursor compares nothing.
exact_takes : (looks : Bool) (begun : Bool) (bounds : Bounds) (own list still : List ℕ) → begun ≡ true → TakesPages (may_look (not begun) bounds) own list still → TakesPages looks own list still
exact_takes looks begun bounds own list still is takes =
    takes_exactly looks own list still (subst (λ (b : Bool). TakesPages (may_look (not b) bounds) own list still) is takes)

exact_reads : (looks : Bool) (begun : Bool) (bounds : Bounds) (own list : List ℕ) → begun ≡ true → ReadsOf (may_look (not begun) bounds) own list → ReadsOf looks own list
exact_reads looks begun bounds own list is reads = reads_exactly looks own list (subst (λ (b : Bool). ReadsOf (may_look (not b) bounds) own list) is reads)

joined : {P : Type 0} (pages : Ghosts P) (old now new : P) (first second : Cursor) (one two : List ℕ) → ReadsAtMost pages old now → ReadsAtMost pages now new
    → second.bounds ≡ first.bounds
    → ((world : View) → pages.tells now world → StartsOf {T = Unit {0}} first (Ok tt) second (pages.usable old) (pages.last_page old) (shown_over pages old world) one)
    → ((world : View) → pages.tells new world → WalksOf second (pages.usable now) (pages.last_page now) (shown_over pages now world) two)
    → (world : View) → pages.tells new world → IsReadOf first (pages.usable old) (pages.last_page old) (shown_over pages old world) (one ++ two)
joined pages old now new first second one two reading more bounds starts goes world told =
    let seen = more.edits.narrows world told in
    IsReadNext.Going second.levels.items one two (starts world seen)
    (subst (λ (b : Bounds). WalksOn (pages.usable old) (pages.last_page old) (shown_over pages old world) b second.levels.items two) bounds
    (ends_old pages old now (λ u n s. WalksOn u n s second.bounds second.levels.items two) world reading seen (goes world told))) refl

pub reads_join : {P U : Type 0} (pages : Ghosts P) (old now new : P) (first second third : Cursor) (result : Result U FetchFault) → ReadsAtMost pages old now
    → ReadsAtMost pages now new → second.begun ≡ true → second.bounds ≡ first.bounds
    → HasReadAhead {T = Unit {0}} pages old (StartsOf {T = Unit {0}} first (Ok tt) second) first (Ok tt) second now → HasReadAhead pages now (WalksOf second) second result third new
    → HasReadAhead pages old (IsReadOf first) first result third new
reads_join pages old now new first second third (Ok found) reading more begun bounds one two = record {
  list = one.list ++ two.list;
  read = read_both (pages.has old) (pages.has now) (pages.reads old) (pages.reads now) (pages.reads new) one.list two.list reading.has one.read two.read;
  are = joined pages old now new first second one.list two.list reading more bounds one.are two.are;
  of = λ world told bound height own ahead.
      let seen = more.edits.narrows world told in
      let middle = one.of world seen bound height own ahead in
      let last = two.of world told bound height middle.0 (to_now pages old now (λ (u : ℕ) (s : Shown). AreToRead u bound s height second middle.0) world reading seen middle.1.0) in (
        last.0,
        (
          to_old pages old now (λ (u : ℕ) (s : Shown). AreToRead u bound s height third last.0) world reading seen last.1.0,
          takes_then (compares first) one.list two.list last.0 middle.0 own middle.1.1
              (exact_takes (compares first) second.begun second.bounds middle.0 two.list last.0 begun last.1.1),
        ),
      );
}
reads_join pages old now new first second third (Err why) reading more begun bounds one two = record {
  list = one.list ++ two.list;
  read = read_both (pages.has old) (pages.has now) (pages.reads old) (pages.reads now) (pages.reads new) one.list two.list reading.has one.read two.read;
  are = joined pages old now new first second one.list two.list reading more bounds one.are two.are;
  of = λ world told bound height own ahead.
      let seen = more.edits.narrows world told in
      let middle = one.of world seen bound height own ahead in
      let last = two.of world told bound height middle.0 (to_now pages old now (λ (u : ℕ) (s : Shown). AreToRead u bound s height second middle.0) world reading seen middle.1.0) in (
        last.0,
        (
          to_old pages old now (λ (u : ℕ) (s : Shown). AreToRead u bound s height third last.0) world reading seen last.1.0,
          (
            takes_on (compares first) one.list middle.0 two.list own middle.1.1 (exact_reads (compares first) second.begun second.bounds middle.0 two.list begun last.1.1.0),
            within_join last.0 middle.0 own last.1.1.1 (takes_last (compares first) own one.list middle.0 middle.1.1),
          ),
        ),
      );
}
