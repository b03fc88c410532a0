-- Over a tree at most 40 levels deep no fault is met but a payload that is no row.
use Rattle.std.proofs.Common.{◌≡◌, ℕ, zero, suc, ◌≤◌, Bool, true, false, List, [], ◌∷◌, ◌++◌, length, None, Some, Ok, Err, inl, inr, refl, sym, subst, ap, ◌∙◌, arith, append-nil}
use Rattle.page_spec.specs.View.{View}
use Rattle.engine_spec.specs.declared.commits.FetchFault.{FetchFault}
use Rattle.engine_spec.specs.declared.commits.FetchFault.TheVariants as fault
use Rattle.page_face.specs.declared.pages_tells.PagesTells.{Ghosts}
use Rattle.page_face.specs.Pages.{ReadsAtMost}
use Rattle.node_spec.specs.Kinds.{is_table}
use Rattle.node_spec.specs.Nodes.{Node, cell_at}
use Rattle.tree_spec.specs.Shown.{Shown}
use Rattle.tree_spec.specs.Layout.{Item}
use Rattle.tree_spec.specs.Trees.{IsChild, Content, IsTree}
use Rattle.overflow.specs.Following.{shown_over}
use Rattle.tree_read.specs.Ways.{child_at, ShowsNode}
use Rattle.tree_read.specs.Looking.{IsNoRow, ThereIsTree}
use Rattle.tree_read.specs.Entries.{BreaksCell, IsAmong}
use Rattle.tree_read.proofs.Descents.{rose_before}
use Rattle.tree_read.proofs.Levels.{one_node, not_both, at_root, stands_well}
use Rattle.tree_scan.specs.declared.bounds.Bounds.{Bounds}
use Rattle.tree_scan.specs.declared.bounds.Bounds.TheVariants.{Rows, Entries}
use Rattle.tree_scan.specs.declared.level.Level.{Level}
use Rattle.tree_scan.specs.declared.cursor.Cursor.{Cursor}
use Rattle.tree_scan.specs.Bounded.{of_table, may_look, IsKeyOver, AreFrom, AreUpTo}
use Rattle.tree_scan.specs.Coming.{Comes, AreToCome, AreBefore}
use Rattle.tree_scan.specs.Placing.{HasLevel, BreaksLevel, BarsLevel}
use Rattle.tree_scan.specs.Reads.{HasStarted, HasWalked}
use Rattle.tree_scan.specs.Scanning.{KeepsComing, StaysThere, IsBarred, BreaksRoot, BreaksChild, BreaksDown, BreaksStart, BreaksOn, ThereIsScan, MeetsNoRow, IsOfNext, FailsNext, IsOfStart, FailsStart}
use Rattle.tree_scan.specs.Seeking.{IsSought, KeepsSought}
use Rattle.tree_scan.proofs.Cells.{no_row_of, among_part, broken_entry}
use Rattle.tree_scan.proofs.Paths.{next_child, take_one}
use Rattle.tree_scan.proofs.Lasts.{count_last, same_last}
use Rattle.tree_scan.proofs.Seeks.{sought_child}
use Rattle.tree_scan.proofs.Shows.{to_old, to_now}
use Rattle.tree_scan.proofs.Cursors.{behind, before, first_of, first_sought}

-- a child of a tree may stand where it stands
pub may_child : (table : Bool) (usable last : ℕ) (shown : Shown) (below child level : ℕ) (own : List ℕ) (items : List Item)
    → (sub : IsChild last shown (Content table usable last shown below) child own items) → level ≤ 40 → ShowsNode table shown level child sub.holds.node
may_child table usable last shown below child level own items sub deep = record {
  holds = sub.holds.holds;
  may = record {
    table_is = by_height below sub.holds.node sub.holds.below items sub.holds.content;
    depth = deep;
    enough = elim sub.holds.enough [ inl first ↦ inl first | inr some ↦ inr (inr some) ];
  };
}
  where
    by_height : (below : ℕ) (node : Node) (pages : List ℕ) (items : List Item) → Content table usable last shown below node pages items → is_table node.kind ≡ table
    by_height zero node pages items content = content.table_is
    by_height (suc below) node pages items content = content.table_is

pub child_sound : (table : Bool) (usable last : ℕ) (shown : Shown) (height : ℕ) (levels : List Level) (own : List ℕ) (items : List Item) (page : ℕ) → height ≤ 40
    → Comes table usable last shown height levels own items → BreaksChild table last shown levels page → ⊥
child_sound table usable last shown height levels own items page low comes (BreaksChild.Outside top child names is outside) =
    let at = next_child table usable last shown height names.is_last.above top names.node child own items names.holds names.inner names.under names.inside names.child_is
    (subst (λ (l : List Level). Comes table usable last shown height l own items) names.is_last.levels_are comes) in
    elim outside [ inl less ↦ omega (arith, less, at.sub.least) | inr more ↦ omega (arith, more, at.sub.most) ]
child_sound table usable last shown height levels own items page low comes (BreaksChild.ShowsNone top names none) =
    let at = next_child table usable last shown height names.is_last.above top names.node page own items names.holds names.inner names.under names.inside names.child_is
    (subst (λ (l : List Level). Comes table usable last shown height l own items) names.is_last.levels_are comes) in
    none at.sub.holds.node (may_child table usable last shown at.lower page (length levels) at.under_own at.under at.sub
    (omega (arith, low, at.sum, count_last levels names.is_last.above top names.is_last.levels_are)))

-- without a bound's place to look for, going down compares nothing
pub down_on : (usable last : ℕ) (shown : Shown) (bounds : Bounds) (levels : List Level) (page : ℕ) → BreaksDown usable last shown false bounds levels page
    → BreaksOn usable last shown bounds levels page
down_on usable last shown bounds levels page (BreaksDown.AtChild breaks) = BreaksOn.AtChild breaks
down_on usable last shown bounds levels page (BreaksDown.InChild top below node names holds looks cell) = absurd (not_both false looks refl)

-- the first item ahead is no row, and isn't over the bound by its key
pub record FirstNoRow (usable last : ℕ) (shown : Shown) (bounds : Bounds) (items : List Item) : Type 0 where
  pub item : Item
  pub rest : List Item
  pub items_are : items ≡ item ∷ rest
  pub up_to : IsKeyOver bounds item.key → ⊥
  pub none : IsNoRow usable last shown item

-- So a fault of going on is that item's.
sound_on : (usable last : ℕ) (shown : Shown) (height : ℕ) (bounds : Bounds) (levels : List Level) (own : List ℕ) (items : List Item) (page : ℕ) → height ≤ 40
    → Comes (of_table bounds) usable last shown height levels own items → BreaksOn usable last shown bounds levels page → FirstNoRow usable last shown bounds items
sound_on usable last shown height bounds levels own items page low comes (BreaksOn.AtChild breaks) =
    absurd (child_sound (of_table bounds) usable last shown height levels own items page low comes breaks)
sound_on usable last shown height bounds levels own items page low comes (BreaksOn.AtRow breaks) =
    let taken = take_one (of_table bounds) usable last shown height breaks.is_last.above breaks.top breaks.node own items breaks.holds breaks.at breaks.has breaks.inside
    (subst (λ (l : List Level). Comes (of_table bounds) usable last shown height l own items) breaks.is_last.levels_are comes) in
    record {
      item = taken.item;
      rest = taken.rest;
      items_are = taken.items_are;
      up_to = λ over. breaks.up_to (subst (IsKeyOver bounds) taken.is_item.key over);
      none = no_row_of usable last shown (cell_at breaks.node breaks.top.place) breaks.chain breaks.top.page page taken.item taken.is_item breaks.breaks;
    }

met_on : (usable last : ℕ) (shown : Shown) (height root : ℕ) (bounds : Bounds) (ahead some : List Item) → FirstNoRow usable last shown bounds ahead → AreUpTo bounds ahead some
    → MeetsNoRow true bounds usable last shown height root ahead some
met_on usable last shown height root (Rows low high) ahead some found up_to =
    let first = first_of (Rows low high) ahead found.rest some found.item found.items_are found.up_to up_to in
    record { item = found.item; rest = first.others; items_are = first.are; none = found.none }
met_on usable last shown height root (Entries low high) ahead some found up_to =
    record { item = found.item; rest = found.rest; items_are = found.items_are; none = found.none }

pub fails_on : {P : Type 0} (pages : Ghosts P) (old new : P) (cursor : Cursor) (levels : List Level) (why : FetchFault) → cursor.begun ≡ true
    → KeepsComing (of_table cursor.bounds) pages old cursor.levels.items levels new
    → IsBarred pages old new (λ (shown : Shown). BreaksOn (pages.usable old) (pages.last_page old) shown cursor.bounds levels) why → FailsNext pages old cursor why new
fails_on pages old new cursor levels fault.Disk begun keeps bars = λ ahead some there. bars
fails_on pages old new cursor levels (fault.Corrupt page) begun keeps bars = λ ahead some there.
    let usable = pages.usable old in
    let last = pages.last_page old in
    let shown = shown_over pages old there.world in
    let b = behind usable last shown there.height cursor ahead some begun there.coming in
    let comes = keeps there.world there.told last there.height b.own ahead b.comes in
    let found = sound_on usable last shown there.height cursor.bounds levels comes.0 ahead page there.low comes.1 (bars there.world there.told) in
    subst (λ (t : Bool). MeetsNoRow t cursor.bounds usable last shown there.height cursor.root ahead some) (sym begun)
    (met_on usable last shown there.height cursor.root cursor.bounds ahead some found b.up_to)
fails_on pages old new cursor levels (fault.Size count) begun keeps bars = λ ahead some there. bars
fails_on pages old new cursor levels fault.Memory begun keeps bars = λ ahead some there. tt

-- Before the first item.

-- entries are compared in an index alone
index_looks : (seek : Bool) (bounds : Bounds) → may_look seek bounds ≡ true → of_table bounds ≡ false
index_looks false bounds looks = absurd (not_both false looks refl)
index_looks true (Rows low high) looks = absurd (not_both false looks refl)
index_looks true (Entries low high) looks = refl

broken_in : (seek : Bool) (bounds : Bounds) (usable last : ℕ) (shown : Shown) (height : ℕ) (node : Node) (below : List ℕ) (items : List Item) (page named : ℕ)
    → may_look seek bounds ≡ true → Content (of_table bounds) usable last shown height node below items → BreaksCell usable last shown node page named
    → (item : Item) × (IsAmong items item × IsNoRow usable last shown item)
broken_in seek bounds usable last shown height node below items page named looks content breaks =
    broken_entry usable last shown height node below items page named
    (subst (λ (t : Bool). Content t usable last shown height node below items) (index_looks seek bounds looks) content) breaks

pub root_fails : {P : Type 0} (pages : Ghosts P) (old new : P) (bounds : Bounds) (root : ℕ) (why : FetchFault) → BarsLevel pages old true bounds root 0 why new
    → FailsStart pages old bounds root why new
root_fails pages old new bounds root fault.Disk bars = λ items ahead there from. bars.cause
root_fails pages old new bounds root (fault.Corrupt page) bars = λ items ahead there from. by_level items there (bars.ends there.world there.told)
  where
    by_level : (items : List Item) (there : ThereIsTree (of_table bounds) pages old root items new)
        → BreaksLevel (pages.usable old) (pages.last_page old) (shown_over pages old there.world) true bounds 0 root page
        → (may_look true bounds ≡ true) × ((item : Item) × (IsAmong items item × IsNoRow (pages.usable old) (pages.last_page old) (shown_over pages old there.world) item))
    by_level items there (BreaksLevel.ShowsNone same none) =
        let usable = pages.usable old in
        let last = pages.last_page old in
        let shown = shown_over pages old there.world in
        let under = at_root (of_table bounds) usable last shown (λ (some : List Item). Unit {0}) there.height root there.own items tt there.tree in
        absurd (none under.holds.node (stands_well (of_table bounds) usable last shown (λ (some : List Item). Unit {0}) 0 root there.height under there.low))
    by_level items there (BreaksLevel.InCell node shows looks cell) =
        let usable = pages.usable old in
        let last = pages.last_page old in
        let shown = shown_over pages old there.world in
        let same : there.tree.node ≡ node = one_node shown root there.tree.node node there.tree.holds shows.holds in (
          looks,
          broken_in true bounds usable last shown there.height node there.tree.below items root page looks
              (subst (λ (n : Node). Content (of_table bounds) usable last shown there.height n there.tree.below items) same there.tree.content) cell,
        )
root_fails pages old new bounds root (fault.Size count) bars = λ items ahead there from. bars.cause
root_fails pages old new bounds root fault.Memory bars = λ items ahead there from. tt

pub root_barred : {P : Type 0} (pages : Ghosts P) (old new : P) (bounds : Bounds) (root : ℕ) (levels : List Level) (why : FetchFault) → BarsLevel pages old true bounds root 0 why new
    → IsBarred pages old new (λ (shown : Shown). BreaksStart (pages.usable old) (pages.last_page old) shown bounds root levels) why
root_barred pages old new bounds root levels fault.Disk bars = bars.cause
root_barred pages old new bounds root levels (fault.Corrupt page) bars = λ world told. by_level world (bars.ends world told)
  where
    by_level : (world : View) → BreaksLevel (pages.usable old) (pages.last_page old) (shown_over pages old world) true bounds 0 root page
        → BreaksStart (pages.usable old) (pages.last_page old) (shown_over pages old world) bounds root levels page
    by_level world (BreaksLevel.ShowsNone same none) = BreaksStart.AtRoot (BreaksRoot.ShowsNone same none)
    by_level world (BreaksLevel.InCell node shows looks cell) = BreaksStart.InRoot node shows.holds looks cell
root_barred pages old new bounds root levels (fault.Size count) bars = bars.cause
root_barred pages old new bounds root levels fault.Memory bars = tt

pub way_fails : {P : Type 0} (pages : Ghosts P) (old now new : P) (bounds : Bounds) (root : ℕ) (level : Level) (pushed levels : List Level) (why : FetchFault) → ReadsAtMost pages old now
    → ReadsAtMost pages now new → HasLevel pages old true bounds root 0 level now → pushed ≡ level ∷ []
    → HasStarted {T = Unit {0}} bounds pages old root pushed (Ok tt) now
    → HasWalked {T = Unit {0}} true bounds pages now pushed levels (Err why) new → KeepsSought pages now bounds pushed levels new
    → IsBarred pages now new (λ (shown : Shown). BreaksDown (pages.usable now) (pages.last_page now) shown true bounds levels) why → FailsStart pages old bounds root why new
way_fails pages old now new bounds root level pushed levels fault.Disk reading more has are started walked keeps bars =
    λ items ahead there from. rose_before _ _ _ reading.edits.faults bars
way_fails pages old now new bounds root level pushed levels (fault.Corrupt named) reading more has are started walked keeps bars = λ items ahead there from.
    let usable = pages.usable old in
    let last = pages.last_page old in
    let shown = shown_over pages old there.world in
    let seen = more.edits.narrows there.world there.told in
    let breaks : BreaksDown usable last shown true bounds levels named = to_old pages old now (λ (u : ℕ) (s : Shown). BreaksDown u last s true bounds levels named) there.world reading seen
    (subst (λ (n : ℕ). BreaksDown (pages.usable now) n (shown_over pages now there.world) true bounds levels named) reading.last (bars there.world there.told)) in
    by_cause items ahead there from breaks
  where
    by_cause : (items ahead : List Item) (there : ThereIsTree (of_table bounds) pages old root items new) → AreFrom bounds items ahead
        → BreaksDown (pages.usable old) (pages.last_page old) (shown_over pages old there.world) true bounds levels named
        → (may_look true bounds ≡ true) × ((item : Item) × (IsAmong items item × IsNoRow (pages.usable old) (pages.last_page old) (shown_over pages old there.world) item))
    by_cause items ahead there from (BreaksDown.AtChild breaks) =
        let usable = pages.usable old in
        let last = pages.last_page old in
        let shown = shown_over pages old there.world in
        let seen = more.edits.narrows there.world there.told in
        let first = started.of there.world seen last there.height there.own items there.tree in
        let left = walked.of there.world there.told last there.height first.own_then first.items_then
        (to_now pages old now (λ (u : ℕ) (s : Shown). Comes (of_table bounds) u last s there.height pushed first.own_then first.items_then) there.world reading seen first.comes) in
        let comes = to_old pages old now (λ (u : ℕ) (s : Shown). Comes (of_table bounds) u last s there.height levels left.own_then left.items_then) there.world reading seen left.comes in
        absurd (child_sound (of_table bounds) usable last shown there.height levels left.own_then left.items_then named there.low comes breaks)
    by_cause items ahead there from (BreaksDown.InChild top below node names holds looks cell) =
        let usable = pages.usable old in
        let last = pages.last_page old in
        let shown = shown_over pages old there.world in
        let seen = more.edits.narrows there.world there.told in
        let first = first_sought pages old now bounds root level pushed has are there.world seen last there.height there.own items ahead there.tree from in
        let sought = to_old pages old now (λ (u : ℕ) (s : Shown). IsSought u last s there.height bounds levels items) there.world reading seen
        (keeps there.world there.told last there.height items
        (to_now pages old now (λ (u : ℕ) (s : Shown). IsSought u last s there.height bounds pushed items) there.world reading seen first)) in
        let same : sought.top ≡ top = same_last sought.above names.is_last.above sought.top top (sym sought.are ∙ names.is_last.levels_are) in
        let child = sought_child bounds usable last shown there.height sought.above sought.top names.node below items
        (subst (λ (t : Level). shown.node t.page ≡ Some names.node) (sym same) names.holds) names.inner
        (subst (λ (t : Level). below ≡ child_at names.node.cells names.node.right t.place) (sym same) names.child_is) sought.sought in
        let one : child.sub.holds.node ≡ node = one_node shown below child.sub.holds.node node child.sub.holds.holds holds in
        let found = broken_in true bounds usable last shown child.lower node child.sub.holds.below child.under below named looks
        (subst (λ (n : Node). Content (of_table bounds) usable last shown child.lower n child.sub.holds.below child.under) one child.sub.holds.content) cell in
        (looks, (found.0, (among_part child.front child.under child.back items found.0 child.items_are found.1.0, found.1.1)))
way_fails pages old now new bounds root level pushed levels (fault.Size count) reading more has are started walked keeps bars = λ items ahead there from. bars
way_fails pages old now new bounds root level pushed levels fault.Memory reading more has are started walked keeps bars = λ items ahead there from. tt

-- said of the cursor
met_first : (usable last : ℕ) (shown : Shown) (height root : ℕ) (bounds : Bounds) (own : List ℕ) (items ahead some : List Item)
    → IsTree (of_table bounds) usable last shown height root own items
    → (may_look true bounds ≡ true) × ((item : Item) × (IsAmong items item × IsNoRow usable last shown item)) → MeetsNoRow false bounds usable last shown height root ahead some
met_first usable last shown height root (Rows low high) own items ahead some tree met = absurd (not_both false met.0 refl)
met_first usable last shown height root (Entries None high) own items ahead some tree met = absurd (not_both false met.0 refl)
met_first usable last shown height root (Entries (Some low) high) own items ahead some tree met =
    record { own = own; items = items; tree = tree; item = met.1.0; among = met.1.1.0; none = met.1.1.1 }

pub start_fails : {P : Type 0} (pages : Ghosts P) (old new : P) (cursor : Cursor) (why : FetchFault) → cursor.begun ≡ false → FailsStart pages old cursor.bounds cursor.root why new
    → FailsNext pages old cursor why new
start_fails pages old new cursor why begun fails = λ ahead some there. by_cause why ahead some there
    (start_of ahead some there) (fails (start_of ahead some there).items ahead (tree_at ahead some there) (start_of ahead some there).from)
  where
    start_of : (ahead some : List Item) → (there : ThereIsScan pages old cursor ahead some new)
        → AreBefore (pages.usable old) (pages.last_page old) (shown_over pages old there.world) there.height cursor ahead some
    start_of ahead some there = before (pages.usable old) (pages.last_page old) (shown_over pages old there.world) there.height cursor ahead some begun there.coming

    tree_at : (ahead some : List Item) → (there : ThereIsScan pages old cursor ahead some new)
        → ThereIsTree (of_table cursor.bounds) pages old cursor.root (start_of ahead some there).items new
    tree_at ahead some there =
        let b = start_of ahead some there in
        let range = there.in_range begun in
        record { world = there.world; told = there.told; least = range.0; most = range.1; height = there.height; low = there.low; own = b.own; tree = b.tree }

    by_cause : (why : FetchFault) (ahead some : List Item) (there : ThereIsScan pages old cursor ahead some new)
        → (b : AreBefore (pages.usable old) (pages.last_page old) (shown_over pages old there.world) there.height cursor ahead some)
        → IsOfStart (pages.usable old) (pages.last_page old) (shown_over pages old there.world) (pages.faults old) (pages.faults new) cursor.bounds b.items why
        → IsOfNext (pages.usable old) (pages.last_page old) (shown_over pages old there.world) there.height cursor (pages.faults old) (pages.faults new) ahead some why
    by_cause fault.Disk ahead some there b is = is
    by_cause (fault.Corrupt page) ahead some there b is =
        subst (λ (t : Bool). MeetsNoRow t cursor.bounds (pages.usable old) (pages.last_page old) (shown_over pages old there.world) there.height cursor.root ahead some) (sym begun)
        (met_first (pages.usable old) (pages.last_page old) (shown_over pages old there.world) there.height cursor.root cursor.bounds b.own b.items ahead some b.tree is)
    by_cause (fault.Size count) ahead some there b is = is
    by_cause fault.Memory ahead some there b is = tt

pub outside_fails : {P : Type 0} (pages : Ghosts P) (old : P) (cursor : Cursor) (page : ℕ) → cursor.begun ≡ false
    → ((1 ≤ cursor.root) × (cursor.root ≤ pages.last_page old) → ⊥) → FailsNext pages old cursor (fault.Corrupt page) old
outside_fails pages old cursor page begun outside = λ ahead some there. absurd (outside (there.in_range begun))

-- From call to call: the item that a call meets on its way on is one that a new cursor may meet.
met_before : (usable last : ℕ) (shown : Shown) (height root : ℕ) (bounds : Bounds) (own : List ℕ) (items ahead some : List Item)
    → IsTree (of_table bounds) usable last shown height root own items → AreFrom bounds items ahead
    → MeetsNoRow true bounds usable last shown height root ahead some → MeetsNoRow false bounds usable last shown height root ahead some
met_before usable last shown height root (Rows low high) own items ahead some tree from met = met
met_before usable last shown height root (Entries None high) own items ahead some tree from met = met
met_before usable last shown height root (Entries (Some low) high) own items ahead some tree from met = record {
  own = own;
  items = items;
  tree = tree;
  item = met.item;
  among = among_part from.front ahead [] items met.item (from.items_are ∙ ap (λ (l : List Item). from.front ++ l) (sym (append-nil ahead)))
      (record { front = []; back = met.rest; items_are = met.items_are });
  none = met.none;
}

met_any : (usable last : ℕ) (shown : Shown) (height : ℕ) (first : Cursor) (ahead some : List Item) → AreToCome usable last shown height first ahead some
    → MeetsNoRow true first.bounds usable last shown height first.root ahead some → MeetsNoRow first.begun first.bounds usable last shown height first.root ahead some
met_any usable last shown height first ahead some coming met = by_begun first.begun refl
  where
    by_begun : (begun : Bool) → first.begun ≡ begun → MeetsNoRow begun first.bounds usable last shown height first.root ahead some
    by_begun true is = met
    by_begun false is =
        let b = before usable last shown height first ahead some is coming in
        met_before usable last shown height first.root first.bounds b.own b.items ahead some b.tree b.from met

pub fails_join : {P : Type 0} (pages : Ghosts P) (old now new : P) (first second : Cursor) (why : FetchFault) → ReadsAtMost pages old now → ReadsAtMost pages now new
    → second.begun ≡ true → second.bounds ≡ first.bounds → second.root ≡ first.root → StaysThere pages old first second now → FailsNext pages now second why new
    → FailsNext pages old first why new
fails_join pages old now new first second why reading more begun bounds root stays fails = λ ahead some there. by_cause why ahead some there (fails ahead some (later ahead some there))
  where
    later : (ahead some : List Item) → (there : ThereIsScan pages old first ahead some new) → ThereIsScan pages now second ahead some new
    later ahead some there =
        let seen = more.edits.narrows there.world there.told in
        record {
          world = there.world;
          told = there.told;
          height = there.height;
          low = there.low;
          in_range = λ not_yet. absurd (not_both second.begun begun not_yet);
          coming = subst (λ (n : ℕ). AreToCome (pages.usable now) n (shown_over pages now there.world) there.height second ahead some) (sym reading.last)
              (to_now pages old now (λ (u : ℕ) (s : Shown). AreToCome u (pages.last_page old) s there.height second ahead some) there.world reading seen
              (stays there.world seen (pages.last_page old) there.height ahead some there.coming));
        }

    by_cause : (why : FetchFault) (ahead some : List Item) (there : ThereIsScan pages old first ahead some new)
        → IsOfNext (pages.usable now) (pages.last_page now) (shown_over pages now there.world) there.height second (pages.faults now) (pages.faults new) ahead some why
        → IsOfNext (pages.usable old) (pages.last_page old) (shown_over pages old there.world) there.height first (pages.faults old) (pages.faults new) ahead some why
    by_cause fault.Disk ahead some there is = rose_before _ _ _ reading.edits.faults is
    by_cause (fault.Corrupt page) ahead some there is =
        let usable = pages.usable old in
        let last = pages.last_page old in
        let shown = shown_over pages old there.world in
        let met : MeetsNoRow true first.bounds usable last shown there.height first.root ahead some =
        subst (λ (d : Bounds). MeetsNoRow true d usable last shown there.height first.root ahead some) bounds
        (subst (λ (p : ℕ). MeetsNoRow true second.bounds usable last shown there.height p ahead some) root
        (subst (λ (t : Bool). MeetsNoRow t second.bounds usable last shown there.height second.root ahead some) begun
        (to_old pages old now (λ (u : ℕ) (s : Shown). MeetsNoRow second.begun second.bounds u last s there.height second.root ahead some) there.world reading
        (more.edits.narrows there.world there.told)
        (subst (λ (n : ℕ). MeetsNoRow second.begun second.bounds (pages.usable now) n (shown_over pages now there.world) there.height second.root ahead some) reading.last is)))) in
        met_any usable last shown there.height first ahead some there.coming met
    by_cause (fault.Size count) ahead some there is = is
    by_cause fault.Memory ahead some there is = tt
