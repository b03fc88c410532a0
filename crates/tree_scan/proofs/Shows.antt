-- Levels that have what the pages show.
use Rattle.std.proofs.Common.{◌≡◌, ℕ, suc, ◌-◌, ◌<◌, ◌≤◌, ◌==◌, Bool, true, false, cond, List, [], ◌∷◌, ◌++◌, length, Some, Result, Ok, Err, Vec, Global, inl, inr, refl, sym, subst, ap, ◌∙◌, arith, append_assoc, append-nil}
use Rattle.std.specs.Prelude.{slice_index_or, vec_len}
use Rattle.std.proofs.lemmas.Bool.{cases_lt}
use Rattle.std.proofs.lemmas.List.{length-append}
use Rattle.page_spec.specs.View.{View}
use Rattle.engine_spec.specs.declared.commits.FetchFault.{FetchFault}
use Rattle.engine_spec.specs.declared.commits.FetchFault.TheVariants as fault
use Rattle.page_face.specs.declared.pages_tells.PagesTells.{Ghosts}
use Rattle.page_face.specs.Pages.{ReadsAtMost}
use Rattle.node_spec.specs.Kinds.{is_leaf}
use Rattle.node_spec.specs.Nodes.{Node}
use Rattle.page_form.specs.Reading.{IsReadPage, Tells}
use Rattle.tree_spec.specs.Layout.{Each, Item}
use Rattle.tree_spec.specs.Shown.{Shown}
use Rattle.tree_spec.specs.Trees.{Content}
use Rattle.tree_spec.proofs.Lists.{each-append}
use Rattle.overflow.specs.Following.{shown_over, all_read}
use Rattle.tree_read.specs.Ways.{child_at, ShowsNode}
use Rattle.tree_read.specs.Entries.{IsOfCells}
use Rattle.tree_read.proofs.Around.{weaker, each_first, each_last}
use Rattle.tree_read.proofs.Descents.{same_shown, rose_before, read_both}
use Rattle.tree_read.proofs.Levels.{one_node, not_both}
use Rattle.tree_scan.specs.declared.bounds.Bounds.{Bounds}
use Rattle.tree_scan.specs.declared.bounds.Bounds.TheVariants.{Rows, Entries}
use Rattle.tree_scan.specs.declared.level.Level.{Level}
use Rattle.tree_scan.specs.Bounded.{of_table, may_look}
use Rattle.tree_scan.specs.Coming.{Comes, IsSpent, gone_below}
use Rattle.tree_scan.specs.Placing.{HasLevel, BreaksLevel, AreReadOf, BarsLevel}
use Rattle.tree_scan.specs.Scanning.{IsLevel, AreLevels, KeepsComing, NamesNext, BreaksChild, BreaksDown, IsBarred}
use Rattle.tree_scan.specs.Seeking.{Sought, IsSought, KeepsSought}
use Rattle.tree_scan.specs.Reads.{StandIn, ReadsOf, LeavesAhead, HasWalked}
use Rattle.tree_scan.proofs.Lasts.{at_last, count_last, same_last}
use Rattle.tree_scan.proofs.Cells.{cells_read}
use Rattle.tree_scan.proofs.Seeks.{sought_down}
use Rattle.tree_scan.specs.Walking.{IsWalk, EndsWalk}
use Rattle.tree_scan.proofs.Places.{ends_old}
use Rattle.tree_scan.proofs.Walks.{walk_none, walk_join, walk_down}
use Rattle.tree_scan.proofs.Within.{within_none, takes_same, takes_then, reads_exactly, reads_page}
use Rattle.tree_scan.proofs.Paths.{IsDone, AtChild, NextChild, go_child, down, down_reads, next_child}

pub level_later : {P : Type 0} (table : Bool) (pages : Ghosts P) (old now : P) → ReadsAtMost pages old now → (level : Level) → IsLevel table pages old level
    → IsLevel table pages now level
level_later table pages old now reading level is = record {
  node = is.node;
  read = subst (λ (u : ℕ). IsReadPage u level.bytes.items level.node is.node) (sym reading.edits.usable) is.read;
  shown = λ world told. ap (λ (s : Shown). s.node level.page) (same_shown pages old now reading world told) ∙ is.shown world (reading.edits.narrows world told);
  inside = is.inside;
  leaf = is.leaf;
  inner = is.inner;
}

pub levels_later : {P : Type 0} (table : Bool) (pages : Ghosts P) (old now : P) (levels : List Level) → ReadsAtMost pages old now → AreLevels table pages old levels
    → AreLevels table pages now levels
levels_later table pages old now levels reading are =
    (weaker (IsLevel table pages old) (IsLevel table pages now) levels (level_later table pages old now reading) are.0, are.1)

-- a level of which something is left
not_past : (b : Bool) (n place : ℕ) → b ≡ false → ((cond b n (suc n)) ≤ place → ⊥) → place ≤ n
not_past true n place is never = absurd (not_both true refl is)
not_past false n place is never = elim (cases_lt n place) [ inl less ↦ absurd (never (omega (arith, less))) | inr most ↦ most ]

pub not_all : (b : Bool) (n place : ℕ) → b ≡ true → ((cond b n (suc n)) ≤ place → ⊥) → place < n
not_all true n place is never = elim (cases_lt place n) [ inl less ↦ less | inr most ↦ absurd (never most) ]
not_all false n place is never = absurd (not_both false is refl)

spent_cell : (b : Bool) (n place : ℕ) → b ≡ true → (cond b n (suc n)) ≤ place → n ≤ place
spent_cell true n place is spent = spent
spent_cell false n place is spent = absurd (not_both false is refl)

spent_child : (b : Bool) (n place : ℕ) → b ≡ false → (cond b n (suc n)) ≤ place → n < place
spent_child true n place is spent = absurd (not_both true refl is)
spent_child false n place is spent = spent

-- a level of which nothing is left, over one world
pub done_level : {P : Type 0} (table : Bool) (pages : Ghosts P) (old now : P) (world : View) → ReadsAtMost pages old now → pages.tells now world → (level : Level)
    → IsLevel table pages now level → IsSpent level → IsDone (shown_over pages old world) level
done_level table pages old now world reading told level is spent =
    let t = is.read.tells in
    record {
      node = is.node;
      holds = ap (λ (s : Shown). s.node level.page) (sym (same_shown pages old now reading world told)) ∙ is.shown world told;
      leaf = is.leaf;
      cell = λ at. omega (arith, spent_cell level.at_cell (vec_len level.node.cells) level.place at spent, t.count);
      child = λ at. omega (arith, spent_child level.at_cell (vec_len level.node.cells) level.place at spent, t.count);
    }

pub done_levels : {P : Type 0} (table : Bool) (pages : Ghosts P) (old now : P) (world : View) → ReadsAtMost pages old now → pages.tells now world → (levels : List Level)
    → Each (IsLevel table pages now) levels → Each IsSpent levels → Each (IsDone (shown_over pages old world)) levels
done_levels table pages old now world reading told [] are spent = tt
done_levels table pages old now world reading told (level ∷ levels) are spent =
    (done_level table pages old now world reading told level are.0 spent.0, done_levels table pages old now world reading told levels are.1 spent.1)

-- The last level.
pub record TopIs {P : Type 0} (table : Bool) (pages : Ghosts P) (now : P) (levels : List Level) (top : Level) : Type 0 where
  pub above : List Level
  pub are : levels ≡ above ++ top ∷ []
  pub others : Each (IsLevel table pages now) above
  pub is_level : IsLevel table pages now top

pub top_of : {P : Type 0} (table : Bool) (pages : Ghosts P) (now : P) (levels above : List Level) (top at : Level) (depth : ℕ) → Each (IsLevel table pages now) levels
    → levels ≡ above ++ top ∷ [] → depth ≡ length levels → at ≡ slice_index_or levels (depth - 1) at → (at ≡ top) × TopIs table pages now levels at
top_of table pages now levels above top at depth all are count is =
    let place : depth - 1 ≡ length above = omega (arith, count, count_last levels above top are) in
    let same : at ≡ top = is ∙ at_last levels above top at [] (depth - 1) are place in
    let parts : Each (IsLevel table pages now) (above ++ top ∷ []) = subst (Each (IsLevel table pages now)) are all in (
      same,
      record {
        above = above;
        are = are ∙ ap (λ (l : Level). above ++ l ∷ []) (sym same);
        others = each_first (IsLevel table pages now) above (top ∷ []) parts;
        is_level = subst (IsLevel table pages now) (sym same) (each_last (IsLevel table pages now) above (top ∷ []) parts).0;
      },
    )

-- an interior level, and the child that comes next
pub record Inner {P : Type 0} (pages : Ghosts P) (now : P) (level : Level) (child : ℕ) : Type 0 where
  pub node : Node
  pub shown : (world : View) → pages.tells now world → (shown_over pages now world).node level.page ≡ Some node
  pub inner : is_leaf node.kind ≡ false
  pub at : level.at_cell ≡ false
  pub inside : level.place ≤ length node.cells
  pub decoded : vec_len level.node.cells ≡ length node.cells
  pub child_is : child ≡ child_at node.cells node.right level.place

no_leaf : (leaf at : Bool) → (leaf ≡ true → at ≡ true) → at ≡ false → leaf ≡ false
no_leaf true at is child = absurd (not_both at (is refl) child)
no_leaf false at is child = refl

pub inner_of : {P : Type 0} (table : Bool) (pages : Ghosts P) (now : P) (level : Level) (usable child : ℕ) (bytes : List ℕ) → usable ≡ pages.usable now → bytes ≡ level.bytes.items
    → IsLevel table pages now level → level.at_cell ≡ false → (IsSpent level → ⊥)
    → ((node : Node) → IsReadPage usable bytes level.node node → child ≡ child_at node.cells node.right level.place) → Inner pages now level child
inner_of table pages now level usable child bytes is same level_is at left names =
    let t = level_is.read.tells in
    record {
      node = level_is.node;
      shown = level_is.shown;
      inner = no_leaf (is_leaf level_is.node.kind) level.at_cell level_is.leaf at;
      at = at;
      inside = omega (arith, not_past level.at_cell (vec_len level.node.cells) level.place at left, t.count);
      decoded = t.count;
      child_is = names level_is.node (subst (λ (b : List ℕ). IsReadPage usable b level.node level_is.node) (sym same)
          (subst (λ (u : ℕ). IsReadPage u level.bytes.items level.node level_is.node) (sym is) level_is.read));
    }

-- why the child that comes next isn't gone to
pub names_next : {P : Type 0} (table : Bool) (pages : Ghosts P) (old : P) (levels : List Level) (top : Level) (child : ℕ) → TopIs table pages old levels top → Inner pages old top child
    → (world : View) → pages.tells old world → NamesNext (shown_over pages old world) levels top child
names_next table pages old levels top child is inner world told = record {
  is_last = record { above = is.above; levels_are = is.are };
  node = inner.node;
  holds = inner.shown world told;
  inner = inner.inner;
  under = inner.at;
  inside = inner.inside;
  child_is = inner.child_is;
}

pub child_barred : {P : Type 0} (pages : Ghosts P) (old new : P) (seek : Bool) (bounds : Bounds) (levels : List Level) (top : Level) (child depth : ℕ) (why : FetchFault)
    → TopIs (of_table bounds) pages old levels top → Inner pages old top child → ReadsAtMost pages old new → depth ≡ length levels
    → BarsLevel pages old seek bounds child depth why new
    → IsBarred pages old new (λ (shown : Shown). BreaksDown (pages.usable old) (pages.last_page old) shown seek bounds levels) why
child_barred pages old new seek bounds levels top child depth fault.Disk is inner reading deep bars = bars.cause
child_barred pages old new seek bounds levels top child depth (fault.Corrupt named) is inner reading deep bars = λ world told.
    by_level world (names_next (of_table bounds) pages old levels top child is inner world (reading.edits.narrows world told)) (bars.ends world told)
  where
    by_level : (world : View) → NamesNext (shown_over pages old world) levels top child
        → BreaksLevel (pages.usable old) (pages.last_page old) (shown_over pages old world) seek bounds depth child named
        → BreaksDown (pages.usable old) (pages.last_page old) (shown_over pages old world) seek bounds levels named
    by_level world names (BreaksLevel.ShowsNone same none) =
        BreaksDown.AtChild (BreaksChild.ShowsNone top (subst (λ (n : ℕ). NamesNext (shown_over pages old world) levels top n) (sym same) names)
        (λ node shows. none node (subst (λ (n : ℕ). ShowsNode (of_table bounds) (shown_over pages old world) depth n node) same
        (subst (λ (n : ℕ). ShowsNode (of_table bounds) (shown_over pages old world) n named node) (sym deep) shows))))
    by_level world names (BreaksLevel.InCell node shows looks cell) = BreaksDown.InChild top child node names shows.holds looks cell
child_barred pages old new seek bounds levels top child depth (fault.Size count) is inner reading deep bars = bars.cause
child_barred pages old new seek bounds levels top child depth fault.Memory is inner reading deep bars = tt

-- What is said of pages that were only read is said of them before.
pub to_old : {P : Type 0} (pages : Ghosts P) (old now : P) (F : ℕ → Shown → Type 0) (world : View) → ReadsAtMost pages old now → pages.tells now world
    → F (pages.usable now) (shown_over pages now world) → F (pages.usable old) (shown_over pages old world)
to_old pages old now F world reading told is =
    subst (λ (s : Shown). F (pages.usable old) s) (same_shown pages old now reading world told) (subst (λ (u : ℕ). F u (shown_over pages now world)) reading.edits.usable is)

pub to_now : {P : Type 0} (pages : Ghosts P) (old now : P) (F : ℕ → Shown → Type 0) (world : View) → ReadsAtMost pages old now → pages.tells now world
    → F (pages.usable old) (shown_over pages old world) → F (pages.usable now) (shown_over pages now world)
to_now pages old now F world reading told is =
    subst (λ (s : Shown). F (pages.usable now) s) (sym (same_shown pages old now reading world told)) (subst (λ (u : ℕ). F u (shown_over pages old world)) (sym reading.edits.usable) is)

-- the level of a page that was read
pub fresh_level : {P : Type 0} (pages : Ghosts P) (old new : P) (seek : Bool) (bounds : Bounds) (level : Level) (page depth : ℕ) → ReadsAtMost pages old new
    → HasLevel pages old seek bounds page depth level new → IsLevel (of_table bounds) pages new level
fresh_level pages old new seek bounds level page depth reading has =
    let same : level.at_cell ≡ is_leaf has.node.kind = has.at_cell ∙ ap is_leaf has.tells.kind in
    record {
      node = has.node;
      read = record { first = page == 1; tells = subst (λ (u : ℕ). Tells u (page == 1) level.bytes.items level.node has.node) (sym reading.edits.usable) has.tells };
      shown = λ world told. ap (λ (s : Shown). s.node level.page) (same_shown pages old new reading world told)
          ∙ ap (λ (p : ℕ). (shown_over pages old world).node p) has.page_is ∙ has.shown world told;
      inside = omega (arith, has.inside);
      leaf = λ leaf. same ∙ leaf;
      inner = λ table inner. same ∙ inner;
    }

-- something is left of a child
pub fresh_left : {P : Type 0} (pages : Ghosts P) (old new : P) (bounds : Bounds) (level : Level) (page depth : ℕ) → 2 ≤ page → 1 ≤ depth
    → HasLevel pages old false bounds page depth level new → IsSpent level → ⊥
fresh_left pages old new bounds level page depth low deep has spent = elim has.may.enough [
  | inl first ↦ omega (arith, first, low)
  | inr (inl root) ↦ omega (arith, root.0, deep)
  | inr (inr some) ↦ by_kind level.at_cell (vec_len level.node.cells) (omega (arith, has.tells.count, some)) spent
]
  where
    by_kind : (b : Bool) (n : ℕ) → 1 ≤ n → (cond b n (suc n)) ≤ level.place → ⊥
    by_kind true n some spent = omega (arith, some, spent, has.front refl)
    by_kind false n some spent = omega (arith, some, spent, has.front refl)

-- of an interior one at any place
pub inner_left : {P : Type 0} (pages : Ghosts P) (old new : P) (seek : Bool) (bounds : Bounds) (level : Level) (page depth : ℕ)
    → HasLevel pages old seek bounds page depth level new → level.at_cell ≡ false → IsSpent level → ⊥
inner_left pages old new seek bounds level page depth has at spent =
    omega (arith, spent_child level.at_cell (vec_len level.node.cells) level.place at spent, has.inside, has.tells.count)

-- a level whose child was gone to
gone_level : {P : Type 0} (table : Bool) (pages : Ghosts P) (now : P) (level : Level) (page : ℕ) → (inner : Inner pages now level page) → (is : IsLevel table pages now level)
    → IsLevel table pages now (gone_below table level)
gone_level true pages now level page inner is = record {
  node = is.node;
  read = is.read;
  shown = is.shown;
  inside = omega (arith, inner.inside, inner.decoded, is.read.tells.count);
  leaf = is.leaf;
  inner = is.inner;
}
gone_level false pages now level page inner is = record {
  node = is.node;
  read = is.read;
  shown = is.shown;
  inside = is.inside;
  leaf = λ leaf. refl;
  inner = λ never. absurd (not_both false never refl);
}

inner_later : {P : Type 0} (pages : Ghosts P) (old now : P) (level : Level) (page : ℕ) → ReadsAtMost pages old now → Inner pages old level page → Inner pages now level page
inner_later pages old now level page reading inner = record {
  node = inner.node;
  shown = λ world told. ap (λ (s : Shown). s.node level.page) (same_shown pages old now reading world told) ∙ inner.shown world (reading.edits.narrows world told);
  inner = inner.inner;
  at = inner.at;
  inside = inner.inside;
  decoded = inner.decoded;
  child_is = inner.child_is;
}

-- levels with a child below them
pub with_child : {P : Type 0} (pages : Ghosts P) (old new : P) (seek : Bool) (bounds : Bounds) (levels levels_then : List Level) (top child : Level) (page depth : ℕ) → ReadsAtMost pages old new
    → (is : TopIs (of_table bounds) pages old levels top) → Inner pages old top page → depth ≡ length levels → HasLevel pages old seek bounds page depth child new
    → levels_then ≡ is.above ++ gone_below (of_table bounds) top ∷ child ∷ [] → AreLevels (of_table bounds) pages new levels_then
with_child pages old new seek bounds levels levels_then top child page depth reading is inner deep has are =
    let table = of_table bounds in (
      subst (Each (IsLevel table pages new)) (sym are) (each-append (IsLevel table pages new) is.above (gone_below table top ∷ child ∷ [])
          (weaker (IsLevel table pages old) (IsLevel table pages new) is.above (level_later table pages old new reading) is.others) (
            gone_level table pages new top page (inner_later pages old new top page reading inner) (level_later table pages old new reading top is.is_level),
            (fresh_level pages old new seek bounds child page depth reading has, tt),
          )),
      omega (arith, ap length are, length-append is.above (gone_below table top ∷ child ∷ []), deep, has.may.depth, count_last levels is.above top is.are),
    )

-- the child that comes next, over one world
child_of : {P : Type 0} (pages : Ghosts P) (old new : P) (seek : Bool) (bounds : Bounds) (levels levels_then : List Level) (top child : Level) (page depth : ℕ) → ReadsAtMost pages old new
    → (is : TopIs (of_table bounds) pages old levels top) → Inner pages old top page → (has : HasLevel pages old seek bounds page depth child new)
    → levels_then ≡ is.above ++ gone_below (of_table bounds) top ∷ child ∷ [] → (world : View) → pages.tells new world → (bound height : ℕ) (own : List ℕ) (items : List Item)
    → Comes (of_table bounds) (pages.usable old) bound (shown_over pages old world) height levels own items
    → AtChild (of_table bounds) (pages.usable old) bound (shown_over pages old world) height levels_then child has.node own items
child_of pages old new seek bounds levels levels_then top child page depth reading is inner has are world told bound height own items comes =
    let table = of_table bounds in
    let usable = pages.usable old in
    let shown = shown_over pages old world in
    subst (λ (l : List Level). AtChild table usable bound shown height l child has.node own items) (sym are)
    (go_child table usable bound shown height is.above top child inner.node has.node own items (inner.shown world (reading.edits.narrows world told)) inner.inner inner.at inner.inside
    (has.page_is ∙ inner.child_is) (ap (λ (p : ℕ). shown.node p) has.page_is ∙ has.shown world told)
    (subst (λ (l : List Level). Comes table usable bound shown height l own items) is.are comes))

pub child_comes : {P : Type 0} (pages : Ghosts P) (old new : P) (bounds : Bounds) (levels levels_then : List Level) (top child : Level) (page depth : ℕ) → ReadsAtMost pages old new
    → (is : TopIs (of_table bounds) pages old levels top) → Inner pages old top page → HasLevel pages old false bounds page depth child new
    → levels_then ≡ is.above ++ gone_below (of_table bounds) top ∷ child ∷ [] → KeepsComing (of_table bounds) pages old levels levels_then new
child_comes pages old new bounds levels levels_then top child page depth reading is inner has are = λ world told bound height own items comes.
    down (of_table bounds) (pages.usable old) bound (shown_over pages old world) height levels_then child has.node own items (has.front refl) (has.at_cell ∙ ap is_leaf has.tells.kind)
    (child_of pages old new false bounds levels levels_then top child page depth reading is inner has are world told bound height own items comes)

-- and what it reads: pages of the chains of its cells' entries are of what it leads to
pub looked_cells : (seek : Bool) (bounds : Bounds) (usable last most : ℕ) (shown : Shown) (height : ℕ) (node : Node) (below : List ℕ) (items : List Item) (list : List ℕ)
    → Content (of_table bounds) usable last shown height node below items → Each (IsOfCells usable most shown node) list → may_look seek bounds ≡ true → StandIn list below
looked_cells false bounds usable last most shown height node below items list content are looks = absurd (not_both false looks refl)
looked_cells true (Rows low high) usable last most shown height node below items list content are looks = absurd (not_both false looks refl)
looked_cells true (Entries low high) usable last most shown height node below items list content are looks = cells_read usable last most shown height node below items list content are

pub child_walked : {P : Type 0} (pages : Ghosts P) (old new : P) (seek : Bool) (bounds : Bounds) (levels levels_then : List Level) (top child : Level) (page depth : ℕ)
    → ReadsAtMost pages old new → (is : TopIs (of_table bounds) pages old levels top) → Inner pages old top page → HasLevel pages old seek bounds page depth child new
    → levels_then ≡ is.above ++ gone_below (of_table bounds) top ∷ child ∷ []
    → HasWalked {T = Unit {0}} seek bounds pages old levels levels_then (Ok tt) new
child_walked pages old new seek bounds levels levels_then top child page depth reading is inner has are = record {
  kept = page ∷ has.list;
  again = [];
  read = has.read ∙ ap (λ (l : List ℕ). all_read (pages.has old) (pages.reads old) l) (sym (append-nil (page ∷ has.list)));
  well = refl;
  walk = λ world told. walk_down pages old new seek bounds levels levels_then is.above top child page depth is.are has are world told
      (names_next (of_table bounds) pages old levels top page is inner world (reading.edits.narrows world told));
  end = λ world told. EndsWalk.AtEnd refl;
  of = λ world told bound height own items comes.
      let found = child_of pages old new seek bounds levels levels_then top child page depth reading is inner has are world told bound height own items comes in
      subst (λ (p : ℕ). LeavesAhead (of_table bounds) (pages.usable old) bound (shown_over pages old world) height levels_then (may_look seek bounds) own (p ∷ has.list) []) has.page_is
      (down_reads (of_table bounds) (pages.usable old) bound (shown_over pages old world) height levels_then (may_look seek bounds) child has.list has.node own items has.inside
      (has.at_cell ∙ ap is_leaf has.tells.kind) has.none found
      (looked_cells seek bounds (pages.usable old) bound (pages.last_page old) (shown_over pages old world) found.lower has.node found.under_own found.under has.list found.content
      (has.are world told)));
}

-- where it fails it read nothing
pub unread : {P : Type 0} (seek : Bool) (bounds : Bounds) (pages : Ghosts P) (old new : P) (levels : List Level) (why : FetchFault) → pages.reads new ≡ pages.reads old
    → HasWalked {T = Unit {0}} seek bounds pages old levels levels (Err why) new
unread seek bounds pages old new levels why none = record {
  kept = [];
  again = [];
  read = none;
  well = tt;
  walk = λ world told. walk_none (pages.usable old) (pages.last_page old) (shown_over pages old world) seek bounds levels;
  end = λ world told. EndsWalk.AtEnd refl;
  of = λ world told bound height own items comes. record {
    own_then = own;
    items_then = items;
    comes = comes;
    within = takes_same (may_look seek bounds) own;
    next = reads_exactly (may_look seek bounds) own [] (within_none own);
  };
}

-- or of the child's page what it came to
next_of : {P : Type 0} (pages : Ghosts P) (old new : P) (bounds : Bounds) (levels : List Level) (top : Level) (page : ℕ) → ReadsAtMost pages old new
    → (is : TopIs (of_table bounds) pages old levels top) → Inner pages old top page → (world : View) → pages.tells new world → (bound height : ℕ) (own : List ℕ) (items : List Item)
    → Comes (of_table bounds) (pages.usable old) bound (shown_over pages old world) height levels own items
    → NextChild (of_table bounds) (pages.usable old) bound (shown_over pages old world) height (length is.above) page own items
next_of pages old new bounds levels top page reading is inner world told bound height own items comes =
    next_child (of_table bounds) (pages.usable old) bound (shown_over pages old world) height is.above top inner.node page own items (inner.shown world (reading.edits.narrows world told))
    inner.inner inner.at inner.inside inner.child_is
    (subst (λ (l : List Level). Comes (of_table bounds) (pages.usable old) bound (shown_over pages old world) height l own items) is.are comes)

-- what was read of a page of a tree is of its pages
pub read_of : (seek : Bool) (bounds : Bounds) (usable last most : ℕ) (shown : Shown) (height page : ℕ) (node : Node) (below behind own : List ℕ) (items : List Item) (list : List ℕ)
    → shown.node page ≡ Some node → Content (of_table bounds) usable last shown height node below items → own ≡ page ∷ (below ++ behind)
    → AreReadOf usable most shown (may_look seek bounds) page list → ReadsOf (may_look seek bounds) own list
read_of seek bounds usable last most shown height page node below behind own items list holds content is (AreReadOf.Nothing none) =
    subst (ReadsOf (may_look seek bounds) own) (sym none) (reads_exactly (may_look seek bounds) own [] (within_none own))
read_of seek bounds usable last most shown height page node below behind own items list holds content is (AreReadOf.Alone one) =
    subst (ReadsOf (may_look seek bounds) own) (sym one) (reads_page (may_look seek bounds) page [] below behind own is (λ no. refl) (λ yes_it n here. absurd (omega (arith, here))))
read_of seek bounds usable last most shown height page node below behind own items list holds content is (AreReadOf.WithCells other others looks shows are cells) =
    let same : other ≡ node = one_node shown page other node shows holds in
    subst (ReadsOf (may_look seek bounds) own) (sym are) (reads_page (may_look seek bounds) page others below behind own is (λ no. absurd (not_both (may_look seek bounds) looks no))
    (looked_cells seek bounds usable last most shown height node below items others content (subst (λ (n : Node). Each (IsOfCells usable most shown n) others) same cells)))

pub child_failed : {P : Type 0} (pages : Ghosts P) (old new : P) (seek : Bool) (bounds : Bounds) (levels : List Level) (top : Level) (page depth : ℕ) (why : FetchFault)
    → ReadsAtMost pages old new → TopIs (of_table bounds) pages old levels top → Inner pages old top page → (list : List ℕ)
    → pages.reads new ≡ all_read (pages.has old) (pages.reads old) list
    → ((world : View) → pages.tells new world → AreReadOf (pages.usable old) (pages.last_page old) (shown_over pages old world) (may_look seek bounds) page list)
    → HasWalked {T = Unit {0}} seek bounds pages old levels levels (Err why) new
child_failed pages old new seek bounds levels top page depth why reading is inner list read are = record {
  kept = [];
  again = list;
  read = read;
  well = tt;
  walk = λ world told. walk_none (pages.usable old) (pages.last_page old) (shown_over pages old world) seek bounds levels;
  end = λ world told. EndsWalk.AtChild top page (names_next (of_table bounds) pages old levels top page is inner world (reading.edits.narrows world told)) (are world told);
  of = λ world told bound height own items comes.
      let next = next_of pages old new bounds levels top page reading is inner world told bound height own items comes in
      record {
        own_then = own;
        items_then = items;
        comes = comes;
        within = takes_same (may_look seek bounds) own;
        next = read_of seek bounds (pages.usable old) bound (pages.last_page old) (shown_over pages old world) next.lower page next.sub.holds.node next.sub.holds.below next.behind_own own
            next.under list next.sub.holds.holds next.sub.holds.content (next.own_is ∙ ap (λ (l : List ℕ). l ++ next.behind_own) next.sub.holds.own_is) (are world told);
      };
}

-- all of a level was read
pub level_read : {P : Type 0} (pages : Ghosts P) (old new : P) (seek : Bool) (bounds : Bounds) (page depth : ℕ) (level : Level) → (has : HasLevel pages old seek bounds page depth level new)
    → (world : View) → pages.tells new world → AreReadOf (pages.usable old) (pages.last_page old) (shown_over pages old world) (may_look seek bounds) page (page ∷ has.list)
level_read pages old new seek bounds page depth level has world told = by_look (may_look seek bounds) refl
  where
    by_look : (looks : Bool) → may_look seek bounds ≡ looks
        → AreReadOf (pages.usable old) (pages.last_page old) (shown_over pages old world) (may_look seek bounds) page (page ∷ has.list)
    by_look false is = AreReadOf.Alone (ap (λ (l : List ℕ). page ∷ l) (has.none is))
    by_look true is = AreReadOf.WithCells has.node has.list is (has.shown world told) refl (has.are world told)

pub child_sought : {P : Type 0} (pages : Ghosts P) (old new : P) (bounds : Bounds) (levels levels_then : List Level) (top child : Level) (page depth : ℕ) → ReadsAtMost pages old new
    → (is : TopIs (of_table bounds) pages old levels top) → Inner pages old top page → HasLevel pages old true bounds page depth child new
    → ((above : List Level) (top : Level) → levels ≡ above ++ top ∷ [] → levels_then ≡ above ++ gone_below (of_table bounds) top ∷ child ∷ [])
    → KeepsSought pages old bounds levels levels_then new
child_sought pages old new bounds levels levels_then top child page depth reading is inner has attached = λ world told bound height items sought.
    let usable = pages.usable old in
    let shown = shown_over pages old world in
    let same : sought.top ≡ top = same_last sought.above is.above sought.top top (sym sought.are ∙ is.are) in
    let at : Sought usable bound shown height bounds sought.above top items = subst (λ (t : Level). Sought usable bound shown height bounds sought.above t items) same sought.sought in
    let are : levels ≡ sought.above ++ top ∷ [] = sought.are ∙ ap (λ (t : Level). sought.above ++ t ∷ []) same in
    record {
      above = sought.above ++ gone_below (of_table bounds) top ∷ [];
      top = child;
      are = attached sought.above top are ∙ sym (append_assoc sought.above (gone_below (of_table bounds) top ∷ []) (child ∷ []));
      sought = sought_down bounds usable bound (pages.last_page old) shown height sought.above top child inner.node has.node items (inner.shown world (reading.edits.narrows world told)) inner.inner
          (has.page_is ∙ inner.child_is) (ap (λ (p : ℕ). shown.node p) has.page_is ∙ has.shown world told) (has.at_cell ∙ ap is_leaf has.tells.kind) (has.placed world told) at;
    }

pub sought_join : {P : Type 0} (pages : Ghosts P) (old now then : P) (bounds : Bounds) (a b c : List Level) → ReadsAtMost pages old now → ReadsAtMost pages now then
    → KeepsSought pages old bounds a b now → KeepsSought pages now bounds b c then → KeepsSought pages old bounds a c then
sought_join pages old now then bounds a b c reading more one two = λ world told bound height items sought.
    let before = more.edits.narrows world told in
    to_old pages old now (λ (u : ℕ) (s : Shown). IsSought u bound s height bounds c items) world reading before
    (two world told bound height items (to_now pages old now (λ (u : ℕ) (s : Shown). IsSought u bound s height bounds b items) world reading before (one world before bound height items sought)))

pub count_levels : (levels : Vec Level Global) → vec_len levels ≡ length levels.items
count_levels levels = levels.ok.0

pub keeps_join : {P : Type 0} (table : Bool) (pages : Ghosts P) (old now then : P) (a b c : List Level) → ReadsAtMost pages old now → ReadsAtMost pages now then
    → KeepsComing table pages old a b now → KeepsComing table pages now b c then → KeepsComing table pages old a c then
keeps_join table pages old now then a b c reading more one two = λ world told bound height own items comes.
    let before = more.edits.narrows world told in
    let first = one world before bound height own items comes in
    to_old pages old now (λ (u : ℕ) (s : Shown). (left : List ℕ) × Comes table u bound s height c left items) world reading before
    (two world told bound height first.0 items (to_now pages old now (λ (u : ℕ) (s : Shown). Comes table u bound s height b first.0 items) world reading before first.1))

pub barred_before : {P : Type 0} (pages : Ghosts P) (old now then : P) (Breaks : ℕ → ℕ → Shown → ℕ → Type 0) (why : FetchFault) → ReadsAtMost pages old now
    → ReadsAtMost pages now then → IsBarred pages now then (Breaks (pages.usable now) (pages.last_page now)) why → IsBarred pages old then (Breaks (pages.usable old) (pages.last_page old)) why
barred_before pages old now then Breaks fault.Disk reading more bars = rose_before _ _ _ reading.edits.faults bars
barred_before pages old now then Breaks (fault.Corrupt page) reading more bars = λ world told.
    to_old pages old now (λ (u : ℕ) (s : Shown). Breaks u (pages.last_page old) s page) world reading (more.edits.narrows world told)
    (subst (λ (n : ℕ). Breaks (pages.usable now) n (shown_over pages now world) page) reading.last (bars world told))
barred_before pages old now then Breaks (fault.Size count) reading more bars = bars
barred_before pages old now then Breaks fault.Memory reading more bars = tt

pub walked_join : {P T U : Type 0} (seek : Bool) (bounds : Bounds) (pages : Ghosts P) (old now then : P) (a b c : List Level) (done : T) (result : Result U FetchFault)
    → ReadsAtMost pages old now → ReadsAtMost pages now then → HasWalked seek bounds pages old a b (Ok done) now → HasWalked seek bounds pages now b c result then
    → HasWalked seek bounds pages old a c result then
walked_join seek bounds pages old now then a b c done result reading more one two = record {
  kept = one.kept ++ two.kept;
  again = two.again;
  read = read_both (pages.has old) (pages.has now) (pages.reads old) (pages.reads now) (pages.reads then) one.kept (two.kept ++ two.again) reading.has
      (one.read ∙ ap (λ (l : List ℕ). all_read (pages.has old) (pages.reads old) l) (ap (λ (l : List ℕ). one.kept ++ l) one.well ∙ append-nil one.kept)) two.read
      ∙ ap (λ (l : List ℕ). all_read (pages.has old) (pages.reads old) l) (sym (append_assoc one.kept two.kept two.again));
  well = two.well;
  walk = λ world told.
      let before = more.edits.narrows world told in
      walk_join (pages.usable old) (pages.last_page old) (shown_over pages old world) seek bounds a one.kept b two.kept c (one.walk world before)
      (ends_old pages old now (λ u n s. IsWalk u n s seek bounds b two.kept c) world reading before (two.walk world told));
  end = λ world told. ends_old pages old now (λ u n s. EndsWalk u n s seek bounds c two.again) world reading (more.edits.narrows world told) (two.end world told);
  of = λ world told bound height own items comes.
      let before = more.edits.narrows world told in
      let first = one.of world before bound height own items comes in
      let then_is = two.of world told bound height first.own_then first.items_then
      (to_now pages old now (λ (u : ℕ) (s : Shown). Comes (of_table bounds) u bound s height b first.own_then first.items_then) world reading before first.comes) in
      record {
        own_then = then_is.own_then;
        items_then = then_is.items_then;
        comes = to_old pages old now (λ (u : ℕ) (s : Shown). Comes (of_table bounds) u bound s height c then_is.own_then then_is.items_then) world reading before then_is.comes;
        within = takes_then (may_look seek bounds) one.kept two.kept then_is.own_then first.own_then own first.within then_is.within;
        next = then_is.next;
      };
}

-- nothing was read
pub walked_still : {P : Type 0} (seek : Bool) (bounds : Bounds) (pages : Ghosts P) (old : P) (levels : List Level) → HasWalked {T = Unit {0}} seek bounds pages old levels levels (Ok tt) old
walked_still seek bounds pages old levels = record {
  kept = [];
  again = [];
  read = refl;
  well = refl;
  walk = λ world told. walk_none (pages.usable old) (pages.last_page old) (shown_over pages old world) seek bounds levels;
  end = λ world told. EndsWalk.AtEnd refl;
  of = λ world told bound height own items comes. record {
    own_then = own;
    items_then = items;
    comes = comes;
    within = takes_same (may_look seek bounds) own;
    next = reads_exactly (may_look seek bounds) own [] (within_none own);
  };
}
