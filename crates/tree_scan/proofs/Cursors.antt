-- A cursor from call to call.
use Rattle.std.proofs.Common.{◌≡◌, ℕ, ℤ, ◌<◌, Bool, true, false, List, [], ◌∷◌, ◌++◌, length, Option, None, Some, Ok, refl, sym, subst, ap, ◌∙◌, arith}
use Rattle.std.proofs.lemmas.List.{length-append}
use Rattle.page_spec.specs.View.{View}
use Rattle.engine_spec.specs.declared.commits.FetchFault.{FetchFault}
use Rattle.engine_spec.specs.declared.commits.FetchFault.TheVariants as fault
use Rattle.page_face.specs.declared.pages_tells.PagesTells.{Ghosts}
use Rattle.page_face.specs.Pages.{ReadsAtMost}
use Rattle.node_spec.specs.Kinds.{is_leaf}
use Rattle.node_spec.specs.Nodes.{Node}
use Rattle.tree_spec.specs.Shown.{Shown}
use Rattle.tree_spec.specs.Layout.{Each, Item}
use Rattle.tree_spec.specs.Trees.{IsTree, Content}
use Rattle.tree_spec.proofs.Lists.{each-append}
use Rattle.overflow.specs.Following.{shown_over}
use Rattle.value_form.specs.declared.value.Value.{Value}
use Rattle.tree_read.proofs.Around.{each_first, each_last}
use Rattle.tree_read.proofs.Levels.{one_node}
use Rattle.tree_scan.specs.declared.bounds.Bounds.{Bounds}
use Rattle.tree_scan.specs.declared.level.Level.{Level}
use Rattle.tree_scan.specs.declared.cursor.Cursor.{Cursor}
use Rattle.tree_scan.specs.Bounded.{of_table, number_of_row, IsOver, AreFrom, AreUpTo}
use Rattle.tree_scan.specs.Coming.{Comes, IsSpent, AreBefore, AreBehind, ToCome, AreToCome, gone_past}
use Rattle.tree_scan.specs.Placing.{HasLevel}
use Rattle.tree_scan.specs.Reads.{HasWalked}
use Rattle.tree_scan.specs.Scanning.{IsLevel, AreLevels, KeepsComing, StaysThere, GivesNext, GivesItem, GivesNone, TakesNext, NoneInside, IsBarred}
use Rattle.tree_scan.specs.Seeking.{IsSought, KeepsSought, StartsAt}
use Rattle.tree_scan.specs.Walking.{IsStep, EndsWalk}
use Rattle.tree_scan.proofs.Walks.{walk_one}
use Rattle.tree_scan.proofs.Lasts.{count_last}
use Rattle.tree_scan.proofs.Parts.{one_split}
use Rattle.tree_scan.proofs.Seeks.{at_place, sought_found}
use Rattle.tree_scan.proofs.Paths.{up}
use Rattle.tree_scan.proofs.Within.{within_none, within_same}
use Rattle.tree_scan.proofs.Shows.{done_levels, to_old, to_now}

-- what is to come of a cursor that has begun, and of one that hasn't
pub behind : (usable last : ℕ) (shown : Shown) (height : ℕ) (cursor : Cursor) (ahead some : List Item) → cursor.begun ≡ true
    → AreToCome usable last shown height cursor ahead some → AreBehind usable last shown height cursor ahead some
behind usable last shown height cursor ahead some is coming = subst (λ (b : Bool). ToCome b usable last shown height cursor ahead some) is coming

pub before : (usable last : ℕ) (shown : Shown) (height : ℕ) (cursor : Cursor) (ahead some : List Item) → cursor.begun ≡ false
    → AreToCome usable last shown height cursor ahead some → AreBefore usable last shown height cursor ahead some
before usable last shown height cursor ahead some is coming = subst (λ (b : Bool). ToCome b usable last shown height cursor ahead some) is coming

pub to_come : (usable last : ℕ) (shown : Shown) (height : ℕ) (cursor : Cursor) (ahead some : List Item) → cursor.begun ≡ true
    → AreBehind usable last shown height cursor ahead some → AreToCome usable last shown height cursor ahead some
to_come usable last shown height cursor ahead some is coming = subst (λ (b : Bool). ToCome b usable last shown height cursor ahead some) (sym is) coming

-- the first path was gone
pub begins : {P : Type 0} (pages : Ghosts P) (old new : P) (cursor cursor_then : Cursor) → cursor.begun ≡ false → cursor_then.begun ≡ true → cursor_then.bounds ≡ cursor.bounds
    → StartsAt pages old cursor.bounds cursor.root cursor_then.levels.items new → StaysThere pages old cursor cursor_then new
begins pages old new cursor cursor_then not_yet begun bounds starts = λ world told bound height ahead some coming.
    let usable = pages.usable old in
    let shown = shown_over pages old world in
    let b = before usable bound shown height cursor ahead some not_yet coming in
    let first = starts world told bound height b.own b.items ahead b.tree b.from in
    to_come usable bound shown height cursor_then ahead some begun (record {
      own = first.0;
      comes = subst (λ (d : Bounds). Comes (of_table d) usable bound shown height cursor_then.levels.items first.0 ahead) (sym bounds) first.1;
      up_to = subst (λ (d : Bounds). AreUpTo d ahead some) (sym bounds) b.up_to;
    })

-- the root's level, on the way to the low bound's place
pub first_sought : {P : Type 0} (pages : Ghosts P) (old now : P) (bounds : Bounds) (root : ℕ) (level : Level) (pushed : List Level)
    → HasLevel pages old true bounds root 0 level now → pushed ≡ level ∷ [] → (world : View) → pages.tells now world → (bound height : ℕ) (own : List ℕ) (items ahead : List Item)
    → IsTree (of_table bounds) (pages.usable old) bound (shown_over pages old world) height root own items → AreFrom bounds items ahead
    → IsSought (pages.usable old) bound (shown_over pages old world) height bounds pushed items
first_sought pages old now bounds root level pushed has are world told bound height own items ahead tree from =
    let usable = pages.usable old in
    let shown = shown_over pages old world in
    let same : tree.node ≡ has.node = one_node shown root tree.node has.node tree.holds (has.shown world told) in
    record {
      above = [];
      top = level;
      are = are;
      sought = at_place bounds usable bound (pages.last_page old) shown height level has.node tree.below items ahead (ap (λ (p : ℕ). shown.node p) has.page_is ∙ has.shown world told)
          (has.at_cell ∙ ap is_leaf has.tells.kind) (subst (λ (n : Node). Content (of_table bounds) usable bound shown height n tree.below items) same tree.content) from (has.placed world told);
    }

pub starts_at : {P : Type 0} (pages : Ghosts P) (old now then : P) (bounds : Bounds) (root : ℕ) (level : Level) (pushed levels : List Level) → ReadsAtMost pages old now
    → ReadsAtMost pages now then → HasLevel pages old true bounds root 0 level now → pushed ≡ level ∷ [] → KeepsSought pages now bounds pushed levels then
    → ((above : List Level) (top : Level) → levels ≡ above ++ top ∷ [] → top.at_cell ≡ true) → StartsAt pages old bounds root levels then
starts_at pages old now then bounds root level pushed levels reading more has are keeps cell = λ world told bound height own items ahead tree from.
    let usable = pages.usable old in
    let shown = shown_over pages old world in
    let seen = more.edits.narrows world told in
    let first = first_sought pages old now bounds root level pushed has are world seen bound height own items ahead tree from in
    let last = to_old pages old now (λ (u : ℕ) (s : Shown). IsSought u bound s height bounds levels items) world reading seen
    (keeps world told bound height items (to_now pages old now (λ (u : ℕ) (s : Shown). IsSought u bound s height bounds pushed items) world reading seen first)) in
    let found = sought_found bounds usable bound shown height last.above last.top items (cell last.above last.top last.are) last.sought in
    let same : found.rest ≡ ahead = one_split bounds found.from.front found.rest from.front ahead (sym found.from.items_are ∙ from.items_are) found.from.under found.from.not_under from.under
    from.not_under in (
      found.own,
      subst (λ (l : List Level). Comes (of_table bounds) usable bound shown height l found.own ahead) (sym last.are)
          (subst (λ (i : List Item). Comes (of_table bounds) usable bound shown height (last.above ++ last.top ∷ []) found.own i) same found.comes),
    )

-- gone up
goes_up : {P : Type 0} (table : Bool) (pages : Ghosts P) (old : P) (levels left passed : List Level) → ReadsAtMost pages old old → levels ≡ left ++ passed
    → Each (IsLevel table pages old) levels → Each IsSpent passed → (world : View) → pages.tells old world → (bound height : ℕ) (own : List ℕ) (items : List Item)
    → Comes table (pages.usable old) bound (shown_over pages old world) height levels own items → Comes table (pages.usable old) bound (shown_over pages old world) height left own items
goes_up table pages old levels left passed reading are all spent world told bound height own items comes =
    up table (pages.usable old) bound (shown_over pages old world) height left passed own items
    (done_levels table pages old old world reading told passed (each_last (IsLevel table pages old) left passed (subst (Each (IsLevel table pages old)) are all)) spent)
    (subst (λ (l : List Level). Comes table (pages.usable old) bound (shown_over pages old world) height l own items) are comes)

pub walked_up : {P : Type 0} (bounds : Bounds) (pages : Ghosts P) (old : P) (levels left passed : List Level) → ReadsAtMost pages old old → levels ≡ left ++ passed
    → Each (IsLevel (of_table bounds) pages old) levels → Each IsSpent passed → HasWalked {T = Unit {0}} false bounds pages old levels left (Ok tt) old
walked_up bounds pages old levels left passed reading are all spent = record {
  kept = [];
  again = [];
  read = refl;
  well = refl;
  walk = λ world told. walk_one (pages.usable old) (pages.last_page old) (shown_over pages old world) false bounds levels [] left (IsStep.Up passed are spent refl);
  end = λ world told. EndsWalk.AtEnd refl;
  of = λ world told bound height own items comes. record {
    own_then = own;
    items_then = items;
    comes = goes_up (of_table bounds) pages old levels left passed reading are all spent world told bound height own items comes;
    within = within_same own;
    next = within_none own;
  };
}

pub keeps_up : {P : Type 0} (table : Bool) (pages : Ghosts P) (old : P) (levels left passed : List Level) → ReadsAtMost pages old old → levels ≡ left ++ passed
    → Each (IsLevel table pages old) levels → Each IsSpent passed → KeepsComing table pages old levels left old
keeps_up table pages old levels left passed reading are all spent = λ world told bound height own items comes.
    (own, goes_up table pages old levels left passed reading are all spent world told bound height own items comes)

pub levels_left : {P : Type 0} (table : Bool) (pages : Ghosts P) (old : P) (levels left passed : List Level) → levels ≡ left ++ passed → AreLevels table pages old levels
    → AreLevels table pages old left
levels_left table pages old levels left passed are all =
    (each_first (IsLevel table pages old) left passed (subst (Each (IsLevel table pages old)) are all.0), omega (arith, all.1, ap length are, length-append left passed))

-- going on along the path leaves what is to come
pub stays_by : {P : Type 0} (pages : Ghosts P) (old new : P) (cursor cursor_then : Cursor) → cursor.begun ≡ true → cursor_then.begun ≡ true → cursor_then.bounds ≡ cursor.bounds
    → KeepsComing (of_table cursor.bounds) pages old cursor.levels.items cursor_then.levels.items new → StaysThere pages old cursor cursor_then new
stays_by pages old new cursor cursor_then begun begun_then bounds keeps = λ world told bound height ahead some coming.
    let usable = pages.usable old in
    let shown = shown_over pages old world in
    let b = behind usable bound shown height cursor ahead some begun coming in
    let comes = keeps world told bound height b.own ahead b.comes in
    to_come usable bound shown height cursor_then ahead some begun_then (record {
      own = comes.0;
      comes = subst (λ (d : Bounds). Comes (of_table d) usable bound shown height cursor_then.levels.items comes.0 ahead) (sym bounds) comes.1;
      up_to = subst (λ (d : Bounds). AreUpTo d ahead some) (sym bounds) b.up_to;
    })

pub stays_same : {P : Type 0} (pages : Ghosts P) (old new : P) (cursor cursor_then : Cursor) → cursor.begun ≡ false → cursor_then.begun ≡ false → cursor_then.bounds ≡ cursor.bounds
    → cursor_then.root ≡ cursor.root → StaysThere pages old cursor cursor_then new
stays_same pages old new cursor cursor_then not_yet not_then bounds root = λ world told bound height ahead some coming.
    let usable = pages.usable old in
    let shown = shown_over pages old world in
    let b = before usable bound shown height cursor ahead some not_yet coming in
    subst (λ (t : Bool). ToCome t usable bound shown height cursor_then ahead some) (sym not_then) (record {
      own = b.own;
      items = b.items;
      tree = subst (λ (d : Bounds). IsTree (of_table d) usable bound shown height cursor_then.root b.own b.items) (sym bounds)
          (subst (λ (p : ℕ). IsTree (of_table cursor.bounds) usable bound shown height p b.own b.items) (sym root) b.tree);
      from = subst (λ (d : Bounds). AreFrom d b.items ahead) (sym bounds) b.from;
      up_to = subst (λ (d : Bounds). AreUpTo d ahead some) (sym bounds) b.up_to;
    })

-- none in the bound
none_first : (bounds : Bounds) (items some : List Item) → NoneInside bounds items → AreUpTo bounds items some → some ≡ []
none_first bounds items [] none up_to = refl
none_first bounds items (s ∷ some) (NoneInside.NoItem nothing) up_to = absurd (no_items (sym nothing ∙ up_to.items_are))
  where
    no_items : [] ≡ s ∷ (some ++ up_to.back) → ⊥
    no_items is = cc
none_first bounds items (s ∷ some) (NoneInside.FirstOver item rest are over) up_to =
    absurd (up_to.inside.0 (subst (IsOver bounds) (same (sym are ∙ up_to.items_are)) over))
  where
    same : item ∷ rest ≡ s ∷ (some ++ up_to.back) → item ≡ s
    same is = cc

pub gives_none : {P : Type 0} (pages : Ghosts P) (old now new : P) (cursor cursor_then : Cursor) (levels : List Level) → cursor.begun ≡ true → cursor_then.begun ≡ true
    → cursor_then.levels.items ≡ [] → ReadsAtMost pages old now → ReadsAtMost pages now new → KeepsComing (of_table cursor.bounds) pages old cursor.levels.items levels now
    → TakesNext pages now cursor.bounds levels None new → GivesNext pages old cursor None cursor_then new
gives_none pages old now new cursor cursor_then levels begun begun_then dropped reading more keeps takes = λ world told bound height ahead some coming.
    let usable = pages.usable old in
    let shown = shown_over pages old world in
    let seen = more.edits.narrows world told in
    let table = of_table cursor.bounds in
    let b = behind usable bound shown height cursor ahead some begun coming in
    let comes = keeps world seen bound height b.own ahead b.comes in
    let none = takes world told bound height comes.0 ahead
    (to_now pages old now (λ (u : ℕ) (s : Shown). Comes table u bound s height levels comes.0 ahead) world reading seen comes.1) in
    record {
      none = none_first cursor.bounds ahead some none b.up_to;
      coming = to_come usable bound shown height cursor_then [] [] begun_then (record {
        own = [];
        comes = subst (λ (l : List Level). Comes (of_table cursor_then.bounds) usable bound shown height l [] []) (sym dropped) (refl, refl);
        up_to = record { back = []; items_are = refl; inside = tt; over = tt };
      });
    }

-- the first in the bound
pub record FirstOf (bounds : Bounds) (item : Item) (rest some : List Item) : Type 0 where
  pub others : List Item
  pub are : some ≡ item ∷ others
  pub up_to : AreUpTo bounds rest others

pub first_of : (bounds : Bounds) (items rest some : List Item) (item : Item) → items ≡ item ∷ rest → (IsOver bounds item → ⊥) → AreUpTo bounds items some → FirstOf bounds item rest some
first_of bounds items rest [] item are inside up_to = absurd (by_back up_to.back (sym are ∙ up_to.items_are) up_to.over)
  where
    by_back : (back : List Item) → item ∷ rest ≡ back → Each (IsOver bounds) back → ⊥
    by_back [] is over = cc
    by_back (b ∷ back) is over = inside (subst (IsOver bounds) (sym (same is)) over.0)
      where
        same : item ∷ rest ≡ b ∷ back → item ≡ b
        same is = cc
first_of bounds items rest (s ∷ some) item are inside up_to = record {
  others = some;
  are = ap (λ (i : Item). i ∷ some) (head (sym up_to.items_are ∙ are));
  up_to = record { back = up_to.back; items_are = tail (sym up_to.items_are ∙ are); inside = up_to.inside.1; over = up_to.over };
}
  where
    head : s ∷ (some ++ up_to.back) ≡ item ∷ rest → s ≡ item
    head is = cc

    tail : s ∷ (some ++ up_to.back) ≡ item ∷ rest → rest ≡ some ++ up_to.back
    tail is = cc

pub gives_some : {P : Type 0} (pages : Ghosts P) (old now new : P) (cursor cursor_then : Cursor) (levels : List Level) (pair : ℤ × List Value) → cursor.begun ≡ true
    → cursor_then.begun ≡ true → cursor_then.bounds ≡ cursor.bounds → ReadsAtMost pages old now → ReadsAtMost pages now new
    → KeepsComing (of_table cursor.bounds) pages old cursor.levels.items levels now
    → ((above : List Level) (top : Level) → levels ≡ above ++ top ∷ [] → cursor_then.levels.items ≡ above ++ gone_past top ∷ [])
    → TakesNext pages now cursor.bounds levels (Some pair) new → GivesNext pages old cursor (Some pair) cursor_then new
gives_some pages old now new cursor cursor_then levels pair begun begun_then bounds reading more keeps stepped takes = λ world told bound height ahead some coming.
    let usable = pages.usable old in
    let shown = shown_over pages old world in
    let seen = more.edits.narrows world told in
    let table = of_table cursor.bounds in
    let b = behind usable bound shown height cursor ahead some begun coming in
    let comes = keeps world seen bound height b.own ahead b.comes in
    let taken = takes world told bound height comes.0 ahead
    (to_now pages old now (λ (u : ℕ) (s : Shown). Comes table u bound s height levels comes.0 ahead) world reading seen comes.1) in
    let found = first_of cursor.bounds ahead taken.rest some taken.item taken.items_are taken.inside b.up_to in
    let behind_it = taken.comes cursor_then.levels.items stepped in
    record {
      item = taken.item;
      behind = taken.rest;
      rest = found.others;
      ahead_are = taken.items_are;
      some_are = found.are;
      row = taken.row;
      number = taken.number ∙ ap (λ (d : Bounds). number_of_row d taken.item.key pair.1) (sym bounds);
      coming = to_come usable bound shown height cursor_then taken.rest found.others begun_then (record {
        own = behind_it.0;
        comes = subst (λ (d : Bounds). Comes (of_table d) usable bound shown height cursor_then.levels.items behind_it.0 taken.rest) (sym bounds)
            (to_old pages old now (λ (u : ℕ) (s : Shown). Comes table u bound s height cursor_then.levels.items behind_it.0 taken.rest) world reading seen behind_it.1);
        up_to = subst (λ (d : Bounds). AreUpTo d taken.rest found.others) (sym bounds) found.up_to;
      });
    }

-- one step behind another
pub stays_join : {P : Type 0} (pages : Ghosts P) (old now new : P) (first second third : Cursor) → ReadsAtMost pages old now → ReadsAtMost pages now new
    → StaysThere pages old first second now → StaysThere pages now second third new → StaysThere pages old first third new
stays_join pages old now new first second third reading more one two = λ world told bound height ahead some coming.
    let seen = more.edits.narrows world told in
    to_old pages old now (λ (u : ℕ) (s : Shown). AreToCome u bound s height third ahead some) world reading seen
    (two world told bound height ahead some
    (to_now pages old now (λ (u : ℕ) (s : Shown). AreToCome u bound s height second ahead some) world reading seen (one world seen bound height ahead some coming)))

pub gives_join : {P : Type 0} (pages : Ghosts P) (old now new : P) (first second third : Cursor) (found : Option (ℤ × List Value)) → ReadsAtMost pages old now
    → ReadsAtMost pages now new → StaysThere pages old first second now → GivesNext pages now second found third new → GivesNext pages old first found third new
gives_join pages old now new first second third None reading more one two = λ world told bound height ahead some coming.
    let seen = more.edits.narrows world told in
    to_old pages old now (λ (u : ℕ) (s : Shown). GivesNone u bound s height third some) world reading seen
    (two world told bound height ahead some
    (to_now pages old now (λ (u : ℕ) (s : Shown). AreToCome u bound s height second ahead some) world reading seen (one world seen bound height ahead some coming)))
gives_join pages old now new first second third (Some pair) reading more one two = λ world told bound height ahead some coming.
    let seen = more.edits.narrows world told in
    to_old pages old now (λ (u : ℕ) (s : Shown). GivesItem u bound s height third ahead some pair) world reading seen
    (two world told bound height ahead some
    (to_now pages old now (λ (u : ℕ) (s : Shown). AreToCome u bound s height second ahead some) world reading seen (one world seen bound height ahead some coming)))

-- what a fault says
pub barred_as : {P : Type 0} (pages : Ghosts P) (old new : P) (Breaks Other : Shown → ℕ → Type 0) (why : FetchFault) → ((shown : Shown) (page : ℕ) → Breaks shown page → Other shown page)
    → IsBarred pages old new Breaks why → IsBarred pages old new Other why
barred_as pages old new Breaks Other fault.Disk as_other bars = bars
barred_as pages old new Breaks Other (fault.Corrupt page) as_other bars = λ world told. as_other (shown_over pages old world) page (bars world told)
barred_as pages old new Breaks Other (fault.Size count) as_other bars = bars
barred_as pages old new Breaks Other fault.Memory as_other bars = bars

-- the last level goes past its cell
pub stepped_levels : {P : Type 0} (table : Bool) (pages : Ghosts P) (now : P) (levels levels_then above : List Level) (top : Level) → AreLevels table pages now levels
    → levels ≡ above ++ top ∷ [] → top.place < top.node.cells.len → levels_then ≡ above ++ gone_past top ∷ [] → AreLevels table pages now levels_then
stepped_levels table pages now levels levels_then above top all are inside are_then =
    let parts = subst (Each (IsLevel table pages now)) are all.0 in
    let at = (each_last (IsLevel table pages now) above (top ∷ []) parts).0 in (
      subst (Each (IsLevel table pages now)) (sym are_then)
          (each-append (IsLevel table pages now) above (gone_past top ∷ []) (each_first (IsLevel table pages now) above (top ∷ []) parts) (
            record {
              node = at.node;
              read = at.read;
              shown = at.shown;
              inside = omega (arith, inside, at.read.tells.count);
              leaf = λ leaf. ap is_leaf at.read.tells.kind ∙ leaf;
              inner = λ table inner. ap is_leaf at.read.tells.kind ∙ inner;
            },
            tt,
          )),
      omega (arith, all.1, count_last levels above top are, ap length are_then, length-append above (gone_past top ∷ [])),
    )
