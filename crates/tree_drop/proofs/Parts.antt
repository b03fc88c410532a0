-- The parts of a tree: what each is made of, that each stays where its pages do, and what a page or a chain that was refused says of them.
use Rattle.std.proofs.Common.{◌≡◌, ℕ, zero, suc, ◌+◌, ◌-◌, ◌≤◌, ◌<◌, Bool, true, false, List, [], ◌∷◌, ◌++◌, length, drop, slice_index_or, Some, refl, sym, subst, ap, ◌∙◌, arith, inl, inr, append-nil}
use Rattle.std.specs.Prelude.{◌⊎◌, Result, Ok, Err, IfErr}
use Rattle.std.proofs.lemmas.Bool.{cases_eq}
use Rattle.page_spec.specs.View.{View}
use Rattle.engine_spec.specs.declared.commits.FetchFault.{FetchFault}
use Rattle.engine_spec.specs.declared.commits.FetchFault.TheVariants as fault
use Rattle.page_face.specs.declared.pages_tells.PagesTells.{Ghosts}
use Rattle.page_face.specs.Pages.{IsFromOutside}
use Rattle.node_spec.specs.Kinds.{is_leaf}
use Rattle.node_spec.specs.Cells.{NodeCell}
use Rattle.node_spec.specs.Nodes.{Node, no_cell}
use Rattle.node_spec.specs.declared.kinds.Kind.{Kind}
use Rattle.page_form.specs.declared.cells.Cell.{Cell}
use Rattle.page_form.specs.Reading.{TellsCell}
use Rattle.tree_spec.specs.Layout.{times, Item, chains}
use Rattle.tree_spec.specs.Shown.{Shown}
use Rattle.tree_spec.specs.Chains.{IsChain}
use Rattle.tree_spec.specs.Trees.{AreItems, Holds, Content}
use Rattle.tree_spec.proofs.Lists.{times-append, head_there}
use Rattle.tree_spec.proofs.Local.{chain_local}
use Rattle.overflow.specs.Following.{shown_over, last_met, Bars}
use Rattle.overflow.specs.Freeing.{HasFreedChain, FreesChain, ThereIsChainInUse}
use Rattle.edit_spec.proofs.Local.{says_itself, own_moves, content_moves, child_moves}
use Rattle.edit_spec.proofs.Lists.{cons_count}
use Rattle.tree_read.specs.Ways.{MayStand}
use Rattle.tree_read.specs.Looking.{BarsNode}
use Rattle.tree_read.proofs.Levels.{one_node, not_both}
use Rattle.sound_spec.proofs.Within.{AreInRange, tree_range, of_each}
use Rattle.tree_edit.specs.Editing.{EditsPages, giving}
use Rattle.tree_edit.proofs.Edits.{edits_none, edits_gives, page_apart}
use Rattle.tree_keys.specs.Standing.{Stands}
use Rattle.tree_keys.proofs.Spotted.{drop_at, drop_past}
use Rattle.tree_drop.specs.Dropping.{DropsTree, BarsDrop}
use Rattle.tree_drop.specs.Parts.{AreHeldOnce, DropsOn, BarsOn, least_at, IsTreePart, IsChildPart, IsBelow, AreUnderCells, IsUnderCell, IsOwnChain, HasChain, HaveChains, SaysCell}
use Rattle.tree_drop.proofs.Steps.{SplitsInTwo, SplitsInto, IsLocal, IsPageAlone}

-- Chains.

no_pages : (usable last : ℕ) (shown : Shown) (first size : ℕ) (own : List ℕ) → size ≡ 0 → IsChain usable last shown first size own → own ≡ []
no_pages usable last shown first size [] none is = refl
no_pages usable last shown first size (page ∷ pages) none is = absurd (omega (arith, none, is.0))

some_pages : (usable last : ℕ) (shown : Shown) (first size : ℕ) (own : List ℕ) → 0 < size → IsChain usable last shown first size own → 1 ≤ length own
some_pages usable last shown first size [] some is = absurd (omega (arith, some, is.0))
some_pages usable last shown first size (page ∷ pages) some is = omega arith

size_is : (told : Cell) (cell : NodeCell) (size : ℕ) → SaysCell told cell → size ≡ told.payload - told.local → size ≡ cell.payload - length cell.local
size_is told cell size says is = omega (arith, is, says.payload, says.local)

-- a payload without a chain
pub drops_none : {P : Type 0} (pages : Ghosts P) (at : P) (told : Cell) (cell : NodeCell) (size : ℕ) → SaysCell told cell → size ≡ told.payload - told.local → size ≡ 0
    → DropsOn pages at (HasChain cell) at
drops_none pages at told cell size says is none = λ world tells own neat chain held.
    subst (λ (l : List ℕ). EditsPages pages (giving l) at at world)
    (sym (no_pages (pages.usable at) (pages.last_page at) (shown_over pages at world) cell.overflow (cell.payload - length cell.local) own (sym (size_is told cell size says is) ∙ none) chain))
    (edits_none pages at world neat)

-- a chain that was given up
pub drops_chain : {P : Type 0} (pages : Ghosts P) (old new : P) (told : Cell) (cell : NodeCell) (size : ℕ) → SaysCell told cell → size ≡ told.payload - told.local → 0 < size
    → FreesChain pages old told.overflow size new → DropsOn pages old (HasChain cell) new
drops_chain pages old new told cell size says is some frees = λ world tells own neat chain held.
    let usable = pages.usable old in
    let last = pages.last_page old in
    let shown = shown_over pages old world in
    let here : IsChain usable last shown told.overflow size own =
    subst (λ (f : ℕ). IsChain usable last shown f size own) (sym says.overflow)
    (subst (λ (n : ℕ). IsChain usable last shown cell.overflow n own) (sym (size_is told cell size says is)) chain) in
    let freed = frees world tells last own here (λ n there. ((held n there).1, (held n there).2)) in
    edits_gives pages own old new world (some_pages usable last shown told.overflow size own some here) (λ n there. ((held n there).1, (held n there).2)) neat freed.gives (freed.touches neat)

-- why a chain wasn't given up
bars_chain : {P : Type 0} (pages : Ghosts P) (old new : P) (told : Cell) (cell : NodeCell) (size last met next left : ℕ) (why : FetchFault) → SaysCell told cell
    → size ≡ told.payload - told.local → Bars last (pages.faults old) (pages.faults new) met next left why
    → (ThereIsChainInUse pages old told.overflow size new → IsFromOutside (pages.faults old) (pages.faults new) why) → BarsOn pages old (HasChain cell) new why
bars_chain pages old new told cell size last met next left fault.Disk says is bars sound = bars
bars_chain pages old new told cell size last met next left (fault.Corrupt named) says is bars sound = λ world tells own neat chain held.
    let here : IsChain (pages.usable old) (pages.last_page old) (shown_over pages old world) told.overflow size own =
    subst (λ (f : ℕ). IsChain (pages.usable old) (pages.last_page old) (shown_over pages old world) f size own) (sym says.overflow)
    (subst (λ (n : ℕ). IsChain (pages.usable old) (pages.last_page old) (shown_over pages old world) cell.overflow n own) (sym (size_is told cell size says is)) chain) in
    sound (record {
      there = record { world = world; told = tells; list = own; chain = here };
      used = λ n there. ((held n there).1, (held n there).2);
    })
bars_chain pages old new told cell size last met next left (fault.Size count) says is bars sound = bars
bars_chain pages old new told cell size last met next left fault.Memory says is bars sound = tt

-- a chain that begins out of range
pub bars_begin : {P : Type 0} (pages : Ghosts P) (old new : P) (told : Cell) (cell : NodeCell) (size named : ℕ) → SaysCell told cell → size ≡ told.payload - told.local → 0 < size
    → (told.overflow < 2) ⊎ (pages.last_page old < told.overflow) → BarsOn pages old (HasChain cell) new (fault.Corrupt named)
bars_begin pages old new told cell size named says is some outside = λ world tells own neat chain held.
    by_pages (pages.usable old) (shown_over pages old world) own chain
  where
    by_pages : (usable : ℕ) (shown : Shown) (own : List ℕ) → IsChain usable (pages.last_page old) shown cell.overflow (cell.payload - length cell.local) own → ⊥
    by_pages usable shown [] chain = omega (arith, chain.0, size_is told cell size says is, some)
    by_pages usable shown (page ∷ rest) chain = elim outside [
      | inl less ↦ omega (arith, less, says.overflow, chain.1, chain.2)
      | inr more ↦ omega (arith, more, says.overflow, chain.1, chain.3)
    ]

pub chain_refused : {P : Type 0} (pages : Ghosts P) (old new : P) (told : Cell) (size : ℕ) (result : Result Unit FetchFault) → size ≡ told.payload - told.local
    → HasFreedChain pages old told.overflow size result new → IfErr result (λ why. ThereIsChainInUse pages old told.overflow size new → IsFromOutside (pages.faults old) (pages.faults new) why)
    → IfErr result (λ why. (cell : NodeCell) → SaysCell told cell → BarsOn pages old (HasChain cell) new why)
chain_refused pages old new told size (Ok value) is followed sound = tt
chain_refused pages old new told size (Err why) is followed sound = λ cell says.
    bars_chain pages old new told cell size (pages.last_page old) (last_met told.overflow followed.list) followed.next followed.left why says is followed.cause sound

pub has_chain_local : (cell : NodeCell) → IsLocal (HasChain cell)
has_chain_local cell = λ usable last shown shown_then own same is.
    (chain_local usable last last shown shown_then cell.overflow (cell.payload - length cell.local) own (omega arith) same is).0

-- what is told of the cell at a place
pub says_of : (usable : ℕ) (kind : Kind) (bytes : List ℕ) (told : Cell) (cell : NodeCell) → TellsCell usable kind bytes told cell → SaysCell told cell
says_of usable kind bytes told cell tells = record { left = tells.left; payload = tells.payload; local = tells.local; overflow = tells.overflow }

-- a leaf's cells

pub chains_split : (table : Bool) (cell : NodeCell) (cells : List NodeCell) → SplitsInto (HaveChains table (cell ∷ cells)) (HasChain cell) (HaveChains table cells)
chains_split table cell cells = λ usable last shown own is. by_items usable last shown own is.items is.items_are is.own_is
  where
    by_items : (usable last : ℕ) (shown : Shown) (own : List ℕ) (items : List Item) → AreItems table usable last shown (cell ∷ cells) items → own ≡ chains items
        → SplitsInTwo (HasChain cell) (HaveChains table cells) usable last shown own
    by_items usable last shown own [] are own_is = absurd are
    by_items usable last shown own (item ∷ items) are own_is = record {
      first = item.chain;
      second = chains items;
      counts = λ n. ap (λ (l : List ℕ). times l n) own_is ∙ times-append item.chain (chains items) n;
      one = are.0.chain;
      two = record { items = items; items_are = are.2; own_is = refl };
    }

pub chains_at : (table : Bool) (cells : List NodeCell) (k next : ℕ) → k < length cells → next ≡ k + 1
    → SplitsInto (HaveChains table (drop k cells)) (HasChain (slice_index_or cells k no_cell)) (HaveChains table (drop next cells))
chains_at table cells k next less is =
    let next_is : suc k ≡ next = omega (arith, is) in
    subst (λ (n : ℕ). SplitsInto (HaveChains table (drop k cells)) (HasChain (slice_index_or cells k no_cell)) (HaveChains table (drop n cells))) next_is
    (subst (λ (l : List NodeCell). SplitsInto (HaveChains table l) (HasChain (slice_index_or cells k no_cell)) (HaveChains table (drop (suc k) cells)))
    (sym (drop_at cells k less)) (chains_split table (slice_index_or cells k no_cell) (drop (suc k) cells)))

pub chains_end : (table : Bool) (cells : List NodeCell) (k : ℕ) → length cells ≤ k → (usable last : ℕ) (shown : Shown) (own : List ℕ) → HaveChains table (drop k cells) usable last shown own → own ≡ []
chains_end table cells k past usable last shown own is =
    by_items is.items (subst (λ (l : List NodeCell). AreItems table usable last shown l is.items) (drop_past cells k past) is.items_are) is.own_is
  where
    by_items : (items : List Item) → AreItems table usable last shown [] items → own ≡ chains items → own ≡ []
    by_items [] are own_is = own_is
    by_items (item ∷ items) are own_is = absurd are

-- an interior page's cells

pub under_split : (table : Bool) (most level : ℕ) (cell : NodeCell) (cells : List NodeCell) (right : ℕ)
    → SplitsInto (AreUnderCells table most level (cell ∷ cells) right) (IsUnderCell table most level cell) (AreUnderCells table most level cells right)
under_split table most level cell cells right = λ usable last shown own is.
    let part = is.under in
    record {
      first = part.under_own ++ chains part.middle;
      second = part.rest_own;
      counts = λ n. omega (
        arith,
        ap (λ (l : List ℕ). times l n) part.own_is,
        times-append part.under_own (chains part.middle ++ part.rest_own) n,
        times-append (chains part.middle) part.rest_own n,
        times-append part.under_own (chains part.middle) n,
      );
      one = record {
        height = is.height;
        low = is.low;
        under_own = part.under_own;
        under = part.under;
        middle = part.middle;
        own_is = refl;
        sub = part.sub;
        middle_is = part.middle_is;
      };
      two = record { height = is.height; low = is.low; items = part.rest; under = part.others };
    }

pub under_end : (table : Bool) (most level right usable last : ℕ) (shown : Shown) (own : List ℕ) → AreUnderCells table most level [] right usable last shown own
    → IsChildPart table most level right usable last shown own
under_end table most level right usable last shown own is = record { height = is.height; low = is.low; items = is.items; child = is.under }

pub under_at : (table : Bool) (most level : ℕ) (cells : List NodeCell) (right k next : ℕ) → k < length cells → next ≡ k + 1
    → SplitsInto (AreUnderCells table most level (drop k cells) right) (IsUnderCell table most level (slice_index_or cells k no_cell)) (AreUnderCells table most level (drop next cells) right)
under_at table most level cells right k next less is =
    let next_is : suc k ≡ next = omega (arith, is) in
    subst (λ (n : ℕ). SplitsInto (AreUnderCells table most level (drop k cells) right) (IsUnderCell table most level (slice_index_or cells k no_cell)) (AreUnderCells table most level (drop n cells) right)) next_is
    (subst (λ (l : List NodeCell). SplitsInto (AreUnderCells table most level l right) (IsUnderCell table most level (slice_index_or cells k no_cell)) (AreUnderCells table most level (drop (suc k) cells) right))
    (sym (drop_at cells k less)) (under_split table most level (slice_index_or cells k no_cell) (drop (suc k) cells) right))

pub under_last : (table : Bool) (most level : ℕ) (cells : List NodeCell) (right told k : ℕ) → length cells ≤ k → told ≡ right → (usable last : ℕ) (shown : Shown) (own : List ℕ)
    → AreUnderCells table most level (drop k cells) right usable last shown own → IsChildPart table most level told usable last shown own
under_last table most level cells right told k past is usable last shown own under =
    subst (λ (n : ℕ). IsChildPart table most level n usable last shown own) (sym is)
    (under_end table most level right usable last shown own
    (subst (λ (l : List NodeCell). AreUnderCells table most level l right usable last shown own) (drop_past cells k past) under))

pub under_cell_local : (table : Bool) (most level : ℕ) (cell : NodeCell) → IsLocal (IsUnderCell table most level cell)
under_cell_local table most level cell = λ usable last shown shown_then own same is.
    let count : (n : ℕ) → times own n ≡ times is.under_own n + times (chains is.middle) n =
    λ n. ap (λ (l : List ℕ). times l n) is.own_is ∙ times-append is.under_own (chains is.middle) n in
    record {
      height = is.height;
      low = is.low;
      under_own = is.under_own;
      under = is.under;
      middle = is.middle;
      own_is = is.own_is;
      sub = child_moves table usable last last shown shown_then is.height cell.left is.under_own is.under (omega arith) (λ n there. same n (omega (arith, there, count n))) is.sub;
      middle_is = own_moves table usable last last shown shown_then cell cell is.middle (omega arith) (λ n there. same n (omega (arith, there, count n))) (says_itself cell) is.middle_is;
    }

pub cell_split : (table : Bool) (most level : ℕ) (cell : NodeCell) → SplitsInto (IsUnderCell table most level cell) (IsChildPart table most level cell.left) (IsOwnChain table cell)
cell_split table most level cell = λ usable last shown own is. record {
  first = is.under_own;
  second = chains is.middle;
  counts = λ n. ap (λ (l : List ℕ). times l n) is.own_is ∙ times-append is.under_own (chains is.middle) n;
  one = record { height = is.height; low = is.low; items = is.under; child = is.sub };
  two = record { middle = is.middle; own_is = refl; middle_is = is.middle_is };
}

pub no_own_chain : (table : Bool) (cell : NodeCell) → table ≡ true → (usable last : ℕ) (shown : Shown) (own : List ℕ) → IsOwnChain table cell usable last shown own → own ≡ []
no_own_chain true cell of_table usable last shown own is = is.own_is ∙ ap chains is.middle_is
no_own_chain false cell of_table usable last shown own is = absurd (not_both false of_table refl)

pub own_chain : (table : Bool) (cell : NodeCell) → table ≡ false → (usable last : ℕ) (shown : Shown) (own : List ℕ) → IsOwnChain table cell usable last shown own
    → HasChain cell usable last shown own
own_chain true cell of_index usable last shown own is = absurd (not_both true refl of_index)
own_chain false cell of_index usable last shown own is =
    let item = is.middle_is.0 in
    let own_is : own ≡ item.chain = is.own_is ∙ (ap chains is.middle_is.1 ∙ append-nil item.chain) in
    subst (λ (l : List ℕ). IsChain usable last shown cell.overflow (cell.payload - length cell.local) l) (sym own_is) is.middle_is.2.chain

-- a child

pub child_local : (table : Bool) (most level page : ℕ) → IsLocal (IsChildPart table most level page)
child_local table most level page = λ usable last shown shown_then own same is. record {
  height = is.height;
  low = is.low;
  items = is.items;
  child = child_moves table usable last last shown shown_then is.height page own is.items (omega arith) same is.child;
}

pub child_part : (table : Bool) (most level next page usable last : ℕ) (shown : Shown) (own : List ℕ) → next ≡ level + 1 → IsChildPart table most level page usable last shown own
    → IsTreePart table most next page usable last shown own
child_part table most level next page usable last shown own is child =
    subst (λ (n : ℕ). IsTreePart table most n page usable last shown own) (let e : suc level ≡ next = omega (arith, is) in e)
    (record { height = child.height; low = child.low; items = child.items; holds = child.child.holds })

-- a page

-- a page with the node that it shows: what that leads to, and the page itself
pub record IsPageWithNode (table : Bool) (most level page : ℕ) (node : Node) (usable last : ℕ) (shown : Shown) (own : List ℕ) : Type 0 where
  pub below : List ℕ
  pub own_is : own ≡ page ∷ below
  pub is : IsBelow table most level node usable last shown below

pub part_whole : (table : Bool) (most level page : ℕ) (node : Node) (usable last : ℕ) (shown : Shown) (own : List ℕ) → shown.node page ≡ Some node
    → IsTreePart table most level page usable last shown own → (1 ≤ times own page) × IsPageWithNode table most level page node usable last shown own
part_whole table most level page node usable last shown own shows part =
    let holds = part.holds in (
      head_there page holds.below own holds.own_is,
      record {
        below = holds.below;
        own_is = holds.own_is;
        is = record {
          height = part.height;
          low = part.low;
          items = part.items;
          content = subst (λ (n : Node). Content table usable last shown part.height n holds.below part.items) (one_node shown page holds.node node holds.holds shows) holds.content;
        };
      },
    )

pub whole_split_page : (table : Bool) (most level page : ℕ) (node : Node) → SplitsInto (IsPageWithNode table most level page node) (IsBelow table most level node) (IsPageAlone page)
whole_split_page table most level page node = λ usable last shown own whole. record {
  first = whole.below;
  second = page ∷ [];
  counts = λ n. omega (arith, ap (λ (l : List ℕ). times l n) whole.own_is, cons_count page whole.below n);
  one = whole.is;
  two = refl;
}

pub below_local : (table : Bool) (most level : ℕ) (node : Node) → IsLocal (IsBelow table most level node)
below_local table most level node = λ usable last shown shown_then own same is. record {
  height = is.height;
  low = is.low;
  items = is.items;
  content = content_moves table usable last last shown shown_then is.height node own is.items (omega arith) same is.content;
}

pub below_leaf : (table : Bool) (most level : ℕ) (node : Node) → is_leaf node.kind ≡ true → (usable last : ℕ) (shown : Shown) (own : List ℕ)
    → IsBelow table most level node usable last shown own → HaveChains table node.cells usable last shown own
below_leaf table most level node leaf usable last shown own is = by_height is.height is.content
  where
    by_height : (height : ℕ) → Content table usable last shown height node own is.items → HaveChains table node.cells usable last shown own
    by_height zero content = record { items = is.items; items_are = content.items_are; own_is = content.below_is }
    by_height (suc height) content = absurd (not_both (is_leaf node.kind) leaf content.inner)

pub below_inner : (table : Bool) (most level : ℕ) (node : Node) → is_leaf node.kind ≡ false → (usable last : ℕ) (shown : Shown) (own : List ℕ)
    → IsBelow table most level node usable last shown own → AreUnderCells table most level node.cells node.right usable last shown own
below_inner table most level node inner usable last shown own is = by_height is.height is.low is.content
  where
    by_height : (height : ℕ) → level + height ≤ most → Content table usable last shown height node own is.items → AreUnderCells table most level node.cells node.right usable last shown own
    by_height zero low content = absurd (not_both (is_leaf node.kind) content.leaf inner)
    by_height (suc height) low content = record { height = height; low = omega (arith, low); items = is.items; under = content.under }

-- the node of a part may stand where it stands
may_stand : (table : Bool) (level page usable last : ℕ) (shown : Shown) (own : List ℕ) → (part : IsTreePart table 40 level page usable last shown own)
    → MayStand table page level part.holds.node
may_stand table level page usable last shown own part = by_height level part.height part.low part.holds
  where
    by_height : (level height : ℕ) → level + height ≤ 40 → (holds : Holds shown (least_at level height) (Content table usable last shown height) page own part.items)
        → MayStand table page level holds.node
    by_height zero zero low holds = record { table_is = holds.content.table_is; depth = omega arith; enough = inr (inl (refl, holds.content.leaf)) }
    by_height zero (suc height) low holds = record {
      table_is = holds.content.table_is;
      depth = omega arith;
      enough = elim holds.enough [ inl first ↦ inl first | inr many ↦ inr (inr many) ];
    }
    by_height (suc level) zero low holds = record {
      table_is = holds.content.table_is;
      depth = omega (arith, low);
      enough = elim holds.enough [ inl first ↦ inl first | inr many ↦ inr (inr many) ];
    }
    by_height (suc level) (suc height) low holds = record {
      table_is = holds.content.table_is;
      depth = omega (arith, low);
      enough = elim holds.enough [ inl first ↦ inl first | inr many ↦ inr (inr many) ];
    }

-- a page that gave no node
pub bars_node : {P : Type 0} (pages : Ghosts P) (old new : P) (table : Bool) (level page : ℕ) (why : FetchFault) → BarsNode pages old table page level new why
    → BarsOn pages old (IsTreePart table 40 level page) new why
bars_node pages old new table level page fault.Disk bars = bars
bars_node pages old new table level page (fault.Corrupt named) bars = λ world told own neat part held.
    bars.2 world told part.holds.node
    (record { holds = part.holds.holds; may = may_stand table level page (pages.usable old) (pages.last_page old) (shown_over pages old world) own part })
bars_node pages old new table level page (fault.Size count) never = absurd never
bars_node pages old new table level page fault.Memory bars = tt

-- a child out of range
pub bars_child : {P : Type 0} (pages : Ghosts P) (old new : P) (table : Bool) (most level page named : ℕ) → (page < 2) ⊎ (pages.last_page old < page)
    → BarsOn pages old (IsChildPart table most level page) new (fault.Corrupt named)
bars_child pages old new table most level page named outside = λ world told own neat is held. elim outside [
  | inl less ↦ absurd (omega (arith, less, is.child.least))
  | inr more ↦ absurd (omega (arith, more, is.child.most))
]

-- The whole tree.

head_or_rest : (page n : ℕ) (pages : List ℕ) → 1 ≤ times (page ∷ pages) n → (page ≡ n) ⊎ (1 ≤ times pages n)
head_or_rest page n pages there = elim (cases_eq page n) [
  | inl same ↦ inl same
  | inr apart ↦ inr (omega (arith, there, cons_count page pages n, page_apart page n apart))
]

-- the pages of a tree that stands are held, if its root isn't page 1
held_pages : {P : Type 0} (pages : Ghosts P) (at : P) (world : View) (table : Bool) (height root : ℕ) (own : List ℕ) (items : List Item) → 2 ≤ root
    → Stands pages at world table height root own items → AreHeldOnce pages at world own
held_pages pages at world table height root own items low stands = λ n there.
    let range = tree_range table (pages.usable at) (pages.last_page at) (shown_over pages at world) height root own items stands.tree in
    let used = stands.used n there in
    (least n range there, used.0, used.1)
  where
    least : (n : ℕ) → (range : (below : List ℕ) × (own ≡ root ∷ below) × AreInRange (pages.last_page at) below) → 1 ≤ times own n → 1 ≤ n
    least n range there = elim (head_or_rest root n range.0 (subst (λ (l : List ℕ). 1 ≤ times l n) range.1 there)) [
      | inl same ↦ omega (arith, same, low)
      | inr below ↦ omega (arith, (of_each (λ (page : ℕ). (2 ≤ page) × (page ≤ pages.last_page at)) range.0 n range.2 below).0)
    ]

pub drops_tree : {P : Type 0} (pages : Ghosts P) (old new : P) (table : Bool) (root : ℕ) → 2 ≤ root → ((most : ℕ) → DropsOn pages old (IsTreePart table most 0 root) new)
    → DropsTree pages old table root new
drops_tree pages old new table root low drops = λ world told height own items stands.
    drops height world told own stands.neat (record { height = height; low = omega arith; items = items; holds = stands.tree })
    (held_pages pages old world table height root own items low stands)

pub bars_tree : {P : Type 0} (pages : Ghosts P) (old new : P) (table : Bool) (root : ℕ) (why : FetchFault) → 2 ≤ root → BarsOn pages old (IsTreePart table 40 0 root) new why
    → BarsDrop pages old table root new why
bars_tree pages old new table root fault.Disk low bars = bars
bars_tree pages old new table root (fault.Corrupt named) low bars = λ there.
    bars there.world there.told there.own there.stands.neat
    (record { height = there.height; low = omega (arith, there.low); items = there.items; holds = there.stands.tree })
    (held_pages pages old there.world table there.height root there.own there.items low there.stands)
bars_tree pages old new table root (fault.Size count) low bars = bars
bars_tree pages old new table root fault.Memory low bars = tt

-- a root out of range roots no tree
pub bars_root : {P : Type 0} (pages : Ghosts P) (old new : P) (table : Bool) (root named : ℕ) → (root ≡ 1 → ⊥) → (root < 2) ⊎ (pages.last_page old < root)
    → BarsDrop pages old table root new (fault.Corrupt named)
bars_root pages old new table root named not_first outside = λ there. elim outside [
  | inl less ↦ absurd (not_first (omega (arith, less, there.least)))
  | inr more ↦ absurd (omega (arith, more, there.most))
]

pub bars_no_memory : {P : Type 0} (pages : Ghosts P) (old new : P) (table : Bool) (root : ℕ) (why : FetchFault) → why ≡ fault.Memory → BarsDrop pages old table root new why
bars_no_memory pages old new table root why is = subst (λ (w : FetchFault). BarsDrop pages old table root new w) (sym is) tt
