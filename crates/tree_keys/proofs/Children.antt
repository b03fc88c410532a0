-- The child at a key's place: what stands above it, and what it says of its page.
use Rattle.std.proofs.Common.{◌≡◌, ℕ, ℤ, zero, suc, ◌≤◌, ◌<◌, ◌≤ℤ◌, Bool, true, false, List, [], ◌∷◌, ◌++◌, length, take, drop, slice_index_or, refl, sym, subst, ap, ◌∙◌, arith, inl, inr, Some, append_assoc}
use Rattle.std.proofs.lemmas.List.{take-append-drop}
use Rattle.std.proofs.lemmas.Bool.{cases_lt}
use Rattle.std.specs.Prelude.{◌⊎◌}
use Rattle.page_spec.specs.View.{View}
use Rattle.engine_spec.specs.declared.commits.FetchFault.{FetchFault}
use Rattle.engine_spec.specs.declared.commits.FetchFault.TheVariants as fault
use Rattle.page_face.specs.declared.pages_tells.PagesTells.{Ghosts}
use Rattle.node_spec.specs.Kinds.{is_leaf}
use Rattle.node_spec.specs.Cells.{NodeCell}
use Rattle.node_spec.specs.Nodes.{Node, no_cell}
use Rattle.tree_spec.specs.Layout.{times, Each, Item}
use Rattle.tree_spec.specs.Shown.{Shown}
use Rattle.tree_spec.specs.Trees.{AreUnder, IsTree}
use Rattle.overflow.specs.Following.{shown_over}
use Rattle.edit_spec.specs.Places.{IsLower, AreAtMostFirst, first_child}
use Rattle.edit_spec.specs.Edits.{IsSubtree}
use Rattle.edit_spec.proofs.Lists.{cons_count}
use Rattle.edit_spec.proofs.Opening.{open_tree, child_tree, cells_lower}
use Rattle.edit_spec.proofs.Through.{open_run, run_less}
use Rattle.tree_read.specs.Ways.{ShowsNode, StandsAt, child_at}
use Rattle.tree_read.specs.Entries.{IsAmong}
use Rattle.tree_read.proofs.Levels.{one_node, not_both}
use Rattle.tree_keys.specs.Keys.{Sought, OfRow, OfEntry, is_row, HasKey}
use Rattle.tree_keys.specs.Spots.{IsPlace, NamesNext, IsOfPath, StaysOnPath}
use Rattle.tree_keys.specs.Standing.{ThereStands, HasNoRow, BarsEdit}
use Rattle.tree_keys.proofs.Spotted.{cut_at, take_more, drop_at, drop_past}

pub child_first : (cells : List NodeCell) (right place : ℕ) → child_at cells right place ≡ first_child (drop place cells) right
child_first [] right zero = refl
child_first [] right (suc place) = refl
child_first (cell ∷ cells) right zero = refl
child_first (cell ∷ cells) right (suc place) = child_first cells right place

pub rows_below : (usable last : ℕ) (shown : Shown) (height : ℕ) (cells : List NodeCell) (right : ℕ) (own : List ℕ) (items : List Item) (rowid : ℤ) (item : Item) (place : ℕ) → item.key ≡ rowid
    → AreUnder true usable last shown (IsSubtree true usable last shown height) cells right own items → StandsAt cells rowid place
    → Each (λ (other : NodeCell). IsLower true other.rowid item.key) (take place cells)
rows_below usable last shown height cells right own items rowid item zero key under stands = tt
rows_below usable last shown height cells right own items rowid item (suc k) key under stands =
    let inside : k < length cells = omega (arith, stands.most) in
    subst (λ (l : List NodeCell). Each (λ (other : NodeCell). IsLower true other.rowid item.key) l) (sym (take_more cells k inside))
    (cells_lower true usable last shown height (take k cells) (drop (suc k) cells) (slice_index_or cells k no_cell) right own items item
    (subst (λ (l : List NodeCell). AreUnder true usable last shown (IsSubtree true usable last shown height) l right own items) (cut_at cells k inside) under)
    (subst (λ (n : ℤ). IsLower true (slice_index_or cells k no_cell).rowid n) (sym key) (stands.above k refl)))

pub rows_up_to : (cells : List NodeCell) (rowid : ℤ) (item : Item) (place : ℕ) → item.key ≡ rowid → StandsAt cells rowid place → AreAtMostFirst true (drop place cells) (item ∷ [])
rows_up_to cells rowid item place key stands = elim (cases_lt place (length cells)) [
  | inl inside ↦
      subst (λ (l : List NodeCell). AreAtMostFirst true l (item ∷ [])) (sym (drop_at cells place inside))
      (subst (λ (n : ℤ). n ≤ℤ (slice_index_or cells place no_cell).rowid) (sym key) (stands.below inside), tt)
  | inr past ↦ subst (λ (l : List NodeCell). AreAtMostFirst true l (item ∷ [])) (sym (drop_past cells place past)) tt
]

-- a page's path is its child's with the page in front
pub wider : (sought : Sought) (usable last : ℕ) (shown : Shown) (page : ℕ) (path : List ℕ) (n : ℕ) → IsOfPath sought usable last shown path n → IsOfPath sought usable last shown (page ∷ path) n
wider (OfRow rowid) usable last shown page path n there = omega (arith, there, cons_count page path n)
wider (OfEntry entry) usable last shown page path n (inl there) = inl (omega (arith, there, cons_count page path n))
wider (OfEntry entry) usable last shown page path n (inr chain) = inr (record { owner = chain.owner; among = inr chain.among; node = chain.node; holds = chain.holds; of = chain.of })

pub names : (sought : Sought) (usable last : ℕ) (shown : Shown) (level page child : ℕ) (node : Node) (place : ℕ) → ShowsNode (is_row sought) shown level page node → is_leaf node.kind ≡ false
    → IsPlace sought usable last shown node place → child ≡ child_at node.cells node.right place → NamesNext sought usable last shown level page child
names (OfRow rowid) usable last shown level page child node place shows inner spot is = record { node = node; shows = shows; inner = inner; next = (place, spot.0, is) }
names (OfEntry entry) usable last shown level page child node place shows inner stands is =
    record { node = node; shows = shows; inner = inner; place = place; stands = stands; child_is = is }

pub path_up : (sought : Sought) (usable last : ℕ) (shown : Shown) (level page child : ℕ) (path read put : List ℕ) → NamesNext sought usable last shown level page child → 2 ≤ child → child ≤ last
    → StaysOnPath sought usable last shown (suc level) child path read put → StaysOnPath sought usable last shown level page (page ∷ path) read put
path_up sought usable last shown level page child path read put named least most on = record {
  is_path = record {
    way = page ∷ on.is_path.way;
    end = on.is_path.end;
    are = ap (λ (l : List ℕ). page ∷ l) on.is_path.are;
    leads = (refl, (child, (named, least, most), on.is_path.leads));
    node = on.is_path.node;
    holds = on.is_path.holds;
    leaf = on.is_path.leaf;
  };
  reads = λ n there. wider sought usable last shown page path n (on.reads n there);
  puts = λ n there. omega (arith, on.puts n there, cons_count page path n);
}

-- A child at a place among the cells of a page, where a tree stands at the page.
pub record ChildAt (table : Bool) (usable last : ℕ) (shown : Shown) (height child : ℕ) (own : List ℕ) (items : List Item) : Type 0 where
  pub below : ℕ
  pub height_is : height ≡ suc below
  pub mine_own : List ℕ
  pub mine : List Item
  pub sub : IsSubtree table usable last shown below child mine_own mine
  pub less : (n : ℕ) → times mine_own n ≤ times own n
  pub among : (item : Item) → IsAmong mine item → IsAmong items item

-- items in the middle are some of all
among_middle : (left mine behind items : List Item) (item : Item) → items ≡ left ++ (mine ++ behind) → IsAmong mine item → IsAmong items item
among_middle left mine behind items item are there = record {
  front = left ++ there.front;
  back = there.back ++ behind;
  items_are = are ∙ ap (λ (l : List Item). left ++ (l ++ behind)) there.items_are ∙ ap (λ (l : List Item). left ++ l) (append_assoc there.front (item ∷ there.back) behind)
      ∙ sym (append_assoc left there.front (item ∷ (there.back ++ behind)));
}

pub child_in : (table : Bool) (usable last : ℕ) (shown : Shown) (height page : ℕ) (node : Node) (place : ℕ) (own : List ℕ) (items : List Item) → shown.node page ≡ Some node → is_leaf node.kind ≡ false
    → IsTree table usable last shown height page own items → ChildAt table usable last shown height (first_child (drop place node.cells) node.right) own items
child_in table usable last shown zero page node place own items holds inner tree =
    absurd (not_both (is_leaf node.kind) (open_tree table usable last shown zero page node own items holds tree).content.leaf inner)
child_in table usable last shown (suc height) page node place own items holds inner tree =
    let opened = open_tree table usable last shown (suc height) page node own items holds tree in
    let part = open_run table usable last shown height page node own items (take place node.cells) [] (drop place node.cells) opened (sym (take-append-drop place node.cells)) in
    record {
      below = height;
      height_is = refl;
      mine_own = part.mine_own;
      mine = part.mine;
      sub = part.under;
      less = run_less table usable last shown height page (take place node.cells) [] (drop place node.cells) node.right own opened.below items opened.own_is part;
      among = λ item there. among_middle part.left part.mine part.behind items item part.items_are there;
    }

-- Where a tree stands at an interior page, one stands at the child at a place, whose items are some of its own.
pub record ChildStands {P : Type 0} (pages : Ghosts P) (old : P) (sought : Sought) (level page child : ℕ) (items : List Item) (new : P) (above : ThereStands pages old sought level page items new) : Type 0 where
  pub mine : List Item
  pub there : ThereStands pages old sought (suc level) child mine new
  pub world_is : there.world ≡ above.world
  pub low : 2 ≤ child
  pub among : (item : Item) → IsAmong mine item → IsAmong items item

some_cell : (child count : ℕ) → 2 ≤ child → (child ≡ 1) ⊎ (1 ≤ count) → 1 ≤ count
some_cell child count low (inl first) = absurd (omega (arith, first, low))
some_cell child count low (inr many) = many

pub there_child : {P : Type 0} (pages : Ghosts P) (old new : P) (sought : Sought) (level page place : ℕ) (node : Node) (items : List Item)
    → ((world : View) → pages.tells new world → (shown_over pages old world).node page ≡ Some node) → is_leaf node.kind ≡ false
    → (there : ThereStands pages old sought level page items new) → ChildStands pages old sought level page (first_child (drop place node.cells) node.right) items new there
there_child pages old new sought level page place node items holds inner there =
    let shown = shown_over pages old there.world in
    let child = first_child (drop place node.cells) node.right in
    let c = child_in (is_row sought) (pages.usable old) (pages.last_page old) shown there.height page node place there.own items (holds there.world there.told) inner there.stands.tree in
    let tree = child_tree (is_row sought) (pages.usable old) (pages.last_page old) shown c.below child c.mine_own c.mine c.sub in
    let same : tree.node ≡ c.sub.holds.node = one_node shown child tree.node c.sub.holds.node tree.holds c.sub.holds.holds in
    record {
      mine = c.mine;
      there = record {
        world = there.world;
        told = there.told;
        least = omega (arith, c.sub.least);
        most = c.sub.most;
        height = c.below;
        low = omega (arith, there.low, c.height_is);
        own = c.mine_own;
        stands = record {
          neat = there.stands.neat;
          tree = tree;
          used = λ n here. let used = there.stands.used n (omega (arith, here, c.less n)) in (omega (arith, c.less n, used.0), used.1);
        };
        some = inr (inr (subst (λ (n : Node). 1 ≤ length n.cells) (sym same) (some_cell child (length c.sub.holds.node.cells) c.sub.least c.sub.holds.enough)));
      };
      world_is = refl;
      low = c.sub.least;
      among = c.among;
    }

-- an item of some of the items that has the key, or is no row
pub key_among : (sought : Sought) (mine items : List Item) → ((item : Item) → IsAmong mine item → IsAmong items item) → HasKey sought mine → HasKey sought items
key_among (OfRow rowid) mine items among has = (has.0, (among has.0 has.1.0, has.1.1))
key_among (OfEntry entry) mine items among has = (has.0, (among has.0 has.1.0, has.1.1))

pub no_row_among : (sought : Sought) (usable last : ℕ) (shown : Shown) (mine items : List Item) → ((item : Item) → IsAmong mine item → IsAmong items item) → HasNoRow sought usable last shown mine
    → HasNoRow sought usable last shown items
no_row_among (OfRow rowid) usable last shown mine items among never = absurd never
no_row_among (OfEntry entry) usable last shown mine items among has = (has.0, (among has.0 has.1.0, has.1.1))

-- What was refused below a child was refused below its page.
pub bars_above : {P : Type 0} (pages : Ghosts P) (old new : P) (sought : Sought) (level page place : ℕ) (node : Node) (why : FetchFault)
    → ((world : View) → pages.tells new world → (shown_over pages old world).node page ≡ Some node) → is_leaf node.kind ≡ false
    → BarsEdit pages old sought (suc level) (first_child (drop place node.cells) node.right) new why → BarsEdit pages old sought level page new why
bars_above pages old new sought level page place node fault.Disk holds inner bars = bars
bars_above pages old new sought level page place node (fault.Corrupt named) holds inner bars = λ items there.
    let c = there_child pages old new sought level page place node items holds inner there in
    no_row_among sought (pages.usable old) (pages.last_page old) (shown_over pages old there.world) c.mine items c.among
    (subst (λ (w : View). HasNoRow sought (pages.usable old) (pages.last_page old) (shown_over pages old w) c.mine) c.world_is (bars c.mine c.there))
bars_above pages old new sought level page place node (fault.Size count) holds inner bars = (
  bars.0,
  λ items there spare.
      let c = there_child pages old new sought level page place node items holds inner there in
      bars.1 c.mine c.there (subst (λ (w : View). pages.spare new w) (sym c.world_is) spare),
)
bars_above pages old new sought level page place node fault.Memory holds inner bars = tt

-- a child out of range is none of a tree that stands
pub bars_child : {P : Type 0} (pages : Ghosts P) (old new : P) (sought : Sought) (level page place : ℕ) (node : Node) (named : ℕ)
    → ((world : View) → pages.tells new world → (shown_over pages old world).node page ≡ Some node) → is_leaf node.kind ≡ false
    → (first_child (drop place node.cells) node.right < 2) ⊎ (pages.last_page old < first_child (drop place node.cells) node.right)
    → BarsEdit pages old sought level page new (fault.Corrupt named)
bars_child pages old new sought level page place node named holds inner outside = λ items there.
    let c = there_child pages old new sought level page place node items holds inner there in
    elim outside [
      | inl less ↦ absurd (omega (arith, less, c.low))
      | inr more ↦ absurd (omega (arith, more, c.there.most))
    ]
