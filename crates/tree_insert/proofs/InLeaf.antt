-- A leaf that takes the cell of a key in its place.
use Rattle.std.proofs.Common.{◌≡◌, ℕ, ℤ, zero, suc, ◌-◌, ◌≤◌, ◌<◌, Bool, true, false, List, [], ◌∷◌, ◌++◌, length, take, drop, slice_index_or, refl, sym, subst, ap, ◌∙◌, arith, inl, inr, length-append}
use Rattle.std.proofs.lemmas.List.{take-append-drop}
use Rattle.std.proofs.lemmas.Bool.{cases_lt}
use Rattle.page_spec.specs.View.{View}
use Rattle.page_face.specs.declared.pages_tells.PagesTells.{Ghosts}
use Rattle.node_spec.specs.declared.kinds.Kind.{Kind}
use Rattle.node_spec.specs.declared.kinds.Kind.TheVariants.{IndexInner, TableInner, IndexLeaf, TableLeaf}
use Rattle.node_spec.specs.Kinds.{is_leaf, is_table}
use Rattle.node_spec.specs.Cells.{NodeCell, cell_in}
use Rattle.node_spec.specs.Nodes.{Node, no_cell}
use Rattle.tree_spec.specs.Layout.{times, Each, Item}
use Rattle.tree_spec.specs.Shown.{Shown}
use Rattle.tree_spec.specs.Chains.{IsChain}
use Rattle.tree_spec.specs.Trees.{IsItem, AreItems, IsTree}
use Rattle.tree_spec.proofs.Lists.{head_there}
use Rattle.sound_spec.proofs.Within.{of_each, tree_range}
use Rattle.overflow.specs.Following.{shown_over}
use Rattle.edit_spec.specs.Nodes.{ShowTogether, node_taking, node_of_cells}
use Rattle.edit_spec.specs.Places.{EndsIn, BeginsIn, IsLower, IsLowerThanFirst}
use Rattle.edit_spec.specs.Edits.{lefts, LeadInRange}
use Rattle.edit_spec.proofs.Lists.{cons_count, counts_same, one_of_two, the_page, apart_page}
use Rattle.edit_spec.proofs.Orders.{ends_somewhere, begins_somewhere}
use Rattle.edit_spec.proofs.Local.{item_moves, says_itself}
use Rattle.edit_spec.proofs.Leaves.{ItemsCut, leaf_takes}
use Rattle.edit_spec.proofs.Opening.{open_tree, rows_lower}
use Rattle.edit_spec.proofs.InOrder.{leaf_left_place, leaf_behind_place}
use Rattle.edit_spec.proofs.Through.{open_leaf}
use Rattle.node_edit.specs.Keys.{kind_above}
use Rattle.node_edit.specs.Payloads.{key_of, leaf_kind}
use Rattle.node_edit.specs.Runs.{spelled_by}
use Rattle.tree_read.specs.Ways.{StandsAt}
use Rattle.tree_read.specs.declared.entry.Spot.TheVariants.{Before}
use Rattle.tree_read.proofs.Levels.{not_both}
use Rattle.tree_edit.specs.Editing.{EditsPages, lists_joined, making, storing}
use Rattle.tree_edit.specs.Roots.{inner_kind}
use Rattle.tree_edit.specs.Settling.{SettlesNode, AreSiblings, cells_above}
use Rattle.tree_edit.proofs.Edits.{edits_join, alike, keeps_alike, still_used}
use Rattle.tree_keys.specs.Keys.{Sought, OfRow, OfEntry, is_row, rowid_of, gap_of, entry_gap}
use Rattle.tree_keys.specs.Spots.{IsRowSpot, IsPlace, HoldsPlace}
use Rattle.tree_keys.proofs.Spotted.{cut_at, take_more, drop_at, drop_past, entry_before, entry_behind}
use Rattle.tree_keys.specs.Standing.{Stands}
use Rattle.tree_insert.specs.Inserting.{PutsUnder, MakesCell, cells_up}
use Rattle.tree_insert.proofs.Since.{once_made, made_free}
use Rattle.tree_keys.proofs.Since.{of_path}

-- What stands beside a key's place in a leaf.
pub record BesideLeaf (sought : Sought) (before after : List NodeCell) (left behind : List Item) : Type 0 where
  pub ends : EndsIn (gap_of sought).Before left
  pub begins : BeginsIn (gap_of sought).Behind behind
  pub lower : Each (λ (other : NodeCell). IsLower (is_row sought) other.rowid (key_of (rowid_of sought))) before
  pub first : IsLowerThanFirst (is_row sought) (key_of (rowid_of sought)) after

abbrev some_item : ℤ → Item
some_item key = record { key = key; bytes = []; chain = [] }

row_lower : (usable last : ℕ) (shown : Shown) (cells : List NodeCell) (items : List Item) (rowid : ℤ) (place : ℕ) → AreItems true usable last shown cells items → StandsAt cells rowid place
    → Each (λ (other : NodeCell). IsLower true other.rowid rowid) (take place cells)
row_lower usable last shown cells items rowid zero are stands = tt
row_lower usable last shown cells items rowid (suc k) are stands =
    let inside : k < length cells = omega (arith, stands.most) in
    subst (λ (l : List NodeCell). Each (λ (other : NodeCell). IsLower true other.rowid rowid) l) (sym (take_more cells k inside))
    (rows_lower true usable last shown (take k cells) (drop (suc k) cells) (slice_index_or cells k no_cell) items (some_item rowid)
    (subst (λ (l : List NodeCell). AreItems true usable last shown l items) (cut_at cells k inside) are) (stands.above k refl))

row_first : (node : Node) (rowid : ℤ) (place : ℕ) → is_leaf node.kind ≡ true → IsRowSpot node rowid (Before place) → IsLowerThanFirst true rowid (drop place node.cells)
row_first node rowid place leaf spot = elim (cases_lt place (length node.cells)) [
  | inl inside ↦ subst (λ (l : List NodeCell). IsLowerThanFirst true rowid l) (sym (drop_at node.cells place inside)) (spot.1 leaf inside)
  | inr past ↦ subst (λ (l : List NodeCell). IsLowerThanFirst true rowid l) (sym (drop_past node.cells place past)) tt
]

no_lower : (key : ℤ) (cells : List NodeCell) → Each (λ (other : NodeCell). IsLower false other.rowid key) cells
no_lower key [] = tt
no_lower key (cell ∷ cells) = (tt, no_lower key cells)

no_first : (key : ℤ) (cells : List NodeCell) → IsLowerThanFirst false key cells
no_first key [] = tt
no_first key (cell ∷ cells) = tt

pub beside_leaf : (sought : Sought) (usable last : ℕ) (shown : Shown) (node : Node) (place : ℕ) (items : List Item) → is_leaf node.kind ≡ true
    → AreItems (is_row sought) usable last shown node.cells items → IsPlace sought usable last shown node place
    → (cut : ItemsCut (is_row sought) usable last shown (take place node.cells) (drop place node.cells) items)
    → BesideLeaf sought (take place node.cells) (drop place node.cells) cut.left cut.behind
beside_leaf (OfRow rowid) usable last shown node place items leaf are spot cut = record {
  ends = ends_somewhere cut.left;
  begins = begins_somewhere cut.behind;
  lower = row_lower usable last shown node.cells items rowid place are spot.0;
  first = row_first node rowid place leaf spot;
}
beside_leaf (OfEntry entry) usable last shown node place items leaf are stands cut = record {
  ends = leaf_left_place false usable last shown (entry_gap entry).Before (take place node.cells) cut.left cut.left_are (entry_before usable last shown node entry place stands);
  begins = leaf_behind_place false usable last shown (entry_gap entry).Behind (drop place node.cells) cut.behind cut.behind_are (entry_behind usable last shown node entry place stands);
  lower = no_lower (key_of (rowid_of (OfEntry entry))) (take place node.cells);
  first = no_first (key_of (rowid_of (OfEntry entry))) (drop place node.cells);
}

-- each page of a tree is one
pub tree_least : (table : Bool) (usable last : ℕ) (shown : Shown) (height root : ℕ) (own : List ℕ) (items : List Item) → 1 ≤ root → IsTree table usable last shown height root own items
    → (n : ℕ) → 1 ≤ times own n → 1 ≤ n
tree_least table usable last shown height root own items least tree n there =
    let range = tree_range table usable last shown height root own items tree in
    one_of_two (times (root ∷ []) n) (times range.0 n) (omega (arith, there, counts_same own (root ∷ range.0) n range.1, cons_count root range.0 n))
    (λ here. subst (λ (k : ℕ). 1 ≤ k) (the_page root n here) least)
    (λ here. omega (arith, (of_each (λ (p : ℕ). (2 ≤ p) × (p ≤ last)) range.0 n range.2 here).0))

-- and each page of a chain
pub chain_least : (usable last : ℕ) (shown : Shown) (first size : ℕ) (pages : List ℕ) → IsChain usable last shown first size pages → (n : ℕ) → 1 ≤ times pages n → 2 ≤ n
chain_least usable last shown first size [] chain n there = absurd (omega (arith, there))
chain_least usable last shown first size (page ∷ pages) chain n there =
    one_of_two (times (page ∷ []) n) (times pages n) (omega (arith, there, cons_count page pages n))
    (λ here. subst (λ (k : ℕ). 2 ≤ k) (the_page page n here) chain.2)
    (λ here. chain_least usable last shown (shown.link page).next (size - (usable - 4)) pages chain.4 n here)

-- the cells above are of the interior kind of the tree
pub above_is : (kind : Kind) → kind_above kind ≡ inner_kind (is_table kind)
above_is IndexInner = refl
above_is TableInner = refl
above_is IndexLeaf = refl
above_is TableLeaf = refl

pub leaf_is : (kind : Kind) (sought : Sought) → is_leaf kind ≡ true → is_table kind ≡ is_row sought → kind ≡ leaf_kind (rowid_of sought)
leaf_is IndexInner sought leaf table = cc
leaf_is TableInner sought leaf table = cc
leaf_is IndexLeaf (OfRow rowid) leaf table = cc
leaf_is IndexLeaf (OfEntry entry) leaf table = refl
leaf_is TableLeaf (OfRow rowid) leaf table = refl
leaf_is TableLeaf (OfEntry entry) leaf table = cc

pub up_is : (node : Node) (sought : Sought) (usable : ℕ) (texts : List (List ℕ)) → is_table node.kind ≡ is_row sought → cells_above usable node texts ≡ cells_up sought usable texts
up_is node sought usable texts table = ap (λ (k : Kind). spelled_by k usable texts) (above_is node.kind ∙ ap inner_kind table)

-- A leaf takes the cell, or is divided.
pub puts_leaf : {P : Type 0} (pages : Ghosts P) (old mid new : P) (world : View) (sought : Sought) (payload text : List ℕ) (level page height place : ℕ) (bytes : List ℕ) (node : Node)
    (siblings : List (List ℕ)) (own : List ℕ) (items : List Item) → 1 ≤ page → pages.usable mid ≡ pages.usable old → pages.usable new ≡ pages.usable mid → pages.last_page old ≤ pages.last_page mid
    → pages.last_page mid ≤ pages.last_page new → pages.tells old world → pages.tells mid world
    → HoldsPlace pages old sought page level bytes node place → is_leaf node.kind ≡ true → MakesCell pages old sought payload text mid
    → (pages.neat mid world → (pages.free mid world page → ⊥)
    → SettlesNode pages mid page (node_taking node place (spelled_by node.kind (pages.usable mid) (text ∷ []))) siblings new world)
    → AreSiblings (pages.usable mid) (pages.last_page new) node siblings
    → Stands pages old world (is_row sought) height page own items → PutsUnder pages old sought payload level page height own items siblings new world
puts_leaf pages old mid new world sought payload text level page (suc height) place bytes node siblings own items least usable usable_then more more_then told told_mid at leaf made settled are stands =
    let none = open_tree (is_row sought) (pages.usable old) (pages.last_page old) (shown_over pages old world) (suc height) page node own items (at.shown world told) stands.tree in
    absurd (not_both (is_leaf node.kind) leaf none.content.inner)
puts_leaf pages old mid new world sought payload text level page zero place bytes node siblings own items least usable usable_then more more_then told told_mid at leaf made settled are stands =
    let u = pages.usable old in
    let shown = shown_over pages old world in
    let then = shown_over pages new world in
    let table = is_row sought in
    let last = pages.last_page old in
    let kind_is : node.kind ≡ leaf_kind (rowid_of sought) = leaf_is node.kind sought leaf at.may.table_is in
    let cell : NodeCell = cell_in (leaf_kind (rowid_of sought)) u text in
    let item : Item = record { key = key_of (rowid_of sought); bytes = payload; chain = made.chain } in
    let opened = open_tree table u last shown zero page node own items (at.shown world told) stands.tree in
    let before = take place node.cells in
    let after = drop place node.cells in
    let cells_are : node.cells ≡ before ++ after = sym (take-append-drop place node.cells) in
    let cut = open_leaf table u last shown page node own items before after opened cells_are in
    let beside = beside_leaf sought u last shown node place items leaf opened.content.items_are (at.stands world told) cut in
    let first : EditsPages pages (making made.chain) old mid world = made.edits world told_mid stands.neat in
    let page_used : pages.free old world page → ⊥ = (stands.used page (head_there page opened.below own opened.own_is)).1 in
    let page_mid : pages.free mid world page → ⊥ = λ free. still_used pages (making made.chain) old mid world first page page_used refl free in
    let settles = settled first.neat page_mid in
    let whole : Node = node_taking node place (spelled_by node.kind (pages.usable mid) (text ∷ [])) in
    let news_are : cells_above (pages.usable mid) whole siblings ≡ cells_up sought u siblings =
    up_is whole sought (pages.usable mid) siblings at.may.table_is ∙ ap (λ (v : ℕ). cells_up sought v siblings) usable in
    let news_of : cells_above (pages.usable mid) node siblings ≡ cells_up sought u siblings =
    up_is node sought (pages.usable mid) siblings at.may.table_is ∙ ap (λ (v : ℕ). cells_up sought v siblings) usable in
    let news : List NodeCell = cells_up sought u siblings in
    let second : EditsPages pages (storing page (lefts news)) mid new world =
    subst (λ (l : List NodeCell). EditsPages pages (storing page (lefts l)) mid new world) news_are settles.edits in
    let both = edits_join pages (making made.chain) (storing page (lefts news)) old mid new world first second in
    let cell_is : cell_in node.kind (pages.usable mid) text ≡ cell =
    ap (λ (k : Kind). cell_in k (pages.usable mid) text) kind_is ∙ ap (λ (v : ℕ). cell_in (leaf_kind (rowid_of sought)) v text) usable in
    let holds_mid : IsItem u (pages.last_page mid) (shown_over pages mid world) cell item = made.holds world told_mid stands.neat in
    let holds : IsItem u (pages.last_page new) then cell item =
    item_moves u (pages.last_page mid) (pages.last_page new) (shown_over pages mid world) then cell cell item more_then
    (λ n there.
    alike pages (storing page (lefts news)) mid new world second usable_then n
    (let two = chain_least u (pages.last_page mid) (shown_over pages mid world) cell.overflow (cell.payload - length cell.local) made.chain holds_mid.chain n there in omega (arith, two))
    (made_free pages (making made.chain) old mid world first refl n there).1
    (apart_page page n (λ same. page_used (subst (λ (k : ℕ). pages.free old world k) (sym same) (made_free pages (making made.chain) old mid world first refl n there).0))) refl)
    (says_itself cell) holds_mid in
    let shows : ShowTogether then.node news page (node_of_cells node (before ++ (cell ∷ after))) =
    subst (λ (c : NodeCell). ShowTogether then.node news page (node_of_cells node (before ++ (c ∷ after)))) cell_is
    (subst (λ (l : List NodeCell). ShowTogether then.node l page whole) news_are settles.shows) in
    record {
      item = item;
      is_put = record { key = refl; bytes = refl };
      whole = node_of_cells node (before ++ (cell ∷ after));
      path = page ∷ [];
      read = page ∷ [];
      put = page ∷ [];
      made = made.chain ++ lefts news;
      edited = leaf_takes table u last (pages.last_page new) shown then page node before after news cell (gap_of sought) item own opened.below items (omega (arith, more, more_then)) opened.own_is
          opened.content cut beside.ends beside.begins beside.lower beside.first holds
          (once_made pages (lists_joined (making made.chain) (storing page (lefts news))) old new world own both refl stands.used)
          (keeps_alike pages (lists_joined (making made.chain) (storing page (lefts news))) old new world own both (usable_then ∙ usable)
          (λ n there. (tree_least table u last shown zero page own items least stands.tree n there, (stands.used n there).1, refl)))
          shows (subst (λ (l : List NodeCell). LeadInRange (pages.last_page new) l) news_of are.range);
      some = inr (omega (arith, length-append before (cell ∷ after)));
      on_path = record {
        is_path = record { way = []; end = page; are = refl; leads = refl; node = node; holds = at.shown world told; leaf = leaf };
        reads = λ n there. of_path sought u last shown (page ∷ []) n there;
        puts = λ n there. there;
      };
      edits = both;
    }
