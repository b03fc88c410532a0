-- Page 1 as a leaf of a table that takes a row: it has room for it, or all its cells go to a page of their own, to which it leads then.
use Rattle.std.proofs.Common.{◌≡◌, ℕ, ℤ, zero, suc, ◌+◌, ◌-◌, ◌≤◌, Bool, true, false, cond, List, [], ◌∷◌, ◌++◌, length, take, drop, Option, Some, refl, sym, subst, ap, ◌∙◌, arith, inl, inr, length-append}
use Rattle.std.proofs.lemmas.List.{take-append-drop}
use Rattle.std.proofs.lemmas.Bool.{ne_eqb}
use Rattle.std.specs.Prelude.{◌⊎◌, ◌==◌, ◌&&◌, All, Result, Ok, Err, OnOk}
use Rattle.page_spec.specs.View.{View}
use Rattle.page_face.specs.declared.pages_tells.PagesTells.{Ghosts}
use Rattle.node_spec.specs.declared.kinds.Kind.{Kind}
use Rattle.node_spec.specs.declared.kinds.Kind.TheVariants.{TableInner, TableLeaf}
use Rattle.node_spec.specs.Kinds.{is_leaf, is_table}
use Rattle.node_spec.specs.Cells.{NodeCell, IsOneCell, cell_in}
use Rattle.node_spec.specs.Nodes.{Node, node_of}
use Rattle.tree_spec.specs.Layout.{times, Item}
use Rattle.tree_spec.specs.Shown.{Shown, IsAlike}
use Rattle.tree_spec.specs.Trees.{IsItem, Content}
use Rattle.tree_spec.proofs.Lists.{times-append, head_there}
use Rattle.sound_spec.proofs.Within.{of_each, content_range}
use Rattle.overflow.specs.Following.{shown_over}
use Rattle.edit_spec.specs.Nodes.{ByLeafOfTable, ShowTogether, node_taking, node_of_cells}
use Rattle.edit_spec.specs.Places.{Gap}
use Rattle.edit_spec.specs.Edits.{lefts, LeadInRange, IsEdited, IsEditedTree, KeepAlike}
use Rattle.edit_spec.proofs.Lists.{cons_count, one_of_two, the_page, apart_page}
use Rattle.edit_spec.proofs.Local.{content_moves, item_moves, says_itself}
use Rattle.edit_spec.proofs.Leaves.{leaf_takes}
use Rattle.edit_spec.proofs.Opening.{open_tree}
use Rattle.edit_spec.proofs.Through.{open_leaf}
use Rattle.edit_spec.proofs.Grown.{Grown, content_grown}
use Rattle.node_edit.specs.Keys.{kind_above}
use Rattle.node_edit.specs.Payloads.{key_of, leaf_kind}
use Rattle.node_edit.specs.Runs.{spelled_by}
use Rattle.tree_read.proofs.Levels.{not_both}
use Rattle.tree_edit.specs.Editing.{EditsPages, lists_joined, making, storing}
use Rattle.tree_edit.specs.Roots.{inner_kind}
use Rattle.tree_edit.specs.Settling.{SettlesNode, cells_above, MayTake, AreSiblings}
use Rattle.tree_edit.proofs.Edits.{edits_join, edits_told, alike, keeps_alike, still_used}
use Rattle.tree_edit.proofs.Settled.{made_was, one_of, siblings_none}
use Rattle.tree_keys.specs.Keys.{Sought, OfRow, OfEntry, is_row, rowid_of, gap_of}
use Rattle.tree_keys.specs.Spots.{HoldsPlace}
use Rattle.tree_keys.specs.Standing.{Stands}
use Rattle.tree_keys.proofs.Since.{of_path}
use Rattle.tree_insert.specs.Inserting.{inserting, PutsTree, MovesFirst, TakesFirst, MakesCell}
use Rattle.tree_insert.proofs.Since.{once_made, made_free}
use Rattle.tree_insert.proofs.InLeaf.{beside_leaf, leaf_is, tree_least, chain_least, puts_leaf}
use Rattle.tree_insert.proofs.Rooted.{puts_whole}

-- pages that cells lead to are from 2 on
lefts_low : (last : ℕ) (cells : List NodeCell) → LeadInRange last cells → (n : ℕ) → 1 ≤ times (lefts cells) n → 2 ≤ n
lefts_low last [] range n there = absurd (omega (arith, there))
lefts_low last (cell ∷ cells) range n there =
    one_of_two (times (cell.left ∷ []) n) (times (lefts cells) n) (omega (arith, there, cons_count cell.left (lefts cells) n))
    (λ here. subst (λ (k : ℕ). 2 ≤ k) (the_page cell.left n here) range.0.0) (λ here. lefts_low last cells range.1 n here)

-- siblings that show the same elsewhere, with the page's node at another page
shows_elsewhere : (node_at other_at : ℕ → Option Node) (news : List NodeCell) (page other : ℕ) (whole : Node) → ((n : ℕ) → 1 ≤ times (lefts news) n → other_at n ≡ node_at n)
    → other_at other ≡ node_at page → ShowTogether node_at news page whole → ShowTogether other_at news other whole
shows_elsewhere node_at other_at [] page other whole same copied shows = copied ∙ shows
shows_elsewhere node_at other_at (cell ∷ news) page other whole same copied shows = record {
  left = shows.left;
  rest = shows.rest;
  holds = same cell.left (omega (arith, one_of cell.left, cons_count cell.left (lefts news) cell.left)) ∙ shows.holds;
  divides = shows.divides;
  others = shows_elsewhere node_at other_at news page other shows.rest (λ n there. same n (omega (arith, there, cons_count cell.left (lefts news) n))) copied shows.others;
}

-- A page was made, its node was settled, and page 1 leads to it and its siblings.
pub moves_first : {P : Type 0} (pages : Ghosts P) (old a b new : P) (world : View) (child : ℕ) (whole : Node) (texts : List (List ℕ)) (news : List NodeCell)
    → cells_above (pages.usable a) whole texts ≡ news → pages.usable new ≡ pages.usable b → 2 ≤ child → child ≤ pages.last_page new → LeadInRange (pages.last_page new) news
    → (pages.free old world 1 → ⊥) → EditsPages pages (making (child ∷ [])) old a world
    → (pages.neat a world → (pages.free a world child → ⊥) → SettlesNode pages a child whole texts b world)
    → (pages.neat b world → (pages.free b world 1 → ⊥) → EditsPages pages (storing 1 []) b new world)
    → (shown_over pages new world).node 1 ≡ Some (record { kind = inner_kind true; cells = news; right = child }) → MovesFirst pages old whole new world
moves_first pages old a b new world child whole texts news is usable least most ranged used one settle store leads =
    let was = made_was (times (child ∷ []) child) 0 (one_of child) refl (one.free child) in
    let settles = settle one.neat was.1 in
    let two : EditsPages pages (storing child (lefts news)) a b world = subst (λ (l : List NodeCell). EditsPages pages (storing child (lefts l)) a b world) is settles.edits in
    let shows : ShowTogether (shown_over pages b world).node news child whole = subst (λ (l : List NodeCell). ShowTogether (shown_over pages b world).node l child whole) is settles.shows in
    let used_a = still_used pages (making (child ∷ [])) old a world one 1 used refl in
    let used_b = still_used pages (storing child (lefts news)) a b world two 1 used_a refl in
    let three = store two.neat used_b in
    let same : (n : ℕ) → 2 ≤ n → (pages.free b world n → ⊥) → IsAlike (shown_over pages b world) (shown_over pages new world) n = λ n low in_use.
    alike pages (storing 1 []) b new world three usable n (omega (arith, low)) in_use (apart_page 1 n (λ first. omega (arith, first, low))) refl in
    record {
      child = child;
      news = news;
      range = ranged;
      least = least;
      most = most;
      shows = shows_elsewhere (shown_over pages b world).node (shown_over pages new world).node news child child whole
          (λ n there. (same n (lefts_low (pages.last_page new) news ranged n there) (made_free pages (storing child (lefts news)) a b world two refl n there).1).node)
          (same child least (still_used pages (storing child (lefts news)) a b world two child was.1 refl)).node shows;
      leads = leads;
      edits = edits_told pages (lists_joined (making (child ∷ [])) (lists_joined (storing child (lefts news)) (storing 1 []))) (storing 1 (child ∷ lefts news)) old new world
          (λ n. omega (arith, times-append (lefts news) [] n)) (λ n. refl) (λ uses. omega arith) (λ n there. told was.0 n there) (λ n there. told was.0 n there)
          (edits_join pages (making (child ∷ [])) (lists_joined (storing child (lefts news)) (storing 1 [])) old a new world one
          (edits_join pages (storing child (lefts news)) (storing 1 []) a b new world two three));
    }
  where
    told : pages.free old world child → (n : ℕ) → 1 ≤ times (child ∷ (1 ∷ [])) n → (1 ≤ times (1 ∷ []) n) ⊎ ((1 ≤ length (child ∷ lefts news) + 0) × pages.free old world n)
    told free n there =
        one_of_two (times (child ∷ []) n) (times (1 ∷ []) n) (omega (arith, there, cons_count child (1 ∷ []) n))
        (λ here. inr (omega arith, subst (λ (k : ℕ). pages.free old world k) (the_page child n here) free)) (λ here. inl here)

-- a row goes into a leaf of a table
pub row_kind : (sought : Sought) → is_row sought ≡ true → leaf_kind (rowid_of sought) ≡ TableLeaf
row_kind (OfRow rowid) row = refl
row_kind (OfEntry entry) never = cc

-- the bytes that a node was copied to
pub copy_shows : (u old a child : ℕ) (to from : List ℕ) (node : Node) → u ≡ old → a ≡ old → 2 ≤ child → ((n : Node) → node_of u true from ≡ Some n → node_of u false to ≡ Some n)
    → node_of old true from ≡ Some node → node_of a (child == 1) to ≡ Some node
copy_shows u old a child to from node u_is a_is low copied shown =
    subst (λ (v : ℕ). node_of v (child == 1) to ≡ Some node) (u_is ∙ sym a_is)
    (subst (λ (b : Bool). node_of u b to ≡ Some node) (sym (ne_eqb child 1 (λ is. omega (arith, is, low))))
    (copied node (subst (λ (v : ℕ). node_of v true from ≡ Some node) (sym u_is) shown)))

-- a leaf of a table takes a cell
pub takes_row : (usable : ℕ) (child : ℕ) (node : Node) (place : ℕ) (texts : List (List ℕ)) → 2 ≤ child → node.kind ≡ TableLeaf → place ≤ length node.cells → length texts ≡ 1
    → All (IsOneCell node.kind usable) texts → MayTake usable (child == 1) node place texts
takes_row usable child node place texts low kind within one cells = record {
  place = within;
  cells = cells;
  few = subst (λ (k : Kind). ByLeafOfTable (is_leaf k && is_table k) (((child == 1) ≡ false) × (length texts ≡ 1)) (length texts ≤ 2)) (sym kind)
      (ne_eqb child 1 (λ is. omega (arith, is, low)), one);
}

-- the siblings of a leaf of a table, as texts of page 1
pub above_first : (u a last : ℕ) (node : Node) (items texts : List (List ℕ)) → a ≡ u → node.kind ≡ TableLeaf → texts ≡ items → AreSiblings a last node items
    → All (IsOneCell TableInner u) texts × (length texts ≤ 2)
above_first u a last node items texts a_is kind is are =
    subst (λ (l : List (List ℕ)). All (IsOneCell TableInner u) l × (length l ≤ 2)) (sym is) (
      subst (λ (v : ℕ). All (IsOneCell TableInner v) items) a_is (subst (λ (k : Kind). All (IsOneCell (kind_above k) a) items) kind are.cells),
      subst (λ (k : Kind). ByLeafOfTable (is_leaf k && is_table k) (length items ≤ 2) (length items ≤ 1)) kind are.few,
    )

-- Page 1 was begun anew, over the siblings that were answered.
pub first_led : {P : Type 0} (pages : Ghosts P) (old a b new : P) (world : View) (child place u : ℕ) (node : Node) (news items texts : List (List ℕ)) (bytes : List ℕ) → node.kind ≡ TableLeaf
    → u ≡ pages.usable old → pages.usable a ≡ pages.usable old → pages.usable b ≡ pages.usable a → pages.usable new ≡ pages.usable b → texts ≡ items → 2 ≤ child → child ≤ pages.last_page a
    → pages.last_page a ≤ pages.last_page b → pages.last_page new ≡ pages.last_page b → AreSiblings (pages.usable a) (pages.last_page b) node items
    → (pages.free old world 1 → ⊥) → EditsPages pages (making (child ∷ [])) old a world
    → (pages.neat a world → (pages.free a world child → ⊥) → SettlesNode pages a child (node_taking node place (spelled_by node.kind (pages.usable a) news)) items b world)
    → (pages.neat b world → (pages.free b world 1 → ⊥) → EditsPages pages (storing 1 []) b new world)
    → ((n : Node) → node_of (pages.usable b) true bytes ≡ Some n → (shown_over pages new world).node 1 ≡ Some n)
    → node_of u true bytes ≡ Some (record { kind = TableInner; cells = spelled_by TableInner u texts; right = child })
    → MovesFirst pages old (node_taking node place (spelled_by TableLeaf (pages.usable old) news)) new world
first_led pages old a b new world child place u node news items texts bytes kind u_is a_is b_is new_is texts_are low most more last are used one settle store shows begun =
    let whole : Node = node_taking node place (spelled_by node.kind (pages.usable a) news) in
    let cells = spelled_by TableInner u texts in
    let above : cells_above (pages.usable a) whole items ≡ cells =
    ap (λ (k : Kind). spelled_by (kind_above k) (pages.usable a) items) kind
    ∙ (ap (λ (v : ℕ). spelled_by TableInner v items) (a_is ∙ sym u_is) ∙ ap (λ (l : List (List ℕ)). spelled_by TableInner u l) (sym texts_are)) in
    let spelled : spelled_by node.kind (pages.usable a) news ≡ spelled_by TableLeaf (pages.usable old) news =
    ap (λ (k : Kind). spelled_by k (pages.usable a) news) kind ∙ ap (λ (v : ℕ). spelled_by TableLeaf v news) a_is in
    let range : LeadInRange (pages.last_page new) cells =
    subst (λ (l : ℕ). LeadInRange l cells) (sym last) (subst (λ (l : List NodeCell). LeadInRange (pages.last_page b) l) above are.range) in
    subst (λ (l : List NodeCell). MovesFirst pages old (node_taking node place l) new world) spelled
    (moves_first pages old a b new world child whole items cells above new_is low (omega (arith, most, more, last)) range used one settle store
    (shows (record { kind = TableInner; cells = cells; right = child })
    (subst (λ (v : ℕ). node_of v true bytes ≡ Some (record { kind = TableInner; cells = cells; right = child })) (u_is ∙ sym (b_is ∙ a_is)) begun)))

-- Page 1 had room.
pub first_took : {P : Type 0} (pages : Ghosts P) (old new : P) (world : View) (place u : ℕ) (node : Node) (news : List (List ℕ)) (bytes : List ℕ) → node.kind ≡ TableLeaf → u ≡ pages.usable old
    → node_of u true bytes ≡ Some (node_taking node place (spelled_by node.kind u news)) → EditsPages pages (storing 1 []) old new world
    → ((n : Node) → node_of (pages.usable old) true bytes ≡ Some n → (shown_over pages new world).node 1 ≡ Some n)
    → TakesFirst pages old (node_taking node place (spelled_by TableLeaf (pages.usable old) news)) new world
first_took pages old new world place u node news bytes kind u_is put edits shows =
    let spelled : spelled_by node.kind u news ≡ spelled_by TableLeaf (pages.usable old) news =
    ap (λ (k : Kind). spelled_by k u news) kind ∙ ap (λ (v : ℕ). spelled_by TableLeaf v news) u_is in
    let whole = node_taking node place (spelled_by TableLeaf (pages.usable old) news) in
    inl (
      shows whole
          (subst (λ (v : ℕ). node_of v true bytes ≡ Some whole) u_is
          (subst (λ (l : List NodeCell). node_of u true bytes ≡ Some (node_taking node place l)) spelled put)),
      edits,
    )

-- what a call did, said otherwise
pub on_ok : {E : Type 0} (One Two Says : Type 0) (answer : Result (Unit {0}) E) → (One → Two → Says) → OnOk answer One → OnOk answer Two → OnOk answer Says
on_ok One Two Says (Ok done) on one two = on one two
on_ok One Two Says (Err why) on one two = tt

-- What pages show, but for page 1, which shows what its child does.
abbrev as_child : Shown → (child : ℕ) → Shown
as_child shown child = record { node = λ n. cond (n == 1) (shown.node child) (shown.node n); link = shown.link }

beyond : (shown : Shown) (child n : ℕ) → (n ≡ 1 → ⊥) → (as_child shown child).node n ≡ shown.node n
beyond shown child n apart = rw (ne_eqb n 1 apart) refl

alike_beyond : (shown then : Shown) (child n : ℕ) → (n ≡ 1 → ⊥) → IsAlike shown then n → IsAlike shown (as_child then child) n
alike_beyond shown then child n apart same = record { node = beyond then child n apart ∙ same.node; link = same.link }

counts_first : (own chain sides root below child grown all made : ℕ) → own + (chain + sides) ≡ sides + (root + below) → grown ≡ sides + (child + below) → all ≡ root + grown
    → made ≡ (chain + sides) + child → own + made ≡ all + 0
counts_first own chain sides root below child grown all made a b c d = omega (arith, a, b, c, d)

-- the tree over page 1 and the pages to which its cells went
first_tree : (u last : ℕ) (then between : Shown) (child : ℕ) (whole : Node) (news : List NodeCell) (gap : Gap) (item : Item) (chain own : List ℕ) (items : List Item)
    → (done : IsEdited true u last between zero 1 whole news gap [] (item ∷ []) (record { fresh = chain ++ lefts news; lost = []; put = 1 ∷ [] }) own items)
    → (grown : Grown true u last then zero news child done.below done.items_then) → then.node 1 ≡ Some (record { kind = inner_kind true; cells = news; right = child }) → 1 ≤ times own 1
    → IsEditedTree true u last then 1 1 gap [] (item ∷ []) (record { fresh = (chain ++ lefts news) ++ (child ∷ []); lost = []; put = 1 ∷ [] }) own items
first_tree u last then between child whole news gap item chain own items done grown leads mine = record {
  own_then = 1 ∷ grown.own;
  items_then = done.items_then;
  tree = record {
    node = record { kind = inner_kind true; cells = news; right = child };
    holds = leads;
    enough = inl refl;
    below = grown.own;
    content = record { inner = refl; table_is = refl; under = grown.grown };
    own_is = refl;
  };
  exchanged = done.exchanged;
  moved = record {
    counts = λ n. counts_first (times own n) (times chain n) (times (lefts news) n) (times (1 ∷ []) n) (times done.below n) (times (child ∷ []) n) (times grown.own n)
        (times (1 ∷ grown.own) n) (times ((chain ++ lefts news) ++ (child ∷ [])) n)
        (omega (arith, done.moved.counts n, times-append chain (lefts news) n, times-append (lefts news) (1 ∷ done.below) n, cons_count 1 done.below n))
        (omega (arith, grown.counts n, times-append (lefts news) (child ∷ done.below) n, cons_count child done.below n)) (cons_count 1 grown.own n)
        (omega (arith, times-append (chain ++ lefts news) (child ∷ []) n, times-append chain (lefts news) n));
    within = λ n there. subst (λ (k : ℕ). 1 ≤ times own k) (the_page 1 n there) mine;
    held = λ n there. absurd (omega (arith, there));
    apart = λ n there. absurd (omega (arith, there));
  };
}

-- The cell was put into a leaf of its own, with siblings maybe, to which page 1 leads.
first_moved : {P : Type 0} (pages : Ghosts P) (old mid new : P) (world : View) (rowid : ℤ) (payload text : List ℕ) (place : ℕ) (bytes : List ℕ) (node : Node) (own : List ℕ) (items : List Item)
    → pages.usable mid ≡ pages.usable old → pages.usable new ≡ pages.usable mid → pages.last_page old ≤ pages.last_page mid → pages.last_page mid ≤ pages.last_page new
    → pages.tells old world → pages.tells mid world → HoldsPlace pages old (OfRow rowid) 1 0 bytes node place → is_leaf node.kind ≡ true
    → (made : MakesCell pages old (OfRow rowid) payload text mid)
    → MovesFirst pages mid (node_taking node place (spelled_by node.kind (pages.usable mid) (text ∷ []))) new world
    → Stands pages old world true zero 1 own items → PutsTree pages old (OfRow rowid) payload 1 own items new world
first_moved pages old mid new world rowid payload text place bytes node own items usable usable_then more more_then told told_mid at leaf made moves stands =
    let u = pages.usable old in
    let sought = OfRow rowid in
    let last = pages.last_page old in
    let last_then = pages.last_page new in
    let shown = shown_over pages old world in
    let then = shown_over pages new world in
    let between = as_child then moves.child in
    let child = moves.child in
    let news = moves.news in
    let kind_is : node.kind ≡ leaf_kind (rowid_of sought) = leaf_is node.kind sought leaf at.may.table_is in
    let cell : NodeCell = cell_in (leaf_kind (rowid_of sought)) u text in
    let item : Item = record { key = key_of (rowid_of sought); bytes = payload; chain = made.chain } in
    let opened = open_tree true u last shown zero 1 node own items (at.shown world told) stands.tree in
    let before = take place node.cells in
    let after = drop place node.cells in
    let whole : Node = node_of_cells node (before ++ (cell ∷ after)) in
    let cells_are : node.cells ≡ before ++ after = sym (take-append-drop place node.cells) in
    let cut = open_leaf true u last shown 1 node own items before after opened cells_are in
    let beside = beside_leaf sought u last shown node place items leaf opened.content.items_are (at.stands world told) cut in
    let one : EditsPages pages (making made.chain) old mid world = made.edits world told_mid stands.neat in
    let two : EditsPages pages (storing 1 (child ∷ lefts news)) mid new world = moves.edits in
    let both = edits_join pages (making made.chain) (storing 1 (child ∷ lefts news)) old mid new world one two in
    let once = once_made pages (lists_joined (making made.chain) (storing 1 (child ∷ lefts news))) old new world own both refl stands.used in
    let cell_is : cell_in node.kind (pages.usable mid) text ≡ cell =
    ap (λ (k : Kind). cell_in k (pages.usable mid) text) kind_is ∙ ap (λ (v : ℕ). cell_in (leaf_kind (rowid_of sought)) v text) usable in
    let shows : ShowTogether then.node news child whole =
    subst (λ (c : NodeCell). ShowTogether then.node news child (node_of_cells node (before ++ (c ∷ after)))) cell_is moves.shows in
    let holds_mid : IsItem u (pages.last_page mid) (shown_over pages mid world) cell item = made.holds world told_mid stands.neat in
    let chain_low : (n : ℕ) → 1 ≤ times made.chain n → 2 ≤ n =
    chain_least u (pages.last_page mid) (shown_over pages mid world) cell.overflow (cell.payload - length cell.local) made.chain holds_mid.chain in
    let mine : 1 ≤ times own 1 = head_there 1 opened.below own opened.own_is in
    let holds : IsItem u last_then between cell item =
    item_moves u (pages.last_page mid) last_then (shown_over pages mid world) between cell cell item more_then
    (λ n there.
    let low = chain_low n there in
    alike_beyond (shown_over pages mid world) then child n (λ first. omega (arith, first, low))
    (alike pages (storing 1 (child ∷ lefts news)) mid new world two usable_then n (omega (arith, low)) (made_free pages (making made.chain) old mid world one refl n there).1
    (apart_page 1 n (λ first. omega (arith, first, low))) refl))
    (says_itself cell) holds_mid in
    let kept : KeepAlike shown then own (1 ∷ []) =
    keeps_alike pages (lists_joined (making made.chain) (storing 1 (child ∷ lefts news))) old new world own both (usable_then ∙ usable)
    (λ n there. (tree_least true u last shown zero 1 own items (omega arith) stands.tree n there, (stands.used n there).1, refl)) in
    let kept_between : KeepAlike shown between own (1 ∷ []) = λ n there put.
    alike_beyond shown then child n (λ first. omega (arith, put, subst (λ (k : ℕ). times (1 ∷ []) k ≡ 1) (sym first) (one_of 1))) (kept n there put) in
    let done : IsEdited true u last_then between zero 1 whole news (gap_of sought) [] (item ∷ []) (record { fresh = made.chain ++ lefts news; lost = []; put = 1 ∷ [] }) own items =
    leaf_takes true u last last_then shown between 1 node before after news cell (gap_of sought) item own opened.below items (omega (arith, more, more_then)) opened.own_is opened.content cut
    beside.ends beside.begins beside.lower beside.first holds
    (λ n. omega (arith, once n, times-append made.chain (child ∷ lefts news) n, times-append made.chain (lefts news) n, cons_count child (lefts news) n)) kept_between
    (shows_elsewhere then.node between.node news child 1 whole
    (λ n there. let low = lefts_low last_then news moves.range n there in beyond then child n (λ first. omega (arith, first, low))) refl shows) moves.range in
    let low_below : (n : ℕ) → 1 ≤ times done.below n → 2 ≤ n = λ n there.
    (of_each (λ (p : ℕ). (2 ≤ p) × (p ≤ last_then)) done.below n (content_range true u last_then between zero whole done.below done.items_then done.content) there).0 in
    let content : Content true u last_then then zero whole done.below done.items_then =
    content_moves true u last_then last_then between then zero whole done.below done.items_then (omega arith)
    (λ n there. let low = low_below n there in record { node = sym (beyond then child n (λ first. omega (arith, first, low))); link = λ later. refl }) done.content in
    let grown : Grown true u last_then then zero news child done.below done.items_then =
    content_grown true u last_then then zero news child whole done.below done.items_then moves.least moves.most moves.range
    (omega (arith, length-append before (cell ∷ after))) shows content in
    record {
      item = item;
      is_put = record { key = refl; bytes = refl };
      height = 1;
      path = 1 ∷ [];
      read = 1 ∷ [];
      put = 1 ∷ [];
      made = (made.chain ++ lefts news) ++ (child ∷ []);
      edited = first_tree u last_then then between child whole news (gap_of sought) item made.chain own items done grown moves.leads mine;
      on_path = record {
        is_path = record { way = []; end = 1; are = refl; leads = refl; node = node; holds = at.shown world told; leaf = leaf };
        reads = λ n there. of_path sought u last shown (1 ∷ []) n there;
        puts = λ n there. there;
      };
      edits = edits_told pages (lists_joined (making made.chain) (storing 1 (child ∷ lefts news))) (inserting (1 ∷ []) (1 ∷ []) ((made.chain ++ lefts news) ++ (child ∷ []))) old new world
          (λ n. omega (arith, times-append made.chain (child ∷ lefts news) n, cons_count child (lefts news) n, times-append (made.chain ++ lefts news) (child ∷ []) n, times-append made.chain (lefts news) n))
          (λ n. refl) (λ uses. omega (arith, length-append (made.chain ++ lefts news) (child ∷ []))) (λ n there. inl there) (λ n there. inl there) both;
    }

-- Page 1 took the row.
pub puts_first : {P : Type 0} (pages : Ghosts P) (old mid new : P) (world : View) (sought : Sought) (payload text : List ℕ) (place : ℕ) (bytes : List ℕ) (node : Node) (height : ℕ) (own : List ℕ)
    (items : List Item) → pages.usable mid ≡ pages.usable old → pages.usable new ≡ pages.usable mid → pages.last_page old ≤ pages.last_page mid → pages.last_page mid ≤ pages.last_page new
    → pages.tells old world → pages.tells mid world → HoldsPlace pages old sought 1 0 bytes node place → is_leaf node.kind ≡ true → is_row sought ≡ true
    → (made : MakesCell pages old sought payload text mid)
    → (pages.neat mid world → (pages.free mid world 1 → ⊥) → TakesFirst pages mid (node_taking node place (spelled_by node.kind (pages.usable mid) (text ∷ []))) new world)
    → Stands pages old world (is_row sought) height 1 own items → PutsTree pages old sought payload 1 own items new world
puts_first pages old mid new world (OfEntry entry) payload text place bytes node height own items usable usable_then more more_then told told_mid at leaf never made takes stands = cc
puts_first pages old mid new world (OfRow rowid) payload text place bytes node (suc height) own items usable usable_then more more_then told told_mid at leaf row made takes stands =
    absurd (not_both (is_leaf node.kind) leaf (open_tree true (pages.usable old) (pages.last_page old) (shown_over pages old world) (suc height) 1 node own items (at.shown world told) stands.tree).content.inner)
puts_first pages old mid new world (OfRow rowid) payload text place bytes node zero own items usable usable_then more more_then told told_mid at leaf row made takes stands =
    let one : EditsPages pages (making made.chain) old mid world = made.edits world told_mid stands.neat in
    let mine : 1 ≤ times own 1 = head_there 1 stands.tree.below own stands.tree.own_is in
    elim (takes one.neat (still_used pages (making made.chain) old mid world one 1 (stands.used 1 mine).1 refl)) [
      | inl took ↦
          puts_whole pages old new world (OfRow rowid) payload 1 zero own items
          (puts_leaf pages old mid new world (OfRow rowid) payload text 0 1 zero place bytes node [] own items (omega arith) usable usable_then more more_then told told_mid at leaf made
          (λ neat used. record { shows = took.0; edits = took.1 }) (siblings_none (pages.usable mid) (pages.last_page new) node) stands)
      | inr moves ↦
          first_moved pages old mid new world rowid payload text place bytes node own items usable usable_then more more_then told told_mid at leaf made moves stands
    ]
