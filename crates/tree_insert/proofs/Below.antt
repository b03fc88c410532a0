-- A page above a child under which a key was put in: it stays as it is, or takes the child's new siblings.
use Rattle.std.proofs.Common.{◌≡◌, ℕ, zero, suc, ◌+◌, ◌≤◌, Bool, true, false, List, [], ◌∷◌, ◌++◌, length, take, drop, refl, sym, subst, ap, ◌∙◌, arith, inl, inr, length-append}
use Rattle.std.proofs.lemmas.List.{take-append-drop}
use Rattle.std.specs.Prelude.{◌⊎◌}
use Rattle.page_spec.specs.View.{View}
use Rattle.page_face.specs.declared.pages_tells.PagesTells.{Ghosts}
use Rattle.node_spec.specs.declared.kinds.Kind.{Kind}
use Rattle.node_spec.specs.declared.kinds.Kind.TheVariants.{IndexInner, TableInner, IndexLeaf, TableLeaf}
use Rattle.node_spec.specs.Kinds.{is_leaf, is_table}
use Rattle.node_spec.specs.Cells.{NodeCell}
use Rattle.node_spec.specs.Nodes.{Node}
use Rattle.tree_spec.specs.Layout.{times, Item}
use Rattle.tree_spec.specs.Shown.{Shown}
use Rattle.tree_spec.proofs.Lists.{times-append, head_there, tail_there}
use Rattle.sound_spec.proofs.Within.{of_each, content_range}
use Rattle.overflow.specs.Following.{shown_over}
use Rattle.edit_spec.specs.Nodes.{ShowTogether, node_taking, node_of_cells}
use Rattle.edit_spec.specs.Places.{EndsIn, BeginsIn, MayStandBetween, first_child}
use Rattle.edit_spec.specs.Edits.{lefts, LeadInRange, IsEdited, KeepAlike}
use Rattle.edit_spec.proofs.Lists.{cons_count, one_of_two, the_page}
use Rattle.edit_spec.proofs.Orders.{ends_somewhere, begins_somewhere, index_between}
use Rattle.edit_spec.proofs.Runs.{Run}
use Rattle.edit_spec.proofs.Opening.{OpenedTree, open_tree, child_tree, item_between}
use Rattle.edit_spec.proofs.InOrder.{left_place, behind_place}
use Rattle.edit_spec.proofs.Through.{open_run, run_less, edited_through, edited_still}
use Rattle.node_edit.specs.Payloads.{key_of}
use Rattle.node_edit.specs.Runs.{spelled_by}
use Rattle.tree_read.proofs.Levels.{not_both}
use Rattle.tree_edit.specs.Editing.{EditsPages, lists_joined, storing}
use Rattle.tree_edit.specs.Roots.{inner_kind}
use Rattle.tree_edit.specs.Settling.{SettlesNode, cells_above}
use Rattle.tree_edit.proofs.Edits.{edits_join, edits_told, keeps_alike, still_used}
use Rattle.tree_keys.specs.Keys.{Sought, OfRow, OfEntry, is_row, rowid_of, gap_of, entry_gap}
use Rattle.tree_insert.specs.Inserting.{inserting, PutsUnder, AreNews, cells_up}
use Rattle.tree_keys.specs.Spots.{IsPlace, HoldsPlace, NamesNext, StaysOnPath}
use Rattle.tree_keys.proofs.Spotted.{entry_before, entry_behind}
use Rattle.tree_keys.proofs.Children.{child_first, rows_below, rows_up_to, names, path_up}
use Rattle.tree_keys.specs.Standing.{Stands}
use Rattle.tree_insert.proofs.Since.{once_made, made_free}
use Rattle.tree_keys.proofs.Since.{of_path}
use Rattle.tree_insert.proofs.InLeaf.{tree_least, up_is}

-- What stands beside a key's place in an interior page.
record BesideChild (sought : Sought) (before after : List NodeCell) (left behind : List Item) (item : Item) : Type 0 where
  ends : EndsIn (gap_of sought).Before left
  begins : BeginsIn (gap_of sought).Behind behind
  fits : MayStandBetween (is_row sought) before after (item ∷ [])

beside_child : (sought : Sought) (usable last : ℕ) (shown : Shown) (height page : ℕ) (node : Node) (place : ℕ) (own : List ℕ) (items : List Item) (item : Item) → item.key ≡ key_of (rowid_of sought)
    → IsPlace sought usable last shown node place → (opened : OpenedTree (is_row sought) usable last shown (suc height) page node own items)
    → (part : Run (is_row sought) usable last shown height (take place node.cells) [] (drop place node.cells) node.right opened.below items)
    → BesideChild sought (take place node.cells) (drop place node.cells) part.left part.behind item
beside_child (OfRow rowid) usable last shown height page node place own items item key spot opened part = record {
  ends = ends_somewhere part.left;
  begins = begins_somewhere part.behind;
  fits = item_between true (take place node.cells) (drop place node.cells) item
      (rows_below usable last shown height node.cells node.right opened.below items rowid item place key opened.content.under spot.0) (rows_up_to node.cells rowid item place key spot.0);
}
beside_child (OfEntry entry) usable last shown height page node place own items item key stands opened part = record {
  ends = left_place usable last shown (entry_gap entry).Before (take place node.cells) part.left part.left_ends (entry_before usable last shown node entry place stands);
  begins = behind_place usable last shown (entry_gap entry).Behind (drop place node.cells) part.behind part.behind_begins (entry_behind usable last shown node entry place stands);
  fits = index_between (take place node.cells) (drop place node.cells) (item ∷ []);
}

-- pages that cells lead to are some
lefts_least : (last : ℕ) (cells : List NodeCell) → LeadInRange last cells → (n : ℕ) → 1 ≤ times (lefts cells) n → 1 ≤ n
lefts_least last [] range n there = absurd (omega (arith, there))
lefts_least last (cell ∷ cells) range n there =
    one_of_two (times (cell.left ∷ []) n) (times (lefts cells) n) (omega (arith, there, cons_count cell.left (lefts cells) n))
    (λ here. omega (arith, range.0.0, the_page cell.left n here)) (λ here. lefts_least last cells range.1 n here)

-- each page that was made is one
pub made_least : {P : Type 0} (pages : Ghosts P) (old mid : P) (world : View) (sought : Sought) (payload : List ℕ) (level page height : ℕ) (own : List ℕ) (items : List Item) (news : List (List ℕ))
    → 1 ≤ page → (puts : PutsUnder pages old sought payload level page height own items news mid world) → (n : ℕ) → 1 ≤ times puts.made n → 1 ≤ n
made_least pages old mid world sought payload level page height own items news least puts n there =
    let done = puts.edited in
    let cells = cells_up sought (pages.usable old) news in
    let some : 1 ≤ times (lefts cells) n + (times (page ∷ []) n + times done.below n) =
    omega (arith, there, done.moved.counts n, times-append (lefts cells) (page ∷ done.below) n, cons_count page done.below n) in
    one_of_two (times (lefts cells) n) (times (page ∷ []) n + times done.below n) some
    (λ here. lefts_least (pages.last_page mid) cells done.ranged n here)
    (λ rest.
    one_of_two (times (page ∷ []) n) (times done.below n) rest (λ here. omega (arith, the_page page n here, least))
    (λ here.
    let range = of_each (λ (p : ℕ). (2 ≤ p) × (p ≤ pages.last_page mid)) done.below n
    (content_range (is_row sought) (pages.usable old) (pages.last_page mid) (shown_over pages mid world) height puts.whole done.below done.items_then done.content) here in
    omega (arith, range.0)))

has_cell : (child count : ℕ) → 2 ≤ child → (child ≡ 1) ⊎ (1 ≤ count) → 1 ≤ count
has_cell child count least (inl first) = absurd (omega (arith, first, least))
has_cell child count least (inr many) = many

-- The child's new siblings were taken, or there were none.
pub puts_below : {P : Type 0} (pages : Ghosts P) (old mid new : P) (world : View) (sought : Sought) (payload : List ℕ) (level page height place : ℕ) (bytes : List ℕ) (node : Node)
    (news siblings : List (List ℕ)) (own : List ℕ) (items : List Item) → 1 ≤ page → pages.usable mid ≡ pages.usable old → pages.usable new ≡ pages.usable mid → pages.last_page old ≤ pages.last_page mid
    → pages.last_page mid ≤ pages.last_page new → pages.tells old world
    → HoldsPlace pages old sought page level bytes node place → is_leaf node.kind ≡ false → 2 ≤ first_child (drop place node.cells) node.right
    → first_child (drop place node.cells) node.right ≤ pages.last_page old
    → ((h : ℕ) (o : List ℕ) (i : List Item) → Stands pages old world (is_row sought) h (first_child (drop place node.cells) node.right) o i
    → PutsUnder pages old sought payload (suc level) (first_child (drop place node.cells) node.right) h o i news mid world)
    → ((news ≡ []) × (siblings ≡ []) × (new ≡ mid)) ⊎ ((1 ≤ length news) × (pages.neat mid world → (pages.free mid world page → ⊥)
    → SettlesNode pages mid page (node_taking node place (spelled_by node.kind (pages.usable mid) news)) siblings new world))
    → spelled_by node.kind (pages.usable mid) news ≡ cells_up sought (pages.usable old) news → AreNews sought (pages.usable mid) (pages.last_page new) siblings
    → Stands pages old world (is_row sought) height page own items → PutsUnder pages old sought payload level page height own items siblings new world
puts_below pages old mid new world sought payload level page zero place bytes node news siblings own items least usable usable_then more more_then told at inner child_least child_most under passes news_are are stands =
    let none = open_tree (is_row sought) (pages.usable old) (pages.last_page old) (shown_over pages old world) zero page node own items (at.shown world told) stands.tree in
    absurd (not_both (is_leaf node.kind) none.content.leaf inner)
puts_below {P = P} pages old mid new world sought payload level page (suc height) place bytes node news siblings own items least usable usable_then more more_then told at inner child_least child_most under passes news_are are
    stands = by_pass passes
  where
    u : ℕ
    u = pages.usable old

    shown : Shown
    shown = shown_over pages old world

    table : Bool
    table = is_row sought

    before : List NodeCell
    before = take place node.cells

    after : List NodeCell
    after = drop place node.cells

    child : ℕ
    child = first_child after node.right

    opened : OpenedTree table u (pages.last_page old) shown (suc height) page node own items
    opened = open_tree table u (pages.last_page old) shown (suc height) page node own items (at.shown world told) stands.tree

    cells_are : node.cells ≡ before ++ after
    cells_are = sym (take-append-drop place node.cells)

    part : Run table u (pages.last_page old) shown height before [] after node.right opened.below items
    part = open_run table u (pages.last_page old) shown height page node own items before [] after opened cells_are

    less : (n : ℕ) → times part.mine_own n ≤ times own n
    less = run_less table u (pages.last_page old) shown height page before [] after node.right own opened.below items opened.own_is part

    puts : PutsUnder pages old sought payload (suc level) child height part.mine_own part.mine news mid world
    puts = under height part.mine_own part.mine (record {
      neat = stands.neat;
      tree = child_tree table u (pages.last_page old) shown height child part.mine_own part.mine part.under;
      used = λ n there. let here = stands.used n (omega (arith, there, less n)) in (omega (arith, less n, here.0), here.1);
    })

    first : EditsPages pages (inserting puts.read puts.put puts.made) old mid world
    first = puts.edits

    once : (n : ℕ) → times own n + times puts.made n ≤ 1
    once = once_made pages (inserting puts.read puts.put puts.made) old mid world own first refl stands.used

    kept : KeepAlike shown (shown_over pages mid world) own puts.put
    kept = keeps_alike pages (inserting puts.read puts.put puts.made) old mid world own first usable
        (λ n there. (tree_least table u (pages.last_page old) shown (suc height) page own items least stands.tree n there, (stands.used n there).1, refl))

    beside : BesideChild sought before after part.left part.behind puts.item
    beside = beside_child sought u (pages.last_page old) shown height page node place own items puts.item puts.is_put.key (at.stands world told) opened part

    some : 1 ≤ length puts.whole.cells
    some = has_cell child (length puts.whole.cells) child_least puts.some

    named : NamesNext sought u (pages.last_page old) shown level page child
    named = names sought u (pages.last_page old) shown level page child node place (record { holds = at.shown world told; may = at.may }) inner (at.stands world told) (sym (child_first node.cells node.right place))

    up : StaysOnPath sought u (pages.last_page old) shown level page (page ∷ puts.path) puts.read puts.put
    up = path_up sought u (pages.last_page old) shown level page child puts.path puts.read puts.put named child_least child_most puts.on_path

    still : news ≡ [] → PutsUnder pages old sought payload level page (suc height) own items [] mid world
    still none = record {
      item = puts.item;
      is_put = puts.is_put;
      whole = node;
      path = page ∷ puts.path;
      read = puts.read;
      put = puts.put;
      made = puts.made;
      edited = edited_still table u (pages.last_page old) (pages.last_page mid) shown (shown_over pages mid world) height page node puts.whole before after (gap_of sought) [] (puts.item ∷ [])
          (record { fresh = puts.made; lost = []; put = puts.put }) own items more (at.shown world told) cells_are opened part
          (subst (λ (l : List (List ℕ)). IsEdited table u (pages.last_page mid) (shown_over pages mid world) height child puts.whole (cells_up sought u l) (gap_of sought) [] (puts.item ∷ [])
          (record { fresh = puts.made; lost = []; put = puts.put }) part.mine_own part.mine) none puts.edited)
          some beside.ends beside.begins beside.fits once kept;
      some = opened.enough;
      on_path = up;
      edits = first;
    }

    through : 1 ≤ length news
        → SettlesNode pages mid page (node_taking node place (spelled_by node.kind (pages.usable mid) news)) siblings new world
        → PutsUnder pages old sought payload level page (suc height) own items siblings new world
    through has_news settles =
        let whole : Node = node_taking node place (spelled_by node.kind (pages.usable mid) news) in
        let sides : List NodeCell = cells_up sought u siblings in
        let sides_are : cells_above (pages.usable mid) whole siblings ≡ sides =
        up_is whole sought (pages.usable mid) siblings at.may.table_is ∙ ap (λ (v : ℕ). cells_up sought v siblings) usable in
        let second : EditsPages pages (storing page (lefts sides)) mid new world =
        subst (λ (l : List NodeCell). EditsPages pages (storing page (lefts l)) mid new world) sides_are settles.edits in
        let shows : ShowTogether (shown_over pages new world).node sides page (node_of_cells node (before ++ (cells_up sought u news ++ after))) =
        subst (λ (l : List NodeCell). ShowTogether (shown_over pages new world).node sides page (node_of_cells node (before ++ (l ++ after)))) news_are
        (subst (λ (l : List NodeCell). ShowTogether (shown_over pages new world).node l page whole) sides_are settles.shows) in
        let range : LeadInRange (pages.last_page new) sides = subst (λ (v : ℕ). LeadInRange (pages.last_page new) (cells_up sought v siblings)) usable are.range in
        let third : KeepAlike (shown_over pages mid world) (shown_over pages new world) (opened.below ++ puts.made) (page ∷ []) =
        keeps_alike pages (storing page (lefts sides)) mid new world (opened.below ++ puts.made) second usable_then
        (λ n there. one_of_two (times opened.below n) (times puts.made n) (omega (arith, there, times-append opened.below puts.made n))
        (λ here.
        let in_own : 1 ≤ times own n = tail_there page opened.below own opened.own_is n here in (
          tree_least table u (pages.last_page old) shown (suc height) page own items least stands.tree n in_own,
          still_used pages (inserting puts.read puts.put puts.made) old mid world first n (stands.used n in_own).1 refl,
          refl,
        ))
        (λ here. (
          made_least pages old mid world sought payload (suc level) child height part.mine_own part.mine news (omega (arith, child_least)) puts n here,
          (made_free pages (inserting puts.read puts.put puts.made) old mid world first refl n here).1,
          refl,
        ))) in
        record {
          item = puts.item;
          is_put = puts.is_put;
          whole = node_of_cells node (before ++ (cells_up sought u news ++ after));
          path = page ∷ puts.path;
          read = puts.read ++ (page ∷ []);
          put = page ∷ puts.put;
          made = puts.made ++ lefts sides;
          edited = edited_through table u (pages.last_page old) (pages.last_page mid) (pages.last_page new) shown (shown_over pages mid world) (shown_over pages new world) height page node puts.whole
              before after (cells_up sought u news) sides (gap_of sought) [] (puts.item ∷ []) (record { fresh = puts.made; lost = []; put = puts.put }) own items more more_then opened part puts.edited some
              beside.ends beside.begins beside.fits once kept third shows range;
          some = inr (omega (arith, has_news, count_up news, length-append before (cells_up sought u news ++ after), length-append (cells_up sought u news) after));
          on_path = record {
            is_path = up.is_path;
            reads = λ n there. one_of_two (times puts.read n) (times (page ∷ []) n) (omega (arith, there, times-append puts.read (page ∷ []) n)) (λ here. up.reads n here)
                (λ here. of_path sought u (pages.last_page old) shown (page ∷ puts.path) n (omega (arith, here, cons_count page puts.path n)));
            puts = λ n there. one_of_two (times (page ∷ []) n) (times puts.put n) (omega (arith, there, cons_count page puts.put n)) (λ here. omega (arith, here, cons_count page puts.path n))
                (λ here. up.puts n here);
          };
          edits = edits_told pages (lists_joined (inserting puts.read puts.put puts.made) (storing page (lefts sides))) (inserting (puts.read ++ (page ∷ [])) (page ∷ puts.put) (puts.made ++ lefts sides))
              old new world (λ n. refl) (λ n. refl) (λ uses. uses) (λ n there. inl (omega (arith, there, times-append puts.put (page ∷ []) n, cons_count page puts.put n))) (λ n there. inl there)
              (edits_join pages (inserting puts.read puts.put puts.made) (storing page (lefts sides)) old mid new world first second);
        }
      where
        count_up : (texts : List (List ℕ)) → length (cells_up sought (pages.usable old) texts) ≡ length texts
        count_up [] = refl
        count_up (text ∷ texts) = omega (arith, count_up texts)

    by_pass : ((news ≡ []) × (siblings ≡ []) × (new ≡ mid)) ⊎ ((1 ≤ length news) × (pages.neat mid world → (pages.free mid world page → ⊥)
        → SettlesNode pages mid page (node_taking node place (spelled_by node.kind (pages.usable mid) news)) siblings new world))
        → PutsUnder pages old sought payload level page (suc height) own items siblings new world
    by_pass (inl none) =
        subst (λ (l : List (List ℕ)). PutsUnder pages old sought payload level page (suc height) own items l new world) (sym none.1)
        (subst (λ (p : P). PutsUnder pages old sought payload level page (suc height) own items [] p world) (sym none.2) (still none.0))
    by_pass (inr some_news) =
        through some_news.0 (some_news.1 first.neat
        (still_used pages (inserting puts.read puts.put puts.made) old mid world first page (stands.used page (head_there page opened.below own opened.own_is)).1 refl))

-- the cells that an interior page takes are those of the page above
pub ups_are : (node : Node) (sought : Sought) (usable_mid usable : ℕ) (texts : List (List ℕ)) → is_leaf node.kind ≡ false → is_table node.kind ≡ is_row sought → usable_mid ≡ usable
    → spelled_by node.kind usable_mid texts ≡ cells_up sought usable texts
ups_are node sought usable_mid usable texts inner table is =
    ap (λ (k : Kind). spelled_by k usable_mid texts) (inner_is node.kind inner ∙ ap inner_kind table) ∙ ap (λ (u : ℕ). cells_up sought u texts) is
  where
    inner_is : (kind : Kind) → is_leaf kind ≡ false → kind ≡ inner_kind (is_table kind)
    inner_is IndexInner inner = refl
    inner_is TableInner inner = refl
    inner_is IndexLeaf never = cc
    inner_is TableLeaf never = cc
