-- A root below which a key was put in: it stays as it is, or has new siblings and is raised over them.
use Rattle.std.proofs.Common.{◌≡◌, ℕ, zero, suc, ◌≤◌, Bool, true, false, List, [], ◌∷◌, ◌++◌, length, Option, Some, refl, sym, subst, ap, ◌∙◌, arith, inl, inr, length-append}
use Rattle.std.specs.Prelude.{◌⊎◌, ◌&&◌, Contains}
use Rattle.page_spec.specs.View.{View}
use Rattle.engine_spec.specs.declared.commits.FetchFault.{FetchFault}
use Rattle.page_face.specs.declared.pages_tells.PagesTells.{Ghosts}
use Rattle.page_face.specs.Pages.{Editing, ReadsAtMost}
use Rattle.node_spec.specs.Kinds.{is_leaf, is_table}
use Rattle.node_spec.specs.Cells.{NodeCell}
use Rattle.node_spec.specs.Nodes.{Node}
use Rattle.tree_spec.specs.Layout.{times, Item}
use Rattle.tree_spec.specs.Shown.{Shown}
use Rattle.tree_spec.specs.Trees.{Content, root_least}
use Rattle.tree_spec.proofs.Lists.{times-append, head_there}
use Rattle.overflow.specs.Following.{shown_over}
use Rattle.overflow.specs.Writing.{BarsWriting}
use Rattle.edit_spec.specs.Nodes.{Divides, DividesRows, DividesBetween, ByLeafOfTable, ShowTogether}
use Rattle.edit_spec.specs.Edits.{IsEditedTree, IsRaised, StandOnce, KeepAlike}
use Rattle.edit_spec.proofs.Lists.{cons_count, one_of_two, the_page}
use Rattle.edit_spec.proofs.Roots.{tree_edited, raised}
use Rattle.tree_edit.specs.Editing.{EditsPages, lists_joined, reading, storing}
use Rattle.tree_edit.specs.Roots.{RaisesRoot, ShowsNoRoot}
use Rattle.tree_edit.proofs.Edits.{edits_join, edits_told, edits_read, keeps_alike, still_used}
use Rattle.tree_edit.proofs.Settled.{kind_of_rest}
use Rattle.tree_keys.specs.Keys.{Sought, is_row, gap_of}
use Rattle.tree_keys.specs.Spots.{IsPath, IsOfPath}
use Rattle.tree_keys.specs.Standing.{Stands, BarsEdit}
use Rattle.tree_keys.proofs.Since.{path_since, path_begins, of_path}
use Rattle.tree_keys.proofs.Refused.{bars_after}
use Rattle.tree_insert.specs.Inserting.{inserting, PutsUnder, PutsUnderEach, PutsTree, cells_up}
use Rattle.tree_insert.proofs.Since.{once_made, made_free}
use Rattle.tree_insert.proofs.InLeaf.{tree_least}
use Rattle.tree_insert.proofs.Below.{made_least}

-- a node that is divided has a cell, and so has what is left of it
parts_some : (whole left rest : Node) (up : NodeCell) → Divides whole up left rest → (1 ≤ length whole.cells) × (1 ≤ length rest.cells)
parts_some whole left rest up divides = by_case (is_leaf whole.kind && is_table whole.kind) divides
  where
    by_case : (rows : Bool) → ByLeafOfTable rows (DividesRows whole up left rest) (DividesBetween whole up left rest) → (1 ≤ length whole.cells) × (1 ≤ length rest.cells)
    by_case true one = (omega (arith, ap (λ (l : List NodeCell). length l) one.cells, length-append left.cells rest.cells, one.left_some), one.rest_some)
    by_case false one =
        (omega (arith, ap (λ (l : List NodeCell). length l) one.cells, length-append left.cells (one.between ∷ rest.cells), one.left_some), one.rest_some)

-- a page that has new siblings shows a node of the same kind, with a cell
pub record LastPart (node_at : ℕ → Option Node) (page : ℕ) (whole : Node) : Type 0 where
  pub node : Node
  pub holds : node_at page ≡ Some node
  pub kind : is_table node.kind ≡ is_table whole.kind
  pub some : 1 ≤ length node.cells

pub last_part : (node_at : ℕ → Option Node) (news : List NodeCell) (page : ℕ) (whole : Node) → 1 ≤ length whole.cells → ShowTogether node_at news page whole → LastPart node_at page whole
last_part node_at [] page whole some shows = record { node = whole; holds = shows; kind = refl; some = some }
last_part node_at (cell ∷ news) page whole some shows =
    let later = last_part node_at news page shows.rest (parts_some whole shows.left shows.rest cell shows.divides).1 shows.others in
    record { node = later.node; holds = later.holds; kind = later.kind ∙ ap is_table (kind_of_rest whole shows.left shows.rest cell shows.divides); some = later.some }

-- what has new siblings has a cell
some_cell : (node_at : ℕ → Option Node) (news : List NodeCell) (page : ℕ) (whole : Node) → 1 ≤ length news → ShowTogether node_at news page whole → 1 ≤ length whole.cells
some_cell node_at [] page whole none shows = absurd (omega (arith, none))
some_cell node_at (cell ∷ news) page whole has shows = (parts_some whole shows.left shows.rest cell shows.divides).0

pub count_up : (sought : Sought) (usable : ℕ) (texts : List (List ℕ)) → length (cells_up sought usable texts) ≡ length texts
count_up sought usable [] = refl
count_up sought usable (text ∷ texts) = omega (arith, count_up sought usable texts)

-- The root has no new siblings.
pub puts_whole : {P : Type 0} (pages : Ghosts P) (old new : P) (world : View) (sought : Sought) (payload : List ℕ) (root height : ℕ) (own : List ℕ) (items : List Item)
    → PutsUnder pages old sought payload 0 root height own items [] new world → PutsTree pages old sought payload root own items new world
puts_whole pages old new world sought payload root height own items puts = record {
  item = puts.item;
  is_put = puts.is_put;
  height = height;
  path = puts.path;
  read = puts.read;
  put = puts.put;
  made = puts.made;
  edited = tree_edited (is_row sought) (pages.usable old) (pages.last_page new) (shown_over pages new world) height root puts.whole (gap_of sought) [] (puts.item ∷ [])
      (record { fresh = puts.made; lost = []; put = puts.put }) own items (enough height puts.some) puts.edited;
  on_path = puts.on_path;
  edits = puts.edits;
}
  where
    enough : (height : ℕ) {count : ℕ} → (root ≡ 1) ⊎ (1 ≤ count) → (root ≡ 1) ⊎ (root_least height ≤ count)
    enough height (inl first) = inl first
    enough zero (inr many) = inr (omega arith)
    enough (suc height) (inr many) = inr many

-- The root has new siblings, and was raised over them.
pub puts_raised : {P : Type 0} (pages : Ghosts P) (old mid new : P) (world : View) (sought : Sought) (payload : List ℕ) (root child height : ℕ) (own : List ℕ) (items : List Item) (news : List (List ℕ))
    → 1 ≤ root → pages.usable mid ≡ pages.usable old → pages.usable new ≡ pages.usable mid → pages.last_page mid ≤ pages.last_page new → 1 ≤ length news → 2 ≤ child → child ≤ pages.last_page new
    → Stands pages old world (is_row sought) height root own items → PutsUnder pages old sought payload 0 root height own items news mid world
    → (pages.neat mid world → (pages.free mid world root → ⊥) → RaisesRoot pages mid (is_row sought) root child news new world)
    → PutsTree pages old sought payload root own items new world
puts_raised pages old mid new world sought payload root child height own items news low usable usable_then more has_news least most stands puts raises =
    let u = pages.usable old in
    let table = is_row sought in
    let then = shown_over pages new world in
    let up = cells_up sought u news in
    let lists = inserting puts.read puts.put puts.made in
    let has_up : 1 ≤ length up = omega (arith, has_news, count_up sought u news) in
    let some : 1 ≤ length puts.whole.cells = some_cell (shown_over pages mid world).node up root puts.whole has_up puts.edited.shows in
    let mine : 1 ≤ times own root = head_there root stands.tree.below own stands.tree.own_is in
    let first : EditsPages pages lists old mid world = puts.edits in
    let raise = raises first.neat (still_used pages lists old mid world first root (stands.used root mine).1 refl) in
    let is : IsRaised table (shown_over pages mid world) then root child up =
    subst (λ (v : ℕ). IsRaised table (shown_over pages mid world) then root child (cells_up sought v news)) usable raise.raised in
    let second : EditsPages pages (storing root (child ∷ [])) mid new world = raise.edits in
    let both = edits_join pages lists (storing root (child ∷ [])) old mid new world first second in
    let once : StandOnce own (puts.made ++ (child ∷ [])) = once_made pages (lists_joined lists (storing root (child ∷ []))) old new world own both refl stands.used in
    let kept : KeepAlike (shown_over pages mid world) then (own ++ puts.made) (root ∷ []) =
    keeps_alike pages (storing root (child ∷ [])) mid new world (own ++ puts.made) second usable_then
    (λ n there.
    one_of_two (times own n) (times puts.made n) (omega (arith, there, times-append own puts.made n))
    (λ here. (
      tree_least table u (pages.last_page old) (shown_over pages old world) height root own items low stands.tree n here,
      still_used pages lists old mid world first n (stands.used n here).1 refl,
      refl,
    ))
    (λ here. (made_least pages old mid world sought payload 0 root height own items news low puts n here, (made_free pages lists old mid world first refl n here).1, refl))) in
    record {
      item = puts.item;
      is_put = puts.is_put;
      height = suc height;
      path = puts.path;
      read = puts.read ++ (root ∷ []);
      put = root ∷ puts.put;
      made = puts.made ++ (child ∷ []);
      edited = raised table u (pages.last_page mid) (pages.last_page new) (shown_over pages mid world) then height root child puts.whole up (gap_of sought) [] (puts.item ∷ [])
          (record { fresh = puts.made; lost = []; put = puts.put }) own items more has_up some least most mine puts.edited is once kept;
      on_path = record {
        is_path = puts.on_path.is_path;
        reads = λ n there. one_of_two (times puts.read n) (times (root ∷ []) n) (omega (arith, there, times-append puts.read (root ∷ []) n)) (λ here. puts.on_path.reads n here)
            (λ here. of_path sought u (pages.last_page old) (shown_over pages old world) puts.path n (begins puts.path puts.on_path.is_path n here));
        puts = λ n there. one_of_two (times (root ∷ []) n) (times puts.put n) (omega (arith, there, cons_count root puts.put n)) (λ here. begins puts.path puts.on_path.is_path n here)
            (λ here. puts.on_path.puts n here);
      };
      edits = edits_told pages (lists_joined lists (storing root (child ∷ []))) (inserting (puts.read ++ (root ∷ [])) (root ∷ puts.put) (puts.made ++ (child ∷ []))) old new world (λ n. refl) (λ n. refl)
          (λ uses. uses) (λ n there. inl (omega (arith, there, times-append puts.put (root ∷ []) n, cons_count root puts.put n))) (λ n there. inl there) both;
    }
  where
    begins : (path : List ℕ) → IsPath sought (pages.usable old) (pages.last_page old) (shown_over pages old world) 0 root path → (n : ℕ) → 1 ≤ times (root ∷ []) n → 1 ≤ times path n
    begins path is n here =
        subst (λ (k : ℕ). 1 ≤ times path k) (the_page root n here) (path_begins sought (pages.usable old) (pages.last_page old) (shown_over pages old world) 0 root path is)

table_of : (table : Bool) (usable last : ℕ) (shown : Shown) (height : ℕ) (node : Node) (below : List ℕ) (items : List Item) → Content table usable last shown height node below items
    → is_table node.kind ≡ table
table_of table usable last shown zero node below items content = content.table_is
table_of table usable last shown (suc height) node below items content = content.table_is

-- It couldn't be raised.
pub bars_raised : {P : Type 0} (pages : Ghosts P) (old mid new : P) (sought : Sought) (payload : List ℕ) (root : ℕ) (news : List (List ℕ)) (why : FetchFault) → Editing pages old mid
    → ((world : View) → pages.tells new world → pages.tells mid world) → PutsUnderEach pages old sought payload 0 root mid news → 1 ≤ length news
    → BarsWriting pages mid why new ⊎ ShowsNoRoot pages mid (is_row sought) root why new → BarsEdit pages old sought 0 root new why
bars_raised pages old mid new sought payload root news why edits narrows under has_news (inl bars) =
    bars_after pages old mid new sought 0 root why edits (λ items there. (under there.world (narrows there.world there.told) there.height there.own items there.stands).edits.neat) bars
bars_raised pages old mid new sought payload root news why edits narrows under has_news (inr none) =
    subst (λ (w : FetchFault). BarsEdit pages old sought 0 root new w) (sym none.0)
    (λ items there.
    let shown = shown_over pages mid there.world in
    let up = cells_up sought (pages.usable old) news in
    let puts = under there.world (narrows there.world there.told) there.height there.own items there.stands in
    let done = puts.edited in
    let some = some_cell shown.node up root puts.whole (omega (arith, has_news, count_up sought (pages.usable old) news)) done.shows in
    let last = last_part shown.node up root puts.whole some done.shows in
    absurd (none.1 there.world there.told last.node
    (record {
      holds = last.holds;
      may = record {
        table_is = last.kind ∙ table_of (is_row sought) (pages.usable old) (pages.last_page mid) shown there.height puts.whole done.below done.items_then done.content;
        depth = omega arith;
        enough = inr (inr last.some);
      };
    })))

-- Pages were read before: what was put in is put in since then.
pub tree_since : {P : Type 0} (pages : Ghosts P) (old mid new : P) (sought : Sought) (payload : List ℕ) (root : ℕ) (own : List ℕ) (items : List Item) (world : View) (list : List ℕ)
    → ReadsAtMost pages old mid → pages.tells mid world → pages.neat old world → ((n : ℕ) → Contains (pages.reads mid) n → Contains (pages.reads old) n ⊎ (1 ≤ times list n))
    → ((path : List ℕ) → IsPath sought (pages.usable old) (pages.last_page old) (shown_over pages old world) 0 root path → (n : ℕ) → 1 ≤ times list n
    → IsOfPath sought (pages.usable old) (pages.last_page old) (shown_over pages old world) path n)
    → PutsTree pages mid sought payload root own items new world → PutsTree pages old sought payload root own items new world
tree_since pages old mid new sought payload root own items world list only told neat few along puts =
    let on = path_since pages old mid only world told sought 0 root puts.path puts.read puts.put puts.on_path in
    record {
      item = puts.item;
      is_put = puts.is_put;
      height = puts.height;
      path = puts.path;
      read = list ++ puts.read;
      put = puts.put;
      made = puts.made;
      edited = subst (λ (u : ℕ). IsEditedTree (is_row sought) u (pages.last_page new) (shown_over pages new world) puts.height root (gap_of sought) [] (puts.item ∷ [])
          (record { fresh = puts.made; lost = []; put = puts.put }) own items) only.edits.usable puts.edited;
      on_path = record {
        is_path = on.is_path;
        reads = λ n there. one_of_two (times list n) (times puts.read n) (omega (arith, there, times-append list puts.read n)) (λ here. along puts.path on.is_path n here) (λ here. on.reads n here);
        puts = on.puts;
      };
      edits = edits_join pages (reading list) (inserting puts.read puts.put puts.made) old mid new world (edits_read pages list old mid world only told neat few) puts.edits;
    }

-- the root is of its path
pub root_along : (sought : Sought) (usable last : ℕ) (shown : Shown) (root : ℕ) (path : List ℕ) → IsPath sought usable last shown 0 root path → (n : ℕ) → 1 ≤ times (root ∷ []) n
    → IsOfPath sought usable last shown path n
root_along sought usable last shown root path is n here =
    of_path sought usable last shown path n (subst (λ (k : ℕ). 1 ≤ times path k) (the_page root n here) (path_begins sought usable last shown 0 root path is))
