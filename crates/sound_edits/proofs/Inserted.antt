-- A row or an entry that was put into one tree leaves the others.
use Rattle.std.proofs.Common.{◌≡◌, ℕ, ℤ, ◌+◌, ◌^◌, ◌≤◌, true, List, ◌∷◌, ◌++◌, arith}
use Rattle.page_spec.specs.View.{View}
use Rattle.page_face.specs.declared.pages_tells.PagesTells.{Ghosts}
use Rattle.page_face.specs.Pages.{Editing}
use Rattle.tree_spec.specs.Layout.{times, Item}
use Rattle.tree_keys.specs.Keys.{Sought, OfRow, is_row}
use Rattle.tree_keys.specs.Standing.{Stands}
use Rattle.tree_insert.specs.Inserting.{PutsIn, inserting}
use Rattle.sound_edits.specs.Standing.{TreesStand, ChangesPages}
use Rattle.sound_edits.proofs.Kept.{root_edited, first_edited}

-- what a tree has then, besides what it had
pub insert_changes : {P : Type 0} (pages : Ghosts P) (old new : P) (sought : Sought) (payload : List ℕ) (root : ℕ) (own : List ℕ) (items : List Item) (world : View) → Editing pages old new
    → pages.last_page new ≤ 2 ^ 21 → (puts : PutsIn pages old sought payload root own items new world)
    → ChangesPages pages (inserting puts.read puts.put puts.made) own puts.own_then old new world
insert_changes pages old new sought payload root own items world is most puts = record {
  edits = puts.edits;
  usable = is.usable;
  last = is.last;
  most = most;
  put = puts.moved.within;
  gone = λ n there. absurd (omega (arith, there));
  counts = λ n. omega (arith, puts.moved.counts n);
}

-- The trees of a database, into one of which, other than page 1's, something was put.
pub tree_inserted : {P : Type 0} (pages : Ghosts P) (old new : P) (sought : Sought) (payload : List ℕ) (world : View) → Editing pages old new → pages.last_page new ≤ 2 ^ 21
    → (front : List ℕ) (root : ℕ) (back used : List ℕ) (rows : List Item) (height : ℕ) (own : List ℕ) (items : List Item)
    → (puts : PutsIn pages old sought payload root own items new world) → TreesStand pages old world (front ++ root ∷ back) used rows → Stands pages old world (is_row sought) height root own items
    → (used_then : List ℕ) × TreesStand pages new world (front ++ root ∷ back) used_then rows × ((n : ℕ) → times used_then n + times own n ≡ times used n + times puts.own_then n)
tree_inserted pages old new sought payload world is most front root back used rows height own items puts s was =
    root_edited pages (inserting puts.read puts.put puts.made) own puts.own_then old new world (insert_changes pages old new sought payload root own items world is most puts)
    front root back used rows (is_row sought) height puts.height items puts.items_then s was puts.stands

-- And a row into page 1's, which lists the rows with that one then.
pub row_inserted : {P : Type 0} (pages : Ghosts P) (old new : P) (rowid : ℤ) (payload : List ℕ) (world : View) → Editing pages old new → pages.last_page new ≤ 2 ^ 21
    → (roots used : List ℕ) (rows : List Item) (height : ℕ) (own : List ℕ) (items : List Item)
    → (puts : PutsIn pages old (OfRow rowid) payload 1 own items new world) → TreesStand pages old world roots used rows → Stands pages old world true height 1 own items
    → (used_then : List ℕ) × TreesStand pages new world roots used_then puts.items_then × ((n : ℕ) → times used_then n + times own n ≡ times used n + times puts.own_then n)
row_inserted pages old new rowid payload world is most roots used rows height own items puts s was =
    first_edited pages (inserting puts.read puts.put puts.made) own puts.own_then old new world (insert_changes pages old new (OfRow rowid) payload 1 own items world is most puts)
    roots used rows height puts.height items puts.items_then s was puts.stands
