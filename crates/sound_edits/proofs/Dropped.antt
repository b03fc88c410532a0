-- A tree that was given up whole leaves those of the other roots.
use Rattle.std.proofs.Common.{◌≡◌, ℕ, ◌+◌, ◌^◌, ◌≤◌, Bool, List, [], ◌∷◌, ◌++◌, arith}
use Rattle.page_spec.specs.View.{View}
use Rattle.page_face.specs.declared.pages_tells.PagesTells.{Ghosts}
use Rattle.page_face.specs.Pages.{Editing}
use Rattle.tree_spec.specs.Layout.{times, Item}
use Rattle.tree_edit.specs.Editing.{EditsPages, giving}
use Rattle.tree_keys.specs.Standing.{Stands}
use Rattle.tree_drop.specs.Dropping.{DropsTree}
use Rattle.sound_edits.specs.Standing.{TreesStand, ChangesPages}
use Rattle.sound_edits.proofs.Kept.{root_dropped}

-- giving up a tree changes pages of it alone
pub drop_changes : {P : Type 0} (pages : Ghosts P) (own : List ℕ) (old new : P) (world : View) → Editing pages old new → pages.last_page new ≤ 2 ^ 21
    → EditsPages pages (giving own) old new world → ChangesPages pages (giving own) own [] old new world
drop_changes pages own old new world is most edits = record {
  edits = edits;
  usable = is.usable;
  last = is.last;
  most = most;
  put = λ n there. absurd (omega (arith, there));
  gone = λ n there. there;
  counts = λ n. omega arith;
}

-- The trees of a database, of which `drop_tree` gave one up.
pub tree_dropped : {P : Type 0} (pages : Ghosts P) (old new : P) (world : View) → Editing pages old new → pages.last_page new ≤ 2 ^ 21 → pages.tells new world
    → (front : List ℕ) (root : ℕ) (back used : List ℕ) (rows : List Item) (table : Bool) (height : ℕ) (own : List ℕ) (items : List Item)
    → DropsTree pages old table root new → TreesStand pages old world (front ++ root ∷ back) used rows → Stands pages old world table height root own items
    → (used_then : List ℕ) × TreesStand pages new world (front ++ back) used_then rows × ((n : ℕ) → times used_then n + times own n ≡ times used n)
tree_dropped pages old new world is most told front root back used rows table height own items drops s was =
    root_dropped pages (giving own) own old new world (drop_changes pages own old new world is most (drops world told height own items was)) front root back used rows table height items s was
