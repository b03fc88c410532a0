-- The trees of a database over a world, and what an edit of one of them does to pages.
use Rattle.std.specs.Prelude.{◌≡◌, ℕ, ◌+◌, ◌^◌, ◌≤◌, List}
use Rattle.page_spec.specs.View.{View}
use Rattle.page_face.specs.declared.pages_tells.PagesTells.{Ghosts}
use Rattle.tree_spec.specs.Layout.{times, Item}
use Rattle.overflow.specs.Following.{shown_over}
use Rattle.overflow.specs.Editing.{AreInUse}
use Rattle.tree_edit.specs.Editing.{PageLists, EditsPages}
use Rattle.sound_spec.specs.Sound.{IsSoundTrees}

-- There is a page 1, whose tree lists these rows, and these roots have trees. Their pages are in use, each in one place, and the freelist is in order.
pub record TreesStand {P : Type 0} (pages : Ghosts P) (at : P) (world : View) (roots used : List ℕ) (rows : List Item) : Type 0 where
  pub some : 1 ≤ pages.last_page at
  pub neat : pages.neat at world
  pub trees : IsSoundTrees (pages.usable at) (pages.last_page at) (shown_over pages at world) roots used rows
  pub in_use : AreInUse pages at world used

-- An edit of a tree put and gave up pages of it alone: it has these pages then, what it had and what was made but what was given up. No page is past a database's largest size.
pub record ChangesPages {P : Type 0} (pages : Ghosts P) (lists : PageLists) (own own_then : List ℕ) (old new : P) (world : View) : Type 0 where
  pub edits : EditsPages pages lists old new world
  pub usable : pages.usable new ≡ pages.usable old
  pub last : pages.last_page old ≤ pages.last_page new
  pub most : pages.last_page new ≤ 2 ^ 21
  pub put : (n : ℕ) → 1 ≤ times lists.put n → 1 ≤ times own n
  pub gone : (n : ℕ) → 1 ≤ times lists.gone n → 1 ≤ times own n
  pub counts : (n : ℕ) → times own n + times lists.made n ≡ times own_then n + times lists.gone n
