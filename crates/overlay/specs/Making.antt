-- Calls before a page is made, and what they leave.
use Rattle.std.specs.Prelude.{◌≡◌, ℕ, true, Contains}
use Rattle.page_spec.specs.View.{View}
use Rattle.page_face.specs.declared.pages_tells.PagesTells.{Ghosts}
use Rattle.page_face.specs.Pages.{KeepsPages, Editing, IsMadeAt}

-- The pages were made ready for a page more: all are as before, none more of the world was read, and none more is changed than making a page
-- may change.
pub record ReadiesPages {P : Type 0} (pages : Ghosts P) (old new : P) : Type 0 where
  pub each : (world : View) → pages.tells new world → KeepsPages pages old new world
  pub last : pages.last_page new ≡ pages.last_page old
  pub has : (world : View) → pages.tells new world → pages.neat old world → (number : ℕ) → pages.has new number ≡ true → IsMadeAt pages old world number
  pub read : (number : ℕ) → Contains (pages.reads new) number → Contains (pages.reads old) number
  pub edits : Editing pages old new
