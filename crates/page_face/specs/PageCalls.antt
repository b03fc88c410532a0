-- What each call on pages does, said of all that they tell at once.
use Rattle.std.specs.Prelude.{◌≡◌, ◌↔◌, ℕ, ◌+◌, ◌*◌, ◌<◌, ◌≤◌, ◌==◌, ◌||◌, max, true, List, Contains, Result, IfOk, IfErr, OnOk, OnErr}
use Rattle.page_spec.specs.Header.{database_limit}
use Rattle.page_spec.specs.View.{View}
use Rattle.engine_spec.specs.declared.commits.FetchFault.{FetchFault}
use Rattle.page_face.specs.declared.pages_tells.PagesTells.{Ghosts}
use Rattle.page_face.specs.Pages.{KeepsPages, PutsPage, TakesPage, GivesUp, Editing, ReadsAtMost, IsMadeAt, IsGivenAt, IsReadAt, pages_read, IsFromOutside, BarsFresh, BarsNeat}

-- `fetch`: over each world that is still told the bytes are the page's
pub record HasRead {P : Type 0} (pages : Ghosts P) (old : P) (page : ℕ) (result : Result Unit FetchFault) (bytes : List ℕ) (new : P) : Type 0 where
  pub page_is : OnOk result ((world : View) → pages.tells new world → bytes ≡ pages.over old world page)
  pub read : OnOk result (pages.reads new ≡ pages_read pages old page)
  pub unread : OnErr result (pages.reads new ≡ pages.reads old)
  pub cause : IfErr result (λ why. IsFromOutside (pages.faults old) (pages.faults new) why)
  pub reading : ReadsAtMost pages old new

-- `put`
pub record HasPut {P : Type 0} (pages : Ghosts P) (old : P) (page : ℕ) (bytes : List ℕ) (result : Result Unit FetchFault) (new : P) : Type 0 where
  pub put : OnOk result ((world : View) → pages.tells new world → PutsPage pages old page bytes new world)
  pub has : OnOk result ((number : ℕ) → pages.has new number ≡ (pages.has old number || (number == page)))
  pub refused : OnErr result (ReadsAtMost pages old new)
  pub cause : IfErr result (λ why. IsFromOutside (pages.faults old) (pages.faults new) why)
  pub tells : (world : View) → pages.tells new world ↔ pages.tells old world
  pub last : pages.last_page new ≡ pages.last_page old
  pub reads : pages.reads new ≡ pages.reads old
  pub edits : Editing pages old new

-- the page that `fresh` gives out: it comes from a free number, and is the last one now where it follows the last one
pub record GivesOut {P : Type 0} (pages : Ghosts P) (old : P) (page : ℕ) (new : P) : Type 0 where
  pub above : 1 < page
  pub last : pages.last_page new ≡ max (pages.last_page old) page
  pub fits : pages.last_page old < page → (page ≡ pages.last_page old + 1) × (page * pages.page_size old ≤ database_limit)
  pub taken : (world : View) → pages.tells new world → pages.neat old world → TakesPage pages old page new world

-- why `fresh` gave out none: all pages are as before
pub record IsBarred {P : Type 0} (pages : Ghosts P) (old : P) (why : FetchFault) (new : P) : Type 0 where
  pub cause : BarsFresh (pages.last_page old) (pages.page_size old) (pages.faults old) (pages.faults new) why
  pub exact : (world : View) → pages.tells new world → pages.neat old world → BarsNeat (pages.spare old world) why
  pub last : pages.last_page new ≡ pages.last_page old
  pub each : (world : View) → pages.tells new world → KeepsPages pages old new world

-- `fresh`: beyond what was read and changed before there are free pages alone, and page 1 where the freelist had a page to spare
pub record HasMade {P : Type 0} (pages : Ghosts P) (old : P) (result : Result ℕ FetchFault) (new : P) : Type 0 where
  pub made : IfOk result (λ page. GivesOut pages old page new)
  pub barred : IfErr result (λ why. IsBarred pages old why new)
  pub changed : (world : View) → pages.tells new world → pages.neat old world → (number : ℕ) → pages.has new number ≡ true
      → IsMadeAt pages old world number
  pub read : (world : View) → pages.tells new world → pages.neat old world → (number : ℕ) → Contains (pages.reads new) number
      → IsReadAt pages old world number
  pub edits : Editing pages old new

-- `give_up`: beyond what was read and changed before there are free pages and that page alone
pub record HasGivenUp {P : Type 0} (pages : Ghosts P) (old : P) (page : ℕ) (result : Result Unit FetchFault) (new : P) : Type 0 where
  pub given : OnOk result ((world : View) → pages.tells new world → GivesUp pages old page new world)
  pub refused : OnErr result ((world : View) → pages.tells new world → KeepsPages pages old new world)
  pub cause : IfErr result (λ why. IsFromOutside (pages.faults old) (pages.faults new) why)
  pub last : pages.last_page new ≡ pages.last_page old
  pub changed : (world : View) → pages.tells new world → pages.neat old world → (number : ℕ) → pages.has new number ≡ true
      → IsGivenAt pages old world page number
  pub read : (world : View) → pages.tells new world → pages.neat old world → (number : ℕ) → Contains (pages.reads new) number
      → IsReadAt pages old world number
  pub edits : Editing pages old new
