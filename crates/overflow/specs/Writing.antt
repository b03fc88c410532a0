-- A chain that is written.
use Rattle.std.specs.Prelude.{◌≡◌, ℕ, ◌*◌, ◌<◌, ◌≤◌, true, List, length, Result, IfOk, IfErr}
use Rattle.page_spec.specs.Header.{database_limit}
use Rattle.page_spec.specs.View.{View}
use Rattle.engine_spec.specs.declared.commits.FetchFault.{FetchFault}
use Rattle.page_face.specs.declared.pages_tells.PagesTells.{Ghosts}
use Rattle.page_face.specs.Pages.{Editing, BarsFresh, BarsNeat}
use Rattle.tree_spec.specs.Layout.{Each}
use Rattle.tree_spec.specs.Chains.{IsChain, chain_bytes}
use Rattle.overflow.specs.Following.{shown_over}
use Rattle.overflow.specs.Editing.{MakesPages}

-- These pages, all of them put, are a chain of just these bytes from the first one on, over each world that is still told whose freelist was in order.
pub record WritesChain {P : Type 0} (pages : Ghosts P) (old : P) (bytes : List ℕ) (first : ℕ) (list : List ℕ) (new : P) : Type 0 where
  pub chain : (world : View) → pages.tells new world → pages.neat old world
      → IsChain (pages.usable old) (pages.last_page new) (shown_over pages new world) first (length bytes) list
  pub holds : (world : View) → pages.tells new world → pages.neat old world
      → chain_bytes (pages.usable old) (shown_over pages new world) list (length bytes) ≡ bytes
  pub has : Each (λ page. pages.has new page ≡ true) list

-- Why no further page was made or put. The size that is told is that with one page more than there are then, and comes only where none is to spare.
pub record BarsWriting {P : Type 0} (pages : Ghosts P) (old : P) (why : FetchFault) (new : P) : Type 0 where
  pub cause : BarsFresh (pages.last_page new) (pages.page_size old) (pages.faults old) (pages.faults new) why
  pub exact : (world : View) → pages.tells new world → pages.neat old world → BarsNeat (pages.spare new world) why

-- `write_chain`: these pages were made, none of them page 1, and no new number ends past the limit. They are the chain, or those made so far.
pub record HasWrittenChain {P : Type 0} (pages : Ghosts P) (old : P) (bytes : List ℕ) (result : Result ℕ FetchFault) (new : P) : Type 0 where
  pub list : List ℕ
  pub range : Each (λ page. (2 ≤ page) × (page ≤ pages.last_page new)) list
  pub makes : (world : View) → pages.tells new world → pages.neat old world → MakesPages pages list old new world
  pub fits : pages.last_page old < pages.last_page new → pages.last_page new * pages.page_size old ≤ database_limit
  pub written : IfOk result (λ first. WritesChain pages old bytes first list new)
  pub stopped : IfErr result (λ why. BarsWriting pages old why new)
  pub edits : Editing pages old new
