-- A chain whose pages are given up.
use Rattle.std.specs.Prelude.{◌≡◌, ◌≢◌, ◌⊎◌, ℕ, ◌-◌, ◌<◌, ◌≤◌, List, [], ◌∷◌, ◌++◌, Result, IfErr, OnOk}
use Rattle.page_spec.specs.View.{View}
use Rattle.engine_spec.specs.declared.commits.FetchFault.{FetchFault}
use Rattle.page_face.specs.declared.pages_tells.PagesTells.{Ghosts}
use Rattle.page_face.specs.Pages.{Editing}
use Rattle.tree_spec.specs.Shown.{Shown}
use Rattle.tree_spec.specs.Chains.{IsChain}
use Rattle.overflow.specs.Following.{shown_over, last_met, Bars, ThereIsChain}
use Rattle.overflow.specs.Editing.{AreInUse, GivesPages, TouchesOnly}

-- As a chain leads from its first number on, where the pages that were met change: a page leads to the number that it named as long as it stays, and none
-- stays that was met before.
abbrev pub LeadsWhile : (usable last : ℕ) → Shown → (Stays : ℕ → Type 0) → (first size : ℕ) → List ℕ → (next left : ℕ) → Type 0
LeadsWhile usable last shown Stays first size [] next left = (next ≡ first) × (left ≡ size)
LeadsWhile usable last shown Stays first size (page ∷ pages) next left =
    (0 < size) × (page ≡ first) × (2 ≤ page) × (page ≤ last) × (number : ℕ) × (Stays page → number ≡ (shown.link page).next)
    × LeadsWhile usable last shown (λ other. Stays other × (other ≢ page)) number (size - (usable - 4)) pages next left

-- over one world, of whose pages those that aren't free stay
abbrev pub LeadsOver : {P : Type 0} → Ghosts P → P → View → (first size : ℕ) → List ℕ → (next left : ℕ) → Type 0
LeadsOver pages old world first size list next left =
    LeadsWhile (pages.usable old) (pages.last_page old) (shown_over pages old world) (λ page. pages.free old world page → ⊥) first size list next left

-- `free_chain`: these pages were given up, in the order in which the chain leads to them, and each was fetched before; one more was where giving it up failed. No
-- others were, and none was changed but these and free ones, where those given up were in use, each once, and the freelist in order. It went well only where no
-- bytes are left.
pub record HasFreedChain {P : Type 0} (pages : Ghosts P) (old : P) (first size : ℕ) (result : Result Unit FetchFault) (new : P) : Type 0 where
  pub list : List ℕ
  pub fetched : List ℕ
  pub next : ℕ
  pub left : ℕ
  pub leads : (world : View) → pages.tells new world → LeadsOver pages old world first size list next left
  pub gives : (world : View) → pages.tells new world → GivesPages pages list old new world
  pub touches : (world : View) → pages.tells new world → AreInUse pages old world list → pages.neat old world → TouchesOnly pages fetched old new world
  pub fetched_are : (fetched ≡ list) ⊎ ((0 < left) × (fetched ≡ list ++ next ∷ []))
  pub whole : OnOk result ((left ≡ 0) × (fetched ≡ list))
  pub cause : IfErr result (Bars (pages.last_page old) (pages.faults old) (pages.faults new) (last_met first list) next left)
  pub last : pages.last_page new ≡ pages.last_page old
  pub edits : Editing pages old new

-- Just these pages were given up, and no others were fetched.
pub record FreesPages {P : Type 0} (pages : Ghosts P) (list : List ℕ) (old new : P) (world : View) : Type 0 where
  pub gives : GivesPages pages list old new world
  pub touches : pages.neat old world → TouchesOnly pages list old new world

-- Over each world that is still told in which it is a chain, whose pages were in use, each once: they and no others were given up.
abbrev pub FreesChain : {P : Type 0} → Ghosts P → P → (first size : ℕ) → P → Type 0
FreesChain pages old first size new = (world : View) → pages.tells new world → (bound : ℕ) (list : List ℕ)
    → IsChain (pages.usable old) bound (shown_over pages old world) first size list → AreInUse pages old world list
    → FreesPages pages list old new world

-- There is a chain of so many bytes over some world that is still told, and its pages are in use, each once.
pub record ThereIsChainInUse {P : Type 0} (pages : Ghosts P) (old : P) (first size : ℕ) (new : P) : Type 0 where
  pub there : ThereIsChain pages old first size new
  pub used : AreInUse pages old there.world there.list
