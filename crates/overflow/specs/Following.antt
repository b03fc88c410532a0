-- Chains as they are followed, page by page, whether or not they end where they should.
use Rattle.std.specs.Prelude.{◌≡◌, ℕ, ◌-◌, ◌⊎◌, ◌<◌, ◌≤◌, Bool, if◌then◌else◌, List, [], ◌∷◌, ◌++◌, Result, IfErr, OnOk}
use Rattle.disk_face.specs.Faults.{Rose}
use Rattle.page_spec.specs.View.{View}
use Rattle.engine_spec.specs.declared.commits.FetchFault.{FetchFault}
use Rattle.engine_spec.specs.declared.commits.FetchFault.TheVariants as fault
use Rattle.engine_spec.specs.PageSet.{with_page}
use Rattle.page_face.specs.declared.pages_tells.PagesTells.{Ghosts}
use Rattle.tree_spec.specs.Shown.{Shown, shown_by}
use Rattle.tree_spec.specs.Chains.{IsChain, chain_bytes}

-- what the pages show over a world
abbrev pub shown_over : {P : Type 0} → Ghosts P → P → View → Shown
shown_over pages at world = shown_by (pages.usable at) (pages.over at world)

-- Whoever follows a chain from the first number on, with so many bytes to come, meets these pages, each from 2 to the last one, and comes
-- to the next number, with what is left to come.
abbrev pub Leads : (usable last : ℕ) → Shown → (first size : ℕ) → List ℕ → (next left : ℕ) → Type 0
Leads usable last shown first size [] next left = (next ≡ first) × (left ≡ size)
Leads usable last shown first size (page ∷ pages) next left =
    (0 < size) × (page ≡ first) × (2 ≤ page) × (page ≤ last) × Leads usable last shown (shown.link page).next (size - (usable - 4)) pages next left

-- the page that was met last; where none was, the number that was handed in
abbrev pub last_met : (first : ℕ) → List ℕ → ℕ
last_met first [] = first
last_met first (page ∷ pages) = last_met page pages

-- the pages of the world that were read, once these are: those that were changed read nothing of the world
abbrev pub all_read : (has : ℕ → Bool) → (reads : List ℕ) → List ℕ → List ℕ
all_read has reads [] = reads
all_read has reads (page ∷ pages) = all_read has (if has page then reads else with_page reads page) pages

-- Why a chain was followed no further: a fault from outside, or bytes are to come and the page met last names a number out of range.
abbrev pub Bars : (last before after : ℕ) → (met next left : ℕ) → FetchFault → Type 0
Bars last before after met next left fault.Disk = Rose before after
Bars last before after met next left (fault.Corrupt page) = (page ≡ met) × (0 < left) × ((next < 2) ⊎ (last < next))
Bars last before after met next left (fault.Size pages) = ⊥
Bars last before after met next left fault.Memory = Unit {0}

-- A chain was followed: these pages were read and no others, and over each world that is still told they are those that it leads to. It
-- went well only where no bytes are left, and then theirs were appended.
pub record HasFollowed {P : Type 0} (pages : Ghosts P) (old : P) (first size : ℕ) (before : List ℕ) (result : Result Unit FetchFault) (after : List ℕ) (new : P) : Type 0 where
  pub list : List ℕ
  pub next : ℕ
  pub left : ℕ
  pub read : pages.reads new ≡ all_read (pages.has old) (pages.reads old) list
  pub leads : (world : View) → pages.tells new world → Leads (pages.usable old) (pages.last_page old) (shown_over pages old world) first size list next left
  pub whole : OnOk result (left ≡ 0)
  pub bytes : OnOk result ((world : View) → pages.tells new world → after ≡ before ++ chain_bytes (pages.usable old) (shown_over pages old world) list size)
  pub cause : IfErr result (Bars (pages.last_page old) (pages.faults old) (pages.faults new) (last_met first list) next left)

-- Over each world in which it is a chain: what was appended is the chain's bytes.
abbrev pub GivesChain : {P : Type 0} → Ghosts P → P → (first size : ℕ) → (before after : List ℕ) → P → Type 0
GivesChain pages old first size before after new = (world : View) → pages.tells new world → (bound : ℕ) (list : List ℕ)
    → IsChain (pages.usable old) bound (shown_over pages old world) first size list
    → after ≡ before ++ chain_bytes (pages.usable old) (shown_over pages old world) list size

-- There is a chain of so many bytes over some world that is still told.
pub record ThereIsChain {P : Type 0} (pages : Ghosts P) (old : P) (first size : ℕ) (new : P) : Type 0 where
  pub world : View
  pub told : pages.tells new world
  pub list : List ℕ
  pub chain : IsChain (pages.usable old) (pages.last_page old) (shown_over pages old world) first size list
