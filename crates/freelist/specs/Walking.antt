-- The freelist as it is walked, trunk by trunk, whether or not it is one.
use Rattle.std.specs.Prelude.{◌≡◌, ℕ, ◌+◌, ◌⊎◌, ◌<◌, ◌≤◌, Bool, true, false, if◌then◌else◌, List, [], ◌∷◌, ◌++◌, length, Contains, Result, IfErr, OnOk}
use Rattle.disk_face.specs.Faults.{Rose}
use Rattle.page_spec.specs.View.{View}
use Rattle.engine_spec.specs.declared.commits.FetchFault.{FetchFault}
use Rattle.engine_spec.specs.declared.commits.FetchFault.TheVariants as fault
use Rattle.page_face.specs.declared.pages_tells.PagesTells.{Ghosts}
use Rattle.tree_spec.specs.Freelist.{Trunk, trunk_in, most_leaves, AreTrunks, held_by, IsFreelist}
use Rattle.overflow.specs.Following.{last_met, all_read}

-- a number isn't that of a page from 2 to the last one
abbrev pub IsOut : (last number : ℕ) → Type 0
IsOut last number = (number < 2) ⊎ (last < number)

-- A next number doesn't fit how many pages are to come: it is out of range where some are, or names one where none is.
abbrev pub Misleads : (last left next : ℕ) → Type 0
Misleads last left next = ((0 < left) × IsOut last next) ⊎ ((left ≡ 0) × (0 < next))

-- A trunk lists more leaves than there is room for, or so many that with it they are more pages than are to come.
abbrev pub ListsTooMany : (usable left : ℕ) → Trunk → Type 0
ListsTooMany usable left trunk = (most_leaves usable < length trunk.leaves) ⊎ (left ≤ length trunk.leaves)

-- A trunk with which no list of so many pages goes on: it lists too many leaves, or one out of range.
abbrev pub IsBroken : (usable last left : ℕ) → Trunk → Type 0
IsBroken usable last left trunk = ListsTooMany usable left trunk ⊎ ((leaf : ℕ) × Contains trunk.leaves leaf × IsOut last leaf)

-- Why a list was walked no further, behind the trunks met so far: a fault from outside, or the next number doesn't fit, which the trunk met last
-- names, or the page at that number was looked at and is broken.
abbrev pub BarsWalk : (last before after : ℕ) → (met next left : ℕ) → (looked : Bool) → (broken : Type 0) → FetchFault → Type 0
BarsWalk last before after met next left looked broken fault.Disk = Rose before after
BarsWalk last before after met next left true broken (fault.Corrupt page) = (page ≡ next) × broken
BarsWalk last before after met next left false broken (fault.Corrupt page) = (page ≡ met) × Misleads last left next
BarsWalk last before after met next left looked broken (fault.Size pages) = ⊥
BarsWalk last before after met next left looked broken fault.Memory = Unit {0}

-- over each world that is still told the page shows a trunk that is broken
abbrev pub IsBrokenOver : {P : Type 0} → Ghosts P → P → (left page : ℕ) → P → Type 0
IsBrokenOver pages old left page new = (world : View) → pages.tells new world
    → IsBroken (pages.usable old) (pages.last_page old) left (trunk_in (pages.over old world page))

-- A list was walked: these trunks were met, over each world that is still told, and they and no others were read, but for the page at the next
-- number where that was looked at, since it is in range and some are to come. Walking went well only where none was to come and the last one
-- named none, and then what they hold was appended.
pub record HasWalked {P : Type 0} (pages : Ghosts P) (old : P) (first count : ℕ) (before : List ℕ) (result : Result Unit FetchFault) (after : List ℕ) (new : P) : Type 0 where
  pub trunks : List ℕ
  pub next : ℕ
  pub left : ℕ
  pub looked : Bool
  pub read : pages.reads new ≡ all_read (pages.has old) (pages.reads old) (if looked then trunks ++ next ∷ [] else trunks)
  pub range : looked ≡ true → (0 < left) × (2 ≤ next) × (next ≤ pages.last_page old)
  pub follow : (world : View) → pages.tells new world → AreTrunks (pages.usable old) (pages.last_page old) (pages.over old world) first trunks next
  pub counted : (world : View) → pages.tells new world → count ≡ length (held_by (pages.over old world) trunks) + left
  pub whole : OnOk result ((left ≡ 0) × (next ≡ 0) × (looked ≡ false))
  pub held : OnOk result ((world : View) → pages.tells new world → after ≡ before ++ held_by (pages.over old world) trunks)
  pub cause : IfErr result (BarsWalk (pages.last_page old) (pages.faults old) (pages.faults new) (last_met first trunks) next left looked
      (IsBrokenOver pages old left next new))

-- what was appended is the freelist over each world that is still told
pub record GivesFreelist {P : Type 0} (pages : Ghosts P) (old : P) (first count : ℕ) (before after : List ℕ) (new : P) : Type 0 where
  pub list : List ℕ
  pub appended : after ≡ before ++ list
  pub is_list : (world : View) → pages.tells new world → IsFreelist (pages.usable old) (pages.last_page old) (pages.over old world) first count list

-- There is a freelist of so many pages over some world that is still told.
pub record ThereIsFreelist {P : Type 0} (pages : Ghosts P) (old : P) (first count : ℕ) (new : P) : Type 0 where
  pub world : View
  pub told : pages.tells new world
  pub list : List ℕ
  pub is_list : IsFreelist (pages.usable old) (pages.last_page old) (pages.over old world) first count list
