-- The path that a call of a cursor walks, and which pages it reads on it, on any pages.
use Rattle.std.specs.Prelude.{◌≡◌, ℕ, ◌<◌, Bool, true, false, List, [], ◌∷◌, ◌++◌, length, Some, Result, Ok, Err}
use Rattle.engine_spec.specs.declared.commits.FetchFault.{FetchFault}
use Rattle.node_spec.specs.Nodes.{Node, cell_at}
use Rattle.tree_spec.specs.Shown.{Shown}
use Rattle.tree_spec.specs.Layout.{Each}
use Rattle.tree_read.specs.Payloads.{AreOfChain}
use Rattle.tree_read.specs.Entries.{IsOfCells}
use Rattle.tree_scan.specs.declared.bounds.Bounds.{Bounds}
use Rattle.tree_scan.specs.declared.level.Level.{Level}
use Rattle.tree_scan.specs.declared.cursor.Cursor.{Cursor}
use Rattle.tree_scan.specs.Bounded.{of_table, may_look}
use Rattle.tree_scan.specs.Coming.{IsSpent, gone_below}
use Rattle.tree_scan.specs.Placing.{IsPlaced, AreReadOf}
use Rattle.tree_scan.specs.Scanning.{IsLast, NamesNext}

-- A level's page was read, and it stands at the place where a cursor begins there. Where entries are compared for that, pages of chains of its cells were read with it.
pub record IsEntered (usable last : ℕ) (shown : Shown) (seek : Bool) (bounds : Bounds) (level : Level) (compared : List ℕ) : Type 0 where
  pub node : Node
  pub holds : shown.node level.page ≡ Some node
  pub placed : IsPlaced seek usable last shown bounds node level.place
  pub none : may_look seek bounds ≡ false → compared ≡ []
  pub are : Each (IsOfCells usable last shown node) compared

-- One step: up past levels of which nothing is left, which reads nothing, or down to the child that comes next, whose page is read.
pub data IsStep (usable last : ℕ) (shown : Shown) (seek : Bool) (bounds : Bounds) (levels : List Level) (list : List ℕ) (levels_then : List Level) : Type 0 where
  Up : (passed : List Level) → levels ≡ levels_then ++ passed → Each IsSpent passed → list ≡ [] → IsStep usable last shown seek bounds levels list levels_then
  Down : (above : List Level) (top level : Level) (compared : List ℕ) → levels ≡ above ++ top ∷ [] → NamesNext shown levels top level.page
      → IsEntered usable last shown seek bounds level compared → levels_then ≡ above ++ gone_below (of_table bounds) top ∷ level ∷ [] → list ≡ level.page ∷ compared
      → IsStep usable last shown seek bounds levels list levels_then

-- where a step led, and what it read
pub record Stop : Type 0 where
  pub levels : List Level
  pub list : List ℕ

abbrev pub all_lists : List Stop → List ℕ
all_lists [] = []
all_lists (stop ∷ stops) = stop.list ++ all_lists stops

abbrev pub AreSteps : (usable last : ℕ) → Shown → (seek : Bool) → Bounds → (levels : List Level) → List Stop → (levels_then : List Level) → Type 0
AreSteps usable last shown seek bounds levels [] levels_then = levels_then ≡ levels
AreSteps usable last shown seek bounds levels (stop ∷ stops) levels_then =
    IsStep usable last shown seek bounds levels stop.list stop.levels × AreSteps usable last shown seek bounds stop.levels stops levels_then

-- These pages are read, in this order, on a walk from levels to others.
pub record IsWalk (usable last : ℕ) (shown : Shown) (seek : Bool) (bounds : Bounds) (levels : List Level) (list : List ℕ) (levels_then : List Level) : Type 0 where
  pub stops : List Stop
  pub steps : AreSteps usable last shown seek bounds levels stops levels_then
  pub list_is : list ≡ all_lists stops

-- no page of the chain of the cell that comes next was read, or these
pub record AreOfNext (usable last : ℕ) (shown : Shown) (levels : List Level) (list : List ℕ) : Type 0 where
  pub top : Level
  pub is_last : IsLast levels top
  pub at : top.at_cell ≡ true
  pub node : Node
  pub holds : shown.node top.page ≡ Some node
  pub inside : top.place < length node.cells
  pub are : AreOfChain usable last shown (cell_at node top.place) list

-- What is read where a walk ends: nothing more, of the page of the child that comes next, where that isn't gone to, or of the chain of the cell that does.
pub data EndsWalk (usable last : ℕ) (shown : Shown) (seek : Bool) (bounds : Bounds) (levels : List Level) (list : List ℕ) : Type 0 where
  AtEnd : list ≡ [] → EndsWalk usable last shown seek bounds levels list
  AtChild : (top : Level) (child : ℕ) → NamesNext shown levels top child → AreReadOf usable last shown (may_look seek bounds) child list
      → EndsWalk usable last shown seek bounds levels list
  AtCell : AreOfNext usable last shown levels list → EndsWalk usable last shown seek bounds levels list

-- A walk from the root down to the low bound's place.
pub record IsFirstWalk (usable last : ℕ) (shown : Shown) (bounds : Bounds) (root : ℕ) (list : List ℕ) (levels : List Level) : Type 0 where
  pub level : Level
  pub compared : List ℕ
  pub below : List ℕ
  pub root_is : level.page ≡ root
  pub entered : IsEntered usable last shown true bounds level compared
  pub walk : IsWalk usable last shown true bounds (level ∷ []) below levels
  pub list_is : list ≡ (root ∷ compared) ++ below

-- what is read where it doesn't come there
pub data EndsFirstWalk (usable last : ℕ) (shown : Shown) (bounds : Bounds) (root : ℕ) (list : List ℕ) : Type 0 where
  AtRoot : AreReadOf usable last shown (may_look true bounds) root list → EndsFirstWalk usable last shown bounds root list
  OnWay : (levels : List Level) (walked rest : List ℕ) → IsFirstWalk usable last shown bounds root walked levels → EndsWalk usable last shown true bounds levels rest
      → list ≡ walked ++ rest → EndsFirstWalk usable last shown bounds root list

abbrev pub StartsBy : {T : Type 0} → (usable last : ℕ) → Shown → Bounds → (root : ℕ) → (list : List ℕ) → Result T FetchFault → List Level → Type 0
StartsBy usable last shown bounds root list (Ok done) levels = IsFirstWalk usable last shown bounds root list levels
StartsBy usable last shown bounds root list (Err why) levels = EndsFirstWalk usable last shown bounds root list

-- A walk from levels on to where a cell comes next, and what is read there.
pub record WalksOn (usable last : ℕ) (shown : Shown) (bounds : Bounds) (levels : List Level) (list : List ℕ) : Type 0 where
  pub levels_then : List Level
  pub walked : List ℕ
  pub rest : List ℕ
  pub walk : IsWalk usable last shown false bounds levels walked levels_then
  pub ends : EndsWalk usable last shown false bounds levels_then rest
  pub list_is : list ≡ walked ++ rest

-- a cursor that has begun is on its path, and one that hasn't walks to it
abbrev pub IsOnPath : Bool → (usable last : ℕ) → Shown → Cursor → (list : List ℕ) → List Level → Type 0
IsOnPath true usable last shown cursor list levels = (list ≡ []) × (levels ≡ cursor.levels.items)
IsOnPath false usable last shown cursor list levels = IsFirstWalk usable last shown cursor.bounds cursor.root list levels

abbrev pub BeginsBy : {T : Type 0} → (usable last : ℕ) → Shown → Cursor → Result T FetchFault → Cursor → (list : List ℕ) → Type 0
BeginsBy usable last shown cursor (Ok done) cursor_then list = IsOnPath cursor.begun usable last shown cursor list cursor_then.levels.items
BeginsBy usable last shown cursor (Err why) cursor_then list = (cursor.begun ≡ false) × EndsFirstWalk usable last shown cursor.bounds cursor.root list

-- What a call reads: of the walk down to the low bound's place, if the cursor hasn't begun, and of the walk on from there, and nothing else.
pub data IsReadNext (usable last : ℕ) (shown : Shown) (cursor : Cursor) (list : List ℕ) : Type 0 where
  Starting : cursor.begun ≡ false → EndsFirstWalk usable last shown cursor.bounds cursor.root list → IsReadNext usable last shown cursor list
  Going : (levels : List Level) (first then : List ℕ) → IsOnPath cursor.begun usable last shown cursor first levels → WalksOn usable last shown cursor.bounds levels then
      → list ≡ first ++ then → IsReadNext usable last shown cursor list
