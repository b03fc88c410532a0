-- Which pages a cursor's calls read.
use Rattle.std.specs.Prelude.{◌≡◌, ◌⊎◌, ℕ, ℤ, ◌≤◌, not, Bool, true, false, List, [], ◌∷◌, ◌++◌, Option, None, Some, Result, Ok, Err, OnOk}
use Rattle.page_spec.specs.View.{View}
use Rattle.engine_spec.specs.declared.commits.FetchFault.{FetchFault}
use Rattle.page_face.specs.declared.pages_tells.PagesTells.{Ghosts}
use Rattle.tree_spec.specs.Shown.{Shown}
use Rattle.tree_spec.specs.Layout.{Item, times}
use Rattle.tree_spec.specs.Trees.{IsTree}
use Rattle.overflow.specs.Following.{shown_over, all_read}
use Rattle.tree_scan.specs.declared.bounds.Bounds.{Bounds}
use Rattle.tree_scan.specs.declared.level.Level.{Level}
use Rattle.tree_scan.specs.declared.cursor.Cursor.{Cursor}
use Rattle.value_form.specs.declared.value.Value.{Value}
use Rattle.tree_scan.specs.Bounded.{of_table, may_look}
use Rattle.tree_scan.specs.Coming.{Comes, gone_past}
use Rattle.tree_scan.specs.Walking.{IsWalk, EndsWalk, StartsBy, AreOfNext}

-- no page stands in these pages more often than in those
abbrev pub NoOftener : (few own : List ℕ) → Type 0
NoOftener few own = (page : ℕ) → times few page ≤ times own page

-- each of these pages stands in those
abbrev pub StandIn : (few own : List ℕ) → Type 0
StandIn few own = (page : ℕ) → 1 ≤ times few page → 1 ≤ times own page

-- Of the pages that were still to be read these were read, and those are still to be read: each as often as it stands there, unless entries were
-- compared, whose chains are read for that besides.
abbrev pub TakesPages : (looks : Bool) (own list still : List ℕ) → Type 0
TakesPages false own list still = NoOftener (list ++ still) own
TakesPages true own list still = StandIn list own × NoOftener still own

abbrev pub ReadsOf : (looks : Bool) (own list : List ℕ) → Type 0
ReadsOf false own list = NoOftener list own
ReadsOf true own list = StandIn list own

-- the pages and items that are ahead of a cursor: of its root's tree, or, once it has begun, of its path
abbrev pub IsAhead : Bool → (usable last : ℕ) → Shown → (height : ℕ) → Cursor → List ℕ → List Item → Type 0
IsAhead false usable last shown height cursor own items = IsTree (of_table cursor.bounds) usable last shown height cursor.root own items
IsAhead true usable last shown height cursor own items = Comes (of_table cursor.bounds) usable last shown height cursor.levels.items own items

-- These pages are still to be read, each as often as it stands there. Before a cursor has begun these are the pages of the tree, with those of its
-- items' chains: each once, where a page has one place.
abbrev pub AreToRead : (usable last : ℕ) → Shown → (height : ℕ) → Cursor → List ℕ → Type 0
AreToRead usable last shown height cursor own = (items : List Item) × IsAhead cursor.begun usable last shown height cursor own items

-- a cursor that hasn't begun compares entries with its low bound
abbrev pub compares : Cursor → Bool
compares cursor = may_look (not cursor.begun) cursor.bounds

-- What a call leaves to be read. After an error some that were read may be read again.
abbrev pub LeavesToRead : {T : Type 0} → (usable last : ℕ) → Shown → (height : ℕ) → (looks : Bool) (own list : List ℕ) → Result T FetchFault → Cursor → Type 0
LeavesToRead usable last shown height looks own list (Ok found) cursor =
    (still : List ℕ) × (AreToRead usable last shown height cursor still × TakesPages looks own list still)
LeavesToRead usable last shown height looks own list (Err why) cursor =
    (still : List ℕ) × (AreToRead usable last shown height cursor still × (ReadsOf looks own list × NoOftener still own))

-- These pages were read, in this order, and no others. Over each world that is still told something holds of them, on any pages, and where the root has a tree
-- they are of those that were still to be read.
pub record HasReadAhead {P T : Type 0} (pages : Ghosts P) (old : P) (Are : (usable last : ℕ) → Shown → List ℕ → Type 0) (cursor : Cursor) (result : Result T FetchFault)
    (cursor_then : Cursor) (new : P) : Type 0 where
  pub list : List ℕ
  pub read : pages.reads new ≡ all_read (pages.has old) (pages.reads old) list
  pub are : (world : View) → pages.tells new world → Are (pages.usable old) (pages.last_page old) (shown_over pages old world) list
  pub of : (world : View) → pages.tells new world → (bound height : ℕ) (own : List ℕ) → AreToRead (pages.usable old) bound (shown_over pages old world) height cursor own
      → LeavesToRead (pages.usable old) bound (shown_over pages old world) height (compares cursor) own list result cursor_then

-- The same of a path. Of the pages read, these stand behind it now, and those may be read again: none where all went well.
pub record LeavesAhead (table : Bool) (usable last : ℕ) (shown : Shown) (height : ℕ) (levels : List Level) (looks : Bool) (own kept again : List ℕ) : Type 0 where
  pub own_then : List ℕ
  pub items_then : List Item
  pub comes : Comes table usable last shown height levels own_then items_then
  pub within : TakesPages looks own kept own_then
  pub next : ReadsOf looks own_then again

pub record HasWalked {P T : Type 0} (seek : Bool) (bounds : Bounds) (pages : Ghosts P) (old : P) (levels levels_then : List Level) (result : Result T FetchFault) (new : P) : Type 0 where
  pub kept : List ℕ
  pub again : List ℕ
  pub read : pages.reads new ≡ all_read (pages.has old) (pages.reads old) (kept ++ again)
  pub well : OnOk result (again ≡ [])
  pub walk : (world : View) → pages.tells new world → IsWalk (pages.usable old) (pages.last_page old) (shown_over pages old world) seek bounds levels kept levels_then
  pub end : (world : View) → pages.tells new world → EndsWalk (pages.usable old) (pages.last_page old) (shown_over pages old world) seek bounds levels_then again
  pub of : (world : View) → pages.tells new world → (bound height : ℕ) (own : List ℕ) (items : List Item)
      → Comes (of_table bounds) (pages.usable old) bound (shown_over pages old world) height levels own items
      → LeavesAhead (of_table bounds) (pages.usable old) bound (shown_over pages old world) height levels_then (may_look seek bounds) own kept again

-- The same of a path that begins at a root. After an error it isn't kept.
abbrev pub StartsAhead : {T : Type 0} → (looks table : Bool) (usable last : ℕ) → Shown → (height : ℕ) → (own list : List ℕ) → Result T FetchFault → List Level → Type 0
StartsAhead looks table usable last shown height own list (Ok done) levels = LeavesAhead table usable last shown height levels looks own list []
StartsAhead looks table usable last shown height own list (Err why) levels = ReadsOf looks own list

pub record HasStarted {P T : Type 0} (bounds : Bounds) (pages : Ghosts P) (old : P) (root : ℕ) (levels : List Level) (result : Result T FetchFault) (new : P) : Type 0 where
  pub list : List ℕ
  pub read : pages.reads new ≡ all_read (pages.has old) (pages.reads old) list
  pub are : (world : View) → pages.tells new world → StartsBy (pages.usable old) (pages.last_page old) (shown_over pages old world) bounds root list result levels
  pub of : (world : View) → pages.tells new world → (bound height : ℕ) (own : List ℕ) (items : List Item)
      → IsTree (of_table bounds) (pages.usable old) bound (shown_over pages old world) height root own items
      → StartsAhead (may_look true bounds) (of_table bounds) (pages.usable old) bound (shown_over pages old world) height own list result levels

-- The same of the item of the cell that comes next: where it was read the path goes past it.
abbrev pub TakesAhead : (table : Bool) (usable last : ℕ) → Shown → (height : ℕ) → List Level → (own list : List ℕ) → Result (Option (ℤ × List Value)) FetchFault → Type 0
TakesAhead table usable last shown height levels own list (Ok None) = NoOftener list own
TakesAhead table usable last shown height levels own list (Ok (Some pair)) =
    (levels_then : List Level) → ((above : List Level) (top : Level) → levels ≡ above ++ top ∷ [] → levels_then ≡ above ++ gone_past top ∷ [])
    → LeavesAhead table usable last shown height levels_then false own list []
TakesAhead table usable last shown height levels own list (Err why) = NoOftener list own

pub record HasTaken {P : Type 0} (table : Bool) (pages : Ghosts P) (old : P) (levels : List Level) (result : Result (Option (ℤ × List Value)) FetchFault) (new : P) : Type 0 where
  pub list : List ℕ
  pub read : pages.reads new ≡ all_read (pages.has old) (pages.reads old) list
  pub are : (world : View) → pages.tells new world → (list ≡ []) ⊎ AreOfNext (pages.usable old) (pages.last_page old) (shown_over pages old world) levels list
  pub of : (world : View) → pages.tells new world → (bound height : ℕ) (own : List ℕ) (items : List Item)
      → Comes table (pages.usable old) bound (shown_over pages old world) height levels own items
      → TakesAhead table (pages.usable old) bound (shown_over pages old world) height levels own list result
